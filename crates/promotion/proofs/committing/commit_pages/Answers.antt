use Rattle.std.proofs.Common.{◌∙◌, refl}
use Rattle.overlay_memory.specs.View.{state_of}
use Rattle.overlay_memory.specs.Joined.{all_bare}
use Rattle.promotion.proofs.PageWalk.{settled_all, settling_more, settling_none}
use Rattle.promotion.proofs.committing.commit_pages.Goals as goal

pub committing-init : goal.committing-init
committing-init c = record { walked = settling_none (state_of c.args.mem.now) c.args.space; lists = refl }

pub next_overlaid-requires : goal.next_overlaid-requires
next_overlaid-requires c = record { there = c.committing.invariant.walked.altered.spaces c.args.space ∙ c.requires.there }

pub commit_or_copy-requires-clause-own : goal.commit_or_copy-requires-clause-own
commit_or_copy-requires-clause-own c = c.in-Some.ensures.next.1

pub commit_or_copy-requires-clause-none_awaits : goal.commit_or_copy-requires-clause-none_awaits
commit_or_copy-requires-clause-none_awaits c = c.committing.invariant.walked.altered.awaiting ∙ c.requires.none_awaits

pub committing-preserved : goal.committing-preserved
committing-preserved c = record {
  walked =
      settling_more (state_of c.args.mem.now) (state_of c.committing.mem) c.args.space c.committing.from c.in-Some.page c.see_apart.ensures
      c.committing.invariant.walked c.in-Some.ensures.next (state_of c.commit_or_copy.new.mem) c.commit_or_copy.ensures.committed c.commit_or_copy.ensures.low;
  lists = c.commit_or_copy.ensures.lists ∙ c.committing.invariant.lists;
}

pub returns-clause-committed : goal.returns-clause-committed
returns-clause-committed c =
    settled_all (state_of c.args.mem.now) (state_of c.committing.mem) c.args.space c.committing.from (all_bare c.args.mem.now.pages c.args.space) c.committing.invariant.walked c.in_default.ensures.next

pub returns-clause-lists : goal.returns-clause-lists
returns-clause-lists c = c.committing.invariant.lists
