use Rattle.std.proofs.Common.{◌∙◌, refl}
use Rattle.overlay_memory.specs.View.{state_of}
use Rattle.overlay_memory.specs.Joined.{all_bare}
use Rattle.overlay_memory.specs.PageLaws.{own_there}
use Rattle.promotion.proofs.CommitWalk.{committed_all, committing_more, committing_none}
use Rattle.promotion.proofs.settling.commit_alone.Goals as goal

pub committing-init : goal.committing-init
committing-init c = record { walked = committing_none (state_of c.args.mem.now) c.args.space; lists = refl }

pub next_overlaid-requires : goal.next_overlaid-requires
next_overlaid-requires c = record { there = c.committing.invariant.walked.altered.spaces c.args.space ∙ c.requires.there }

pub commit_one-requires : goal.commit_one-requires
commit_one-requires c = record { there = own_there (state_of c.committing.mem) c.args.space c.in-Some.page c.in-Some.ensures.next.1 }

pub committing-preserved : goal.committing-preserved
committing-preserved c = record {
  walked =
      committing_more (state_of c.args.mem.now) (state_of c.committing.mem) (state_of c.commit_one.new.mem) c.args.space c.committing.from c.in-Some.page c.see_apart.ensures
      c.committing.invariant.walked c.in-Some.ensures.next c.commit_one.ensures.committed c.commit_one.ensures.low;
  lists = c.commit_one.ensures.lists ∙ c.committing.invariant.lists;
}

pub returns-clause-committed : goal.returns-clause-committed
returns-clause-committed c =
    committed_all (state_of c.args.mem.now) (state_of c.committing.mem) c.args.space c.committing.from (all_bare c.args.mem.now.pages c.args.space) c.committing.invariant.walked c.in_default.ensures.next

pub returns-clause-lists : goal.returns-clause-lists
returns-clause-lists c = c.committing.invariant.lists
