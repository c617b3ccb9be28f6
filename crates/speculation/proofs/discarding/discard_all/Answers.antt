use Rattle.std.proofs.Common.{◌∙◌, refl}
use Rattle.overlay_memory.specs.View.{state_of}
use Rattle.overlay_memory.specs.Joined.{all_bare}
use Rattle.overlay_memory.specs.PageLaws.{own_there}
use Rattle.speculation.proofs.DiscardWalk.{discarded_all, discarding_more, discarding_none}
use Rattle.speculation.proofs.discarding.discard_all.Goals as goal

pub discarding-init : goal.discarding-init
discarding-init c = record { walked = discarding_none (state_of c.args.mem.now) c.args.space; lists = refl }

pub next_overlaid-requires : goal.next_overlaid-requires
next_overlaid-requires c = record { there = c.discarding.invariant.walked.altered.spaces c.args.space ∙ c.requires.there }

pub discard_one-requires : goal.discard_one-requires
discard_one-requires c = record { there = own_there (state_of c.discarding.mem) c.args.space c.in-Some.page c.in-Some.ensures.next.1 }

pub discarding-preserved : goal.discarding-preserved
discarding-preserved c = record {
  walked =
      discarding_more (state_of c.args.mem.now) (state_of c.discarding.mem) (state_of c.discard_one.new.mem) c.args.space c.discarding.from c.in-Some.page c.discarding.invariant.walked c.in-Some.ensures.next
      c.discard_one.ensures.discarded c.discard_one.ensures.low;
  lists = c.discard_one.ensures.lists ∙ c.discarding.invariant.lists;
}

pub returns-clause-discarded : goal.returns-clause-discarded
returns-clause-discarded c =
    discarded_all (state_of c.args.mem.now) (state_of c.discarding.mem) c.args.space c.discarding.from (all_bare c.args.mem.now.pages c.args.space) c.discarding.invariant.walked c.in_default.ensures.next

pub returns-clause-lists : goal.returns-clause-lists
returns-clause-lists c = c.discarding.invariant.lists
