use Rattle.std.proofs.Common.{◌∙◌, refl}
use Rattle.overlay_memory.specs.View.{state_of}
use Rattle.overlay_memory.specs.Joined.{all_bare}
use Rattle.overlay_memory.specs.PageLaws.{own_there}
use Rattle.promotion.proofs.CopyWalk.{can_copy, copied_all, copying_more, copying_none}
use Rattle.promotion.proofs.settling.copy_overlaid.Goals as goal

pub copying-init : goal.copying-init
copying-init c = record { walked = copying_none (state_of c.args.mem.now) c.args.space; lists = refl }

pub next_overlaid-requires : goal.next_overlaid-requires
next_overlaid-requires c = record { there = c.copying.invariant.walked.altered.spaces c.args.space ∙ c.requires.there }

pub copy_one-requires-clause-there : goal.copy_one-requires-clause-there
copy_one-requires-clause-there c = own_there (state_of c.copying.mem) c.args.space c.in-Some.page c.in-Some.ensures.next.1

pub copy_one-requires-clause-fits : goal.copy_one-requires-clause-fits
copy_one-requires-clause-fits c =
    can_copy (state_of c.args.mem.now) (state_of c.copying.mem) c.args.space c.copying.from c.in-Some.page c.see_apart.ensures c.requires.shared
    c.requires.fits c.copying.invariant.walked c.in-Some.ensures.next

pub copying-preserved : goal.copying-preserved
copying-preserved c = record {
  walked =
      copying_more (state_of c.args.mem.now) (state_of c.copying.mem) c.args.space c.copying.from c.in-Some.page c.see_apart.ensures c.requires.shared
      c.requires.fits c.copying.invariant.walked c.in-Some.ensures.next
      (state_of c.copy_one.new.mem) c.copy_one.ensures.copied c.copy_one.ensures.low;
  lists = c.copy_one.ensures.lists ∙ c.copying.invariant.lists;
}

pub returns-clause-settled : goal.returns-clause-settled
returns-clause-settled c =
    copied_all (state_of c.args.mem.now) (state_of c.copying.mem) c.args.space c.copying.from (all_bare c.args.mem.now.pages c.args.space) c.copying.invariant.walked c.in_default.ensures.next

pub returns-clause-lists : goal.returns-clause-lists
returns-clause-lists c = c.copying.invariant.lists
