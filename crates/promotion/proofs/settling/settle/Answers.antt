use Rattle.std.proofs.Common.{◌∙◌, refl, arith}
use Rattle.ledger.specs.Events.{Settle}
use Rattle.overlay_memory.specs.View.{state_of}
use Rattle.overlay_memory.specs.Room.{FitsAfter}
use Rattle.promotion.proofs.CopyWalk.{both_settled, fits_still, none_left}
use Rattle.promotion.proofs.settling.settle.Goals as goal

pub copy_overlaid-requires-clause-shared : goal.copy_overlaid-requires-clause-shared
copy_overlaid-requires-clause-shared c = none_left (state_of c.args.mem.now) (state_of c.commit_alone.new.mem) c.args.space c.see_apart.ensures c.commit_alone.ensures.committed

pub copy_overlaid-requires-clause-fits : goal.copy_overlaid-requires-clause-fits
copy_overlaid-requires-clause-fits c =
    let fits : FitsAfter (Settle c.args.space) (state_of c.args.mem.now) = omega (arith, c.units_settled-needed.ensures, c.in_default.ensures) in
    fits_still (state_of c.args.mem.now) (state_of c.commit_alone.new.mem) c.args.space c.see_apart.ensures c.commit_alone.ensures.committed fits

pub returns-clause-settles : goal.returns-clause-settles
returns-clause-settles c =
    let fits : FitsAfter (Settle c.args.space) (state_of c.args.mem.now) = omega (arith, c.units_settled-needed.ensures, c.in_default.ensures) in
    (fits, both_settled (state_of c.args.mem.now) (state_of c.commit_alone.new.mem) c.args.space c.see_apart.ensures c.commit_alone.ensures.committed (state_of c.copy_overlaid.new.mem) c.copy_overlaid.ensures.settled)

pub returns-in-Some-clause-settles : goal.returns-in-Some-clause-settles
returns-in-Some-clause-settles c = record {
  needed_is = c.in-Some.ensures.needed_is ∙ c.units_settled-needed.ensures;
  limit_is = c.in-Some.ensures.limit_is;
  over = c.in-Some.ensures.over;
  kept = refl;
}
