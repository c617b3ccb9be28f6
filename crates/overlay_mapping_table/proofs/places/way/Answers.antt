use Rattle.std.proofs.Common.{◌-◌, arith, subst, sym}
use Rattle.overlay_mapping_table.specs.Homes.{home_number, IsWay}
use Rattle.overlay_mapping_table.proofs.Ways.{way_from}
use Rattle.overlay_mapping_table.proofs.places.way.Goals as goal

pub returns : goal.returns
returns c =
    subst (λ w. IsWay c.args.n (home_number c.args.p) w c.args.place) (sym c.wrap.ensures.same)
    (way_from c.args.n (home_number c.args.p) (c.args.place - c.home.result) c.args.place (omega (arith, c.home.ensures.below))
    (omega (arith, c.home.ensures.same, c.home.ensures.below, c.requires.behind)))
