use Rattle.std.proofs.Common.{◌%◌, ap, subst, ◌∙◌}
use Rattle.overlay_mapping_table.specs.Homes.{home_number, IsWay}
use Rattle.overlay_mapping_table.proofs.Searching.{before_some}
use Rattle.overlay_mapping_table.proofs.probes.is_before.Goals as goal

pub returns-in-Some : goal.returns-in-Some
returns-in-Some c =
    before_some c.args.slots.now c.args.bound c.args.place c.wrap.result (c.wrap.ensures.same ∙ ap (λ n. c.args.place % n) c.len-n.ensures)
    c.in-Some.p c.way.result c.in-Some.ensures
    (subst (λ n. IsWay n (home_number c.in-Some.p) c.way.result c.args.place) c.len-n.ensures c.way.ensures)
