use Rattle.std.proofs.Common.{arith, refl}
use Rattle.unit_map.specs.Settled.{room_fits, too_few}
use Rattle.unit_map.proofs.Counts.{least_none, room}
use Rattle.unit_map.proofs.Tables.{table_pieces}
use Rattle.unit_map.proofs.map.UnitMap.has_room.Goals as goal

pub returns-in-None : goal.returns-in-None
returns-in-None c =
    let is = c.self.invariant.table in
    let pieces = table_pieces c.self.inside.cells is in
    let full = least_none c.self.inside.cells c.args.order is (c.in-None.ensures _ c.self.invariant.marked) in
    rw (← c.self.view_is) (record {
      room = λ h. cc;
      full = λ h. full;
      settled = λ settled. (λ h. cc, λ enough. absurd (too_few c.args.order _ c.requires pieces (λ k lt. settled k (omega (arith, lt, c.requires))) full enough));
      pieces = pieces;
    })

pub returns-in-Some : goal.returns-in-Some
returns-in-Some c =
    let is = c.self.invariant.table in
    let least = c.in-Some.ensures _ c.self.invariant.marked in
    let here = room c.self.inside.cells c.args.order _ is least.0 (omega (arith, least.1)) least.2 in
    rw (← c.self.view_is) (record {
      room = λ h. here;
      full = λ h. cc;
      settled = λ settled. (λ h. room_fits _ c.args.order here, λ enough. refl);
      pieces = table_pieces c.self.inside.cells is;
    })
