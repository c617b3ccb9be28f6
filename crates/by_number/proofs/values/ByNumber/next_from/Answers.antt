use Rattle.by_number.proofs.Kept.{get_values, next_alike}
use Rattle.by_number.proofs.values.ByNumber.next_from.Goals as goal

pub returns : goal.returns
returns g c = rw (← c.self.view_is) (next_alike _ _ c.args.number c.next_in.result (get_values c.self.inside.slots.items) c.next_in.ensures)
