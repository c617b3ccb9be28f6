use Rattle.by_number.proofs.Kept.{get_values}
use Rattle.by_number.proofs.values.ByNumber.has.Goals as goal

pub returns : goal.returns
returns g c = rw (← c.self.view_is, get_values) c.has_in.ensures
