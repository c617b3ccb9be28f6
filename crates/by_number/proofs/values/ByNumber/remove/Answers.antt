use Rattle.by_number.proofs.Kept.{values_removed}
use Rattle.by_number.proofs.values.ByNumber.remove.Goals as goal

pub returns : goal.returns
returns g c = rw (← c.self.view_is) (values_removed _ _ c.args.number c.remove_in.ensures.removed)
