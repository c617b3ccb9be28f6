use Rattle.by_number.proofs.Kept.{no_values}
use Rattle.by_number.proofs.values.ByNumber.new.Goals as goal

pub returns : goal.returns
returns g c = no_values c.new.result.items c.new.ensures.items
