use Rattle.std.specs.Prelude.{◌≡◌, refl}
use Rattle.workload.specs.declared.script.TheConstants.{ROUNDS}

-- The workload's size as a number.

pub rounds_is : ROUNDS ≡ 40
rounds_is = refl
