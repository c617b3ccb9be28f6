-- The marks of a level are fewer than its bytes.
use Rattle.std.specs.Prelude.{ℕ, ◌≤◌, max, List, length}
use Rattle.std.proofs.Common.{arith}
use Rattle.mark_levels.specs.declared.levels.Above.{Above}
use Rattle.mark_levels.specs.declared.levels.Above.TheVariants.{Top, Marks}
use Rattle.mark_levels.specs.declared.levels.Level.TheDeep.{deep-Above}
use Rattle.mark_levels.specs.Kept.{AreBelow}

pub falls : (bytes : List ℕ) (above : Above) → AreBelow bytes above → max (deep-Above above) 0 ≤ length bytes
falls bytes Top h = omega arith
falls bytes (Marks marks) h = omega (arith, h.0)
