use Rattle.std.specs.Prelude.{◌≡◌, ℕ, ◌%◌, ◌^◌, ◌<◌, ◌≤◌, List, length}
use Rattle.std.specs.Int.{bit_at}
use Rattle.mark_levels.specs.declared.levels.Above.{Above}
use Rattle.mark_levels.specs.declared.levels.Above.TheVariants.{Top, Marks}
use Rattle.mark_levels.specs.Levels.{AreMarks, HasBit, LackBit}

-- What a level keeps.

abbrev pub AreBelow : List ℕ → Above → Type 0
AreBelow bytes Top = length bytes ≡ 16
AreBelow bytes (Marks marks) = (length marks.value < length bytes) × AreMarks bytes marks.value

pub record IsLevel (bytes : List ℕ) (bits : ℕ) (above : Above) : Type 0 where
  pub whole : length bytes % 16 ≡ 0
  pub few : length bytes ≤ 2 ^ 28
  pub some : (k : ℕ) → bit_at bits k ≡ 1 → HasBit bytes k
  pub none : (k : ℕ) → bit_at bits k ≡ 0 → LackBit bytes k
  pub below : AreBelow bytes above
