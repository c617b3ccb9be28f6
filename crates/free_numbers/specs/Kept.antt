use Rattle.std.specs.Prelude.{◌≡◌, ℕ, List, length}
use Rattle.free_numbers.specs.declared.TheConstants.{MARK_SETS, NUMBER_SETS}
use Rattle.free_numbers.specs.Numbers.{AreMarks}

-- What is kept: the sets of numbers, those of the sets that have one, and the one set of the sets of these that have one.
pub record AreKept (sets marks top : List (List ℕ)) : Type 0 where
  pub sets_count : length sets ≡ NUMBER_SETS
  pub marks_count : length marks ≡ MARK_SETS
  pub top_count : length top ≡ 1
  pub marked : AreMarks sets marks
  pub topped : AreMarks marks top
