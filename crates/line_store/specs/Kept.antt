use Rattle.std.specs.Prelude.{◌≡◌, ℕ, ◌+◌, ◌-◌, ◌<◌, ◌≤◌, ◌⊎◌, List, ◌++◌, length, replicate, slice_index_or}
use Rattle.sizes.specs.declared.TheConstants.{MOST_REGION_LINES}
use Rattle.line_store.specs.Lines.{zero_lines}

-- What a region keeps of its lines: the first ones, behind which all are zero.

-- all lines, of which the first are kept
abbrev pub kept_lines : List (List ℕ) → ℕ → List (List ℕ)
kept_lines first count = first ++ zero_lines (count - length first)

-- the last 64 lines are zero
abbrev pub EndsInZero : List (List ℕ) → Type 0
EndsInZero lines = (at : ℕ) (d : List ℕ) → length lines ≤ at + 64 → at < length lines → slice_index_or lines at d ≡ replicate 64 0

-- All lines are kept, or the last 64 of those kept are zero. So a page that isn't kept whole is zero.
pub record AreLinesKept (first : List (List ℕ)) (count : ℕ) : Type 0 where
  pub few : count ≤ MOST_REGION_LINES
  pub below : length first ≤ count
  pub ends : (length first ≡ count) ⊎ EndsInZero first
