use Rattle.std.specs.Prelude.{◌≡◌, ℕ, zero, suc, ◌+◌, ◌-◌, ◌<◌, ◌≤◌, Bool, true, false, cond, not, ◌||◌, nat_eq, nat_lt, IsTrue, List, [], ◌∷◌, ◌++◌, length, filter, Option, Some, None}
use Rattle.std.specs.List.{range_with_len}
use Rattle.sizes.specs.declared.TheConstants.{PAGE_LINES}

-- Sets of lines of a page, as the ascending lists of their numbers.

-- the numbers below one that pass a test, ascending
unfoldable pub below : (ℕ → Bool) → ℕ → List ℕ
below test zero = []
below test (suc i) = below test i ++ cond (test i) (i ∷ []) []

-- the lines of a page that pass a test
abbrev pub lines_where : (ℕ → Bool) → List ℕ
lines_where test = below test PAGE_LINES

-- whether a line is one of these
abbrev pub has_line : List ℕ → ℕ → Bool
has_line [] line = false
has_line (x ∷ xs) line = nat_eq x line || has_line xs line

-- numbers that rise strictly, from one on and below another one
abbrev pub Rise : ℕ → List ℕ → ℕ → Type 0
Rise from [] end = from ≤ end
Rise from (x ∷ xs) end = (from ≤ x) × Rise (x + 1) xs end

-- what is true of every set: its members rise strictly, and are lines of a page
pub record AreLines (lines : List ℕ) : Type 0 where
  pub rise : Rise 0 lines PAGE_LINES
  pub few : length lines ≤ PAGE_LINES
  pub inside : (line : ℕ) → IsTrue (has_line lines line) → line < PAGE_LINES

-- those before a line, and those behind it
abbrev pub lines_before : List ℕ → ℕ → List ℕ
lines_before lines line = filter (λ x. nat_lt x line) lines

abbrev pub lines_behind : List ℕ → ℕ → List ℕ
lines_behind lines line = filter (λ x. nat_lt line x) lines

-- how many there are before a line
abbrev pub rank_of : List ℕ → ℕ → ℕ
rank_of lines line = length (lines_before lines line)

-- with a line, and without it
abbrev pub with_line : List ℕ → ℕ → List ℕ
with_line lines line = lines_before lines line ++ line ∷ lines_behind lines line

abbrev pub without_line : List ℕ → ℕ → List ℕ
without_line lines line = lines_before lines line ++ lines_behind lines line

-- those from one to below another one
abbrev pub lines_between : ℕ → ℕ → List ℕ
lines_between first end = range_with_len first (end - first)

-- those of one set or another one, and those of one that the other lacks
abbrev pub with_lines : List ℕ → List ℕ → List ℕ
with_lines lines others = lines_where (λ line. has_line lines line || has_line others line)

abbrev pub without_lines : List ℕ → List ℕ → List ℕ
without_lines lines others = filter (λ line. not (has_line others line)) lines

-- the first of them, or that there is none
abbrev pub IsFirst : List ℕ → Option ℕ → Type 0
IsFirst lines None = lines ≡ []
IsFirst lines (Some line) = (line < PAGE_LINES) × (lines ≡ line ∷ without_line lines line)

-- the least of them not below one, or that there is none
abbrev pub IsLeastFrom : List ℕ → ℕ → Option ℕ → Type 0
IsLeastFrom lines from None = (i : ℕ) → from ≤ i → has_line lines i ≡ false
IsLeastFrom lines from (Some line) =
    (from ≤ line) × (line < PAGE_LINES) × (has_line lines line ≡ true) × ((i : ℕ) → from ≤ i → i < line → has_line lines i ≡ false)
