-- When a word fits a row, and when no word can fit two rows of a table.
use Rattle.std.specs.Prelude.{◌≡◌, ◌≢◌, ℕ, Bool, List, Option, Some, None, slice_get, bit_and, ◌==◌, All, AllPairs, IsSomeAnd}
use Rattle.rv_decode.specs.declared.rows.CaseRow.{CaseRow}

-- the word's bits under the row's mask are the row's value
abbrev pub FitsRow : CaseRow → ℕ → Type 0
FitsRow row word = bit_and word row.mask ≡ row.value

-- the same as a test
abbrev pub fits : CaseRow → ℕ → Bool
fits row word = bit_and word row.mask == row.value

-- the row at a place of a list fits the word
abbrev pub FitsAt : List CaseRow → ℕ → ℕ → Type 0
FitsAt rows word place = IsSomeAnd (slice_get rows place) (λ row. FitsRow row word)

-- the place of a row that fits, or none where no row of the list fits
abbrev pub FindsRow : List CaseRow → ℕ → Option ℕ → Type 0
FindsRow rows word None = (place : ℕ) → ¬ FitsAt rows word place
FindsRow rows word (Some place) = FitsAt rows word place

-- the value has no bit outside the mask
abbrev pub IsWithinMask : CaseRow → Type 0
IsWithinMask row = bit_and row.value row.mask ≡ row.value

-- the values differ in a bit that both masks have
abbrev pub AreApart : CaseRow → CaseRow → Type 0
AreApart a b = bit_and a.value b.mask ≢ bit_and b.value a.mask

-- rows of which no word fits two
pub record IsCaseTable (rows : List CaseRow) : Type 0 where
  pub within : All IsWithinMask rows
  pub apart : AllPairs AreApart rows

-- no word fits the rows at two places of the list
abbrev pub FitsOneRow : List CaseRow → Type 0
FitsOneRow rows = (word a b : ℕ) → FitsAt rows word a → FitsAt rows word b → a ≡ b
