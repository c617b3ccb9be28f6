-- What a word means by a table: a relation between words and the rows of some names, which are the table's.
use Rattle.std.specs.Prelude.{◌≡◌, ℕ, Bool, ◌&&◌, IsTrue, Option, Some, None, find}
use Rattle.std.specs.Option.{option_map}
use Rattle.rv_decode.specs.declared.instruction.Instr.{Instr}
use Rattle.rv_decode.specs.declared.names.Format.{Format}
use Rattle.rv_decode.specs.declared.names.Name.{Name}
use Rattle.rv_decode.specs.Table.{row_of, all_names, is_base}
use Rattle.rv_decode.specs.Fits.{FitsRow, fits}
use Rattle.rv_decode.specs.Fields.{instr_of}

-- the word fits a row, and i is what it has in that row's format
pub record MeansInstr (word : ℕ) (i : Instr) : Type 0 where
  pub name : Name
  pub fits : FitsRow (row_of name) word
  pub is : i ≡ instr_of name word

-- what a word means by a table: an instruction by a row of it that fits, and none where no row of it fits
abbrev pub Means : (Name → Bool) → ℕ → Option Instr → Type 0
Means among word None = (name : Name) → IsTrue (among name) → ¬ FitsRow (row_of name) word
Means among word (Some i) = IsTrue (among i.name) × MeansInstr word i

-- the same as a function, which looks the row up
unfoldable pub meaning_by : (Name → Bool) → ℕ → Option Instr
meaning_by among word = option_map (λ name. instr_of name word) (find (λ name. among name && fits (row_of name) word) all_names)

-- by the table of RV64I
abbrev pub meaning : ℕ → Option Instr
meaning word = meaning_by is_base word

-- the name of a row of a table of this format that fits, or none where no row of it fits: what each part of a decoder finds out
abbrev pub NamesBy : (Name → Bool) → Format → ℕ → Option Name → Type 0
NamesBy among format word None = Means among word None
NamesBy among format word (Some name) = IsTrue (among name) × FitsRow (row_of name) word × ((row_of name).format ≡ format)

-- by the table of RV64I
abbrev pub Names : Format → ℕ → Option Name → Type 0
Names format word o = NamesBy is_base format word o
