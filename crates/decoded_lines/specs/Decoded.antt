use Rattle.std.specs.Prelude.{◌≡◌, ℕ, ◌+◌, ◌*◌, ◌<◌, ◌≤◌, Bool, List, [], length, slice_get, slice_index, slice_index_or, take, drop, Option, IfSome}
use Rattle.byteorder.specs.Endian.{little_number}
use Rattle.rv_decode.specs.Encodable.{IsEncodableBy}
use Rattle.rv_decode.specs.Meaning.{meaning_by}
use Rattle.rv_decode.specs.declared.names.Name.{Name}
use Rattle.rv_decode.specs.declared.instruction.Instr.{Instr}
use Rattle.decoded_lines.specs.declared.TheConstants.{KEPT_LINES, LINE_WORDS}

-- Lines and the meaning of their words by a table, which is told by the names that have a row in it.

-- a word of a line
abbrev pub line_word : List ℕ → ℕ → ℕ
line_word line place = little_number 4 (take 4 (drop (4 * place) line))

-- an instruction is what the word means
pub record IsOfWordBy (has : Name → Bool) (instruction : Option Instr) (word : ℕ) : Type 0 where
  pub means : instruction ≡ meaning_by has word
  pub encodable : IfSome instruction (IsEncodableBy has)

-- so many words of a line from a place on, and not more than it has, mean what stands from another place on
pub record AreCountedBy (has : Name → Bool) (instructions : List Instr) (at count : ℕ) (line : List ℕ) (place : ℕ) : Type 0 where
  pub within : place + count ≤ LINE_WORDS
  pub words : (k : ℕ) → k < count → IsOfWordBy has (slice_get instructions (at + k)) (line_word line (place + k))

-- those in a slot are of a line, from each of its words on as many as its count says
abbrev pub AreOfLine : (Name → Bool) → List Instr → List ℕ → ℕ → List ℕ → Type 0
AreOfLine has instructions counts slot line =
    (place : ℕ) → place < LINE_WORDS
    → AreCountedBy has instructions (LINE_WORDS * slot + place) (slice_index counts (LINE_WORDS * slot + place)) line place

-- those of a line from a word on
abbrev pub AreFromBy : (Name → Bool) → List Instr → ℕ → List ℕ → Type 0
AreFromBy has instructions from line =
    (k : ℕ) → k < length instructions → IsOfWordBy has (slice_get instructions k) (line_word line (from + k))

-- each line has its instructions
pub record AreDecoded (has : Name → Bool) (lines : List (List ℕ)) (instructions : List Instr) (counts : List ℕ) : Type 0 where
  pub count : length lines ≡ KEPT_LINES
  pub all : length instructions ≡ LINE_WORDS * KEPT_LINES
  pub counted : length counts ≡ LINE_WORDS * KEPT_LINES
  pub each : (slot : ℕ) → slot < KEPT_LINES → AreOfLine has instructions counts slot (slice_index_or lines slot [])
