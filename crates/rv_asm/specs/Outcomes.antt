use Rattle.std.specs.Prelude.{ℕ, ◌+◌, ◌*◌, ℤ, pos, ◌-ℤ◌, List, [], ◌∷◌, Option, Some, None}
use Rattle.rv_decode.specs.declared.instruction.Instr.{Instr}
use Rattle.rv_decode.specs.Table.{row_of}
use Rattle.rv_decode.specs.Encoding.{word_of}
use Rattle.asm_lines.specs.Kinds.{placed}
use Rattle.asm_lines.specs.Items.{Item}
use Rattle.asm_lines.specs.Items.Item.{Plain, Reaching, Raw}
use Rattle.asm_lines.specs.Lines.{front_of, item_on}
use Rattle.rv_asm.specs.declared.outcomes.Outcome.{Outcome}
use Rattle.rv_asm.specs.declared.outcomes.Outcome.TheVariants.{Word, Missing, Far}
use Rattle.rv_asm.specs.Labels.{place_of, item_count}

-- What the items of a text come to.

abbrev pub with_imm : Instr → ℤ → Instr
with_imm i imm = record { name = i.name; rd = i.rd; rs1 = i.rs1; rs2 = i.rs2; imm = imm }

-- how far item m is from item n, in bytes
abbrev pub distance : ℕ → ℕ → ℤ
distance n m = pos (4 * m) -ℤ pos (4 * n)

abbrev pub reached : Instr → Option ℤ → Outcome
reached i None = Far
reached i (Some imm) = Word (word_of (with_imm i imm))

abbrev pub reach : Instr → ℕ → Option ℕ → Outcome
reach i n None = Missing
reach i n (Some m) = reached i (placed (row_of i.name).format (distance n m))

-- what item n comes to: its word, or that its label isn't there, or is out of its immediate's range
abbrev pub outcome : List (List ℕ × ℕ) → ℕ → Item → Outcome
outcome labels n (Plain i) = Word (word_of i)
outcome labels n (Reaching i name) = reach i n (place_of labels name)
outcome labels n (Raw word) = Word word

abbrev pub with_outcome : List (List ℕ × ℕ) → ℕ → ℕ → Option (Option Item) → List (ℕ × Outcome) → List (ℕ × Outcome)
with_outcome labels k n None more = more
with_outcome labels k n (Some None) more = more
with_outcome labels k n (Some (Some item)) more = (k, outcome labels n item) ∷ more

-- what the items of lines come to, each with its line; the first is line k, and its item item n
abbrev pub outcomes_from : List (List ℕ × ℕ) → ℕ → ℕ → List (List (List ℕ)) → List (ℕ × Outcome)
outcomes_from labels k n [] = []
outcomes_from labels k n (line ∷ lines) =
    with_outcome labels k n (item_on line) (outcomes_from labels (k + 1) (n + item_count (front_of line)) lines)

unfoldable pub outcomes_of : List (List ℕ × ℕ) → List (List (List ℕ)) → List (ℕ × Outcome)
outcomes_of labels lines = outcomes_from labels 1 0 lines

-- the first line that names a label that isn't there, and the first whose label is out of reach
abbrev pub missing_in : ℕ × Outcome → Option ℕ → Option ℕ
missing_in (k, Word w) more = more
missing_in (k, Missing) more = Some k
missing_in (k, Far) more = more

abbrev pub first_missing : List (ℕ × Outcome) → Option ℕ
first_missing [] = None
first_missing (o ∷ os) = missing_in o (first_missing os)

abbrev pub far_in : ℕ × Outcome → Option ℕ → Option ℕ
far_in (k, Word w) more = more
far_in (k, Missing) more = more
far_in (k, Far) more = Some k

abbrev pub first_far : List (ℕ × Outcome) → Option ℕ
first_far [] = None
first_far (o ∷ os) = far_in o (first_far os)

-- the words
abbrev pub word_in : ℕ × Outcome → List ℕ → List ℕ
word_in (k, Word w) more = w ∷ more
word_in (k, Missing) more = more
word_in (k, Far) more = more

abbrev pub words_in : List (ℕ × Outcome) → List ℕ
words_in [] = []
words_in (o ∷ os) = word_in o (words_in os)
