use Rattle.std.specs.Prelude.{◌≡◌, ◌≢◌, ℕ, ◌+◌, ◌^◌, ◌<◌, ◌==◌, nat_lt, List, [], ◌∷◌, length, Option, Some, None, Result, Ok, Err, if◌then◌else◌}
use Rattle.std.specs.Option.{option_map, option_or}
use Rattle.rv_decode.specs.declared.instruction.Instr.{Instr}
use Rattle.rv_decode.specs.declared.names.Name.TheVariants as name
use Rattle.rv_decode.specs.Table.{is_base}
use Rattle.rv_decode.specs.Meaning.{meaning}
use Rattle.report_text.specs.Instructions.{instruction_text}
use Rattle.asm_lines.specs.Items.{Item}
use Rattle.asm_lines.specs.Lines.{item_on, lines_in}
use Rattle.rv_asm.specs.declared.error.AsmError.{AsmError}
use Rattle.rv_asm.specs.declared.error.AsmError.TheVariants.{BadLine, Twice, NoLabel, OutOfReach, Empty, TooMany, Memory}
use Rattle.rv_asm.specs.declared.outcomes.Outcome.{Outcome}
use Rattle.rv_asm.specs.Labels.{labels_of}
use Rattle.rv_asm.specs.Outcomes.{outcomes_of, first_missing, first_far, words_in}
use Rattle.rv_asm.specs.File.{file_of, IsLoaded}

-- The words of a text, or the first refusal that holds.

-- the first line that is outside the grammar, of lines of which the first is line k
abbrev pub outside_or : ℕ → Option (Option Item) → Option ℕ → Option ℕ
outside_or k None more = Some k
outside_or k (Some item) more = more

abbrev pub outside_from : ℕ → List (List (List ℕ)) → Option ℕ
outside_from k [] = None
outside_from k (line ∷ lines) = outside_or k (item_on line) (outside_from (k + 1) lines)

unfoldable pub first_outside : List (List (List ℕ)) → Option ℕ
first_outside lines = outside_from 1 lines

-- how many items there are
abbrev pub count_refusal : ℕ → Option AsmError
count_refusal n = if n == 0 then Some Empty else if nat_lt 65536 n then Some TooMany else None

-- what is refused of items, in order
abbrev pub refusal : List (ℕ × Outcome) → Option AsmError
refusal os =
    option_or (option_map NoLabel (first_missing os)) (option_or (option_map OutOfReach (first_far os)) (count_refusal (length os)))

abbrev pub or_words : Option AsmError → List ℕ → Result (List ℕ) AsmError
or_words None words = Ok words
or_words (Some e) words = Err e

abbrev pub words_by : Option ℕ → Result (List (List ℕ × ℕ)) ℕ → List (List (List ℕ)) → Result (List ℕ) AsmError
words_by (Some k) labels lines = Err (BadLine k)
words_by None (Err k) lines = Err (Twice k)
words_by None (Ok labels) lines = or_words (refusal (outcomes_of labels lines)) (words_in (outcomes_of labels lines))

unfoldable pub words_of : List ℕ → Result (List ℕ) AsmError
words_of text = words_by (first_outside (lines_in text)) (labels_of (lines_in text)) (lines_in text)

-- the file of a text
abbrev pub file_by : Result (List ℕ) AsmError → Result (List ℕ) AsmError
file_by (Ok words) = Ok (file_of words)
file_by (Err e) = Err e

unfoldable pub assembled : List ℕ → Result (List ℕ) AsmError
assembled text = file_by (words_of text)

-- an answer is that value; memory may be wanting
abbrev pub Is : {V : Type 0} → (V → List ℕ) → Result (List ℕ) AsmError → Result V AsmError → Type 0
Is view r (Ok v) = r ≡ Ok (view v)
Is view r (Err Memory) = Unit {0}
Is view r (Err e) = r ≡ Err e

-- what a file of a text is: its words, which are loaded
pub record IsFileOf (text file : List ℕ) : Type 0 where
  pub words : List ℕ
  pub of_text : words_of text ≡ Ok words
  pub loaded : IsLoaded words file

-- For every word that fits a row of RV64I other than the fence's, the text that is printed of it assembles to that word.
abbrev pub AssemblesBack : Type 0
AssemblesBack = (word : ℕ) (i : Instr) → word < 2 ^ 32 → meaning word ≡ Some i → i.name ≢ name.Fence
    → words_of (instruction_text is_base word) ≡ Ok (word ∷ [])
