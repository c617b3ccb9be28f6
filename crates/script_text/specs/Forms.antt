use Rattle.std.specs.Prelude.{ℕ, nat_eq, List, [], ◌∷◌, ◌++◌, Option, Some, None, codes, if◌then◌else◌}
use Rattle.std.specs.Option.{option_and_then, option_or}
use Rattle.std.specs.List.{filter_map}
use lib.Pointwise.{pointwise}
use Rattle.script_text.specs.declared.command.Command.{Command}
use Rattle.script_text.specs.declared.command.Command.TheVariants.{Exec, Load, Asm, Fork, Run, Step, Checkpoint, Restore, Forget, Export, Import, Speculate, Commit, Discard, Promote, PromoteAll, Drop}
use Rattle.script_text.specs.declared.command.Command.TheVariants as command
use Rattle.script_text.specs.Kinds.{Kind, file_word, checkpoint_word, turns_word, process_word, address_word, pages_word, perms_word, register_word, dumped_word, words_word, hex_word, all_word}

-- The forms of commands.

-- A form: its first word, and the command that the words behind it make, if they are of its kinds.
pub record Form : Type 0 where
  pub first : List ℕ
  pub makes : List (List ℕ) → Option Command

abbrev pub form : List ℕ → (List (List ℕ) → Option Command) → Form
form first makes = record { first = first; makes = makes }

-- what no word makes; and a word of a kind, with what the words behind it make by what it says
abbrev pub no_words : Command → List (List ℕ) → Option Command
no_words command [] = Some command
no_words command (w ∷ ws) = None

abbrev pub word_then : {A : Type 0} → Kind A → (A → List (List ℕ) → Option Command) → List (List ℕ) → Option Command
word_then kind make [] = None
word_then kind make (w ∷ ws) = option_and_then (λ a. make a ws) (kind w)

-- what one word makes, two words, three and four
abbrev pub one_word : {A : Type 0} → Kind A → (A → Command) → List (List ℕ) → Option Command
one_word kind make = word_then kind (λ a. no_words (make a))

abbrev pub two_words : {A B : Type 0} → Kind A → Kind B → (A → B → Command) → List (List ℕ) → Option Command
two_words kind other make = word_then kind (λ a. one_word other (make a))

abbrev pub three_words : {A B C : Type 0} → Kind A → Kind B → Kind C → (A → B → C → Command) → List (List ℕ) → Option Command
three_words kind other third make = word_then kind (λ a. two_words other third (make a))

abbrev pub four_words : {A B C D : Type 0} → Kind A → Kind B → Kind C → Kind D → (A → B → C → D → Command) → List (List ℕ) → Option Command
four_words kind other third fourth make = word_then kind (λ a. three_words other third fourth (make a))

-- The table: a row a form, with its first word, the kinds of the words behind it, and the command. First those that
-- run the machine and change what it is made of
abbrev pub machine_forms : List Form
machine_forms =
    form (codes "exec") (two_words file_word turns_word Exec)
    ∷ form (codes "load") (one_word file_word Load)
    ∷ form (codes "asm") (one_word file_word Asm)
    ∷ form (codes "fork") (one_word process_word Fork)
    ∷ form (codes "run") (one_word turns_word Run)
    ∷ form (codes "step") (two_words process_word turns_word Step)
    ∷ form (codes "checkpoint") (two_words process_word checkpoint_word Checkpoint)
    ∷ form (codes "restore") (two_words process_word checkpoint_word Restore)
    ∷ form (codes "forget") (one_word checkpoint_word Forget)
    ∷ form (codes "export") (two_words checkpoint_word checkpoint_word Export)
    ∷ form (codes "import") (three_words checkpoint_word checkpoint_word file_word Import)
    ∷ form (codes "speculate") (one_word process_word Speculate)
    ∷ form (codes "commit") (one_word process_word Commit)
    ∷ form (codes "discard") (one_word process_word Discard)
    ∷ form (codes "promote") (two_words process_word address_word Promote)
    ∷ form (codes "promote") (two_words process_word all_word (λ p all. PromoteAll p))
    ∷ form (codes "dedup") (four_words process_word address_word process_word address_word command.Dedup)
    ∷ form (codes "dedup") (three_words process_word all_word process_word (λ p all q. command.DedupAll p q))
    ∷ form (codes "compact") (no_words command.Compact)
    ∷ form (codes "map") (four_words process_word address_word pages_word perms_word command.Map)
    ∷ form (codes "unmap") (three_words process_word address_word pages_word command.Unmap)
    ∷ form (codes "drop") (one_word process_word Drop)
    ∷ []

-- and then the debugger's
abbrev pub debugger_forms : List Form
debugger_forms =
    form (codes "regs") (one_word process_word command.Regs)
    ∷ form (codes "dump") (three_words process_word address_word dumped_word command.Dump)
    ∷ form (codes "poke") (three_words process_word address_word hex_word command.Poke)
    ∷ form (codes "set") (three_words process_word register_word address_word command.Set)
    ∷ form (codes "break") (two_words process_word address_word command.Break)
    ∷ form (codes "unbreak") (two_words process_word address_word command.Unbreak)
    ∷ form (codes "disasm") (three_words process_word address_word words_word command.Disasm)
    ∷ form (codes "list") (no_words command.List)
    ∷ form (codes "stats") (no_words command.Stats)
    ∷ []

abbrev pub forms : List Form
forms = machine_forms ++ debugger_forms

-- the command that a form makes of a first word and the words behind it, where they fit it
abbrev pub made_at : List ℕ → List (List ℕ) → Form → Option Command
made_at first words f = if pointwise nat_eq first f.first then f.makes words else None

-- the commands that some forms make of them, one for each that they fit
abbrev pub made_by_each : List Form → List ℕ → List (List ℕ) → List Command
made_by_each fs first words = filter_map (made_at first words) fs

-- the command of the first of some forms that they fit
abbrev pub made_by : List Form → List ℕ → List (List ℕ) → Option Command
made_by [] first words = None
made_by (f ∷ fs) first words = option_or (made_at first words f) (made_by fs first words)

-- the command that a first word and the words behind it are
unfoldable pub command_of : List ℕ → List (List ℕ) → Option Command
command_of first words = made_by forms first words
