use Rattle.std.specs.Prelude.{◌≡◌, ℕ, ◌+◌, ◌==◌, Bool, false, true, List, [], ◌∷◌, ◌++◌, length, map, Option, Some, None, Result, Ok, Err, if◌then◌else◌}
use Rattle.std.specs.Option.{option_map_or}
use Rattle.std.specs.List.{filter_map, list_any}
use Rattle.script_text.specs.declared.command.Command.{Command}
use Rattle.script_text.specs.declared.command.Meaning.{Meaning}
use Rattle.script_text.specs.declared.command.Meaning.TheVariants.{Does, Nothing, Outside}
use Rattle.script_text.specs.declared.command.ScriptError.{ScriptError}
use Rattle.script_text.specs.declared.command.ScriptError.TheVariants.{Line, Memory}
use Rattle.script_text.specs.Lines.{script_lines, without_return}
use Rattle.script_text.specs.Words.{words_of}
use Rattle.script_text.specs.Forms.{command_of}

-- What a script says.

-- whether a word starts with `#`
abbrev pub is_comment : List ℕ → Bool
is_comment [] = false
is_comment (b ∷ bs) = b == 35

-- what some words are: no command where there is none or where the first starts a comment, else a command
-- where they are those of a form, else outside
unfoldable pub meaning_of_words : List (List ℕ) → Meaning
meaning_of_words [] = Nothing
meaning_of_words (first ∷ words) = if is_comment first then Nothing else option_map_or Does (command_of first words) Outside

-- what a line is
unfoldable pub meaning_of : List ℕ → Meaning
meaning_of line = meaning_of_words (words_of (without_return line))

-- what each line of a script is
abbrev pub meanings : List ℕ → List Meaning
meanings script = map meaning_of (script_lines script)

-- a command, and then those that are told
abbrev pub and_then : Command → Result (List Command) ℕ → Result (List Command) ℕ
and_then command (Ok commands) = Ok (command ∷ commands)
and_then command (Err line) = Err line

-- line k, by what it is, and then what the lines behind it say
abbrev pub said_by : ℕ → Meaning → Result (List Command) ℕ → Result (List Command) ℕ
said_by k (Does command) behind = and_then command behind
said_by k Nothing behind = behind
said_by k Outside behind = Err k

-- the commands of some lines in order, of which the first is line k; or the number of the first that is outside
abbrev pub commands_from : ℕ → List Meaning → Result (List Command) ℕ
commands_from k [] = Ok []
commands_from k (meaning ∷ more) = said_by k meaning (commands_from (k + 1) more)

-- the commands of a script, or the number from 1 of its first line that is outside
unfoldable pub commands_of : List ℕ → Result (List Command) ℕ
commands_of script = commands_from 1 (meanings script)

-- What parsing a script gives, as that value. Memory may be wanting.
abbrev pub Parses : {Commands : Type 0} → (Commands → List Command) → List ℕ → Result Commands ScriptError → Type 0
Parses view script (Ok commands) = commands_of script ≡ Ok (view commands)
Parses view script (Err (Line k)) = commands_of script ≡ Err k
Parses view script (Err Memory) = Unit {0}

-- The same line by line.

abbrev pub is_outside : Meaning → Bool
is_outside (Does command) = false
is_outside Nothing = false
is_outside Outside = true

abbrev pub command_in : Meaning → Option Command
command_in (Does command) = Some command
command_in Nothing = None
command_in Outside = None

-- line k, from 1, is outside, and none before it
pub record IsFirstOutside (lines : List Meaning) (k : ℕ) : Type 0 where
  pub before : List Meaning
  pub behind : List Meaning
  pub are : lines ≡ before ++ Outside ∷ behind
  pub place : length before + 1 ≡ k
  pub none_before : list_any is_outside before ≡ false

-- With commands, no line is outside, and they are those of the lines in order; with a number, that line is the
-- first that is outside.
abbrev pub TellsCommands : {Commands : Type 0} → (Commands → List Command) → List Meaning → Result Commands ScriptError → Type 0
TellsCommands view lines (Ok commands) = (list_any is_outside lines ≡ false) × (view commands ≡ filter_map command_in lines)
TellsCommands view lines (Err (Line k)) = IsFirstOutside lines k
TellsCommands view lines (Err Memory) = Unit {0}
