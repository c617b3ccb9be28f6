use Rattle.std.specs.Prelude.{◌≡◌, ◌⊎◌, ℕ, ◌+◌, ◌||◌, nat_lt, Bool, true, false, List, [], ◌∷◌, ◌++◌, length, map, flat_map, get_or, take, Option, Some, None, Result, Ok, Err, if◌then◌else◌}
use Rattle.sizes.specs.declared.TheConstants.{MOST_SCRIPT_BYTES, MOST_SCRIPT_LINES}
use Rattle.script_text.specs.declared.command.Command.{Command}
use Rattle.script_text.specs.Lines.{line_count}
use Rattle.script_text.specs.Script.{commands_of}
use Rattle.workload.specs.Script.{made_script}
use Rattle.workload.specs.File.{made_file}
use Rattle.report_text.specs.Lines.{bad_line}
use Rattle.command_core.specs.declared.modes.Modes.{Modes}
use Rattle.command_core.specs.State.{State, fresh}
use Rattle.script_text.specs.Given.{asks}
use Rattle.command_core.specs.Commands.{FileAsked, AsksNothing, HasFile, IsMissing, IsTooLong, Performed, Rules, file_asked, file_in, performed_by, rules}
use Rattle.overlay_top.specs.declared.words.Settings.{Settings}
use Rattle.overlay_top.specs.Words.{seed_set, settings_of}
use Rattle.overlay_top.specs.declared.status.Status.{Status}
use Rattle.overlay_top.specs.declared.status.Status.TheVariants.{Done, BadWords, ReadFailed, BadLine, TooLong}

-- What a command comes to in the report: its text, and whether want of memory may come in its place.
pub record Passage : Type 0 where
  pub text : List ℕ
  pub wants_memory : Bool

-- What a call comes to: the passage of each command that is done, in order, what follows them, and the status.
pub record RunOutcome : Type 0 where
  pub passages : List Passage
  pub last : Passage
  pub status : Status

-- the whole report, that of the first k commands, and what follows those: a command's passage or the last one
abbrev pub texts_of : List Passage → List ℕ
texts_of passages = flat_map (λ passage. passage.text) passages

abbrev pub report_of : RunOutcome → List ℕ
report_of outcome = texts_of outcome.passages ++ outcome.last.text

abbrev pub first_report : ℕ → RunOutcome → List ℕ
first_report k outcome = texts_of (take k outcome.passages)

abbrev pub passage_after : ℕ → RunOutcome → Passage
passage_after k outcome = get_or outcome.passages k outcome.last

-- a call that ends before a command is done; and one that ends since the file of a command isn't had, for which memory was taken
abbrev pub ended_by : Passage → Status → RunOutcome
ended_by last status = record { passages = []; last = last; status = status }

abbrev pub ended : List ℕ → Status → RunOutcome
ended last status = ended_by (record { text = last; wants_memory = false }) status

abbrev pub not_fetched : Status → RunOutcome
not_fetched status = ended_by (record { text = []; wants_memory = true }) status

-- one more command is done, before the others
abbrev pub done : Passage → RunOutcome → RunOutcome
done passage outcome = record { passages = passage ∷ outcome.passages; last = outcome.last; status = outcome.status }

-- Want of memory comes before the first command is begun, or within command j + 1 where that may want it.
abbrev pub MayLackMemory : RunOutcome → ℕ → ℕ → Type 0
MayLackMemory outcome j begun = ((j ≡ 0) × (begun ≡ 0)) ⊎ ((begun ≡ j + 1) × ((passage_after j outcome).wants_memory ≡ true))

-- a command on a state by the rules of a machine, over files by name, by what is fixed for the run
abbrev pub done_by : {S : Type 0} → Rules S → Modes → (List ℕ → Option (List ℕ)) → Command → S → Performed S
done_by by modes files command state = performed_by by modes (file_in (file_asked files command)) command state

abbrev pub command_done : Modes → (List ℕ → Option (List ℕ)) → Command → State → Performed State
command_done modes files command state = done_by rules modes files command state

-- The commands of a script on a state, over files by name. One that asks for a file that isn't there, or that
-- is too long, ends the call.
abbrev pub with_asked : FileAsked → Passage → RunOutcome → RunOutcome
with_asked AsksNothing passage rest = done passage rest
with_asked (HasFile file) passage rest = done passage rest
with_asked IsMissing passage rest = not_fetched ReadFailed
with_asked IsTooLong passage rest = not_fetched TooLong

-- one with a file may want memory at any time, since the file takes it
abbrev pub asks_file : FileAsked → Bool
asks_file AsksNothing = false
asks_file other = true

abbrev pub passage_of : {S : Type 0} → FileAsked → Performed S → Passage
passage_of asked performed = record { text = performed.text; wants_memory = asks_file asked || performed.wants_memory }

abbrev pub run_by : {S : Type 0} → Rules S → Modes → List Command → S → (List ℕ → Option (List ℕ)) → RunOutcome
run_by by modes [] state files = ended [] Done
run_by by modes (command ∷ commands) state files =
    with_asked (file_asked files command) (passage_of (file_asked files command) (done_by by modes files command state))
    (run_by by modes commands (done_by by modes files command state).after files)

abbrev pub run_from : Modes → List Command → State → (List ℕ → Option (List ℕ)) → RunOutcome
run_from modes commands state files = run_by rules modes commands state files

-- what the words fix for the run
abbrev pub modes_of : Settings → Modes
modes_of settings = record { frames = settings.frames; quantum = settings.quantum; extension = settings.extension; calls = settings.calls }

-- all commands, from no process
abbrev pub run_all : Settings → List Command → (List ℕ → Option (List ℕ)) → RunOutcome
run_all settings commands files = run_from (modes_of settings) commands (fresh (modes_of settings)) files

-- What a script says: too much, or its commands, or the number of its first line that is outside.
pub data ScriptSays : Type 0 where
  SaysTooMuch : ScriptSays
  SaysCommands : List Command → ScriptSays
  SaysOutside : ℕ → ScriptSays

abbrev pub read_by : Result (List Command) ℕ → ScriptSays
read_by (Ok commands) = SaysCommands commands
read_by (Err line) = SaysOutside line

-- whether a script has more bytes or lines than it may have
abbrev pub is_too_much : List ℕ → Bool
is_too_much script = nat_lt MOST_SCRIPT_BYTES (length script) || nat_lt MOST_SCRIPT_LINES (line_count script)

abbrev pub said : List ℕ → ScriptSays
said script = if is_too_much script then SaysTooMuch else read_by (commands_of script)

-- the outcome of a script, as it reads, by what its commands come to
abbrev pub says_by : (List Command → RunOutcome) → ScriptSays → RunOutcome
says_by runs SaysTooMuch = ended [] TooLong
says_by runs (SaysCommands commands) = runs commands
says_by runs (SaysOutside line) = ended (bad_line line) BadLine

abbrev pub said_outcome : Settings → ScriptSays → (List ℕ → Option (List ℕ)) → RunOutcome
said_outcome settings says files = says_by (λ commands. run_all settings commands files) says

-- The script and the files of a call: those that are made, the file under every name, where a seed is set; else those of the outside.
abbrev pub chosen_script : Option ℕ → List ℕ → List ℕ
chosen_script None script = script
chosen_script (Some seed) script = made_script seed

abbrev pub chosen_files : Option ℕ → (List ℕ → Option (List ℕ)) → List ℕ → Option (List ℕ)
chosen_files None files = files
chosen_files (Some seed) files = λ name. Some made_file

-- The outcome of what words set, of a script and of files by name, by what the commands come to. What isn't the command's sets nothing, and
-- nothing is done.
abbrev pub set_by : (Settings → List Command → (List ℕ → Option (List ℕ)) → RunOutcome) → Option Settings → List ℕ → (List ℕ → Option (List ℕ))
    → RunOutcome
set_by runs (Some settings) script files =
    says_by (λ commands. runs settings commands (chosen_files settings.seed files)) (said (chosen_script settings.seed script))
set_by runs None script files = ended [] BadWords

abbrev pub outcome_set : Option Settings → List ℕ → (List ℕ → Option (List ℕ)) → RunOutcome
outcome_set set script files = set_by run_all set script files

abbrev pub run_outcome : List (List ℕ) → List ℕ → (List ℕ → Option (List ℕ)) → RunOutcome
run_outcome words script files = outcome_set (settings_of words) script files

-- the names that the commands of a script ask for, in order, with none where a command asks for no file
abbrev pub names_said : ScriptSays → List (Option (List ℕ))
names_said SaysTooMuch = []
names_said (SaysCommands commands) = map asks commands
names_said (SaysOutside line) = []

abbrev pub names_asked : List ℕ → List (Option (List ℕ))
names_asked script = names_said (said script)

-- What a call asks of the outside: its script, and the files of these names, with none where a command asks for no file; or nothing at all.
pub data Asking : Type 0 where
  OfOutside : List (Option (List ℕ)) → Asking
  OfNothing : Asking

abbrev pub asking_of : Option ℕ → List ℕ → Asking
asking_of None script = OfOutside (names_asked script)
asking_of (Some seed) script = OfNothing

abbrev pub run_asking : List (List ℕ) → List ℕ → Asking
run_asking words script = asking_of (seed_set words) script

-- the names among those
abbrev pub named : List (Option (List ℕ)) → List (List ℕ)
named [] = []
named (None ∷ names) = named names
named (Some name ∷ names) = name ∷ named names
