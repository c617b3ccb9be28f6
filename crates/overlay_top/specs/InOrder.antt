use Rattle.std.specs.Prelude.{ℕ, ◌&&◌, Bool, true, false, List, [], ◌∷◌, Option, Some, None}
use Rattle.script_text.specs.declared.command.Command.{Command}
use Rattle.command_core.specs.Commands.{file_asked, has_all}
use Rattle.overlay_top.specs.declared.words.Settings.{Settings}
use Rattle.overlay_top.specs.Words.{settings_of}
use Rattle.overlay_top.specs.Outcome.{ScriptSays, SaysTooMuch, SaysCommands, SaysOutside, chosen_files, chosen_script, said}

-- Whether all is in order with words, a script and files: the words are the command's, the script is within its limits, none of its lines is
-- outside, and each file that its commands ask for is there and within its limit. Exactly then the outcome's status is 0.

abbrev pub have_files : (List ℕ → Option (List ℕ)) → List Command → Bool
have_files files [] = true
have_files files (command ∷ commands) = has_all (file_asked files command) && have_files files commands

abbrev pub says_in_order : (List ℕ → Option (List ℕ)) → ScriptSays → Bool
says_in_order files SaysTooMuch = false
says_in_order files (SaysCommands commands) = have_files files commands
says_in_order files (SaysOutside line) = false

abbrev pub set_in_order : Option Settings → List ℕ → (List ℕ → Option (List ℕ)) → Bool
set_in_order (Some settings) script files = says_in_order (chosen_files settings.seed files) (said (chosen_script settings.seed script))
set_in_order None script files = false

abbrev pub is_in_order : List (List ℕ) → List ℕ → (List ℕ → Option (List ℕ)) → Bool
is_in_order words script files = set_in_order (settings_of words) script files
