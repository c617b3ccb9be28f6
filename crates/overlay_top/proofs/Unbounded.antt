use Rattle.std.proofs.Common.{◌≡◌, ℕ, false, List, [], ◌∷◌, ◌++◌, sym, ap, subst, ◌∙◌, refl, append_assoc, Option, Some, None, ◌||◌}
use Rattle.ovl_io.specs.declared.source.Source.{Ghosts as SourceOf}
use Rattle.ovl_io.specs.declared.shelf.Shelf.{Ghosts as ShelfOf}
use Rattle.ovl_io.specs.declared.sink.Sink.{Ghosts as SinkOf}
use Rattle.script_text.specs.declared.command.Command.{Command}
use Rattle.report_text.specs.FullLines.{behind_lines, has_full_line}
use Rattle.command_core.specs.declared.modes.Modes.{Modes}
use Rattle.command_core.specs.State.{State, fresh}
use Rattle.command_core.specs.Commands.{FileAsked, AsksNothing, HasFile, IsMissing, IsTooLong, Performed, file_asked, file_in, performed, performed_by}
use Rattle.command_core.specs.Unbounded.{Unbounded, unbounded}
use Rattle.command_core.specs.UnboundedLaws.{PerformedSame, with_told, performed_lines, same_performed, unbounded_of}
use Rattle.overlay_top.specs.declared.words.Settings.{Settings}
use Rattle.overlay_top.specs.Words.{settings_of}
use Rattle.overlay_top.specs.Outcome.{modes_of, Asking, RunOutcome, SaysCommands, SaysOutside, SaysTooMuch, ScriptSays, asks_file, chosen_files, chosen_script, command_done, done, outcome_set, passage_of, report_of, run_by, run_from, run_outcome, said, said_outcome, says_by, texts_of, with_asked}
use Rattle.overlay_top.specs.Unbounded.{EndsUnbounded, run_unbounded, unbounded_set}
use Rattle.overlay_top.specs.Ends.{EndsWith, World}

-- A report without a line of `full` is that of the unbounded machine.

abbrev SaysNoFull : RunOutcome → Type 0
SaysNoFull outcome = has_full_line (report_of outcome) ≡ false

same_passage : (asked : FileAsked) (x : Performed State) (y : Performed Unbounded) (counts : List (List ℕ)) → PerformedSame counts x y
    → passage_of asked x ≡ passage_of asked y
same_passage asked x y counts same =
    ap (λ (text : List ℕ). record { text = text; wants_memory = asks_file asked || x.wants_memory }) same.text
    ∙ ap (λ wants. record { text = y.text; wants_memory = asks_file asked || wants }) same.wants

module _ (modes : Modes) (files : List ℕ → Option (List ℕ)) where
  -- the lines of the commands that are told by the ledger, one after the other
  told_from : List Command → State → List (List ℕ)
  told_from [] state = []
  told_from (command ∷ commands) state = with_told command state (told_from commands (command_done modes files command state).after)

  abbrev runs_there : List Command → State → RunOutcome
  runs_there commands state = run_by unbounded modes commands (unbounded_of (told_from commands state) state) files

  -- one command that is done, and those that follow
  module _ (command : Command) (commands : List Command) (state : State)
      (others : (after : State) → SaysNoFull (run_from modes commands after files) → run_from modes commands after files ≡ runs_there commands after) where
    done_same : (asked : FileAsked) (file : List ℕ)
        → SaysNoFull (done (passage_of asked (performed modes file command state)) (run_from modes commands (performed modes file command state).after files))
        → done (passage_of asked (performed modes file command state)) (run_from modes commands (performed modes file command state).after files)
        ≡ done (passage_of asked (performed_by unbounded modes file command
        (unbounded_of (with_told command state (told_from commands (performed modes file command state).after)) state)))
        (run_by unbounded modes commands (performed_by unbounded modes file command
        (unbounded_of (with_told command state (told_from commands (performed modes file command state).after)) state)).after files)
    done_same asked file none =
        let here = performed modes file command state in
        let rest = run_from modes commands here.after files in
        let lines = told_from commands here.after in
        let apart : has_full_line (here.text ++ report_of rest) ≡ false =
        sym (ap has_full_line (append_assoc here.text (texts_of rest.passages) rest.last.text)) ∙ none in
        let same = same_performed lines (report_of rest) modes file command state apart in
        let there = performed_by unbounded modes file command (unbounded_of (with_told command state lines) state) in
        let left = others here.after (behind_lines here.text (report_of rest) (performed_lines modes file command state) apart) in
        ap (λ passage. done passage rest) (same_passage asked here there lines same)
        ∙ ap (done (passage_of asked there)) (left ∙ ap (λ u. run_by unbounded modes commands u files) same.after)

    asked_same : (asked : FileAsked)
        → SaysNoFull (with_asked asked (passage_of asked (performed modes (file_in asked) command state))
        (run_from modes commands (performed modes (file_in asked) command state).after files))
        → with_asked asked (passage_of asked (performed modes (file_in asked) command state))
        (run_from modes commands (performed modes (file_in asked) command state).after files)
        ≡ with_asked asked (passage_of asked (performed_by unbounded modes (file_in asked) command
        (unbounded_of (with_told command state (told_from commands (performed modes (file_in asked) command state).after)) state)))
        (run_by unbounded modes commands (performed_by unbounded modes (file_in asked) command
        (unbounded_of (with_told command state (told_from commands (performed modes (file_in asked) command state).after)) state)).after files)
    asked_same AsksNothing none = done_same AsksNothing [] none
    asked_same (HasFile file) none = done_same (HasFile file) file none
    asked_same IsMissing none = refl
    asked_same IsTooLong none = refl

  runs_same : (commands : List Command) (state : State) → SaysNoFull (run_from modes commands state files)
      → run_from modes commands state files ≡ runs_there commands state
  unfolding told_from
  runs_same [] state none = refl
  runs_same (command ∷ commands) state none =
      asked_same command commands state (runs_same commands) (file_asked files command) none

-- what a script says
says_same : (set : Settings) (files : List ℕ → Option (List ℕ)) (says : ScriptSays) → SaysNoFull (said_outcome set says files)
    → (counts : List (List ℕ)) × (said_outcome set says files ≡ says_by (λ commands. run_unbounded counts set commands files) says)
says_same set files SaysTooMuch none = ([], refl)
says_same set files (SaysOutside line) none = ([], refl)
says_same set files (SaysCommands commands) none =
    (told_from (modes_of set) files commands (fresh (modes_of set)), runs_same (modes_of set) files commands (fresh (modes_of set)) none)

set_same : (found : Option Settings) (script : List ℕ) (files : List ℕ → Option (List ℕ)) → SaysNoFull (outcome_set found script files)
    → (counts : List (List ℕ)) × (outcome_set found script files ≡ unbounded_set counts found script files)
set_same None script files none = ([], refl)
set_same (Some set) script files none = says_same set (chosen_files set.seed files) (said (chosen_script set.seed script)) none

pub as_unbounded : {S H K : Type 0} (s : SourceOf S) (h : ShelfOf H) (k : SinkOf K) (words : List (List ℕ)) (script : List ℕ) (files : List ℕ → Option (List ℕ))
    (asking : Asking) (old new : World S H K) (number : ℕ) → EndsWith s h k (run_outcome words script files) asking old new number
    → EndsUnbounded s h k words script files asking old new number
as_unbounded s h k words script files asking old new number ends none =
    let same = set_same (settings_of words) script files none in
    (same.0, subst (λ outcome. EndsWith s h k outcome asking old new number) same.1 ends)
