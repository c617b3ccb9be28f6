use Rattle.std.proofs.Common.{◌≡◌, ℕ, ◌&&◌, Bool, true, List, [], ◌∷◌, Option, Some, None, refl}
use Rattle.ovl_io.specs.declared.source.Source.{Ghosts as SourceOf}
use Rattle.ovl_io.specs.declared.shelf.Shelf.{Ghosts as ShelfOf}
use Rattle.ovl_io.specs.declared.sink.Sink.{Ghosts as SinkOf}
use Rattle.script_text.specs.declared.command.Command.{Command}
use Rattle.command_core.specs.declared.modes.Modes.{Modes}
use Rattle.command_core.specs.State.{State, fresh}
use Rattle.command_core.specs.Commands.{FileAsked, AsksNothing, HasFile, IsMissing, IsTooLong, file_asked, has_all}
use Rattle.overlay_top.specs.declared.words.Settings.{Settings}
use Rattle.overlay_top.specs.declared.status.Status.{Status}
use Rattle.overlay_top.specs.declared.status.Status.TheVariants.{Done}
use Rattle.overlay_top.specs.Outcome.{modes_of, Asking, OfNothing, OfOutside, Passage, RunOutcome, SaysCommands, SaysOutside, SaysTooMuch, ScriptSays, chosen_files, chosen_script, outcome_set, run_from, said, said_outcome, with_asked}
use Rattle.overlay_top.specs.InOrder.{have_files, says_in_order, set_in_order}
use Rattle.overlay_top.specs.Ends.{Ends, EndsAs, EndsMade, EndsWith, MadeOutOfMemory, MadeSinkFailed, MadeWhole, OutOfMemory, ShelfFailed, SinkFailed, SourceFailed, Untouched, Whole, World}
use Rattle.overlay_top.proofs.Codes.{same_status}

-- The outcome's status is 0 exactly where all is in order.

-- one command with what it asks for, and those that follow
asked_done : (asked : FileAsked) (passage : Passage) (rest : RunOutcome) (others : Bool) → (others ≡ true → rest.status ≡ Done)
    → (has_all asked && others) ≡ true → (with_asked asked passage rest).status ≡ Done
asked_done AsksNothing passage rest others follow is = follow is
asked_done (HasFile file) passage rest others follow is = follow is
asked_done IsMissing passage rest others follow is = cc
asked_done IsTooLong passage rest others follow is = cc

done_asked : (asked : FileAsked) (passage : Passage) (rest : RunOutcome) (others : Bool) → (rest.status ≡ Done → others ≡ true)
    → (with_asked asked passage rest).status ≡ Done → (has_all asked && others) ≡ true
done_asked AsksNothing passage rest others follow is = follow is
done_asked (HasFile file) passage rest others follow is = follow is
done_asked IsMissing passage rest others follow is = cc
done_asked IsTooLong passage rest others follow is = cc

module _ (modes : Modes) (files : List ℕ → Option (List ℕ)) where
  runs_done : (commands : List Command) (state : State) → have_files files commands ≡ true → (run_from modes commands state files).status ≡ Done
  runs_done [] state is = refl
  runs_done (command ∷ commands) state is = asked_done (file_asked files command) _ _ (have_files files commands) (runs_done commands _) is

  done_runs : (commands : List Command) (state : State) → (run_from modes commands state files).status ≡ Done → have_files files commands ≡ true
  done_runs [] state is = refl
  done_runs (command ∷ commands) state is = done_asked (file_asked files command) _ _ (have_files files commands) (done_runs commands _) is

says_done : (set : Settings) (files : List ℕ → Option (List ℕ)) (says : ScriptSays) → says_in_order files says ≡ true → (said_outcome set says files).status ≡ Done
says_done set files SaysTooMuch is = cc
says_done set files (SaysOutside line) is = cc
says_done set files (SaysCommands commands) is = runs_done (modes_of set) files commands (fresh (modes_of set)) is

done_says : (set : Settings) (files : List ℕ → Option (List ℕ)) (says : ScriptSays) → (said_outcome set says files).status ≡ Done → says_in_order files says ≡ true
done_says set files SaysTooMuch is = cc
done_says set files (SaysOutside line) is = cc
done_says set files (SaysCommands commands) is = done_runs (modes_of set) files commands (fresh (modes_of set)) is

pub in_order_done : (found : Option Settings) (script : List ℕ) (files : List ℕ → Option (List ℕ)) → set_in_order found script files ≡ true
    → (outcome_set found script files).status ≡ Done
in_order_done None script files is = cc
in_order_done (Some set) script files is = says_done set (chosen_files set.seed files) (said (chosen_script set.seed script)) is

pub done_in_order : (found : Option Settings) (script : List ℕ) (files : List ℕ → Option (List ℕ)) → (outcome_set found script files).status ≡ Done
    → set_in_order found script files ≡ true
done_in_order None script files is = cc
done_in_order (Some set) script files is = done_says set (chosen_files set.seed files) (said (chosen_script set.seed script)) is

-- A call that answers 0 ended as the outcome says.

module _ {S H K : Type 0} (s : SourceOf S) (h : ShelfOf H) (k : SinkOf K) (outcome : RunOutcome) where
  ended_done : (names : List (Option (List ℕ))) (old new : World S H K) (status : Status) → Ends s h k outcome names old new status → status ≡ Done → outcome.status ≡ Done
  ended_done names old new _ (Untouched is_bad nothing same) is = cc
  ended_done names old new _ (Whole source shelf sink taken asked whole) is = is
  ended_done names old new _ (SourceFailed rose files report taken) is = cc
  ended_done names old new _ (ShelfFailed j name within at source rose sink taken asked refused first) is = cc
  ended_done names old new _ (SinkFailed j within source shelf rose taken asked cut) is = cc
  ended_done names old new _ (OutOfMemory j begun within few source shelf sink asked first) is = cc

  made_done : (old new : K) (status : Status) → EndsMade k outcome old new status → status ≡ Done → outcome.status ≡ Done
  made_done old new _ (MadeWhole sink whole) is = is
  made_done old new _ (MadeSinkFailed j within rose cut) is = cc
  made_done old new _ (MadeOutOfMemory j begun within few sink first) is = cc

  as_done : (asking : Asking) (old new : World S H K) (status : Status) → EndsAs s h k outcome asking old new status → status ≡ Done → outcome.status ≡ Done
  as_done (OfOutside names) old new status ends is = ended_done names old new status ends is
  as_done OfNothing old new status ends is = made_done old.report new.report status ends.1 is

  pub with_done : (asking : Asking) (old new : World S H K) (number : ℕ) → EndsWith s h k outcome asking old new number → number ≡ 0 → outcome.status ≡ Done
  with_done asking old new number (status, is, ends) none = as_done asking old new status ends (same_status number status Done is none)
