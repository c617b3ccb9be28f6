use Rattle.std.specs.Prelude.{◌≡◌, ℕ, ◌&&◌, Bool, true, false, cond, List, Option, Some, None, refl}
use Rattle.std.proofs.Common.{ap, ◌∙◌}
use Rattle.std.specs.Option.{option_map_or}
use Rattle.ledger.specs.AmpleLaws.{AreAmple}
use Rattle.machine_core.specs.Ample.{within_ample}
use Rattle.report_text.specs.declared.answer.Answer.{Answer}
use Rattle.report_text.specs.declared.answer.Answer.TheVariants.{Done, Loaded, Forked, Saved, Imported, Shared, Refused, Full, Memory}
use Rattle.report_text.specs.declared.answer.Code.{Code}
use Rattle.rv_asm.specs.Assembly.{assembled}
use Rattle.script_text.specs.declared.command.Command.{Command}
use Rattle.command_core.specs.State.{State, registry_of}
use Rattle.command_core.specs.Sessions.{InSession}
use Rattle.command_core.specs.Rows.{Row, accepts, change_by, falls_short, first_refusal, row_is_full, ledger_by, refuses, registered}
use Rattle.command_core.specs.Giving.{ComesTo, is_full_answer}
use Rattle.command_core.specs.CommandCases.{asm_itself, import_itself, row_itself}
use Rattle.command_core.specs.Images.{import_row}
use Rattle.command_core.specs.Changes.{asm_row, load_row, row_in}
use Rattle.command_core.specs.Standing.{GivesAs, SessionStandsFor}

-- Where the frames are ample for the ledger that a change leads to, the change isn't full.

abbrev pub IsAmpleFor : Row → State → Type 0
IsAmpleFor row state = AreAmple state.wholes.frames (ledger_by row.event state.wholes.ledger)

-- so it is of a session, in any of the states that it stands for
abbrev pub IsAmplyDone : (State → Row) → InSession → Answer → Type 0
IsAmplyDone row session answer = (state : State) → SessionStandsFor session state → IsAmpleFor (row state) state → is_full_answer answer ≡ false

second_and : (x y : Bool) → y ≡ false → (x && y) ≡ false
second_and true y h = h
second_and false y h = refl

-- what a row comes to
ample_change : (row : Row) (state : State) → is_full_answer row.answer ≡ false → IsAmpleFor row state → is_full_answer (change_by row state).answer ≡ false
ample_change row state itself ample = by_cases (first_refusal row.refusals) (row_is_full row state) fits
  where
    fits : row_is_full row state ≡ false
    fits = second_and row.may_need_units _ (within_ample state.wholes.frames (ledger_by row.event state.wholes.ledger) ample)

    by_cases : (o : Option Code) (full : Bool) → full ≡ false
        → is_full_answer (option_map_or (λ code. refuses code state) o (cond full (falls_short row state) (accepts row state))).answer ≡ false
    by_cases (Some code) full same = refl
    by_cases None true same = cc
    by_cases None false same = itself

module _ (row : State → Row) (old new : InSession) (itself : (state : State) → is_full_answer (row state).answer ≡ false) where
  amply_each : (answer : Answer) → ((state : State) → SessionStandsFor old state → ComesTo (change_by (row state) state) answer new.state)
      → IsAmplyDone row old answer
  amply_each answer comes state stands ample =
      ap is_full_answer (comes state stands).answer_is ∙ ample_change (row state) state (itself state) ample

  amply_done : (answer : Answer) → GivesAs row old answer new → IsAmplyDone row old answer
  amply_done (Full units limit) gives state stands ample = amply_each (Full units limit) gives state stands ample
  amply_done Done gives state stands ample = refl
  amply_done (Loaded p pages entry) gives state stands ample = refl
  amply_done (Forked p q) gives state stands ample = refl
  amply_done (Saved p name space) gives state stands ample = refl
  amply_done (Imported name space pages) gives state stands ample = refl
  amply_done (Shared pages) gives state stands ample = refl
  amply_done (Refused code) gives state stands ample = refl
  amply_done Memory gives state stands ample = refl

pub amply_changed : (file : List ℕ) (c : Command) (old new : InSession) (answer : Answer) → GivesAs (row_in file c) old answer new
    → IsAmplyDone (row_in file c) old answer
amply_changed file c old new answer gives = amply_done (row_in file c) old new (row_itself file c) answer gives

pub amply_loaded : (file : List ℕ) (old new : InSession) (answer : Answer) → GivesAs (registered (load_row file)) old answer new
    → IsAmplyDone (registered (load_row file)) old answer
amply_loaded file old new answer gives = amply_done (registered (load_row file)) old new (λ state. refl) answer gives

pub amply_imported : (name base file : List ℕ) (old new : InSession) (answer : Answer) → GivesAs (registered (import_row name base file)) old answer new
    → IsAmplyDone (registered (import_row name base file)) old answer
amply_imported name base file old new answer gives =
    amply_done (registered (import_row name base file)) old new (λ state. import_itself name base file (registry_of state)) answer gives

pub amply_assembled : (text : List ℕ) (old new : InSession) (answer : Answer) → GivesAs (registered (asm_row text)) old answer new
    → IsAmplyDone (registered (asm_row text)) old answer
amply_assembled text old new answer gives =
    amply_done (registered (asm_row text)) old new (λ state. asm_itself (assembled text) (registry_of state)) answer gives
