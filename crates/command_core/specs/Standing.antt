use Rattle.std.specs.Prelude.{◌≡◌, ℕ, Bool, true, List, Option, Result}
use Rattle.std.specs.FinMap.{get}
use Rattle.ovl_io.specs.declared.turn.Turn.{Turn}
use Rattle.report_text.specs.declared.answer.Answer.{Answer}
use Rattle.report_text.specs.declared.answer.Answer.TheVariants.{Memory}
use Rattle.command_core.specs.State.{AreLikeStates, State, with_wholes}
use Rattle.command_core.specs.Sessions.{InSession}
use Rattle.command_core.specs.Rows.{Row, change_by, may_want_memory}
use Rattle.command_core.specs.Giving.{ComesTo}
use Rattle.report_text.specs.declared.answer.Code.{Code}
use Rattle.command_core.specs.Looks.{begun}
use Rattle.process_runs.specs.Played.{run_over}
use Rattle.process_runs.specs.Turns.{EndsRun, InRun, Speaks, TakesTurn, by_turns, run_found}

-- A session stands for a state of the copying machine where its processes and its checkpoints, memories included, and its frames are the
-- state's, and the ledgers are alike. What a call does is said of each state that the session stood for.
abbrev pub SessionStandsFor : InSession → State → Type 0
SessionStandsFor session state = AreLikeStates session.state state

-- what is answered is the answer of each of them
abbrev pub SessionAnswersAs : {Answer : Type 0} → (State → Answer) → InSession → Answer → Type 0
SessionAnswersAs answer session result = (state : State) → SessionStandsFor session state → result ≡ answer state

-- a change: what its row comes to, in each of them; or want of memory, where each of them may want it, and the session stands for what
-- it stood for
abbrev pub GivesAs : (State → Row) → InSession → Answer → InSession → Type 0
GivesAs row old Memory new = (state : State) → SessionStandsFor old state → (may_want_memory (row state) state ≡ true) × SessionStandsFor new state
GivesAs row old answer new = (state : State) → SessionStandsFor old state → ComesTo (change_by (row state) state) answer new.state

-- what holds of each of them
abbrev pub HoldsFor : (State → Type 0) → InSession → Type 0
HoldsFor fact session = (state : State) → SessionStandsFor session state → fact state

-- turns: those of the state's processes, and the session stands for the state after them, in which the checkpoints and the breakpoints are the
-- same
abbrev pub TurnsAs : (State → State → Type 0) → InSession → InSession → Type 0
TurnsAs turns old new =
    (state : State) → SessionStandsFor old state
    → (after : State) × SessionStandsFor new after × (after.checkpoints ≡ state.checkpoints) × (after.breakpoints ≡ state.breakpoints)
    × turns state after

-- turns by a list of numbers: the session stands for the state after them
abbrev pub PlaysAs : List ℕ → InSession → InSession → Type 0
PlaysAs turns old new = (state : State) → SessionStandsFor old state → SessionStandsFor new (with_wholes (run_over turns state.wholes) state)

abbrev pub takes_turn : InRun → Option (ℕ × Turn) → InRun → State → State → Type 0
takes_turn running turn after_run state after = TakesTurn state.breakpoints state.wholes running turn after.wholes after_run

abbrev pub speaks : InRun → List ℕ → InRun → State → State → Type 0
speaks running line after_run state after = Speaks state.breakpoints state.wholes running line after.wholes after_run

abbrev pub ends_run : InRun → InRun → State → State → Type 0
ends_run running after_run state after = EndsRun state.breakpoints state.wholes running after.wholes after_run

-- the turns of all processes, begun, and those of one
abbrev pub begun_run : ℕ → Bool → ℕ → State → InRun
begun_run quantum calls turns state = run_found state.breakpoints state.wholes (by_turns quantum calls turns)

abbrev pub begun_step : Bool → ℕ → ℕ → State → Result InRun Code
begun_step calls p turns state = begun state.breakpoints state.wholes calls p turns (get state.wholes.processes p)
