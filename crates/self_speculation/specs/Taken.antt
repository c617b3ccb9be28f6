use Rattle.std.specs.Prelude.{◌≡◌, ℕ, Bool, true, false}
use Rattle.ovl_io.specs.declared.turn.Turn.{Turn}
use Rattle.rv_execute.specs.declared.outcome.Outcome.TheVariants.{Asked}
use Rattle.machine_core.specs.Process.{Process}
use Rattle.machine_core.specs.Machine.{AreLike, Wholes, is_running}
use Rattle.machine_core.specs.Turns.{after_execution, after_turn, came_to, process_after, step_of, turn_of}
use Rattle.self_speculation.specs.Called.{after_called, called_step, called_step_turn, called_turn}

-- A turn of a process, which may speculate by itself or not: what came of it, and the copying machine afterwards.
abbrev pub taken_turn : Bool → Wholes → ℕ → Turn
taken_turn false state p = turn_of state p
taken_turn true state p = called_turn state p

abbrev pub after_taken : Bool → Wholes → ℕ → Wholes
after_taken false state p = after_turn state p
after_taken true state p = after_called state p

-- the same of a process alone, where there are units enough
abbrev pub taken_step_turn : Bool → Bool → ℕ → Process → Turn
taken_step_turn false extension p process = (step_of extension p process).turn
taken_step_turn true extension p process = called_step_turn extension p process

abbrev pub taken_step : Bool → Bool → ℕ → Process → Process
taken_step false extension p process = process_after extension p process
taken_step true extension p process = called_step extension p process

-- The rest of a turn whose execution is a request: in each state in which it was, what the turn comes to, and the machine after it.
abbrev pub AnswersRequest : Bool → ℕ → Wholes → Turn → Wholes → Type 0
AnswersRequest calls p executed turn new =
    (old : Wholes) → is_running old p ≡ true → came_to old p ≡ Asked → AreLike executed (after_execution old p)
    → (turn ≡ taken_turn calls old p) × AreLike new (after_taken calls old p)
