use Rattle.std.specs.Prelude.{◌≡◌, ℕ, zero, suc, ◌+◌, ◌==◌, ◌&&◌, not, Bool, false, List, [], ◌∷◌, Option, Some, None, if◌then◌else◌}
use Rattle.std.specs.Option.{option_map, option_map_or}
use Rattle.std.specs.FinMap.{get}
use Rattle.process_calls.specs.declared.calls.ProcessCall.{ProcessCall}
use Rattle.machine_core.specs.Process.{Process}
use Rattle.machine_core.specs.Machine.{Wholes, is_running}
use Rattle.machine_core.specs.Turns.{Guest, guest_at, guest_refused, is_full}
use Rattle.self_speculation.specs.Called.{after_called, call_of, called_step, row_is_full, row_of}

-- Turns of several processes that may speculate by themselves, by a list of their numbers.

-- the copying machine after a turn of a number; one that isn't running is passed over
abbrev pub after_number : ℕ → Wholes → Wholes
after_number p state = if is_running state p then after_called state p else state

-- the same after one turn of each number, in order
abbrev pub run_over : List ℕ → Wholes → Wholes
run_over [] state = state
run_over (p ∷ turns) state = run_over turns (after_number p state)

-- whether a turn of a process that is there would be answered Full
abbrev pub is_full_by : ℕ → Guest → Option ProcessCall → Bool
is_full_by p guest None = is_full p guest
is_full_by p guest (Some call) = row_is_full (row_of p call guest.process) (guest_refused p guest)

abbrev pub is_called_full : ℕ → Guest → Bool
is_called_full p guest = is_full_by p guest (call_of guest.extension guest.process)

abbrev pub is_full_at : Wholes → ℕ → Bool
is_full_at state p = option_map_or (is_called_full p) (guest_at state p) false

-- how many turns a number takes in that run, those answered Full aside
abbrev pub turns_of : ℕ → List ℕ → Wholes → ℕ
turns_of p [] state = 0
turns_of p (q ∷ turns) state =
    (if q == p && (is_running state q && not (is_full_at state q)) then 1 else 0) + turns_of p turns (after_number q state)

-- what so many turns of process p make of it, alone, with what is kept of it
abbrev pub own_turns : Bool → ℕ → ℕ → Process → Process
own_turns extension p zero process = process
own_turns extension p (suc n) process = own_turns extension p n (called_step extension p process)

-- each process is its own turns: those that it took in the run over a list
abbrev pub AreOwnCalledTurns : List ℕ → Wholes → Wholes → Type 0
AreOwnCalledTurns turns before after =
    (p : ℕ) → get after.processes p ≡ option_map (own_turns before.extension p (turns_of p turns before)) (get before.processes p)
