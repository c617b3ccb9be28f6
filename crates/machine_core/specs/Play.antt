use Rattle.std.specs.Prelude.{◌≡◌, ℕ, zero, suc, ◌+◌, ◌==◌, ◌&&◌, not, Bool, false, List, [], ◌∷◌, if◌then◌else◌}
use Rattle.std.specs.Option.{option_map, option_map_or}
use Rattle.std.specs.FinMap.{get}
use Rattle.machine_core.specs.Process.{Process}
use Rattle.machine_core.specs.Machine.{Wholes, is_running}
use Rattle.machine_core.specs.Turns.{after_turn, guest_at, is_full, process_after}

-- Turns of several processes, by a list of their numbers.

-- the copying machine after a turn of a number; one that isn't running is passed over
abbrev pub after_number : ℕ → Wholes → Wholes
after_number p state = if is_running state p then after_turn state p else state

-- the same after one turn of each number, in order
abbrev pub run_over : List ℕ → Wholes → Wholes
run_over [] state = state
run_over (p ∷ turns) state = run_over turns (after_number p state)

-- whether a turn of a process that is there would be answered Full
abbrev pub is_full_at : Wholes → ℕ → Bool
is_full_at state p = option_map_or (is_full p) (guest_at state p) false

-- how many turns a number takes in that run, those answered Full aside
abbrev pub turns_of : ℕ → List ℕ → Wholes → ℕ
turns_of p [] state = 0
turns_of p (q ∷ turns) state =
    (if q == p && (is_running state q && not (is_full_at state q)) then 1 else 0) + turns_of p turns (after_number q state)

-- what so many turns of process p make of it, alone
abbrev pub own_turns : Bool → ℕ → ℕ → Process → Process
own_turns extension p zero process = process
own_turns extension p (suc n) process = own_turns extension p n (process_after extension p process)

-- each process is its own turns: those that it took in the run over a list
abbrev pub AreOwnTurns : List ℕ → Wholes → Wholes → Type 0
AreOwnTurns turns before after =
    (p : ℕ) → get after.processes p ≡ option_map (own_turns before.extension p (turns_of p turns before)) (get before.processes p)
