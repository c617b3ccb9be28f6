use Rattle.std.specs.Prelude.{ℕ, Bool}
use Rattle.std.specs.Option.{option_map_or}
use Rattle.std.specs.FinMap.{get, insert}
use Rattle.breakpoints.specs.Breakpoints.{Breaks}
use Rattle.ovl_io.specs.declared.turn.Turn.{Turn}
use Rattle.ovl_io.specs.declared.turn.Turn.TheVariants.{Stepped}
use Rattle.machine_core.specs.Machine.{Processes}
use Rattle.self_speculation.specs.Taken.{taken_step, taken_step_turn}
use Rattle.process_runs.specs.Turns.{TurnRules, last_reached, next_among}

-- Turns of the unbounded machine, which has whole processes, and no ledger, no frames and no limit: nothing is ever full.

-- Each turn is the step of its process, which may speculate by itself or not.
abbrev pub step_among : Bool → Bool → Processes → ℕ → Turn
step_among calls extension processes p = option_map_or (λ process. taken_step_turn calls extension p process) (get processes p) Stepped

abbrev pub after_step_of : Bool → Bool → Processes → ℕ → Processes
after_step_of calls extension processes p =
    option_map_or (λ process. insert processes p (taken_step calls extension p process)) (get processes p) processes

abbrev pub unbounded_turns : Bool → Bool → Breaks → TurnRules Processes
unbounded_turns calls extension breaks =
    record { next = next_among; broken = last_reached breaks; turn = step_among calls extension; after = after_step_of calls extension }
