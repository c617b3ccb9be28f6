use Rattle.std.specs.Prelude.{ℕ, ◌-◌, Bool, false, List, [], ◌∷◌}
use Rattle.std.specs.Option.{is_some, option_map_or}
use Rattle.std.specs.FinMap.{empty}
use Rattle.machine_core.specs.Machine.{Processes}
use Rattle.command_core.specs.State.{Registry}
use Rattle.command_core.specs.Rows.{Changed, Row, first_refusal, refuses, wants_by}
use Rattle.process_runs.specs.Turns.{Progress, Ran, ran_by, ran_text}
use Rattle.process_runs.specs.Unbounded.{unbounded_turns}
use Rattle.command_core.specs.Commands.{Performed, Rules, text_printed}

-- The unbounded machine: it copies the whole memory at each fork, checkpoint and speculation start, and there is always room. It has
-- no ledger, no frames and no limit, and nothing is ever full. It has extension M or not.

-- Its state: what is registered; whether it has extension M; and the lines of the commands that are told by the ledger, one after the
-- other.
pub record Unbounded : Type 0 where
  pub registry : Registry
  pub extension : Bool
  pub told : List (List ℕ)

abbrev pub with_processes : Processes → Unbounded → Unbounded
with_processes processes state = record state { registry = record (state.registry) { processes = processes } }

-- all turns that are left of a run
abbrev pub unbounded_ran : Unbounded → Progress → Ran Processes
unbounded_ran state run =
    ran_by (unbounded_turns run.calls state.extension state.registry.breakpoints) (run.turns - run.taken) state.registry.processes run

abbrev pub takes_unbounded : Progress → Unbounded → Performed Unbounded
takes_unbounded run state = record {
  text = ran_text (unbounded_ran state run);
  after = with_processes (unbounded_ran state run).after state;
  wants_memory = false;
}

-- A change: the first refusal, or the row's answer and what it leaves.
abbrev pub does_row : Row → Unbounded → Changed Unbounded
does_row row state = record { answer = row.answer; after = record state { registry = row.after } }

abbrev pub change_unbounded : Row → Unbounded → Changed Unbounded
change_unbounded row state = option_map_or (λ code. refuses code state) (first_refusal row.refusals) (does_row row state)

abbrev pub wants_unbounded : Row → Unbounded → Bool
wants_unbounded row state = wants_by row.memory (is_some (first_refusal row.refusals)) false

-- what is told by the ledger: the next of those lines, and nothing changes
abbrev pub next_told : List (List ℕ) → Unbounded → Performed Unbounded
next_told [] state = text_printed false [] (record state { told = [] })
next_told (line ∷ told) state = text_printed false line (record state { told = told })

abbrev pub unbounded : Rules Unbounded
unbounded = record {
  registry = λ state. state.registry;
  change = change_unbounded;
  wants = wants_unbounded;
  turns = takes_unbounded;
  by_ledger = λ done state. next_told state.told state;
}

-- it at the start
abbrev pub fresh_unbounded : Bool → List (List ℕ) → Unbounded
fresh_unbounded extension told =
    record { registry = record { processes = empty; checkpoints = []; breakpoints = empty }; extension = extension; told = told }
