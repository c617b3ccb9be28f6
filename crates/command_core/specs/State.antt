use Rattle.std.specs.Prelude.{◌≡◌, ℕ, ◌==◌, ◌||◌, not, Bool, List, [], Option, None}
use Rattle.std.specs.List.{find, list_any, range_with_len}
use Rattle.std.specs.Option.{is_some}
use Rattle.sizes.specs.declared.TheConstants.{LAST_SPACE}
use Rattle.std.specs.FinMap.{empty, get}
use Rattle.breakpoints.specs.Breakpoints.{Breaks}
use Rattle.ledger.specs.Ledger.{Ledger}
use Rattle.translation_cache.specs.Bare.{BareTranslations}
use Rattle.translation_cache.specs.Translations.{no_translations}
use Rattle.machine_core.specs.Process.{Process, Whole}
use Rattle.machine_core.specs.Machine.{AreLike, Processes, Wholes, with_extension}
use Rattle.command_core.specs.declared.modes.Modes.{Modes}

-- A checkpoint: its name, the number of its space, and the whole that is kept.
pub record Checkpoint : Type 0 where
  pub name : List ℕ
  pub space : ℕ
  pub whole : Whole

-- The copying machine: the processes by number, each with its whole memory, with the ledger of the pages of all spaces; the
-- checkpoints, in the order of making; and the breakpoints of each process.
pub record State : Type 0 where
  pub wholes : Wholes
  pub checkpoints : List Checkpoint
  pub breakpoints : Breaks

-- the state at the start
abbrev pub fresh : Modes → State
fresh modes = record {
  wholes = record { processes = empty; ledger = empty; frames = modes.frames; extension = modes.extension; translations = no_translations };
  checkpoints = [];
  breakpoints = empty;
}

abbrev pub with_wholes : Wholes → State → State
with_wholes wholes state = record state { wholes = wholes }

-- What a command looks at and leaves: all of the state but the ledger, the frames, whether extension M is there, and the translations. Those
-- say only whether there are units enough, what the words of turns mean, and what is counted.
pub record Registry : Type 0 where
  pub processes : Processes
  pub checkpoints : List Checkpoint
  pub breakpoints : Breaks

-- whether a process or a checkpoint has a number
abbrev pub is_used : Registry → ℕ → Bool
is_used registry n = is_some (get registry.processes n) || list_any (λ (x : Checkpoint). x.space == n) registry.checkpoints

-- The next number, of a process or of a checkpoint: the least from 1 on that none of them has; none where they have all.
unfoldable pub next_number : Registry → Option ℕ
next_number registry = find (λ n. not (is_used registry n)) (range_with_len 1 LAST_SPACE)

abbrev pub registry_of : State → Registry
registry_of state =
    record { processes = state.wholes.processes; checkpoints = state.checkpoints; breakpoints = state.breakpoints }

-- the state with extension M or without
abbrev pub extended : Bool → State → State
extended extension state = with_wholes (with_extension extension state.wholes) state

-- the state with another registry, another ledger and other translations
abbrev pub with_registry : Registry → Ledger → BareTranslations → State → State
with_registry registry ledger translations state = record {
  wholes = record { processes = registry.processes; ledger = ledger; frames = state.wholes.frames; extension = state.wholes.extension; translations = translations };
  checkpoints = registry.checkpoints;
  breakpoints = registry.breakpoints;
}

-- the whole of a process, and the process that is a whole, of which nothing is kept
abbrev pub whole_of : Process → Whole
whole_of process = record { registers = process.registers; state = process.state; memory = process.memory }

abbrev pub process_of : Whole → Process
process_of whole = record { registers = whole.registers; state = whole.state; memory = whole.memory; kept = None }

-- states that differ in the numbers of origins alone
pub record AreLikeStates (a b : State) : Type 0 where
  pub wholes : AreLike a.wholes b.wholes
  pub checkpoints : a.checkpoints ≡ b.checkpoints
  pub breakpoints : a.breakpoints ≡ b.breakpoints
