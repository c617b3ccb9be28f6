use Rattle.std.specs.Prelude.{◌≡◌, ℕ, ◌+◌, nat_le, Bool, List, [], ◌∷◌, if◌then◌else◌, slice_get, Option, Some, None, Result, Ok, Err}
use Rattle.std.specs.List.{filter}
use Rattle.std.specs.FinMap.{entries, get, len}
use Rattle.ledger.specs.Units.{own_lines, units}
use Rattle.machine_core.specs.Machine.{Processes, Wholes, unit_limit}
use Rattle.machine_core.specs.Process.{Process, is_speculating, runs}
use Rattle.report_text.specs.declared.answer.Code.{Code}
use Rattle.report_text.specs.declared.answer.Code.TheVariants.{NoProcess, Ended, Unmapped}
use Rattle.command_core.specs.declared.session.CheckpointView.{CheckpointView}
use Rattle.command_core.specs.declared.session.Counts.{Counts}
use Rattle.command_core.specs.declared.session.ProcessView.{ProcessView}
use Rattle.command_core.specs.State.{Checkpoint}
use Rattle.process_runs.specs.Turns.{InRun, begun_alone, run_found}
use Rattle.breakpoints.specs.Breakpoints.{Breaks}
use Rattle.ovl_io.specs.Memory.{bytes_at, first_denied}

-- What is looked up in a session.

-- a process, as it is shown
abbrev pub process_view : Process → ProcessView
process_view process = record { regs = process.registers; state = process.state; speculating = is_speculating process; pages = len process.memory }

abbrev pub looked_at : Option Process → Result ProcessView Code
looked_at None = Err NoProcess
looked_at (Some process) = Ok (process_view process)

abbrev pub LooksAt : Processes → ℕ → Result ProcessView Code → Type 0
LooksAt processes p result = result ≡ looked_at (get processes p)

-- a checkpoint, as it is shown
pub record ShowsCheckpoint (checkpoint : Checkpoint) (view : CheckpointView) : Type 0 where
  pub name : view.name.now ≡ checkpoint.name
  pub space : view.space ≡ checkpoint.space
  pub pages : view.pages ≡ len checkpoint.whole.memory

-- the checkpoint of a place, in the order of making
abbrev pub LooksAtCheckpoint : List Checkpoint → ℕ → Option CheckpointView → Type 0
LooksAtCheckpoint checkpoints index None = slice_get checkpoints index ≡ None
LooksAtCheckpoint checkpoints index (Some view) =
    (checkpoint : Checkpoint) × (slice_get checkpoints index ≡ Some checkpoint) × ShowsCheckpoint checkpoint view

-- the counts: units of all pages, how many there may be, own lines, and the translations that were there and that weren't
abbrev pub counts_of : Wholes → Counts
counts_of all = record {
  units = units all.ledger;
  limit = unit_limit all.frames;
  lines = own_lines all.ledger;
  hits = all.translations.hits;
  misses = all.translations.misses;
}

-- the turns of one process are begun: refused where it isn't there, or has ended
abbrev pub begun : Breaks → Wholes → Bool → ℕ → ℕ → Option Process → Result InRun Code
begun breaks state calls p turns None = Err NoProcess
begun breaks state calls p turns (Some process) = if runs process.state then Ok (run_found breaks state (begun_alone p calls turns)) else Err Ended

abbrev pub BeginsStep : Breaks → Wholes → Bool → ℕ → ℕ → Result InRun Code → Type 0
BeginsStep breaks state calls p turns result = result ≡ begun breaks state calls p turns (get state.processes p)

-- n bytes of a process from an address on are looked at, whatever the permissions: refused at the first whose page isn't there
abbrev pub look_denied : Option ℕ → Result (Unit {0}) Code
look_denied None = Ok tt
look_denied (Some at) = Err (Unmapped at)

abbrev pub look_of : ℕ → ℕ → Option Process → Result (Unit {0}) Code
look_of address n None = Err NoProcess
look_of address n (Some process) = look_denied (first_denied process.memory 0 address n)

abbrev pub CanRead : Processes → ℕ → ℕ → ℕ → Result (Unit {0}) Code → Type 0
CanRead processes p address n result = result ≡ look_of address n (get processes p)

-- the bytes of a process that is there
abbrev pub bytes_in : ℕ → ℕ → Option Process → List ℕ
bytes_in address n None = []
bytes_in address n (Some process) = bytes_at process.memory address n

abbrev pub ReadsBytes : Processes → ℕ → ℕ → ℕ → List ℕ → Result (Unit {0}) Code → Type 0
ReadsBytes processes p address n into (Ok done) = into ≡ bytes_in address n (get processes p)
ReadsBytes processes p address n into (Err code) = Unit {0}

-- the processes from a number on, ascending
abbrev pub from_number : ℕ → Processes → List (ℕ × Process)
from_number from processes = filter (λ entry. nat_le from entry.0) (entries processes)

-- The next process: the first of those from a number on; the others are those from the next number on.
abbrev pub NextProcess : Processes → ℕ → Option ℕ → Type 0
NextProcess processes from None = from_number from processes ≡ []
NextProcess processes from (Some p) =
    (process : Process) × (get processes p ≡ Some process) × (from_number from processes ≡ (p, process) ∷ from_number (p + 1) processes)
