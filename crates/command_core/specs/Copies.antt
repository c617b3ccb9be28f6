use Rattle.std.specs.Prelude.{◌≡◌, ℕ, Bool, true, false, List, [], ◌∷◌, Option, Some, None, Result, Ok, Err}
use Rattle.std.specs.FinMap.{empty, get, insert, remove}
use Rattle.ovl_io.specs.declared.process_state.ProcessState.{ProcessState}
use Rattle.ledger.specs.Events.{Event, Copy}
use Rattle.overlay_memory.specs.declared.error.SpaceError.{SpaceError}
use Rattle.overlay_memory.specs.declared.error.SpaceError.TheVariants.{Full, Memory}
use Rattle.space_maps.specs.Spaces.{space_in}
use Rattle.machine_core.specs.Process.{Process, is_speculating}
use Rattle.machine_core.specs.declared.process.Process as declared
use Rattle.machine_core.specs.Machine.{IsDropped, Machine, StaysBut, Wholes, has_space, unit_limit, spaces_of, whole_in, wholes, with_process_at}
use Rattle.machine_core.specs.Load.{IsAsBefore}
use Rattle.report_text.specs.declared.answer.Answer.TheVariants.{Forked}
use Rattle.report_text.specs.declared.answer.Code.{Code}
use Rattle.command_core.specs.State.{Registry, next_number}
use Rattle.command_core.specs.Rows.{Row, TakesLast, event_needs, first_refusal, flushed_by, is_event_full, ledger_by, plain_row}
use Rattle.command_core.specs.Refusals.{by_ended, by_numbers_used, by_speculating, number_in}

-- What a fork makes of a process that is there.

-- a further process, under this number, without breakpoints
abbrev pub draws : ℕ → Process → Registry → Registry
draws n process registry =
    record registry { processes = insert registry.processes n process; breakpoints = remove registry.breakpoints n }

abbrev pub fork_refusals : ProcessState → Bool → Option ℕ → List (Option Code)
fork_refusals state speculating next = by_ended state ∷ by_speculating speculating ∷ by_numbers_used next ∷ []

-- `fork`: the same process under the next number too, with a copy of its pages in the ledger
abbrev pub fork_under : Option ℕ → ℕ → Process → Registry → Row
fork_under next p process registry =
    record (plain_row true None (fork_refusals process.state (is_speculating process) next) (Copy p (number_in next)) (draws (number_in next) process registry))
    { memory = TakesLast; answer = Forked p (number_in next) }

abbrev pub fork_row : ℕ → Process → Registry → Row
fork_row p process registry = fork_under (next_number registry) p process registry

-- the number that a change takes, or its first refusal
abbrev pub GivesNumber : List (Option Code) → Option ℕ → Result ℕ Code → Type 0
GivesNumber refusals next (Ok n) = (first_refusal refusals ≡ None) × (next ≡ Some n)
GivesNumber refusals next (Err code) = first_refusal refusals ≡ Some code

-- How a space that an event of the ledger makes comes out: full exactly where the units of the ledger after it exceed the limit, and then
-- nothing changes. Want of memory comes only where they don't, and then there are the spaces and processes that there were.
abbrev pub EventFails : Event → Machine → Machine → SpaceError → Type 0
EventFails event old new (Full needed limit) =
    (needed ≡ event_needs event (wholes old)) × (limit ≡ unit_limit (wholes old).frames) × (is_event_full event (wholes old) ≡ true) × (new ≡ old)
EventFails event old new Memory = (is_event_full event (wholes old) ≡ false) × IsAsBefore old new

abbrev pub EventEnds : {T : Type 0} → Event → Machine → Machine → Type 0 → Result T SpaceError → Type 0
EventEnds event old new Done (Ok done) = (is_event_full event (wholes old) ≡ false) × Done
EventEnds event old new Done (Err error) = EventFails event old new error

-- and how a copy of one does
abbrev pub CopyFails : ℕ → ℕ → Machine → Machine → SpaceError → Type 0
CopyFails from to old new error = EventFails (Copy from to) old new error

abbrev pub CopyEnds : {T : Type 0} → ℕ → ℕ → Machine → Machine → Type 0 → Result T SpaceError → Type 0
CopyEnds from to old new Done result = EventEnds (Copy from to) old new Done result

-- the copying machine with a process under a number, and a copy of the pages of another one, where the translations of a process go
abbrev pub with_process_copy : Option ℕ → ℕ → ℕ → Process → Wholes → Wholes
with_process_copy flushes from to process state = record state {
  processes = insert state.processes to process;
  ledger = ledger_by (Copy from to) state.ledger;
  translations = flushed_by flushes state.translations;
}

-- a machine with that process, its space, and nothing else changed
pub record IsCopied (flushes : Option ℕ) (from to : ℕ) (process : declared.Process) (old new : Machine) : Type 0 where
  pub after : wholes new ≡ with_process_copy flushes from to (whole_in (spaces_of old) from process) (wholes old)
  pub adopted : get new.processes to ≡ Some process
  pub there : has_space new to ≡ true
  pub none_awaits : (space_in (spaces_of new) to).awaiting ≡ empty
  pub others : StaysBut to old new

-- a process with a copy of a space, under a number that had none or in the place of the process that it had
abbrev pub CopiesProcess : Option ℕ → ℕ → ℕ → declared.Process → Machine → Machine → Result (Unit {0}) SpaceError → Type 0
CopiesProcess flushes from to process old new result = CopyEnds from to old new (IsCopied flushes from to process old new) result

-- how a space that was just made is given a process: after want of memory the space is gone
abbrev pub Adopts : ℕ → declared.Process → Machine → Machine → Result (Unit {0}) SpaceError → Type 0
Adopts q process old new (Ok done) = new ≡ with_process_at old q process
Adopts q process old new (Err (Full needed limit)) = ⊥
Adopts q process old new (Err Memory) = IsDropped q old new
