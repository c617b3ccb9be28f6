use Rattle.std.specs.Prelude.{◌≡◌, ℕ, nat_lt, Bool, false, if◌then◌else◌, List, [], ◌∷◌, length, map, Option, Some, None}
use Rattle.std.specs.Option.{option_map, option_map_or}
use Rattle.std.specs.FinMap.{get, insert}
use Rattle.ledger.specs.Alike.{AreAlike}
use Rattle.ledger.specs.Ledger.{Ledger}
use Rattle.ledger.specs.Events.{ledger_after}
use Rattle.ledger.specs.Events as event
use Rattle.ledger.specs.Touched.{touched}
use Rattle.ledger.specs.Units.{units}
use Rattle.translation_cache.specs.Bare.{BareTranslations}
use Rattle.translation_cache.specs.Counted.{counted}
use Rattle.ovl_io.specs.Memory.{Memory, denied_at}
use Rattle.ovl_io.specs.declared.process_state.ProcessState.{ProcessState}
use Rattle.ovl_io.specs.declared.process_state.ProcessState.TheVariants as state
use Rattle.ovl_io.specs.declared.turn.Turn.{Turn}
use Rattle.ovl_io.specs.declared.turn.Turn.TheVariants.{Stepped, Wrote, Exited, Faulted, Full}
use Rattle.rv_execute.specs.Calls.{Call, Fetch, Load, Store, access_of, store_at}
use Rattle.rv_execute.specs.Execution.{Execution, Upshot, Steps, Asks, Faults, execution_by, outcome_by}
use Rattle.rv_execute.specs.declared.outcome.Outcome.{Outcome}
use Rattle.rv_execute.specs.declared.outcome.Outcome.TheVariants as outcome
use Rattle.rv_execute.specs.Step.{Request, Step, request, step_by}
use Rattle.rv_mul.specs.Tables.{table_of}
use Rattle.machine_core.specs.Process.{Process, is_speculating}
use Rattle.machine_core.specs.Machine.{Wholes, unit_limit}
use Rattle.machine_core.specs.declared.process.Process as declared
use Rattle.machine_core.specs.declared.process.SavedRegs.{SavedRegs}

-- What an instruction of a process does in the copying machine.

-- A process in its place: with the ledger of all spaces, how many frames there are, whether extension M is there, and the pages that were
-- translated last.
pub record Guest : Type 0 where
  pub process : Process
  pub ledger : Ledger
  pub frames : ℕ
  pub extension : Bool
  pub translations : BareTranslations

-- processes in their places that differ in the numbers of origins alone
pub record AreLikeGuests (a b : Guest) : Type 0 where
  pub process : a.process ≡ b.process
  pub ledger : AreAlike a.ledger b.ledger
  pub frames : a.frames ≡ b.frames
  pub extension : a.extension ≡ b.extension
  pub translations : a.translations ≡ b.translations

abbrev pub guest_of : Wholes → Process → Guest
guest_of state process =
    record { process = process; ledger = state.ledger; frames = state.frames; extension = state.extension; translations = state.translations }

abbrev pub guest_at : Wholes → ℕ → Option Guest
guest_at state p = option_map (guest_of state) (get state.processes p)

-- the copying machine with a process, and the ledger and translations that it left
abbrev pub with_guest : Wholes → ℕ → Guest → Wholes
with_guest state p guest =
    record {
      processes = insert state.processes p guest.process;
      ledger = guest.ledger;
      frames = guest.frames;
      extension = guest.extension;
      translations = guest.translations;
    }

-- An instruction is done in two parts: its execution, and then what it asks for, where it is a request.

-- what the execution of a process's next instruction does, with extension M or without
abbrev pub execution_of : Bool → Process → Execution
execution_of extension process = execution_by (table_of extension) process.registers process.memory

abbrev pub state_executed : Upshot → ProcessState
state_executed Steps = state.Running
state_executed Asks = state.Running
state_executed (Faults kind address) = state.Faulted kind address

abbrev pub process_executed : Bool → Process → Process
process_executed extension process =
    let e = execution_of extension process in
    record process { registers = e.registers; state = state_executed e.upshot; memory = e.memory }

-- The store that some calls make of a memory, where each of its bytes may be written: its address, and how many bytes it has.
abbrev pub store_made : Memory → List Call → Option (ℕ × ℕ)
store_made memory [] = None
store_made memory (Fetch address ∷ calls) = store_made memory calls
store_made memory (Load address count ∷ calls) = store_made memory calls
store_made memory (Store address bytes ∷ calls) =
    option_map_or (λ at. None) (denied_at memory (store_at address (length bytes))) (Some (address, length bytes))

unfoldable pub store_of : Bool → Process → Option (ℕ × ℕ)
store_of extension process = store_made process.memory (execution_of extension process).calls

-- the ledger after it: the touched lines become the process's own
abbrev pub ledger_stored : ℕ → Bool → Option (ℕ × ℕ) → Ledger → Ledger
ledger_stored p speculating None ledger = ledger
ledger_stored p speculating (Some store) ledger = ledger_after (event.Store speculating p (touched store.0 store.1)) ledger

-- whether that needs more units than there may be
abbrev pub exceeds : Option (ℕ × ℕ) → ℕ → ℕ → Bool
exceeds None needed limit = false
exceeds (Some store) needed limit = nat_lt limit needed

-- of the next instruction of a process: the ledger after its store, and whether there aren't units enough for that
unfoldable pub ledger_executed : ℕ → Guest → Ledger
ledger_executed p guest = ledger_stored p (is_speculating guest.process) (store_of guest.extension guest.process) guest.ledger

abbrev pub units_needed : ℕ → Guest → ℕ
units_needed p guest = units (ledger_executed p guest)

unfoldable pub is_full : ℕ → Guest → Bool
is_full p guest = exceeds (store_of guest.extension guest.process) (units_needed p guest) (unit_limit guest.frames)

-- the accesses that it tries are translated, also where it can't be done, or there aren't units enough
unfoldable pub translations_executed : ℕ → Guest → BareTranslations
translations_executed p guest =
    counted p guest.process.memory (map access_of (execution_of guest.extension guest.process).calls) guest.translations

-- Where there aren't units enough, nothing else changes, and both numbers are told. Else it is what the execution says.
abbrev pub outcome_of : ℕ → Guest → Outcome
outcome_of p guest =
    if is_full p guest
    then outcome.Full (units_needed p guest) (unit_limit guest.frames)
    else outcome_by (execution_of guest.extension guest.process).upshot

abbrev pub with_translations : BareTranslations → Guest → Guest
with_translations translations guest = record guest { translations = translations }

abbrev pub guest_refused : ℕ → Guest → Guest
guest_refused p guest = with_translations (translations_executed p guest) guest

abbrev pub guest_executed : ℕ → Guest → Guest
guest_executed p guest = record guest {
  process = process_executed guest.extension guest.process;
  ledger = ledger_executed p guest;
  translations = translations_executed p guest;
}

abbrev pub executed : ℕ → Guest → Guest
executed p guest = if is_full p guest then guest_refused p guest else guest_executed p guest

-- what the execution of a process's next instruction comes to
abbrev pub outcome_found : ℕ → Option Guest → Outcome
outcome_found p found = option_map_or (outcome_of p) found outcome.Stepped

abbrev pub came_to : Wholes → ℕ → Outcome
came_to state p = outcome_found p (guest_at state p)

abbrev pub after_execution : Wholes → ℕ → Wholes
after_execution state p = option_map_or (λ guest. with_guest state p (executed p guest)) (guest_at state p) state

-- the state that a process is left in by an instruction of which that came
abbrev pub state_left : Outcome → ProcessState → ProcessState
state_left outcome.Stepped before = before
state_left outcome.Asked before = before
state_left (outcome.Fault kind address) before = state.Faulted kind address
state_left (outcome.Full units limit) before = before

-- the state of a running process after a turn
abbrev pub state_after : Turn → ProcessState
state_after Stepped = state.Running
state_after (Wrote written) = state.Running
state_after (Exited code) = state.Exited code
state_after (Faulted kind address) = state.Faulted kind address
state_after (Full units limit) = state.Running

-- one instruction of a process, where there are units enough
abbrev pub step_of : Bool → ℕ → Process → Step
step_of extension p process = step_by (table_of extension) p process.registers process.memory

-- the process after a step, which leaves what is kept of it
abbrev pub after_step : Process → Step → Process
after_step process s = record process { registers = s.registers; state = state_after s.turn; memory = s.memory }

-- the process afterwards
abbrev pub process_after : Bool → ℕ → Process → Process
process_after extension p process = after_step process (step_of extension p process)

-- An event is one instruction of one process: what came of it, and the copying machine afterwards.
abbrev pub turn_in : ℕ → Guest → Turn
turn_in p guest =
    if is_full p guest then Full (units_needed p guest) (unit_limit guest.frames) else (step_of guest.extension p guest.process).turn

unfoldable pub translations_after : ℕ → Guest → BareTranslations
translations_after p guest = counted p guest.process.memory (step_of guest.extension p guest.process).accesses guest.translations

abbrev pub guest_stepped : ℕ → Guest → Guest
guest_stepped p guest = record guest {
  process = process_after guest.extension p guest.process;
  ledger = ledger_executed p guest;
  translations = translations_after p guest;
}

abbrev pub guest_after : ℕ → Guest → Guest
guest_after p guest =
    if is_full p guest then guest_refused p guest else guest_stepped p guest

abbrev pub turn_of : Wholes → ℕ → Turn
turn_of state p = option_map_or (turn_in p) (guest_at state p) Stepped

abbrev pub after_turn : Wholes → ℕ → Wholes
after_turn state p = option_map_or (λ guest. with_guest state p (guest_after p guest)) (guest_at state p) state

-- a process that has this memory, after what it asked for
abbrev pub after_request : Memory → Process → Request → Process
after_request memory process asked = record process { registers = asked.registers; state = state_after asked.turn; memory = memory }

-- the same, without the memory
abbrev pub answered_by : Option SavedRegs → Request → declared.Process
answered_by saved asked = record { regs = asked.registers; state = state_after asked.turn; saved = saved }

abbrev pub request_of : ℕ → Process → Request
request_of p process = request p process.registers process.memory

-- the process after what it asked for
abbrev pub answered_process : ℕ → Process → Process
answered_process p process = after_request process.memory process (request_of p process)

-- what comes of a process's request
abbrev pub asked_found : ℕ → Option Guest → Turn
asked_found p found = option_map_or (λ guest. (request_of p guest.process).turn) found Stepped

-- the accesses of a request are translated too
unfoldable pub translations_asked : ℕ → Guest → BareTranslations
translations_asked p guest = counted p guest.process.memory (request_of p guest.process).accesses guest.translations

abbrev pub guest_answered : ℕ → Guest → Guest
guest_answered p guest = record guest { process = answered_process p guest.process; translations = translations_asked p guest }

abbrev pub turn_asked : Wholes → ℕ → Turn
turn_asked state p = asked_found p (guest_at state p)

abbrev pub after_asked : Wholes → ℕ → Wholes
after_asked state p = option_map_or (λ guest. with_guest state p (guest_answered p guest)) (guest_at state p) state
