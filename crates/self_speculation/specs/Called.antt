use Rattle.std.specs.Prelude.{ℕ, nat_lt, ◌&&◌, Bool, true, false, if◌then◌else◌, Option, Some, None}
use Rattle.std.specs.Option.{option_map_or}
use Rattle.ledger.specs.Events.{Event, ledger_after}
use Rattle.ledger.specs.Events as event
use Rattle.ledger.specs.Units.{units}
use Rattle.translation_cache.specs.Bare.{BareTranslations}
use Rattle.translation_cache.specs.Translations.{flushed}
use Rattle.ovl_io.specs.declared.turn.Turn.{Turn}
use Rattle.ovl_io.specs.declared.turn.Turn.TheVariants.{Stepped, Full}
use Rattle.rv_execute.specs.Execution.{Upshot, Steps, Asks, Faults}
use Rattle.rv_execute.specs.Registers.{Registers, register}
use Rattle.process_calls.specs.declared.calls.ProcessCall.{ProcessCall}
use Rattle.process_calls.specs.declared.calls.ProcessCall.TheVariants.{Speculate, Commit, Discard}
use Rattle.process_calls.specs.Calls.{gone_on, kept, numbered}
use Rattle.machine_core.specs.Process.{Process, Whole}
use Rattle.machine_core.specs.Machine.{Wholes, unit_limit}
use Rattle.machine_core.specs.Turns.{Guest, execution_of, guest_after, guest_at, guest_refused, process_after, step_of, turn_in, with_guest}
use Rattle.self_speculation.specs.declared.TheConstants.{NOT_DONE}

-- An instruction of a process that may speculate by itself: where it is ECALL and a7 has the number of one of the three requests, that is
-- done; every other instruction is what it is without them.

-- what a process asks of its own speculation by its next instruction
abbrev pub call_by : Upshot → Registers → Option ProcessCall
call_by Steps registers = None
call_by Asks registers = numbered (register registers 17)
call_by (Faults kind address) registers = None

unfoldable pub call_of : Bool → Process → Option ProcessCall
call_of extension process = call_by (execution_of extension process).upshot process.registers

-- What a request does: what happens to the ledger and whether that may need units, whether the process's translations go, and the process
-- after it.
pub record CallRow : Type 0 where
  pub event : Event
  pub may_need_units : Bool
  pub flushes : Bool
  pub process : Process

-- one that isn't done answers so, and changes nothing else
abbrev pub not_done : Process → CallRow
not_done process =
    record { event = event.Other; may_need_units = false; flushes = false; process = record process { registers = gone_on process.registers NOT_DONE } }

abbrev pub is_done : Bool → Event → Process → CallRow
is_done may_need_units event process = record { event = event; may_need_units = may_need_units; flushes = true; process = process }

-- A speculation begins: the whole is kept, with 1 in a0, and the process goes on with 0 there.
abbrev pub begun : Process → Process
begun process = record process {
  registers = gone_on process.registers 0;
  kept = Some (record { registers = kept process.registers; state = process.state; memory = process.memory });
}

-- it ends, and what was kept is forgotten
abbrev pub committed : Process → Process
committed process = record process { registers = gone_on process.registers 0; kept = None }

-- it ends, and the whole that was kept is there again
abbrev pub discarded : Whole → Process
discarded whole = record { registers = whole.registers; state = whole.state; memory = whole.memory; kept = None }

-- The requests, a row each, by what is kept: a speculation begins where there is none, and ends where there is one.
abbrev pub row_by : ℕ → Process → ProcessCall → Option Whole → CallRow
row_by p process Speculate None = is_done true (event.Settle p) (begun process)
row_by p process Speculate (Some whole) = not_done process
row_by p process Commit None = not_done process
row_by p process Commit (Some whole) = is_done false (event.Commit p) (committed process)
row_by p process Discard None = not_done process
row_by p process Discard (Some whole) = is_done false (event.Discard p) (discarded whole)

abbrev pub row_of : ℕ → ProcessCall → Process → CallRow
row_of p call process = row_by p process call process.kept

-- how many units its ledger needs, and whether there aren't as many
abbrev pub row_needs : CallRow → Guest → ℕ
row_needs row guest = units (ledger_after row.event guest.ledger)

abbrev pub row_is_full : CallRow → Guest → Bool
row_is_full row guest = row.may_need_units && nat_lt (unit_limit guest.frames) (row_needs row guest)

abbrev pub row_translations : ℕ → Bool → BareTranslations → BareTranslations
row_translations p flushes translations = if flushes then flushed p translations else translations

-- What comes of a request whose instruction was fetched. Where there aren't units enough, nothing changes, and both numbers are told.
abbrev pub row_turn : CallRow → Guest → Turn
row_turn row guest = if row_is_full row guest then Full (row_needs row guest) (unit_limit guest.frames) else Stepped

abbrev pub row_does : ℕ → CallRow → Guest → Guest
row_does p row guest = record guest {
  process = row.process;
  ledger = ledger_after row.event guest.ledger;
  translations = row_translations p row.flushes guest.translations;
}

abbrev pub row_after : ℕ → CallRow → Guest → Guest
row_after p row guest = if row_is_full row guest then guest else row_does p row guest

-- with the fetch, which is counted and tried alone
abbrev pub turn_by : ℕ → Option ProcessCall → Guest → Turn
turn_by p None guest = turn_in p guest
turn_by p (Some call) guest = row_turn (row_of p call guest.process) (guest_refused p guest)

abbrev pub after_by : ℕ → Option ProcessCall → Guest → Guest
after_by p None guest = guest_after p guest
after_by p (Some call) guest = row_after p (row_of p call guest.process) (guest_refused p guest)

-- An event where processes may speculate by themselves: what came of it, and the copying machine afterwards.
abbrev pub called_in : ℕ → Guest → Turn
called_in p guest = turn_by p (call_of guest.extension guest.process) guest

abbrev pub guest_called : ℕ → Guest → Guest
guest_called p guest = after_by p (call_of guest.extension guest.process) guest

abbrev pub called_turn : Wholes → ℕ → Turn
called_turn state p = option_map_or (called_in p) (guest_at state p) Stepped

abbrev pub after_called : Wholes → ℕ → Wholes
after_called state p = option_map_or (λ guest. with_guest state p (guest_called p guest)) (guest_at state p) state

-- One step of a process, what is kept of it included, where there are units enough: what came of it, and the process afterwards.
abbrev pub step_turn_by : Bool → ℕ → Process → Option ProcessCall → Turn
step_turn_by extension p process None = (step_of extension p process).turn
step_turn_by extension p process (Some call) = Stepped

abbrev pub step_after_by : Bool → ℕ → Process → Option ProcessCall → Process
step_after_by extension p process None = process_after extension p process
step_after_by extension p process (Some call) = (row_of p call process).process

abbrev pub called_step_turn : Bool → ℕ → Process → Turn
called_step_turn extension p process = step_turn_by extension p process (call_of extension process)

abbrev pub called_step : Bool → ℕ → Process → Process
called_step extension p process = step_after_by extension p process (call_of extension process)
