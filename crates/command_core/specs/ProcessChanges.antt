use Rattle.std.specs.Prelude.{ℕ, ◌/◌, not, true, false, IsTrue, [], ◌∷◌, nat_lt, if◌then◌else◌, Some, None}
use Rattle.delta_image.specs.Fine.{are_perms}
use Rattle.std.specs.Option.{option_map_or}
use Rattle.std.specs.List.{fold, range_with_len}
use Rattle.std.specs.FinMap.{insert, remove}
use Rattle.sizes.specs.declared.TheConstants.{PAGE_BYTES}
use Rattle.ledger.specs.Events as event
use Rattle.ovl_io.specs.Memory.{Memory}
use Rattle.machine_core.specs.Load.{zero_content}
use Rattle.rv_execute.specs.Registers.{Registers, with_pc, with_register}
use Rattle.script_text.specs.declared.TheConstants.{PC_NUMBER}
use Rattle.machine_core.specs.Process.{Process, Whole, is_speculating}
use Rattle.machine_core.specs.declared.process.Process as declared
use Rattle.machine_core.specs.Machine.{Machine, spaces_of, whole_in}
use Rattle.promotion.specs.declared.error.PromoteError.{PromoteError}
use Rattle.promotion.specs.declared.error.PromoteError.TheVariants as promote
use Rattle.speculation.specs.declared.error.SpeculationError.{SpeculationError}
use Rattle.speculation.specs.declared.error.SpeculationError.TheVariants as speculation
use Rattle.report_text.specs.declared.answer.Answer.{Answer}
use Rattle.report_text.specs.declared.answer.Answer.TheVariants.{Refused, Full}
use Rattle.report_text.specs.declared.answer.Code.TheVariants.{Speculating, NotSpeculating, Unmapped}
use Rattle.command_core.specs.declared.process_changes.ProcessChange.{ProcessChange}
use Rattle.command_core.specs.declared.process_changes.ProcessChange.TheVariants.{Speculate, Commit, Discard, Promote, PromoteAll, Map, Unmap, Set}
use Rattle.command_core.specs.State.{Registry, process_of, whole_of}
use Rattle.command_core.specs.Rows.{Row, TakesLast, plain_row, refused_if, refused_row}
use Rattle.command_core.specs.Giving.{MachineGives}
use Rattle.command_core.specs.Refusals.{map_refusals, unmap_refusals, by_ended, by_speculating, by_unmapped}

-- What speculation, promotion, pages that are mapped or given up, and a register that is set make of a process that is there.

-- A speculation begins: the whole is kept.
abbrev pub after_speculate : Process → Process
after_speculate process = record process { kept = Some (whole_of process) }

-- it ends, and what was kept is forgotten
abbrev pub after_commit : Process → Process
after_commit process = record process { kept = None }

-- it ends, and the whole that was kept is there again
abbrev pub after_discard : Whole → Process
after_discard whole = process_of whole

-- zero pages are there from one on; and pages go
abbrev pub pages_mapped : ℕ → ℕ → ℕ → Memory → Memory
pages_mapped perms from n memory = fold (λ m page. insert m page (zero_content perms)) memory (range_with_len from n)

abbrev pub pages_gone : ℕ → ℕ → Memory → Memory
pages_gone from n memory = fold (λ m page. remove m page) memory (range_with_len from n)

-- the process with this memory
abbrev pub with_pages : Memory → Process → Process
with_pages memory process = record process { memory = memory }

-- the process with this value of a register, or of the pc
abbrev pub set_register : ℕ → ℕ → Registers → Registers
set_register register value registers = if nat_lt register PC_NUMBER then with_register registers register value else with_pc registers value

abbrev pub after_set : ℕ → ℕ → Process → Process
after_set register value process = record process { registers = set_register register value process.registers }

-- the process in its place
abbrev pub leaves : ℕ → Process → Registry → Registry
leaves p process registry = record registry { processes = insert registry.processes p process }

-- The changes, a row each: whether it may need units, whose translations it removes, its refusals, what happens to the ledger, and what it
-- leaves.
abbrev pub process_row : ℕ → ProcessChange → Process → Registry → Row
process_row p Speculate process registry =
    plain_row true (Some p) (by_ended process.state ∷ by_speculating (is_speculating process) ∷ []) (event.Settle p) (leaves p (after_speculate process) registry)
process_row p Commit process registry =
    plain_row false (Some p) (refused_if (not (is_speculating process)) NotSpeculating ∷ []) (event.Commit p) (leaves p (after_commit process) registry)
process_row p Discard process registry =
    option_map_or (λ whole. plain_row false (Some p) [] (event.Discard p) (leaves p (after_discard whole) registry)) process.kept (refused_row NotSpeculating registry)
process_row p (Promote address) process registry =
    plain_row true (Some p) (by_speculating (is_speculating process) ∷ by_unmapped process.memory address ∷ []) (event.SettlePage p (address / PAGE_BYTES)) registry
process_row p PromoteAll process registry = plain_row true (Some p) (by_speculating (is_speculating process) ∷ []) (event.Settle p) registry
process_row p (Map address n perms) process registry =
    record (plain_row false (Some p) (map_refusals address n (is_speculating process) process.memory) (event.Map p (address / PAGE_BYTES) n)
    (leaves p (with_pages (pages_mapped perms.0 (address / PAGE_BYTES) n process.memory) process) registry)) { memory = TakesLast }
process_row p (Unmap address n) process registry =
    plain_row false (Some p) (unmap_refusals address n (is_speculating process) process.memory) (event.Unmap p (address / PAGE_BYTES) n)
    (leaves p (with_pages (pages_gone (address / PAGE_BYTES) n process.memory) process) registry)
process_row p (Set register value) process registry = plain_row false None [] event.Other (leaves p (after_set register value process) registry)

-- in the permissions of pages that are mapped W comes with R
abbrev pub IsFineChange : ProcessChange → Type 0
IsFineChange Speculate = Unit {0}
IsFineChange Commit = Unit {0}
IsFineChange Discard = Unit {0}
IsFineChange (Promote address) = Unit {0}
IsFineChange PromoteAll = Unit {0}
IsFineChange (Map address n perms) = IsTrue (are_perms perms.0)
IsFineChange (Unmap address n) = Unit {0}
IsFineChange (Set register value) = Unit {0}

-- what a machine answers of one of them, at a process that stood in its place
abbrev pub ChangesProcess : ℕ → ProcessChange → declared.Process → Machine → Answer → Machine → Type 0
ChangesProcess p change process old answer new = MachineGives (process_row p change (whole_in (spaces_of old) p process)) old answer new

-- what is answered where a speculation doesn't begin or end, and where the page of an address isn't promoted
abbrev pub speculation_answer : SpeculationError → Answer
speculation_answer speculation.Speculating = Refused Speculating
speculation_answer speculation.NotSpeculating = Refused NotSpeculating
speculation_answer (speculation.Full needed limit) = Full needed limit

abbrev pub promotion_answer : ℕ → PromoteError → Answer
promotion_answer address (promote.Unmapped at) = Refused (Unmapped address)
promotion_answer address promote.Speculating = Refused Speculating
promotion_answer address (promote.Full needed limit) = Full needed limit
