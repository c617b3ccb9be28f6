use Rattle.std.specs.Prelude.{◌≡◌, ℕ, Bool, false, true, List, [], Option, Some, None, Result, Ok, Err, refl}
use Rattle.std.specs.Option.{is_some, option_map_or}
use Rattle.std.specs.FinMap.{get}
use Rattle.ledger.specs.Events as event
use Rattle.machine_core.specs.Process.{Process, Whole}
use Rattle.rv_asm.specs.declared.error.AsmError.{AsmError}
use Rattle.rv_asm.specs.Assembly.{assembled}
use Rattle.delta_image.specs.declared.delta.Delta.{Delta}
use Rattle.report_text.specs.declared.answer.Code.{Code}
use Rattle.report_text.specs.declared.answer.Code.TheVariants.{NoCheckpoint, NoProcess, NotSpeculating}
use Rattle.script_text.specs.declared.command.Command.{Command}
use Rattle.script_text.specs.declared.command.Command.TheVariants as command
use Rattle.command_core.specs.declared.modes.Modes.{Modes}
use Rattle.command_core.specs.declared.process_changes.ProcessChange.{ProcessChange}
use Rattle.command_core.specs.declared.process_changes.ProcessChange.TheVariants.{Speculate, Commit, Discard, Promote, PromoteAll, Map, Unmap, Set}
use Rattle.command_core.specs.State.{Checkpoint, Registry, State, registry_of}
use Rattle.command_core.specs.Rows.{Row, plain_row, refused_row, registered}
use Rattle.command_core.specs.Giving.{is_full_answer}
use Rattle.command_core.specs.Copies.{fork_row}
use Rattle.command_core.specs.ProcessChanges.{after_discard, leaves, process_row}
use Rattle.command_core.specs.Checkpoints.{checkpoint_named, checkpoint_row, forget_row, on_checkpoint, restore_row}
use Rattle.command_core.specs.Images.{delta_said, import_by, import_over, import_row, import_where}
use Rattle.command_core.specs.Debugging.{break_row, poke_row, unbreak_row}
use Rattle.command_core.specs.Changes.{LedgerTold, TellsCounts, TellsDedup, TellsDedupAll, asm_by, change_row, drop_row, ledger_row, on_process, row_in, told_by_ledger}
use Rattle.command_core.specs.Commands.{Rules, change_told, ledger_done, performed_by}

-- The commands case by case: those that take turns or print, each for itself; those that are told by the ledger; and all others as changes,
-- each by its row. What holds of a command by the rules of a machine, or of two machines at once, is shown case by case of this.

pub data GoesBy {S T : Type 0} (x : Rules S) (y : Rules T) (modes : Modes) (file : List ℕ) : Command → Type 0 where
  ByExec : (name : List ℕ) (turns : ℕ) → GoesBy x y modes file (command.Exec name turns)
  ByRun : (turns : ℕ) → GoesBy x y modes file (command.Run turns)
  ByStep : (p turns : ℕ) → GoesBy x y modes file (command.Step p turns)
  ByList : GoesBy x y modes file command.List
  ByRegs : (p : ℕ) → GoesBy x y modes file (command.Regs p)
  ByDump : (p address count : ℕ) → GoesBy x y modes file (command.Dump p address count)
  ByDisasm : (p address words : ℕ) → GoesBy x y modes file (command.Disasm p address words)
  ByExport : (name base : List ℕ) → GoesBy x y modes file (command.Export name base)
  ByLedger : (c : Command) (tells : LedgerTold) → ((state : S) → performed_by x modes file c state ≡ x.by_ledger (ledger_done tells) state)
      → ((state : T) → performed_by y modes file c state ≡ y.by_ledger (ledger_done tells) state) → told_by_ledger c ≡ Some tells → GoesBy x y modes file c
  ByChange : (c : Command) → ((state : S) → performed_by x modes file c state ≡ change_told x file c state)
      → ((state : T) → performed_by y modes file c state ≡ change_told y file c state) → told_by_ledger c ≡ None → GoesBy x y modes file c

pub goes_by : {S T : Type 0} (x : Rules S) (y : Rules T) (modes : Modes) (file : List ℕ) (c : Command) → GoesBy x y modes file c
goes_by x y modes file (command.Exec name turns) = ByExec name turns
goes_by x y modes file (command.Run turns) = ByRun turns
goes_by x y modes file (command.Step p turns) = ByStep p turns
goes_by x y modes file command.List = ByList
goes_by x y modes file command.Stats = ByLedger command.Stats TellsCounts (λ state. refl) (λ state. refl) refl
goes_by x y modes file (command.Dedup p address q other) =
    ByLedger (command.Dedup p address q other) (TellsDedup p address q other) (λ state. refl) (λ state. refl) refl
goes_by x y modes file (command.DedupAll p q) = ByLedger (command.DedupAll p q) (TellsDedupAll p q) (λ state. refl) (λ state. refl) refl
goes_by x y modes file (command.Regs p) = ByRegs p
goes_by x y modes file (command.Dump p address count) = ByDump p address count
goes_by x y modes file (command.Disasm p address words) = ByDisasm p address words
goes_by x y modes file (command.Export name base) = ByExport name base
goes_by x y modes file (command.Load name) = ByChange (command.Load name) (λ state. refl) (λ state. refl) refl
goes_by x y modes file (command.Asm name) = ByChange (command.Asm name) (λ state. refl) (λ state. refl) refl
goes_by x y modes file (command.Fork p) = ByChange (command.Fork p) (λ state. refl) (λ state. refl) refl
goes_by x y modes file (command.Checkpoint p name) = ByChange (command.Checkpoint p name) (λ state. refl) (λ state. refl) refl
goes_by x y modes file (command.Restore p name) = ByChange (command.Restore p name) (λ state. refl) (λ state. refl) refl
goes_by x y modes file (command.Forget name) = ByChange (command.Forget name) (λ state. refl) (λ state. refl) refl
goes_by x y modes file (command.Import name base from) = ByChange (command.Import name base from) (λ state. refl) (λ state. refl) refl
goes_by x y modes file (command.Speculate p) = ByChange (command.Speculate p) (λ state. refl) (λ state. refl) refl
goes_by x y modes file (command.Commit p) = ByChange (command.Commit p) (λ state. refl) (λ state. refl) refl
goes_by x y modes file (command.Discard p) = ByChange (command.Discard p) (λ state. refl) (λ state. refl) refl
goes_by x y modes file (command.Promote p address) = ByChange (command.Promote p address) (λ state. refl) (λ state. refl) refl
goes_by x y modes file (command.PromoteAll p) = ByChange (command.PromoteAll p) (λ state. refl) (λ state. refl) refl
goes_by x y modes file command.Compact = ByChange command.Compact (λ state. refl) (λ state. refl) refl
goes_by x y modes file (command.Map p address n perms) = ByChange (command.Map p address n perms) (λ state. refl) (λ state. refl) refl
goes_by x y modes file (command.Unmap p address n) = ByChange (command.Unmap p address n) (λ state. refl) (λ state. refl) refl
goes_by x y modes file (command.Drop p) = ByChange (command.Drop p) (λ state. refl) (λ state. refl) refl
goes_by x y modes file (command.Poke p address bytes) = ByChange (command.Poke p address bytes) (λ state. refl) (λ state. refl) refl
goes_by x y modes file (command.Set p register value) = ByChange (command.Set p register value) (λ state. refl) (λ state. refl) refl
goes_by x y modes file (command.Break p address) = ByChange (command.Break p address) (λ state. refl) (λ state. refl) refl
goes_by x y modes file (command.Unbreak p address) = ByChange (command.Unbreak p address) (λ state. refl) (λ state. refl) refl

-- No row says by itself that units don't suffice.

on_process_itself : (p : ℕ) (row : Process → Registry → Row) → ((process : Process) (registry : Registry) → is_full_answer (row process registry).answer ≡ false)
    → (registry : Registry) → is_full_answer (on_process p row registry).answer ≡ false
on_process_itself p row each registry = by_found (get registry.processes p)
  where
    by_found : (o : Option Process) → is_full_answer (option_map_or (λ process. row process registry) o (refused_row NoProcess registry)).answer ≡ false
    by_found None = refl
    by_found (Some process) = each process registry

on_checkpoint_itself : (name : List ℕ) (registry : Registry) → is_full_answer (on_checkpoint name (forget_row name) registry).answer ≡ false
on_checkpoint_itself name registry = by_found (checkpoint_named name registry.checkpoints)
  where
    by_found : (o : Option Checkpoint) → is_full_answer (option_map_or (λ x. forget_row name x registry) o (refused_row NoCheckpoint registry)).answer ≡ false
    by_found None = refl
    by_found (Some x) = refl

overlay_itself : (p : ℕ) (change : ProcessChange) (process : Process) (registry : Registry) → is_full_answer (process_row p change process registry).answer ≡ false
overlay_itself p Speculate process registry = refl
overlay_itself p Commit process registry = refl
overlay_itself p Discard process registry = by_kept process.kept
  where
    by_kept : (o : Option Whole) → is_full_answer (option_map_or (λ whole. plain_row false (Some p) [] (event.Discard p) (leaves p (after_discard whole) registry)) o (refused_row NotSpeculating registry)).answer ≡ false
    by_kept None = refl
    by_kept (Some whole) = refl
overlay_itself p (Promote address) process registry = refl
overlay_itself p PromoteAll process registry = refl
overlay_itself p (Map address n perms) process registry = refl
overlay_itself p (Unmap address n) process registry = refl
overlay_itself p (Set register value) process registry = refl

pub asm_itself : (r : Result (List ℕ) AsmError) (registry : Registry) → is_full_answer (asm_by r registry).answer ≡ false
asm_itself (Ok file) registry = refl
asm_itself (Err e) registry = refl

import_under_itself : (found : Result Delta Code) (name : List ℕ) (x : Checkpoint) (registry : Registry) → is_full_answer (import_by found name x registry).answer ≡ false
import_under_itself (Ok delta) name x registry = refl
import_under_itself (Err code) name x registry = refl

pub import_itself : (name base file : List ℕ) (registry : Registry) → is_full_answer (import_row name base file registry).answer ≡ false
import_itself name base file registry = by_taken (is_some (checkpoint_named name registry.checkpoints))
  where
    by_found : (o : Option Checkpoint) → is_full_answer (import_over o name file registry).answer ≡ false
    by_found None = refl
    by_found (Some x) = import_under_itself (delta_said file) name x registry

    by_taken : (taken : Bool) → is_full_answer (import_where taken name base file registry).answer ≡ false
    by_taken true = refl
    by_taken false = by_found (checkpoint_named base registry.checkpoints)

pub change_itself : (file : List ℕ) (c : Command) (registry : Registry) → is_full_answer (change_row file c registry).answer ≡ false
change_itself file (command.Fork p) registry = on_process_itself p (fork_row p) (λ process registry. refl) registry
change_itself file (command.Checkpoint p name) registry = on_process_itself p (checkpoint_row p name) (λ process registry. refl) registry
change_itself file (command.Restore p name) registry = on_process_itself p (restore_row p name) (λ process registry. refl) registry
change_itself file (command.Drop p) registry = on_process_itself p (drop_row p) (λ process registry. refl) registry
change_itself file (command.Poke p address bytes) registry = on_process_itself p (poke_row p address bytes) (λ process registry. refl) registry
change_itself file (command.Break p address) registry = on_process_itself p (break_row p address) (λ process registry. refl) registry
change_itself file (command.Unbreak p address) registry = on_process_itself p (unbreak_row p address) (λ process registry. refl) registry
change_itself file (command.Speculate p) registry = on_process_itself p (process_row p Speculate) (overlay_itself p Speculate) registry
change_itself file (command.Commit p) registry = on_process_itself p (process_row p Commit) (overlay_itself p Commit) registry
change_itself file (command.Discard p) registry = on_process_itself p (process_row p Discard) (overlay_itself p Discard) registry
change_itself file (command.Promote p address) registry = on_process_itself p (process_row p (Promote address)) (overlay_itself p (Promote address)) registry
change_itself file (command.PromoteAll p) registry = on_process_itself p (process_row p PromoteAll) (overlay_itself p PromoteAll) registry
change_itself file (command.Map p address n perms) registry = on_process_itself p (process_row p (Map address n perms)) (overlay_itself p (Map address n perms)) registry
change_itself file (command.Unmap p address n) registry = on_process_itself p (process_row p (Unmap address n)) (overlay_itself p (Unmap address n)) registry
change_itself file (command.Set p register value) registry = on_process_itself p (process_row p (Set register value)) (overlay_itself p (Set register value)) registry
change_itself file (command.Load name) registry = refl
change_itself file (command.Asm name) registry = asm_itself (assembled file) registry
change_itself file (command.Forget name) registry = on_checkpoint_itself name registry
change_itself file (command.Import name base from) registry = import_itself name base file registry
change_itself file command.Compact registry = refl
change_itself file (command.Exec name turns) registry = refl
change_itself file (command.Run turns) registry = refl
change_itself file (command.Step p turns) registry = refl
change_itself file (command.Regs p) registry = refl
change_itself file (command.Export name base) registry = refl
change_itself file (command.Dump p address n) registry = refl
change_itself file (command.Disasm p address n) registry = refl
change_itself file command.List registry = refl
change_itself file command.Stats registry = refl
change_itself file (command.Dedup p address q other) registry = refl
change_itself file (command.DedupAll p q) registry = refl

pub row_itself : (file : List ℕ) (c : Command) (state : State) → is_full_answer (row_in file c state).answer ≡ false
row_itself file c state = by_told (told_by_ledger c)
  where
    by_told : (tells : Option LedgerTold)
        → is_full_answer (option_map_or (λ tells. ledger_row tells) tells (registered (change_row file c)) state).answer ≡ false
    by_told None = change_itself file c (registry_of state)
    by_told (Some TellsCounts) = refl
    by_told (Some (TellsDedup p address q other)) = refl
    by_told (Some (TellsDedupAll p q)) = refl
