use Rattle.std.proofs.Common.{◌≡◌, ℕ, Bool, true, false, cond, ap, subst, ◌∙◌, refl, Option, Some, None}
use Rattle.std.specs.FinMap.{get}
use Rattle.number_maps.specs.Keys.{get_same}
use Rattle.overlay_pages.specs.State.{memory_of}
use Rattle.ovl_io.specs.declared.turn.Turn.{Turn}
use Rattle.rv_execute.specs.Registers.{Registers}
use Rattle.process_calls.specs.declared.calls.ProcessCall.{ProcessCall}
use Rattle.process_calls.specs.declared.calls.ProcessCall.TheVariants.{Speculate, Commit, Discard}
use Rattle.machine_core.specs.Process.{Process, Whole}
use Rattle.machine_core.specs.declared.process.Process as declared
use Rattle.machine_core.specs.Machine.{Machine, Processes, spaces_of, wholes}
use Rattle.machine_core.specs.Turns.{Guest, guest_of, guest_refused}
use Rattle.machine_core.specs.PermsLaws.{HaveSamePerms, KeepsBase, LeavesPerms, after_same, kept_base, base_shown, leaves_perms, memory_shown, turn_leaves}
use Rattle.self_speculation.specs.Called.{CallRow, after_by, call_of, guest_called, row_after, row_by, row_does, row_is_full, row_of}
use Rattle.self_speculation.specs.Requests.{DoesCall, KeepsPerms, guest_at_request}
use Rattle.self_speculation.specs.Taken.{after_taken}

-- Laws: turns of a process that may speculate by itself leave which pages it has, and their permissions; for what is kept has the same ones.

call_perms : (p : ℕ) (call : ProcessCall) (process : Process) → KeepsBase process → HaveSamePerms process.memory (row_of p call process).process.memory
call_perms p call process base = by_kept call process.kept refl
  where
    by_kept : (call : ProcessCall) (o : Option Whole) → process.kept ≡ o → HaveSamePerms process.memory (row_by p process call o).process.memory
    by_kept Speculate None is q = refl
    by_kept Speculate (Some whole) is q = refl
    by_kept Commit None is q = refl
    by_kept Commit (Some whole) is q = refl
    by_kept Discard None is q = refl
    by_kept Discard (Some whole) is q = base whole is q

row_perms : (p : ℕ) (row : CallRow) (guest : Guest) → HaveSamePerms guest.process.memory row.process.memory → HaveSamePerms guest.process.memory (row_after p row guest).process.memory
row_perms p row guest same = by_full (row_is_full row guest)
  where
    by_full : (b : Bool) → HaveSamePerms guest.process.memory (cond b guest (row_does p row guest)).process.memory
    by_full true = λ q. refl
    by_full false = same

called_perms : (p : ℕ) (guest : Guest) → KeepsBase guest.process → HaveSamePerms guest.process.memory (guest_called p guest).process.memory
called_perms p guest base = by_call (call_of guest.extension guest.process)
  where
    by_call : (o : Option ProcessCall) → HaveSamePerms guest.process.memory (after_by p o guest).process.memory
    by_call None = after_same p guest
    by_call (Some call) = row_perms p (row_of p call guest.process) (guest_refused p guest) (call_perms p call guest.process base)

-- a turn
pub taken_leaves : (calls : Bool) (p : ℕ) (machine : Machine) → LeavesPerms p (wholes machine) (after_taken calls (wholes machine) p)
taken_leaves false p machine = turn_leaves p (wholes machine)
taken_leaves true p machine =
    leaves_perms p (wholes machine) (guest_called p) (λ process there. called_perms p (guest_of (wholes machine) process) (base_shown machine p process there))

-- a request that was answered
pub call_keeps : (p : ℕ) (call : ProcessCall) (process : declared.Process) (at : Registers) (old : Machine) (turn : Turn) (new : Machine)
    → DoesCall p call process at old turn new → KeepsPerms p old new
call_keeps p call process at old turn new does =
    let guest = guest_at_request old p process at in
    let row = row_of p call guest.process in
    let left = (row_after p row guest).process in
    subst (HaveSamePerms (memory_of (spaces_of old) p))
    (memory_shown new p left (ap (λ (ps : Processes). get ps p) does.after_is.processes ∙ get_same (wholes old).processes p p left refl))
    (row_perms p row guest (call_perms p call guest.process (kept_base (spaces_of old) p process)))
