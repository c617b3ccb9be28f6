use Rattle.std.specs.Prelude.{◌≡◌, ℕ, ◌/◌, ◌⊎◌, Bool, true, false, IsSome, Option, Some, None}
use Rattle.std.specs.Option.{is_some}
use Rattle.std.specs.FinMap.{get}
use Rattle.sizes.specs.declared.TheConstants.{PAGE_BYTES}
use Rattle.translation_cache.specs.Absent.{HasNone}
use Rattle.space_maps.specs.Spaces.{page_in, space_in}
use Rattle.overlay_pages.specs.State.{memory_of}
use Rattle.ovl_io.specs.declared.turn.Turn.{Turn}
use Rattle.ovl_io.specs.declared.turn.Turn.TheVariants as turn
use Rattle.rv_execute.specs.Registers.{Registers, next}
use Rattle.process_calls.specs.declared.calls.ProcessCall.{ProcessCall}
use Rattle.process_calls.specs.Calls.{call_at}
use Rattle.self_speculation.specs.declared.TheConstants.{ECALL}
use Rattle.self_speculation.specs.declared.requests.CallAnswer.{CallAnswer}
use Rattle.self_speculation.specs.declared.requests.CallAnswer.TheVariants.{GoesOn, Full}
use Rattle.machine_core.specs.Process.{Process}
use Rattle.machine_core.specs.declared.process.Process as declared
use Rattle.machine_core.specs.Machine.{AreLike, Machine, StaysBut, has_saved, has_space, is_marked, lists_of, spaces_of, unit_limit, whole_in, wholes}
use Rattle.machine_core.specs.Turns.{Guest, guest_of, turn_asked, with_guest}
use Rattle.machine_core.specs.PermsLaws.{HaveSamePerms}
use Rattle.self_speculation.specs.Called.{CallRow, row_after, row_is_full, row_needs, row_of, row_turn}

-- What a machine does at a request.

-- The same spaces and the same processes are there, the same pages await being shared, and where registers and state were kept of exactly
-- the processes whose spaces are marked, they still are.
pub record KeepsPairs (old new : Machine) : Type 0 where
  pub spaces : (q : ℕ) → has_space new q ≡ has_space old q
  pub awaiting : (q : ℕ) → (space_in (spaces_of new) q).awaiting ≡ (space_in (spaces_of old) q).awaiting
  pub processes : (q : ℕ) → is_some (get new.processes q) ≡ is_some (get old.processes q)
  pub kept : (q : ℕ) → is_marked old q ≡ has_saved old q → is_marked new q ≡ has_saved new q

-- what of another space was never translated still wasn't
abbrev pub KeepsUnseen : ℕ → Machine → Machine → Type 0
KeepsUnseen p old new = (q : ℕ) → (q ≡ p → ⊥) → HasNone q (lists_of old) → HasNone q (lists_of new)

-- a space has the pages that it had, with the same permissions
abbrev pub KeepsPerms : ℕ → Machine → Machine → Type 0
KeepsPerms p old new = HaveSamePerms (memory_of (spaces_of old) p) (memory_of (spaces_of new) p)

-- a turn that writes nothing and ends no process
abbrev pub IsQuietTurn : Turn → Type 0
IsQuietTurn turn.Stepped = Unit {0}
IsQuietTurn (turn.Full units limit) = Unit {0}
IsQuietTurn (turn.Wrote written) = ⊥
IsQuietTurn (turn.Exited code) = ⊥
IsQuietTurn (turn.Faulted kind address) = ⊥

-- what comes of an ECALL: what comes of it for every process, or a quiet turn
abbrev pub IsAnswer : ℕ → Machine → Turn → Type 0
IsAnswer p machine came = (came ≡ turn_asked (wholes machine) p) ⊎ IsQuietTurn came

-- a process in its place, with the registers that it had at its request, whose fetch was counted
abbrev pub whole_at : Machine → ℕ → declared.Process → Registers → Process
whole_at machine p process registers = record (whole_in (spaces_of machine) p process) { registers = registers }

abbrev pub guest_at_request : Machine → ℕ → declared.Process → Registers → Guest
guest_at_request machine p process registers = guest_of (wholes machine) (whole_at machine p process registers)

-- what comes of a row
pub record DoesRow (p : ℕ) (row : CallRow) (guest : Guest) (old : Machine) (turn : Turn) (new : Machine) : Type 0 where
  pub turn_is : turn ≡ row_turn row guest
  pub after_is : AreLike (wholes new) (with_guest (wholes old) p (row_after p row guest))
  pub others : StaysBut p old new
  pub pairs : KeepsPairs old new

abbrev pub DoesCall : ℕ → ProcessCall → declared.Process → Registers → Machine → Turn → Machine → Type 0
DoesCall p call process registers old turn new =
    let guest = guest_at_request old p process registers in
    DoesRow p (row_of p call guest.process) guest old turn new

-- the registers at a request, of which the page that its instruction was fetched from is there
abbrev pub WereAtRequest : Machine → ℕ → Registers → Registers → Type 0
WereAtRequest machine p behind at =
    (before : Registers) → behind ≡ next before → IsSome (page_in (spaces_of machine) p (before.pc / PAGE_BYTES)) → at ≡ before

-- there aren't units enough for a row: so many are needed, and so many there may be
pub record IsFullRow (needed limit : ℕ) (row : CallRow) (guest : Guest) : Type 0 where
  pub needed_is : needed ≡ row_needs row guest
  pub limit_is : limit ≡ unit_limit guest.frames
  pub full : row_is_full row guest ≡ true

-- what came of the turn of a request
abbrev pub turn_of_answer : CallAnswer → Turn
turn_of_answer GoesOn = turn.Stepped
turn_of_answer (Full needed limit) = turn.Full needed limit

-- The request of a process's own speculation that it asked for, where it may: none where it may not, and where it asked for something else.
abbrev pub FindsCall : ℕ → Bool → Machine → Option (Registers × ProcessCall) → Type 0
FindsCall p calls machine (Some (at, call)) =
    (calls ≡ true) × ((process : declared.Process) × (get machine.processes p ≡ Some process) × WereAtRequest machine p process.regs at × (call_at at ECALL ≡ Some call))
FindsCall p calls machine None =
    (calls ≡ false)
    ⊎ ((calls ≡ true) × ((process : declared.Process) × (at : Registers) × (get machine.processes p ≡ Some process) × WereAtRequest machine p process.regs at × (call_at at ECALL ≡ None)))

-- a request of a process that is there is done
abbrev pub AnswersCall : ℕ → Registers → ProcessCall → Machine → Turn → Machine → Type 0
AnswersCall p at call old came new = (process : declared.Process) × (get old.processes p ≡ Some process) × DoesCall p call process at old came new
