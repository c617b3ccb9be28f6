use Rattle.std.specs.Prelude.{◌≡◌, ℕ, ◌<◌, ◌==◌, ◌&&◌, nat_eq, not, true, List, [], ◌∷◌, map, None, Bool}
use Rattle.std.specs.List.{AllByRecursion, IsDistinct, list_any}
use Rattle.std.specs.Ordering.{nat_cmp}
use Rattle.std.specs.FinMap.{FinMap, empty, get}
use Rattle.number_maps.specs.Views.{viewed}
use Rattle.ovl_io.specs.Memory.{Memory}
use Rattle.overlay_pages.specs.State.{State as Spaces, base_of, memory_of}
use Rattle.delta_spaces.specs.Gathered.{HasFitPages}
use Rattle.unit_map.specs.Pieces.{Piece, count}
use Rattle.breakpoints.specs.Breakpoints.{Breaks}
use Rattle.free_numbers.specs.Numbers.{is_in, is_number}
use Rattle.translation_cache.specs.Absent.{HasNone}
use Rattle.machine_core.specs.Machine.{Machine, has_saved, has_space, is_marked, lists_of, spaces_of, wholes}
use Rattle.command_core.specs.declared.modes.Modes.{Modes}
use Rattle.process_runs.specs.Places.{KeepsFree, NoPageAwaits, NoneGoes, OwnSpaces}
use Rattle.command_core.specs.State.{Checkpoint, State, extended, fresh}

-- What a session keeps, and the state that it shows.

-- a space that is there and has no process, as that of a checkpoint
abbrev pub HasNoProcess : Machine → ℕ → Type 0
HasNoProcess machine q = (has_space machine q ≡ true) × (get machine.processes q ≡ None)

-- what no process has was never translated
abbrev pub NoneSeen : Machine → Type 0
NoneSeen machine = (p : ℕ) → get machine.processes p ≡ None → HasNone p (lists_of machine)

-- the pages of each space are such as an image may have: at most 131,072, and in the permissions of each W comes with R
abbrev pub HaveFitPages : Machine → Type 0
HaveFitPages machine = (p : ℕ) → HasFitPages (memory_of (spaces_of machine) p)

-- A session keeps a machine, the spaces of checkpoints, and which numbers are free: those of spaces that aren't there. Each process has its
-- memory, and each other space is a checkpoint's, which has no process and no other checkpoint. No page awaits being shared, registers and
-- state are kept of exactly those processes whose spaces are marked as speculating, nothing was translated but for processes, and each space
-- could be an image.
pub record IsSession (machine : Machine) (spaces : List ℕ) (numbers : List (List ℕ)) : Type 0 where
  pub are_free : (p : ℕ) → is_in numbers p ≡ (is_number p && not (has_space machine p))
  pub in_range : (p : ℕ) → has_space machine p ≡ true → is_number p ≡ true
  pub own_space : OwnSpaces machine
  pub owned : (p : ℕ) → has_space machine p ≡ true → get machine.processes p ≡ None → list_any (λ q. q == p) spaces ≡ true
  pub none_awaits : NoPageAwaits machine
  pub kept : (p : ℕ) → is_marked machine p ≡ has_saved machine p
  pub free : AllByRecursion (HasNoProcess machine) spaces
  pub once : IsDistinct nat_eq spaces
  pub unseen : NoneSeen machine
  pub fit : HaveFitPages machine

-- what a machine is a session of, another one is too, its checkpoints are as they were, and so are the numbers of its processes
pub record KeepsSession (old new : Machine) : Type 0 where
  pub session : (spaces : List ℕ) (numbers : List (List ℕ)) → IsSession old spaces numbers → IsSession new spaces numbers
  pub free : KeepsFree old new
  pub stay : NoneGoes old new

-- what isn't the number of a process has no breakpoints
abbrev pub AreBreaksOf : Machine → Breaks → Type 0
AreBreaksOf machine breakpoints = (p : ℕ) → get machine.processes p ≡ None → get breakpoints p ≡ None

-- the state that a machine shows, with these checkpoints and breakpoints
abbrev pub session_state : Machine → List Checkpoint → Breaks → State
session_state machine checkpoints breakpoints =
    record { wholes = wholes machine; checkpoints = checkpoints; breakpoints = breakpoints }

-- The base of each space that is there: what it would be without its overlays. The state tells that of speculating processes alone.
abbrev pub Bases : Type 0
Bases = FinMap nat_cmp Memory

unfoldable pub bases_of : Spaces → Bases
bases_of spaces = viewed (λ p _. base_of spaces p) spaces.spaces

-- How many free blocks of 1, 2, 4 and 8 units the frames have, and that no two of one size are left.
unfoldable pub free_blocks_of : List Piece → List ℕ
free_blocks_of blocks = map (λ order. count order blocks) (0 ∷ 1 ∷ 2 ∷ 3 ∷ [])

abbrev pub AreSettledCounts : List ℕ → Type 0
AreSettledCounts counts = AllByRecursion (λ n. n < 2) counts

-- A session: the state, what is fixed for the whole run, the bases of all spaces, and how many free blocks of each size there are.
pub record InSession : Type 0 where
  pub state : State
  pub modes : Modes
  pub bases : Bases
  pub free_blocks : List ℕ

-- one without a process
abbrev pub fresh_session : Modes → List ℕ → InSession
fresh_session modes free_blocks = record { state = fresh modes; modes = modes; bases = empty; free_blocks = free_blocks }

-- with extension M or without it; all else stays
abbrev pub extended_session : Bool → InSession → InSession
extended_session extension session =
    record session { state = extended extension session.state; modes = record (session.modes) { extension = extension } }

-- with processes that may speculate by themselves, or may not; all else stays
abbrev pub called_session : Bool → InSession → InSession
called_session calls session = record session { modes = record (session.modes) { calls = calls } }

-- all but the processes is as it was
pub record KeepsRest (old new : InSession) : Type 0 where
  pub checkpoints : new.state.checkpoints ≡ old.state.checkpoints
  pub breakpoints : new.state.breakpoints ≡ old.state.breakpoints
  pub modes : new.modes ≡ old.modes
