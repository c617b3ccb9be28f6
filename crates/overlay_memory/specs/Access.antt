use Rattle.std.specs.Prelude.{◌≡◌, ℕ, ◌+◌, ◌*◌, ◌/◌, ◌%◌, ◌<◌, ◌≤◌, true, List, length, Option, Some, None, IsSome, Result, Ok, Err}
use Rattle.std.specs.FinMap.{FinMap, get}
use Rattle.std.specs.Ordering.{nat_cmp}
use Rattle.number_maps.specs.Views.{viewed}
use Rattle.sizes.specs.declared.TheConstants.{FRAME_UNITS, LINE_BYTES, PAGE_BYTES, PAGE_LINES}
use Rattle.ovl_io.specs.Memory.{first_denied, with_bytes}
use Rattle.ovl_io.specs.Permissions.{writable}
use Rattle.ovl_io.specs.declared.perms.Perms.{Perms}
use Rattle.ledger.specs.Alike.{AreAlike}
use Rattle.ledger.specs.Ledger.{Ledger}
use Rattle.ledger.specs.Events.{Store, ledger_after}
use Rattle.ledger.specs.Touched.{touched}
use Rattle.ledger.specs.Units.{units}
use Rattle.page_table.specs.declared.entry.PageEntry.{PageEntry}
use Rattle.overlay_pages.specs.Lines.{lines_of_bytes}
use Rattle.overlay_pages.specs.State.{PageState, State, base_of, books, memory_of}
use Rattle.overlay_pages.specs.Changes.{IsPlaced, limit_of, units_of, whole_page}
use Rattle.overlay_pages.specs.Calls.{AreMapped}
use Rattle.overlay_pages.specs.View.{MemoryView, state_of}
use Rattle.overlay_pages.specs.Spots.{FindsLine, IsFoundAt}
use Rattle.overlay_pages.specs.declared.spots.FoundLine.{FoundLine}
use Rattle.overlay_memory.specs.Room.{IsFullFor}
use Rattle.overlay_memory.specs.declared.error.MemoryError.{MemoryError}
use Rattle.overlay_memory.specs.declared.error.MemoryError.TheVariants.{Unmapped, Forbidden, Full}
use Rattle.overlay_memory.specs.declared.error.SpaceError.{SpaceError}
use Rattle.overlay_memory.specs.declared.error.SpaceError.TheVariants as refused
use Rattle.space_maps.specs.Spaces.{holds_space, page_in, space_in}

-- How reads and stores come out.

-- Each byte may be used, or the first that may not is at this address and its page isn't there, or lacks the need.
abbrev pub IsAllowed : State → ℕ → ℕ → ℕ → ℕ → Type 0
IsAllowed state space need address count = first_denied (memory_of state space) need address count ≡ None

pub record IsUnmappedAt (state : State) (space need address count at : ℕ) : Type 0 where
  pub first : first_denied (memory_of state space) need address count ≡ Some at
  pub absent : get (memory_of state space) (at / PAGE_BYTES) ≡ None

pub record IsForbiddenAt (state : State) (space need address count at : ℕ) : Type 0 where
  pub first : first_denied (memory_of state space) need address count ≡ Some at
  pub there : IsSome (get (memory_of state space) (at / PAGE_BYTES))

-- how a read comes out
abbrev pub Reads : State → ℕ → ℕ → ℕ → ℕ → Result (Unit {0}) MemoryError → Type 0
Reads state space need address count (Ok done) = IsAllowed state space need address count
Reads state space need address count (Err (Unmapped at)) = IsUnmappedAt state space need address count at
Reads state space need address count (Err (Forbidden at)) = IsForbiddenAt state space need address count at
Reads state space need address count (Err (Full needed limit)) = ⊥

-- The line with the byte at an address was found, and what looking for it comes to.
abbrev pub IsFoundIn : MemoryView → ℕ → ℕ → FoundLine → Type 0
IsFoundIn view space address found = IsFoundAt view space (address / PAGE_BYTES) (address / LINE_BYTES % PAGE_LINES) found

abbrev pub FindsIn : MemoryView → ℕ → ℕ → Option FoundLine → Type 0
FindsIn view space address result = FindsLine view space (address / PAGE_BYTES) (address / LINE_BYTES % PAGE_LINES) result

-- the ledger after a store
abbrev pub stored_books : State → ℕ → ℕ → ℕ → Ledger
stored_books state space address count = ledger_after (Store (space_in state space).speculating space (touched address count)) (books state)

-- there are units enough for it
abbrev pub FitsStored : State → ℕ → ℕ → ℕ → Type 0
FitsStored state space address count = units (stored_books state space address count) ≤ limit_of state

-- where a line of a page begins
abbrev pub line_address : ℕ → ℕ → ℕ
line_address page line = PAGE_BYTES * page + LINE_BYTES * line

-- which pages a space has, and the permissions of each
unfoldable pub permissions_in : State → ℕ → FinMap nat_cmp Perms
permissions_in state space = viewed (λ _ (x : PageState). x.entry.perms) (space_in state space).pages

-- no byte of a store lies in a page
abbrev pub IsUntouched : ℕ → ℕ → ℕ → Type 0
IsUntouched address count page = (k : ℕ) → k < count → (address + k) / PAGE_BYTES ≡ page → ⊥

-- Bytes were stored: they stand in the memory of the space, the ledger is that after the store up to the numbers of origins, and
-- which pages there are and their permissions are as before, as is all else. The base of a space that is speculating stays, and
-- of any space that of each page in which no byte lies.
pub record IsStored (old new : State) (space address : ℕ) (bytes : List ℕ) : Type 0 where
  pub memory : memory_of new space ≡ with_bytes (memory_of old space) address bytes
  pub ledger : AreAlike (books new) (stored_books old space address (length bytes))
  pub base : (space_in old space).speculating ≡ true → base_of new space ≡ base_of old space
  pub bases : (page : ℕ) → IsUntouched address (length bytes) page → get (base_of new space) page ≡ get (base_of old space) page
  pub permissions : permissions_in new space ≡ permissions_in old space
  pub awaiting : (space_in new space).awaiting ≡ (space_in old space).awaiting
  pub mark : (space_in new space).speculating ≡ (space_in old space).speculating
  pub others : (q : ℕ) → (q ≡ space → ⊥) → space_in new q ≡ space_in old q
  pub spaces : (q : ℕ) → holds_space new q ≡ holds_space old q
  pub frames : new.frames ≡ old.frames
  pub zero_frame : new.zero_frame ≡ old.zero_frame

-- how a store comes out
abbrev pub Stores : MemoryView → MemoryView → ℕ → ℕ → List ℕ → Result (Unit {0}) MemoryError → Type 0
Stores old new space address bytes (Ok done) =
    IsAllowed (state_of old) space writable address (length bytes) × IsStored (state_of old) (state_of new) space address bytes
Stores old new space address bytes (Err (Unmapped at)) = IsUnmappedAt (state_of old) space writable address (length bytes) at × (new ≡ old)
Stores old new space address bytes (Err (Forbidden at)) = IsForbiddenAt (state_of old) space writable address (length bytes) at × (new ≡ old)
Stores old new space address bytes (Err (Full needed limit)) =
    IsAllowed (state_of old) space writable address (length bytes) × IsFullFor state_of old new (units (stored_books (state_of old) space address (length bytes))) needed limit

-- how a page is placed: in a new frame, with these bytes; after want of memory, which comes only where the units would have been
-- within the limit, segments may have moved
abbrev pub Places : MemoryView → MemoryView → ℕ → ℕ → (ℕ → PageEntry) → List ℕ → Result (Unit {0}) SpaceError → Type 0
Places old new space page entry bytes (Ok done) =
    IsPlaced (state_of old) (state_of new) space page (λ frame. whole_page (entry frame) (lines_of_bytes bytes))
    × (units_of (state_of new) ≡ units_of (state_of old) + FRAME_UNITS)
Places old new space page entry bytes (Err (refused.Full needed limit)) = IsFullFor state_of old new (units_of (state_of old) + FRAME_UNITS) needed limit
Places old new space page entry bytes (Err refused.Memory) =
    (units_of (state_of old) + FRAME_UNITS ≤ limit_of (state_of old)) × (state_of new ≡ state_of old)

-- the least of the n pages from `from` on that isn't there, or that all are
abbrev pub IsFirstAbsent : State → ℕ → ℕ → ℕ → Option ℕ → Type 0
IsFirstAbsent state space from n None = AreMapped state space from n
IsFirstAbsent state space from n (Some found) =
    (from ≤ found) × (found < from + n) × (page_in state space found ≡ None) × ((q : ℕ) → from ≤ q → q < found → IsSome (page_in state space q))
