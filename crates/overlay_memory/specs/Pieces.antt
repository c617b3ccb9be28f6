use Rattle.std.specs.Prelude.{◌≡◌, ℕ, ◌+◌, ◌-◌, ◌*◌, ◌/◌, ◌<◌, ◌≤◌, ◌&&◌, Bool, true, false, not, List, length, Some, None, IfSome, Result, Ok, Err}
use Rattle.std.specs.FinMap as map
use Rattle.sizes.specs.declared.TheConstants.{LINE_BYTES, PAGE_BYTES}
use Rattle.ovl_io.specs.Memory.{with_bytes}
use Rattle.ovl_io.specs.Permissions.{permits}
use Rattle.overlay_bits.specs.Lines.{lines_between}
use Rattle.ledger.specs.Changes.{is_large, with_lines}
use Rattle.ledger.specs.Ledger.{is_alone}
use Rattle.overlay_pages.specs.State.{PageState, State, base_of, books, memory_of, seen_page}
use Rattle.overlay_pages.specs.Changes.{IsPlaced, copied, is_writable}
use Rattle.overlay_pages.specs.Calls.{entries_in}
use Rattle.overlay_pages.specs.View.{IsJoined, MemoryView, state_of}
use Rattle.overlay_pages.specs.declared.spots.FoundLine.{FoundLine}
use Rattle.overlay_memory.specs.Access.{IsFoundIn, IsUntouched, permissions_in}
use Rattle.overlay_memory.specs.declared.error.MemoryError.{MemoryError}
use Rattle.overlay_memory.specs.declared.error.MemoryError.TheVariants.{Unmapped, Forbidden, Full}
use Rattle.overlay_memory.specs.declared.error.Came.{Came}
use Rattle.overlay_memory.specs.declared.error.Came.TheVariants as came
use Rattle.space_maps.specs.Spaces.{cut_space, holds_space, of_pages, page_in, put_space, space_in}

-- What reads and stores come to, piece by piece.

-- the page of an address is there, and has the permission or lacks it
pub record IsPermitted (view : MemoryView) (space need address : ℕ) : Type 0 where
  pub page : PageState
  pub there : page_in (state_of view) space (address / PAGE_BYTES) ≡ Some page
  pub may : permits (seen_page page).perms need ≡ true
  pub joined : IsJoined view

pub record IsLacking (view : MemoryView) (space need address : ℕ) : Type 0 where
  pub page : PageState
  pub there : page_in (state_of view) space (address / PAGE_BYTES) ≡ Some page
  pub lacks : permits (seen_page page).perms need ≡ false

-- whether the byte at an address may be used so
abbrev pub Permits : MemoryView → ℕ → ℕ → ℕ → Result (Unit {0}) MemoryError → Type 0
Permits view space need address (Ok done) = IsPermitted view space need address
Permits view space need address (Err (Unmapped at)) = (at ≡ address) × (page_in (state_of view) space (address / PAGE_BYTES) ≡ None)
Permits view space need address (Err (Forbidden at)) = (at ≡ address) × IsLacking view space need address
Permits view space need address (Err (Full needed limit)) = ⊥

-- the result of an access to bytes of one line, of which that came, and what came of one with a result
abbrev pub result_at : ℕ → Came → Result (Unit {0}) MemoryError
result_at address came.Done = Ok tt
result_at address came.Unmapped = Err (Unmapped address)
result_at address came.Forbidden = Err (Forbidden address)
result_at address (came.Full needed limit) = Err (Full needed limit)

abbrev pub came_of : Result (Unit {0}) MemoryError → Came
came_of (Ok done) = came.Done
came_of (Err (Unmapped at)) = came.Unmapped
came_of (Err (Forbidden at)) = came.Forbidden
came_of (Err (Full needed limit)) = came.Full needed limit

-- the line with the byte at an address was found, which may be used so; or why it may not
pub record IsFoundFor (view : MemoryView) (space need address : ℕ) (found : FoundLine) : Type 0 where
  pub may : IsPermitted view space need address
  pub at : IsFoundIn view space address found

abbrev pub Finds : MemoryView → ℕ → ℕ → ℕ → Result FoundLine MemoryError → Type 0
Finds view space need address (Ok found) = IsFoundFor view space need address found
Finds view space need address (Err error) = Permits view space need address (Err error)

-- the lines of a page in which some bytes lie that begin at a place of it
abbrev pub lines_under : ℕ → ℕ → List ℕ
lines_under at count = lines_between (at / LINE_BYTES) ((at + count - 1) / LINE_BYTES + 1)

-- they can be written where they stand
abbrev pub AreWritable : State → ℕ → ℕ → ℕ → ℕ → Type 0
AreWritable state space page at count =
    (line : ℕ) → LINE_BYTES * line < at + count → at < LINE_BYTES * line + LINE_BYTES → is_writable state space page line ≡ true

-- Nothing but lines and frames of pages changed: which pages a space has and their permissions, what awaits, its mark, all other
-- spaces, and how many frames there are, are as before.
pub record KeepsAllElse (old new : State) (space : ℕ) : Type 0 where
  pub permissions : permissions_in new space ≡ permissions_in old space
  pub awaiting : (space_in new space).awaiting ≡ (space_in old space).awaiting
  pub mark : (space_in new space).speculating ≡ (space_in old space).speculating
  pub others : (q : ℕ) → (q ≡ space → ⊥) → space_in new q ≡ space_in old q
  pub spaces : (q : ℕ) → holds_space new q ≡ holds_space old q
  pub frames : new.frames ≡ old.frames
  pub zero_frame : new.zero_frame ≡ old.zero_frame

-- bytes were put in lines that can be written, which changes no entry and no ledger
pub record IsFilled (old new : State) (space address : ℕ) (bytes : List ℕ) : Type 0 where
  pub memory : memory_of new space ≡ with_bytes (memory_of old space) address bytes
  pub ledger : books new ≡ books old
  pub entries : entries_in new space ≡ entries_in old space
  pub base : (space_in old space).speculating ≡ true → base_of new space ≡ base_of old space
  pub bases : (page : ℕ) → IsUntouched address (length bytes) page → map.get (base_of new space) page ≡ map.get (base_of old space) page
  pub writable : (page line : ℕ) → is_writable new space page line ≡ is_writable old space page line
  pub beside : KeepsAllElse old new space

-- whether a page that was stored to is settled: it has 32 own lines or more, its space isn't speculating, and it isn't alone
abbrev pub is_to_settle : State → ℕ → ℕ → Bool
is_to_settle state space page = is_large (books state) space page && (not (space_in state space).speculating && not (is_alone (books state) space page))

-- Then it gets a new frame with its lines; else it stays.
pub record Settles (old new : State) (space page : ℕ) : Type 0 where
  pub still : is_to_settle old space page ≡ false → new ≡ old
  pub placed : is_to_settle old space page ≡ true → IfSome (page_in old space page) (λ x. IsPlaced old new space page (λ frame. copied frame x))

-- A page with own lines has 32 or more once others join them, its space isn't speculating, and it isn't alone: it is settled first.
pub record ComesToBeLarge (state : State) (space page : ℕ) (lines : List ℕ) : Type 0 where
  pub off : (space_in state space).speculating ≡ false
  pub shared : is_alone (books state) space page ≡ false
  pub overlaid : IfSome (page_in state space page) (λ x. 0 < length x.own)
  pub many : IfSome (page_in state space page) (λ x. 32 ≤ length (with_lines x.own lines))

-- a space without its pages; its mark stays
unfoldable pub emptied_space : State → ℕ → State
emptied_space state space = put_space state space (of_pages (space_in state space) map.empty)

-- a space lost its pages, and is still there; without it, all is as it would have been before
pub record IsEmptied (old new : State) (space : ℕ) : Type 0 where
  pub state : new ≡ emptied_space old space
  pub there : holds_space new space ≡ true
  pub empty : (space_in new space).pages ≡ map.empty
  pub none_awaits : (space_in new space).awaiting ≡ map.empty
  pub cut : cut_space new space ≡ cut_space old space
