use Rattle.std.specs.Prelude.{◌≡◌, ℕ, ◌+◌, ◌==◌, ◌||◌, ◌<◌, if◌then◌else◌, true, false, Result, Ok, Err, IsSome}
use Rattle.std.specs.FinMap.{empty, values}
use Rattle.std.specs.declared.alloc.AllocError.{AllocError}
use Rattle.sizes.specs.declared.TheConstants.{FRAME_UNITS, PAGE_END}
use Rattle.ledger.specs.CopyLaws.{class_sum}
use Rattle.ledger.specs.Events.{Copy, ledger_after}
use Rattle.ledger.specs.Ledger.{is_alone, pages_of}
use Rattle.page_table.specs.Table.{Pages}
use Rattle.space_maps.specs.Spaces.{cut_space, holds_space, page_in, put_space, space_in}
use Rattle.space_ledger.specs.Calls.{NamesOnce}
use Rattle.overlay_pages.specs.State.{State, base_of, books, memory_of}
use Rattle.overlay_pages.specs.Calls.{entries_in}
use Rattle.overlay_memory.specs.View.{TranslatedView, state_of}
use Rattle.overlay_memory.specs.Room.{FitsAfter, IsFullAt, class_at, event_units}
use Rattle.overlay_memory.specs.declared.error.SpaceError.{SpaceError}
use Rattle.overlay_memory.specs.declared.error.SpaceError.TheVariants.{Full, Memory}

-- What a fork and a restore make.

-- The space `to`, which a fork makes and a restore finds, has the memory, the base and the ledger's pages of `from`; no page of it
-- awaits, and it has no mark. Nothing else changed.
pub record HasCopied (old new : State) (from to : ℕ) : Type 0 where
  pub memory : memory_of new to ≡ memory_of old from
  pub base : base_of new to ≡ base_of old from
  pub ledger : books new ≡ ledger_after (Copy from to) (books old)
  pub awaiting : (space_in new to).awaiting ≡ empty
  pub mark : (space_in new to).speculating ≡ false
  pub others : (q : ℕ) → (q ≡ to → ⊥) → space_in new q ≡ space_in old q
  pub spaces : (q : ℕ) → holds_space new q ≡ (q == to || holds_space old q)
  pub frames : new.frames ≡ old.frames
  pub zero_frame : new.zero_frame ≡ old.zero_frame

-- How a copy of a space comes out: the units after it are within the limit or exceed it; after want of memory everything is as
-- before, but that segments may have moved.
abbrev pub Copies : TranslatedView → TranslatedView → ℕ → ℕ → Result (Unit {0}) SpaceError → Type 0
Copies old new from to (Ok done) = FitsAfter (Copy from to) (state_of old) × HasCopied (state_of old) (state_of new) from to
Copies old new from to (Err (Full needed limit)) = IsFullAt old new (event_units (Copy from to) (state_of old)) needed limit
Copies old new from to (Err Memory) = FitsAfter (Copy from to) (state_of old) × (state_of new ≡ state_of old)

-- On the way.

-- the pages of a space are low
abbrev pub ArePagesLow : State → ℕ → Type 0
ArePagesLow state space = (page : ℕ) → IsSome (page_in state space page) → page < PAGE_END

-- the pages of a space await in another one
abbrev pub AwaitsAll : State → ℕ → ℕ → Type 0
AwaitsAll state from to = (space_in state to).awaiting ≡ entries_in state from

-- the units that go with a page: those of its segment and, where it is alone, those of its frame
abbrev pub page_units : State → ℕ → ℕ → ℕ
page_units state space page = (if is_alone (books state) space page then FRAME_UNITS else 0) + class_at state space page

-- units with a copy of the overlay of each page of a space
abbrev pub with_copies : ℕ → State → ℕ → ℕ
with_copies kept state space = kept + class_sum (values (pages_of (books state) space))

-- A space without a page can have those of another one, whose entries a table has.
pub record CanHave (state : State) (from to : ℕ) (table : Pages) : Type 0 where
  pub differ : from ≡ to → ⊥
  pub there : holds_space state from ≡ true
  pub unmarked : (space_in state from).speculating ≡ false
  pub space : holds_space state to ≡ true
  pub bare : (space_in state to).pages ≡ empty
  pub none_awaits : (space_in state to).awaiting ≡ empty
  pub entries : table ≡ entries_in state from
  pub once : NamesOnce state.zero_frame table
  pub low : ArePagesLow state from
  pub fits : FitsAfter (Copy from to) state

-- a space has the pages of another one
unfoldable pub with_copy : State → ℕ → ℕ → State
with_copy state from to =
    put_space state to (record { pages = (space_in state from).pages; awaiting = empty; speculating = (space_in state to).speculating })

-- how filling a new space, and one that was there, comes out
abbrev pub FillsSpace : State → State → ℕ → ℕ → Result (Unit {0}) AllocError → Type 0
FillsSpace old new from to (Ok done) = new ≡ with_copy old from to
FillsSpace old new from to (Err none) = new ≡ cut_space old to

abbrev pub RefillsSpace : State → State → ℕ → ℕ → Result (Unit {0}) AllocError → Type 0
RefillsSpace old new from to (Ok done) = new ≡ with_copy old from to
RefillsSpace old new from to (Err none) = new ≡ old
