use Rattle.std.specs.Prelude.{◌≡◌, ℕ, ◌&&◌, ◌||◌, Bool, true, false, if◌then◌else◌, Result, Ok, Err, IfSome}
use Rattle.std.specs.FinMap.{get}
use Rattle.ledger.specs.Alike.{AreAlike}
use Rattle.ledger.specs.Changes.{cleared, each_page, has_own, is_large}
use Rattle.ledger.specs.Events.{Event, Commit, Settle, ledger_after}
use Rattle.ledger.specs.Ledger.{Ledger, is_alone}
use Rattle.overlay_pages.specs.State.{State, base_of, books, memory_of}
use Rattle.overlay_pages.specs.Changes.{HasCopyRoom, IsPlaced, committed, copied}
use Rattle.overlay_memory.specs.View.{TranslatedView, state_of}
use Rattle.overlay_memory.specs.Room.{FitsAfter, IsFullAt, event_units}
use Rattle.overlay_memory.specs.declared.error.Shortage.{Shortage}
use Rattle.space_maps.specs.Spaces.{holds_space, page_in, space_in, altered_page}

-- What settling does.

-- The pages of a space that `which` names were settled: what processes see is as before, with its permissions; it is the base of
-- these pages, which have no own lines; every other page has its base of before. The space is marked as said, and nothing else
-- changed.
pub record AreInFrames (which : ℕ → Bool) (mark : Bool) (old new : State) (space : ℕ) : Type 0 where
  pub memory : memory_of new space ≡ memory_of old space
  pub base : (page : ℕ) → get (base_of new space) page ≡ (if which page then get (memory_of old space) page else get (base_of old space) page)
  pub own : (page : ℕ) → which page ≡ true → has_own (books new) space page ≡ false
  pub awaiting : (space_in new space).awaiting ≡ (space_in old space).awaiting
  pub marked : (space_in new space).speculating ≡ mark
  pub others : (q : ℕ) → (q ≡ space → ⊥) → space_in new q ≡ space_in old q
  pub spaces : (q : ℕ) → holds_space new q ≡ holds_space old q
  pub frames : new.frames ≡ old.frames
  pub zero_frame : new.zero_frame ≡ old.zero_frame

-- whether a space is speculating
abbrev pub mark_of : State → ℕ → Bool
mark_of state space = (space_in state space).speculating

-- all pages of a space, and those that are alone
abbrev pub every_page : ℕ → Bool
every_page page = true

abbrev pub alone_in : State → ℕ → ℕ → Bool
alone_in state space page = is_alone (books state) space page

-- the ledger is the one after an event, but for the numbers of origins
abbrev pub IsAfter : Event → State → State → Type 0
IsAfter event old new = AreAlike (books new) (ledger_after event (books old))

-- the ledger in which each page of a space that is alone lost its own lines
unfoldable pub without_alone : ℕ → Ledger → Ledger
without_alone space before = each_page before space (λ ledger page. if is_alone before space page then cleared ledger space page else ledger)

-- no page of a space that is alone has own lines
abbrev pub NoneAlone : State → ℕ → Type 0
NoneAlone state space = (page : ℕ) → is_alone (books state) space page ≡ true → has_own (books state) space page ≡ false

-- each page of a space that is alone was settled
pub record HasCommittedAlone (old new : State) (space : ℕ) : Type 0 where
  pub settled : AreInFrames (alone_in old space) (mark_of old space) old new space
  pub ledger : books new ≡ without_alone space (books old)

-- each page of a space was settled
pub record HasSettled (old new : State) (space : ℕ) : Type 0 where
  pub settled : AreInFrames every_page (mark_of old space) old new space
  pub ledger : IsAfter (Settle space) old new

-- the pages of a space that are alone, and those that have 32 own lines or more
abbrev pub alone_or_large_in : State → ℕ → ℕ → Bool
alone_or_large_in state space page = is_alone (books state) space page || is_large (books state) space page

-- each of them was settled
pub record HasCommittedPages (old new : State) (space : ℕ) : Type 0 where
  pub settled : AreInFrames (alone_or_large_in old space) (mark_of old space) old new space
  pub ledger : IsAfter (Commit space) old new

-- how settling a space comes out: each page is settled, or the units after that exceed the limit and nothing changed
abbrev pub Settles : TranslatedView → TranslatedView → ℕ → Result (Unit {0}) Shortage → Type 0
Settles old new space (Ok done) = FitsAfter (Settle space) (state_of old) × HasSettled (state_of old) (state_of new) space
Settles old new space (Err shortage) = IsFullAt old new (event_units (Settle space) (state_of old)) shortage.needed shortage.limit

-- What is done to one page.

-- its own lines go into its frame, where it has any and is alone
unfoldable pub with_committed : State → ℕ → ℕ → State
with_committed state space page =
    if has_own (books state) space page && is_alone (books state) space page then altered_page committed state space page else state

-- it gets a new frame, where it has own lines
abbrev pub CopiesOwnWhere : Bool → State → State → ℕ → ℕ → Type 0
CopiesOwnWhere true old new space page = IfSome (page_in old space page) (λ x. IsPlaced old new space page (λ frame. copied frame x))
CopiesOwnWhere false old new space page = new ≡ old

abbrev pub CopiesOwn : State → State → ℕ → ℕ → Type 0
CopiesOwn old new space page = CopiesOwnWhere (has_own (books old) space page) old new space page

-- its own lines go into its frame where it is alone, and it gets a new frame where it isn't, and has 32 own lines or more
abbrev pub CommitsWhere : Bool → Bool → State → State → ℕ → ℕ → Type 0
CommitsWhere true large old new space page = new ≡ altered_page committed old space page
CommitsWhere false true old new space page = CopiesOwnWhere true old new space page
CommitsWhere false false old new space page = new ≡ old

abbrev pub CommitsPage : State → State → ℕ → ℕ → Type 0
CommitsPage old new space page = CommitsWhere (is_alone (books old) space page) (is_large (books old) space page) old new space page

-- it can be copied: it isn't alone, and the units suffice
pub record CanCopy (state : State) (space page : ℕ) : Type 0 where
  pub shared : is_alone (books state) space page ≡ false
  pub room : HasCopyRoom state space page

abbrev pub CanCopyOwn : State → ℕ → ℕ → Type 0
CanCopyOwn state space page = has_own (books state) space page ≡ true → CanCopy state space page
