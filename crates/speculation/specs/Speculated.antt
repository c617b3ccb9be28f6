use Rattle.std.specs.Prelude.{◌≡◌, ℕ, Bool, true, false, if◌then◌else◌, Result, Ok, Err}
use Rattle.ledger.specs.Changes.{has_own}
use Rattle.ledger.specs.Events.{Commit, Discard, Settle, ledger_after}
use Rattle.overlay_pages.specs.Changes.{discarded}
use Rattle.overlay_pages.specs.State.{State, base_of, books, memory_of}
use Rattle.overlay_memory.specs.View.{TranslatedView, state_of}
use Rattle.overlay_memory.specs.Room.{FitsAfter, IsFullAt, event_units}
use Rattle.space_maps.specs.Spaces.{holds_space, space_in, altered_page}
use Rattle.promotion.specs.Settled.{AreInFrames, IsAfter, alone_or_large_in, every_page, mark_of}
use Rattle.speculation.specs.declared.error.SpeculationError.{SpeculationError}
use Rattle.speculation.specs.declared.error.SpeculationError.TheVariants.{Speculating, NotSpeculating, Full}

-- What speculation does.

-- the space has a mark, or none, and nothing changed
pub record HadMark (mark : Bool) (old new : TranslatedView) (space : ℕ) : Type 0 where
  pub mark_is : mark_of (state_of old) space ≡ mark
  pub kept : new ≡ old

-- Each page was settled, so that the base is what processes see, and the space is marked.
pub record HasStarted (old new : State) (space : ℕ) : Type 0 where
  pub settled : AreInFrames every_page true old new space
  pub base : base_of new space ≡ memory_of new space
  pub ledger : IsAfter (Settle space) old new

-- Each page that is alone was settled, and each that has 32 own lines or more; the others have their overlays, and the space has no
-- mark.
pub record HasCommitted (old new : State) (space : ℕ) : Type 0 where
  pub settled : AreInFrames (alone_or_large_in old space) false old new space
  pub ledger : IsAfter (Commit space) old new

-- The base of before is what processes see, no page has own lines, and the space is marked as said. Nothing else changed.
pub record HasDiscarded (mark : Bool) (old new : State) (space : ℕ) : Type 0 where
  pub memory : memory_of new space ≡ base_of old space
  pub base : base_of new space ≡ base_of old space
  pub ledger : books new ≡ ledger_after (Discard space) (books old)
  pub own : (page : ℕ) → has_own (books new) space page ≡ false
  pub awaiting : (space_in new space).awaiting ≡ (space_in old space).awaiting
  pub marked : (space_in new space).speculating ≡ mark
  pub others : (q : ℕ) → (q ≡ space → ⊥) → space_in new q ≡ space_in old q
  pub spaces : (q : ℕ) → holds_space new q ≡ holds_space old q
  pub frames : new.frames ≡ old.frames
  pub zero_frame : new.zero_frame ≡ old.zero_frame

-- How the calls come out.

abbrev pub Starts : TranslatedView → TranslatedView → ℕ → Result (Unit {0}) SpeculationError → Type 0
Starts old new space (Ok done) =
    (mark_of (state_of old) space ≡ false) × FitsAfter (Settle space) (state_of old) × HasStarted (state_of old) (state_of new) space
Starts old new space (Err Speculating) = HadMark true old new space
Starts old new space (Err NotSpeculating) = ⊥
Starts old new space (Err (Full needed limit)) =
    (mark_of (state_of old) space ≡ false) × IsFullAt old new (event_units (Settle space) (state_of old)) needed limit

abbrev pub Commits : TranslatedView → TranslatedView → ℕ → Result (Unit {0}) SpeculationError → Type 0
Commits old new space (Ok done) = (mark_of (state_of old) space ≡ true) × HasCommitted (state_of old) (state_of new) space
Commits old new space (Err Speculating) = ⊥
Commits old new space (Err NotSpeculating) = HadMark false old new space
Commits old new space (Err (Full needed limit)) = ⊥

abbrev pub Discards : TranslatedView → TranslatedView → ℕ → Result (Unit {0}) SpeculationError → Type 0
Discards old new space (Ok done) = (mark_of (state_of old) space ≡ true) × HasDiscarded false (state_of old) (state_of new) space
Discards old new space (Err Speculating) = ⊥
Discards old new space (Err NotSpeculating) = HadMark false old new space
Discards old new space (Err (Full needed limit)) = ⊥

-- On the way.

-- each overlay of a space is given up, and its mark stays
abbrev pub DiscardsAll : State → State → ℕ → Type 0
DiscardsAll old new space = HasDiscarded (mark_of old space) old new space

-- the overlay of a page is given up, where it has one
unfoldable pub with_discarded : State → ℕ → ℕ → State
with_discarded state space page = if has_own (books state) space page then altered_page discarded state space page else state
