use Rattle.std.specs.Prelude.{◌≡◌, ℕ, ◌*◌, ◌==◌, Bool, true, false, Result, Ok, Err, None, IsSome}
use Rattle.sizes.specs.declared.TheConstants.{PAGE_BYTES}
use Rattle.ledger.specs.Events.{Settle, SettlePage}
use Rattle.overlay_pages.specs.State.{State}
use Rattle.overlay_memory.specs.View.{TranslatedView, state_of}
use Rattle.overlay_memory.specs.Room.{FitsAfter, IsFullAt, event_units}
use Rattle.space_maps.specs.Spaces.{page_in, space_in}
use Rattle.promotion.specs.Settled.{AreInFrames, HasSettled, IsAfter, mark_of}
use Rattle.promotion.specs.declared.error.PromoteError.{PromoteError}
use Rattle.overlay_memory.specs.declared.error.Shortage.{Shortage}
use Rattle.promotion.specs.declared.error.PromoteError.TheVariants.{Unmapped, Speculating, Full}

-- How promotion comes out.

-- the space is speculating, and nothing changed
pub record IsRefused (old new : TranslatedView) (space : ℕ) : Type 0 where
  pub marked : (space_in (state_of old) space).speculating ≡ true
  pub kept : new ≡ old

-- the space isn't speculating
abbrev pub IsUnmarked : TranslatedView → ℕ → Type 0
IsUnmarked old space = (space_in (state_of old) space).speculating ≡ false

-- the page isn't there, this is its address, and nothing changed
pub record IsAbsentAt (old new : TranslatedView) (space page at : ℕ) : Type 0 where
  pub unmarked : IsUnmarked old space
  pub absent : page_in (state_of old) space page ≡ None
  pub at_is : at ≡ page * PAGE_BYTES
  pub kept : new ≡ old

abbrev pub one_page : ℕ → ℕ → Bool
one_page page q = q == page

-- the page was settled
pub record HasPromoted (old new : State) (space page : ℕ) : Type 0 where
  pub there : IsSome (page_in old space page)
  pub fits : FitsAfter (SettlePage space page) old
  pub settled : AreInFrames (one_page page) (mark_of old space) old new space
  pub ledger : IsAfter (SettlePage space page) old new

-- how settling a page that is there comes out
abbrev pub SettlesPage : TranslatedView → TranslatedView → ℕ → ℕ → Result (Unit {0}) Shortage → Type 0
SettlesPage old new space page (Ok done) = HasPromoted (state_of old) (state_of new) space page
SettlesPage old new space page (Err shortage) = IsFullAt old new (event_units (SettlePage space page) (state_of old)) shortage.needed shortage.limit

-- how promoting a page comes out
abbrev pub Promotes : TranslatedView → TranslatedView → ℕ → ℕ → Result (Unit {0}) PromoteError → Type 0
Promotes old new space page (Ok done) = IsUnmarked old space × HasPromoted (state_of old) (state_of new) space page
Promotes old new space page (Err Speculating) = IsRefused old new space
Promotes old new space page (Err (Unmapped at)) = IsAbsentAt old new space page at
Promotes old new space page (Err (Full needed limit)) =
    IsUnmarked old space × IsSome (page_in (state_of old) space page) × IsFullAt old new (event_units (SettlePage space page) (state_of old)) needed limit

-- how promoting all pages of a space comes out
abbrev pub PromotesAll : TranslatedView → TranslatedView → ℕ → Result (Unit {0}) PromoteError → Type 0
PromotesAll old new space (Ok done) = IsUnmarked old space × FitsAfter (Settle space) (state_of old) × HasSettled (state_of old) (state_of new) space
PromotesAll old new space (Err Speculating) = IsRefused old new space
PromotesAll old new space (Err (Unmapped at)) = ⊥
PromotesAll old new space (Err (Full needed limit)) = IsUnmarked old space × IsFullAt old new (event_units (Settle space) (state_of old)) needed limit
