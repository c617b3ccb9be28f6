use Rattle.std.specs.Prelude.{◌≡◌, ℕ, zero, suc, ◌+◌, ◌*◌, ◌<◌, ◌≤◌, ◌==◌, ◌&&◌, nat_le, Bool, true, false, not, if◌then◌else◌, List, [], ◌∷◌, length, is_some, Result, Ok, Err}
use Rattle.std.specs.Option.{option_map_or}
use Rattle.sizes.specs.declared.TheConstants.{PAGE_END}
use Rattle.ovl_io.specs.Memory.{Memory}
use Rattle.ledger.specs.Changes.{is_origin_here, own_of, rebased}
use Rattle.ledger.specs.Events.{Event, Rebase, ledger_after}
use Rattle.ledger.specs.Ledger.{Ledger, holding_at, is_alone}
use Rattle.overlay_pages.specs.Changes.{units_of}
use Rattle.overlay_pages.specs.State.{State, books, memory_of}
use Rattle.overlay_memory.specs.Pieces.{KeepsAllElse}
use Rattle.overlay_memory.specs.Rebased.{CanRebase, HasRebased, IsAloneAway, apart_in, lines_apart}
use Rattle.overlay_memory.specs.View.{TranslatedView, state_of}
use Rattle.page_dedup.specs.declared.error.DedupError.{DedupError}
use Rattle.page_dedup.specs.declared.error.DedupError.TheVariants.{NotAlone, FrameHere, NotAlike}

-- How deduplication comes out.

-- One page: it was put on the other one, or nothing changed, since it isn't alone, or else the other one's frame is here, or else too
-- many lines are apart.
abbrev pub Deduplicates : TranslatedView → TranslatedView → ℕ → ℕ → ℕ → ℕ → Result (Unit {0}) DedupError → Type 0
Deduplicates old new space page from other (Ok done) =
    CanRebase (state_of old) space page from other × HasRebased (state_of old) (state_of new) space page from other
Deduplicates old new space page from other (Err NotAlone) = (is_alone (books (state_of old)) space page ≡ false) × (new ≡ old)
Deduplicates old new space page from other (Err FrameHere) =
    (is_alone (books (state_of old)) space page ≡ true) × (is_origin_here (books (state_of old)) space from other ≡ true) × (new ≡ old)
Deduplicates old new space page from other (Err (NotAlike lines)) =
    IsAloneAway (state_of old) space page from other × (lines ≡ length (apart_in (state_of old) space page from other)) × (31 < lines) × (new ≡ old)

-- whether a page is there with an origin
abbrev pub has_origin_at : Ledger → ℕ → ℕ → ℕ → Bool
has_origin_at ledger space page origin = option_map_or (λ holding. holding.origin == origin) (holding_at ledger space page) false

-- All pages of a space that another one has too, ascending, each by the ledger at that point: those that can be put on the page of the
-- same number, with the lines that are apart.

-- the lines that are apart by a ledger, since memories don't change
unfoldable pub lines_between : Memory → Memory → ℕ → Ledger → ℕ → List ℕ
lines_between mine theirs from ledger page = lines_apart (own_of ledger from page) mine page theirs page

-- whether a page can be put there
unfoldable pub can_share : Memory → Memory → ℕ → ℕ → Ledger → ℕ → Bool
can_share mine theirs space from ledger page =
    is_some (holding_at ledger from page)
    && (is_alone ledger space page && (not (is_origin_here ledger space from page) && nat_le (length (lines_between mine theirs from ledger page)) 31))

-- those of so many pages from one on
abbrev pub shares_from : Memory → Memory → ℕ → ℕ → Ledger → ℕ → ℕ → List (ℕ × ℕ × List ℕ)
shares_from mine theirs space from ledger page zero = []
shares_from mine theirs space from ledger page (suc more) =
    if can_share mine theirs space from ledger page then
    (page, page, lines_between mine theirs from ledger page)
    ∷ shares_from mine theirs space from (rebased space from ledger page page (lines_between mine theirs from ledger page)) (page + 1) more
    else shares_from mine theirs space from ledger (page + 1) more

-- how many numbers pages may have: a name that doesn't unfold by itself
unfoldable pub page_numbers : ℕ
page_numbers = PAGE_END

-- those of all pages
unfoldable pub shares_of : Memory → Memory → ℕ → ℕ → Ledger → List (ℕ × ℕ × List ℕ)
shares_of mine theirs space from ledger = shares_from mine theirs space from ledger 0 page_numbers

abbrev pub shares_in : State → ℕ → ℕ → List (ℕ × ℕ × List ℕ)
shares_in state space from = shares_of (memory_of state space) (memory_of state from) space from (books state)

-- the event by which they are put there
abbrev pub share_of : State → ℕ → ℕ → Event
share_of state space from = Rebase space from (shares_in state space from)

-- So many were put there: no memory changed, the ledger is the one after it, and at least 8 units are free for each of them that
-- weren't. All else stays.
pub record HasShared (old new : State) (space from count : ℕ) : Type 0 where
  pub count_is : count ≡ length (shares_in old space from)
  pub memories : (q : ℕ) → memory_of new q ≡ memory_of old q
  pub ledger : books new ≡ ledger_after (share_of old space from) (books old)
  pub units : units_of new + 8 * count ≤ units_of old
  pub beside : KeepsAllElse old new space

-- one of them: it was put there where it can be
abbrev pub SharesOne : TranslatedView → TranslatedView → ℕ → ℕ → ℕ → Bool → Type 0
SharesOne old new space page from true =
    (can_share (memory_of (state_of old) space) (memory_of (state_of old) from) space from (books (state_of old)) page ≡ true)
    × HasRebased (state_of old) (state_of new) space page from page
SharesOne old new space page from false =
    (can_share (memory_of (state_of old) space) (memory_of (state_of old) from) space from (books (state_of old)) page ≡ false) × (new ≡ old)
