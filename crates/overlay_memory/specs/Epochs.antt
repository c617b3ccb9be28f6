use Rattle.std.specs.Prelude.{◌≡◌, ℕ, ◌+◌, ◌*◌, ◌%◌, ◌<◌, ◌≤◌, List, length, map, cond, nat_eq, replicate, slice_index_or, slice_set}
use Rattle.std.specs.List.{All}
use Rattle.sizes.specs.declared.TheConstants.{PAGE_LINES}
use Rattle.overlay_memory.specs.declared.epochs.Known.{Known}
use Rattle.overlay_memory.specs.declared.epochs.KnownPage.{KnownPage}
use Rattle.overlay_memory.specs.declared.epochs.TheConstants.{NO_PLACE, SEEN_PAGES, SEEN_STEP}
use Rattle.overlay_pages.specs.Spots.{no_page}
use Rattle.overlay_pages.specs.declared.spots.FoundPage.{FoundPage}
use Rattle.translation_cache.specs.declared.TheConstants.{SETS}

-- Pages that were found before.

-- what is known of each place, and the place of the page at the front of each list
pub record Seen : Type 0 where
  pub pages : List KnownPage
  pub heads : List ℕ

-- the place of a page, by its number and its space
abbrev pub place_of : ℕ → ℕ → ℕ
place_of space page = (page % SEEN_PAGES + SEEN_STEP * space) % SEEN_PAGES

-- a page that was found, while it isn't known where a line of it stands; and no page
abbrev pub bare_page : FoundPage → KnownPage
bare_page found = record { found = found; reads = replicate PAGE_LINES NO_PLACE; writes = replicate PAGE_LINES NO_PLACE }

abbrev pub nothing_known : KnownPage
nothing_known = bare_page no_page

-- what is known of a page, or of another one of its place
abbrev pub known_at : Seen → ℕ → ℕ → KnownPage
known_at seen space page = slice_index_or seen.pages (place_of space page) nothing_known

-- the place of the page at the front of its list
abbrev pub head_at : Seen → ℕ → ℕ
head_at seen page = slice_index_or seen.heads (page % SETS) SEEN_PAGES

-- what is known of the page at the front of its list
abbrev pub known_first : Seen → ℕ → KnownPage
known_first seen page = slice_index_or seen.pages (head_at seen page) nothing_known

-- it comes to the front of its list, or something is known of it
abbrev pub with_front : ℕ → ℕ → Seen → Seen
with_front space page seen = record { pages = seen.pages; heads = slice_set seen.heads (page % SETS) (place_of space page) }

abbrev pub with_page : ℕ → ℕ → KnownPage → Seen → Seen
with_page space page known seen = record { pages = slice_set seen.pages (place_of space page) known; heads = seen.heads }

-- where a line of it is read, or written
abbrev pub with_read : ℕ → ℕ → KnownPage → KnownPage
with_read line at known = record { found = known.found; reads = slice_set known.reads line at; writes = known.writes }

abbrev pub with_write : ℕ → ℕ → KnownPage → KnownPage
with_write line at known = record { found = known.found; reads = known.reads; writes = slice_set known.writes line at }

-- nothing is known, and of no list where the page at its front stands: behind the places of pages is one where none does
abbrev pub nothing_seen : Seen
nothing_seen = record { pages = replicate (SEEN_PAGES + 1) nothing_known; heads = replicate SETS SEEN_PAGES }

-- what was put at a place is known in its epoch alone
unfoldable pub known_in : ℕ → Known → KnownPage
known_in epoch known = cond (nat_eq known.epoch epoch) known.page nothing_known

abbrev pub known_pages : ℕ → List Known → List KnownPage
known_pages epoch places = map (known_in epoch) places

-- nothing was put at a place yet
abbrev pub nothing_put : Known
nothing_put = record { page = nothing_known; epoch = 0 }

-- as many places as there are, and one at which nothing stands; none that was put in a later epoch; and of each list one that was put in this one, or the last
pub record AreKept (epoch : ℕ) (places : List Known) (heads : List ℕ) : Type 0 where
  pub count : length places ≡ SEEN_PAGES + 1
  pub past : All (λ (known : Known). known.epoch ≤ epoch) places
  pub last : slice_index_or places SEEN_PAGES nothing_put ≡ nothing_put
  pub count_heads : length heads ≡ SETS
  pub inside : (set place : ℕ) → slice_index_or heads set SEEN_PAGES ≡ place → place ≤ SEEN_PAGES
  pub current : (set place : ℕ) → slice_index_or heads set SEEN_PAGES ≡ place → place < SEEN_PAGES → (slice_index_or places place nothing_put).epoch ≡ epoch
