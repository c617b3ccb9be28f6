use Rattle.std.specs.Prelude.{◌≡◌, ℕ, ◌≤◌, List, length, Option, Some, is_some, true, false, None}
use Rattle.std.specs.Option.{option_map}
use Rattle.std.specs.FinMap.{empty, get}
use Rattle.overlay_pages.specs.Calls as below
use Rattle.overlay_pages.specs.State.{PageState, State}
use Rattle.overlay_pages.specs.View as seen
use Rattle.overlay_pages.specs.View.{MemoryView}
use Rattle.space_maps.specs.Spaces.{Spaces, page_in, space_in}
use Rattle.translation_cache.specs.Bare.{BareTranslations, bare}
use Rattle.translation_cache.specs.Translations.{Translations, found}
use Rattle.translation_cache.specs.declared.cached.Cached.{Cached}

-- What memories are seen as: the pages of all spaces with their lines, and which of them were translated last.
pub record TranslatedView : Type 0 where
  pub pages : MemoryView
  pub cache : Translations Cached

abbrev pub cached_view : MemoryView → Translations Cached → TranslatedView
cached_view pages cache = record { pages = pages; cache = cache }

-- what they stand for: the state of the pages, and the translation lists, without what entries hold
abbrev pub state_of : TranslatedView → State
state_of view = seen.state_of view.pages

abbrev pub translations_of : TranslatedView → BareTranslations
translations_of view = bare view.cache

-- another line at a place of the region
abbrev pub with_region_line : TranslatedView → ℕ → List ℕ → TranslatedView
with_region_line view at bytes = record { pages = below.with_line_at_place view.pages at bytes; cache = view.cache }

-- What is true of all memories.

-- what the tables have of a page, as an entry holds it
abbrev pub cached_page : PageState → Cached
cached_page x = record { perms = x.entry.perms; frame = x.entry.frame; bits = x.own }

abbrev pub cached_in : State → ℕ → ℕ → Option Cached
cached_in state space page = option_map cached_page (page_in state space page)

-- each entry is true: it holds the permissions, the frame and the own lines that the tables have for its page
abbrev pub AreTrue : State → Translations Cached → Type 0
AreTrue state t = (space page : ℕ) (held : Cached) → found space page t ≡ Some held → cached_in state space page ≡ Some held

-- no page of a space awaits being shared
abbrev pub NoneAwaits : {P : Type 0} → Spaces P → ℕ → Type 0
NoneAwaits state space = (space_in state space).awaiting ≡ empty

-- no page that awaits is there already
abbrev pub AwaitApart : State → Type 0
AwaitApart state = (space page : ℕ) → is_some (page_in state space page) ≡ true → get (space_in state space).awaiting page ≡ None

-- in a space that isn't speculating each page has at most 31 own lines
abbrev pub AreOverlaysSmall : State → Type 0
AreOverlaysSmall state =
    (space page : ℕ) (x : PageState) → page_in state space page ≡ Some x → (space_in state space).speculating ≡ false → length x.own ≤ 31

pub record AreTranslated (state : State) (t : Translations Cached) : Type 0 where
  pub entries : AreTrue state t
  pub apart : AwaitApart state
  pub small : AreOverlaysSmall state
