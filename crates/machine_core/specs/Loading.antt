use Rattle.std.specs.Prelude.{◌≡◌, ℕ, ◌+◌, ◌<◌, ◌≤◌, Bool, true, false, cond, if◌then◌else◌, List, length, get_or, map, Some, None}
use Rattle.std.specs.List.{fold, list_any}
use Rattle.std.specs.Ordering.{nat_cmp, is_eq}
use Rattle.std.specs.FinMap.{empty, get, len}
use Rattle.sizes.specs.declared.TheConstants.{MOST_SPACE_PAGES, PAGE_END}
use Rattle.ovl_io.specs.Memory.{Page}
use Rattle.elf_loader.specs.Image.{image_page, image_pages, is_stored}
use Rattle.elf_loader.specs.declared.image.ImagePage.{ImagePage}
use Rattle.ledger.specs.Ledger.{Ledger, with_page}
use Rattle.ledger.specs.Alike.{AreAlike}
use Rattle.ledger.specs.Changes.{without_own}
use Rattle.ledger.specs.Origins.{new_origin}
use Rattle.overlay_pages.specs.State.{PageState, State, books, memory_of, seen_page}
use Rattle.translation_cache.specs.Bare.{BareTranslations}
use Rattle.translation_cache.specs.Translations.{flushed}
use Rattle.space_maps.specs.Spaces.{holds_space, page_in, put_page, space_in}
use Rattle.machine_core.specs.Load.{image_memory, loaded_ledger, stack_page, stack_pages}

-- What a load does, page by page.

-- one page more may be added to a space
pub record IsReady (spaces : State) (p page : ℕ) : Type 0 where
  pub there : holds_space spaces p ≡ true
  pub none_awaits : (space_in spaces p).awaiting ≡ empty
  pub absent : page_in spaces p page ≡ None
  pub low : page < PAGE_END
  pub few : len (space_in spaces p).pages < MOST_SPACE_PAGES

-- the ledger with one page more of a load
abbrev pub one_loaded : ℕ → Ledger → ℕ × Bool → Ledger
one_loaded p ledger page = with_page ledger p page.0 (without_own (if page.1 then new_origin ledger else 0))

-- a page was added to a space, with this content
pub record IsAdded (old new : State) (p page : ℕ) (content : Page) (stored : Bool) : Type 0 where
  pub x : PageState
  pub put : new ≡ put_page old p page x
  pub seen : seen_page x ≡ content
  pub alike : (ledger : Ledger) → AreAlike ledger (books old) → AreAlike (one_loaded p ledger (page, stored)) (books new)

-- what an image has at a place, and what it has past the last one
abbrev pub none_listed : ImagePage
none_listed = record { page = 0; perms = record { 0 = 0 }; stored = false }

abbrev pub listed_at : List ImagePage → ℕ → ImagePage
listed_at pages at = get_or pages at none_listed

-- so many from a place on are zeros, one behind the other with the same permissions
pub record AreZeroPages (pages : List ImagePage) (at n : ℕ) : Type 0 where
  pub within : at + n ≤ length pages
  pub each : (k : ℕ) → k < n
      → listed_at pages (at + k) ≡ record { page = (listed_at pages at).page + k; perms = (listed_at pages at).perms; stored = false }

-- nothing of a space was translated: there is nothing to remove
abbrev pub IsUnseen : ℕ → BareTranslations → Type 0
IsUnseen p translations = flushed p translations ≡ translations

-- only the pages of a space have changed
pub record HasOpened (p : ℕ) (before now : State) : Type 0 where
  pub there : holds_space now p ≡ true
  pub none_awaits : (space_in now p).awaiting ≡ empty
  pub mark : (space_in now p).speculating ≡ (space_in before p).speculating
  pub others : (q : ℕ) → (q ≡ p → ⊥) → get now.spaces q ≡ get before.spaces q
  pub frames : now.frames ≡ before.frames
  pub zero_frame : now.zero_frame ≡ before.zero_frame

-- whether a number is among some
abbrev pub is_one_of : List ℕ → ℕ → Bool
is_one_of ps q = list_any (λ p. is_eq (nat_cmp q p)) ps

-- some pages were added to a space, each with the content and the mark that it is to have
pub record HasAdded (before now : State) (p : ℕ) (content : ℕ → Page) (mark : ℕ → Bool) (pages : List ℕ) : Type 0 where
  pub memory : (q : ℕ) → get (memory_of now p) q ≡ cond (is_one_of pages q) (Some (content q)) (get (memory_of before p) q)
  pub count : len (space_in now p).pages ≡ len (space_in before p).pages + length pages
  pub ledger : (a : Ledger) → AreAlike a (books before) → AreAlike (fold (one_loaded p) a (map (λ page. (page, mark page)) pages)) (books now)
  pub rest : HasOpened p before now

-- those of an image, and those of the stack
abbrev pub HasImage : List ℕ → ℕ → State → State → Type 0
HasImage file p before now = HasAdded before now p (image_page file) (is_stored file) (image_pages file)

abbrev pub HasStack : ℕ → State → State → Type 0
HasStack p before now = HasAdded before now p (λ page. stack_page) (λ page. false) stack_pages

-- both
pub record HasPages (file : List ℕ) (p : ℕ) (before now : State) : Type 0 where
  pub between : State
  pub image : HasImage file p before between
  pub stack : HasStack p between now

-- a space was made, with the pages of an image and the stack
pub record IsSpaceOf (file : List ℕ) (p : ℕ) (old new : State) : Type 0 where
  pub memory : memory_of new p ≡ image_memory file
  pub ledger : AreAlike (loaded_ledger p file (books old)) (books new)
  pub there : holds_space new p ≡ true
  pub none_awaits : (space_in new p).awaiting ≡ empty
  pub mark : (space_in new p).speculating ≡ false
  pub others : (q : ℕ) → (q ≡ p → ⊥) → get new.spaces q ≡ get old.spaces q
  pub frames : new.frames ≡ old.frames
  pub zero_frame : new.zero_frame ≡ old.zero_frame
