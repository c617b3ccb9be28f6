use Rattle.std.proofs.Common.{◌≡◌, ℕ, zero, suc, ◌+◌, ◌-◌, ◌/◌, ◌%◌, ◌<◌, ◌≤◌, ◌⊎◌, inl, inr, true, false, List, [], ◌∷◌, Option, Some, None, is_some, sym, ap, ◌∙◌, refl, arith}
use Rattle.std.specs.List.{range_with_len}
use Rattle.std.specs.Option.{option_map, option_map_or}
use Rattle.std.specs.FinMap.{get}
use Rattle.sizes.specs.declared.TheConstants.{PAGE_BYTES}
use Rattle.ovl_io.specs.Memory.{Memory, Page}
use Rattle.ovl_io.specs.PageBytes.{page_allows}
use Rattle.ovl_io.specs.Permissions.{permits}
use Rattle.overlay_pages.specs.State.{PageState, State, memory_of, seen_page}
use Rattle.overlay_memory.specs.PageLaws.{some_is}
use Rattle.overlay_memory.specs.StateMemory.{memory_at}
use Rattle.overlay_memory.specs.Translated.{access_at}
use Rattle.overlay_memory.specs.View.{AreTrue, cached_in, cached_page}
use Rattle.space_maps.specs.Spaces.{page_in}
use Rattle.translation_cache.specs.Bare.{BareTranslations, bare, bare_entered, bare_looked, found_bare}
use Rattle.translation_cache.specs.Counted.{access_translated, counted, pages_under, translated, translated_pages}
use Rattle.translation_cache.specs.CountedLaws.{access_in_page, access_of_none, counted_one, further_pages, last_page, no_page, translated_absent, translated_hit, translated_miss}
use Rattle.translation_cache.specs.Finding.{found_entered, found_looked}
use Rattle.translation_cache.specs.Formed.{IsFormed}
use Rattle.translation_cache.specs.Laws.{formed_looked}
use Rattle.translation_cache.specs.Translations.{Translations, entered, found, looked}
use Rattle.translation_cache.specs.declared.cached.Cached.{Cached}

-- A page is translated.

module _ (v : State) (s p : ℕ) (t : Translations Cached) where
  -- what is held of a page says how it may be used, and that it is there
  pub allows_is : (held : Cached) (need : ℕ) → cached_in v s p ≡ Some held → permits held.perms.0 need ≡ page_allows (memory_of v s) need p
  allows_is held need is = by_page (page_in v s p) refl
    where
      by_page : (o : Option PageState) → page_in v s p ≡ o → permits held.perms.0 need ≡ page_allows (memory_of v s) need p
      by_page None none = let no_page = ap is_some (sym (ap (option_map cached_page) none) ∙ is) in cc
      by_page (Some x) there =
          sym (ap (λ (c : Cached). permits c.perms.0 need) (some_is (cached_page x) held (sym (ap (option_map cached_page) there) ∙ is)))
          ∙ sym (ap (λ (o : Option Page). option_map_or (λ (y : Page). permits y.perms need) o false) (memory_at v s p ∙ ap (option_map seen_page) there))

  pub denied_is : (need : ℕ) → None ≡ cached_in v s p → false ≡ page_allows (memory_of v s) need p
  denied_is need is = by_page (page_in v s p) refl
    where
      by_page : (o : Option PageState) → page_in v s p ≡ o → false ≡ page_allows (memory_of v s) need p
      by_page None none = sym (ap (λ (o : Option Page). option_map_or (λ (y : Page). permits y.perms need) o false) (memory_at v s p ∙ ap (option_map seen_page) none))
      by_page (Some x) there = let no_page = ap is_some (is ∙ ap (option_map cached_page) there) in cc

  there_too : (o : Option Cached) → o ≡ cached_in v s p → is_some (get (memory_of v s) p) ≡ is_some o
  there_too o is =
      ap is_some (memory_at v s p) ∙ seen (page_in v s p) ∙ sym (ap is_some is)
    where
      seen : (c : Option PageState) → is_some (option_map seen_page c) ≡ is_some (option_map cached_page c)
      seen None = refl
      seen (Some x) = refl

  found_is : (o : Option Cached) → o ≡ found s p t → is_some (found s p (bare t)) ≡ is_some o
  found_is o is = ap is_some (found_bare s p t) ∙ same (found s p t) ∙ sym (ap is_some is)
    where
      same : (c : Option Cached) → is_some (option_map {U = Unit {0}} (λ (held : Cached). tt) c) ≡ is_some c
      same None = refl
      same (Some x) = refl

  -- its entry was found
  pub hit_translated : (held : Cached) (u : Translations Cached) → Some held ≡ found s p t → u ≡ looked s p t → bare u ≡ translated s (memory_of v s) p (bare t)
  hit_translated held u is new =
      ap bare new ∙ bare_looked s p t ∙ sym (translated_hit s p (memory_of v s) (bare t) (found_is (Some held) is))

  pub looked_true : (u : Translations Cached) → IsFormed t → u ≡ looked s p t → AreTrue v t → AreTrue v u
  looked_true u formed new entries q r held is = entries q r held (sym (found_looked s p q r t formed) ∙ sym (ap (found q r) new) ∙ is)

  -- it wasn't, and the page is there
  pub absent_after : (u : Translations Cached) → IsFormed t → None ≡ found s p t → u ≡ looked s p t → found s p u ≡ None
  absent_after u formed is new = ap (found s p) new ∙ found_looked s p s p t formed ∙ sym is

  pub miss_translated : (held : Cached) (u w : Translations Cached) → None ≡ found s p t → Some held ≡ cached_in v s p → u ≡ looked s p t → w ≡ entered s p held u
      → bare w ≡ translated s (memory_of v s) p (bare t)
  miss_translated held u w is there new put =
      ap bare put ∙ bare_entered s p held u ∙ ap (λ x. entered s p tt (bare x)) new ∙ ap (entered s p tt) (bare_looked s p t)
      ∙ sym (translated_miss s p (memory_of v s) (bare t) (found_is None is) (there_too (Some held) there))

  pub entered_true : (held : Cached) (u w : Translations Cached) → IsFormed t → Some held ≡ cached_in v s p → u ≡ looked s p t → w ≡ entered s p held u → AreTrue v t
      → AreTrue v w
  entered_true held u w formed there new put entries q r c is =
      by_page (found_entered s p q r held c (looked s p t) (formed_looked s p t formed) (sym (ap (found q r) (put ∙ ap (entered s p held) new)) ∙ is))
    where
      by_page : ((q ≡ s) × (r ≡ p) × (c ≡ held)) ⊎ (found q r (looked s p t) ≡ Some c) → cached_in v q r ≡ Some c
      by_page (inl same) = ap (λ n. cached_in v n r) same.0 ∙ ap (cached_in v s) same.1 ∙ sym there ∙ ap Some (sym same.2)
      by_page (inr before) = entries q r c (sym (found_looked s p q r t formed) ∙ before)

  -- it wasn't, and the page isn't there
  pub absent_translated : (u : Translations Cached) → None ≡ found s p t → None ≡ cached_in v s p → u ≡ looked s p t → bare u ≡ translated s (memory_of v s) p (bare t)
  absent_translated u is none new =
      ap bare new ∙ bare_looked s p t ∙ sym (translated_absent s p (memory_of v s) (bare t) (found_is None is) (there_too None none))

  -- it wasn't, since the page isn't there
  pub vain_translated : (u : Translations Cached) → AreTrue v t → page_in v s p ≡ None → u ≡ looked s p t → bare u ≡ translated s (memory_of v s) p (bare t)
  vain_translated u entries absent new = by_found (found s p t) refl
    where
      none : None ≡ cached_in v s p
      none = sym (ap (option_map cached_page) absent)

      by_found : (o : Option Cached) → found s p t ≡ o → bare u ≡ translated s (memory_of v s) p (bare t)
      by_found None is = absent_translated u (sym is) none new
      by_found (Some held) is = let no_page = ap is_some (none ∙ entries s p held is) in cc

-- The pages of an access.

-- those from one on, from the lists after those before it, come to what all do; and the entries are true
pub record IsTranslatedFrom (v : State) (s need : ℕ) (pages : List ℕ) (start : BareTranslations) (now : Translations Cached) (at left : ℕ) : Type 0 where
  pub rest : translated_pages s (memory_of v s) need pages start ≡ translated_pages s (memory_of v s) need (range_with_len at left) (bare now)
  pub entries : AreTrue v now

pub from_first : (v : State) (s need address count first more at left : ℕ) (t : Translations Cached) → (count ≡ 0 → ⊥) → first ≡ address / PAGE_BYTES
    → more ≡ (address % PAGE_BYTES + (count - 1)) / PAGE_BYTES → at ≡ first → left ≡ more + 1 → AreTrue v t
    → IsTranslatedFrom v s need (pages_under address count) (bare t) t at left
from_first v s need address zero first more at left t some first_is more_is at_is left_is entries = absurd (some refl)
from_first v s need address (suc n) first more at left t some first_is more_is at_is left_is entries =
    let less : suc n - 1 ≡ n = omega arith in
    let more_too : more ≡ (address % PAGE_BYTES + n) / PAGE_BYTES = more_is ∙ ap (λ k. (address % PAGE_BYTES + k) / PAGE_BYTES) less in
    let count : (address + n) / PAGE_BYTES - address / PAGE_BYTES + 1 ≡ left = omega arith in
    let from : address / PAGE_BYTES ≡ at = omega arith in
    record {
      rest =
          ap (λ k. translated_pages s (memory_of v s) need (range_with_len (address / PAGE_BYTES) k) (bare t)) count
          ∙ ap (λ k. translated_pages s (memory_of v s) need (range_with_len k left) (bare t)) from;
      entries = entries;
    }

module _ (v : State) (s need : ℕ) (pages : List ℕ) (start : BareTranslations) (now after : Translations Cached) (at left : ℕ)
    (so : IsTranslatedFrom v s need pages start now at left) where
  -- a page may be used, and the next one comes
  pub next_page : (next fewer : ℕ) → page_allows (memory_of v s) need at ≡ true → bare after ≡ translated s (memory_of v s) at (bare now) → AreTrue v after
      → left ≡ suc fewer → next ≡ at + 1 → IsTranslatedFrom v s need pages start after next fewer
  next_page next fewer may new entries left_is next_is = record {
    rest =
        so.rest ∙ ap (λ k. translated_pages s (memory_of v s) need (range_with_len at k) (bare now)) left_is
        ∙ further_pages s need at (range_with_len (at + 1) fewer) (memory_of v s) (bare now) may
        ∙ ap (λ k. translated_pages s (memory_of v s) need (range_with_len k fewer) (translated s (memory_of v s) at (bare now))) (sym next_is)
        ∙ ap (translated_pages s (memory_of v s) need (range_with_len next fewer)) (sym new);
    entries = entries;
  }

  -- one may not be used, or all were
  pub ends_at : (fewer : ℕ) → page_allows (memory_of v s) need at ≡ false → bare after ≡ translated s (memory_of v s) at (bare now) → left ≡ suc fewer
      → bare after ≡ translated_pages s (memory_of v s) need pages start
  ends_at fewer denied new left_is =
      new ∙ sym (last_page s need at (range_with_len (at + 1) fewer) (memory_of v s) (bare now) denied)
      ∙ ap (λ k. translated_pages s (memory_of v s) need (range_with_len at k) (bare now)) (sym left_is) ∙ sym so.rest

  pub ends_all : left ≡ 0 → bare now ≡ translated_pages s (memory_of v s) need pages start
  ends_all none =
      sym (no_page s need (memory_of v s) (bare now)) ∙ ap (λ k. translated_pages s (memory_of v s) need (range_with_len at k) (bare now)) (sym none) ∙ sym so.rest

pub access_is : (s need address count : ℕ) (memory : Memory) (start now : BareTranslations) → now ≡ translated_pages s memory need (pages_under address count) start
    → now ≡ access_translated s memory (access_at need address count) start
unfolding access_translated
access_is s need address count memory start now is = is

pub nothing_translated : (s need address count : ℕ) (memory : Memory) (t : BareTranslations) → count ≡ 0 → t ≡ access_translated s memory (access_at need address count) t
nothing_translated s need address count memory t none = sym (access_of_none s memory (access_at need address count) t none)

-- an access is all that is counted
pub counted_is : (s need address count : ℕ) (memory : Memory) (t u : BareTranslations) → u ≡ access_translated s memory (access_at need address count) t
    → u ≡ counted s memory (access_at need address count ∷ []) t
counted_is s need address count memory t u is = is ∙ sym (counted_one s memory (access_at need address count) t)

-- an access within a line
pub counted_in_page : (s need address count page : ℕ) (memory : Memory) (t u : BareTranslations) → 0 < count → address % 64 + count ≤ 64 → page ≡ address / PAGE_BYTES
    → u ≡ translated s memory page t → u ≡ counted s memory (access_at need address count ∷ []) t
counted_in_page s need address count page memory t u some fits page_is is =
    is ∙ ap (λ k. translated s memory k t) page_is
    ∙ sym (counted_one s memory (access_at need address count) t ∙ access_in_page s memory (access_at need address count) t some (omega (arith, fits)))
