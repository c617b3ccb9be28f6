use Rattle.std.proofs.Common.{◌≡◌, ℕ, zero, suc, ◌+◌, ◌-◌, ◌/◌, ◌%◌, ◌^◌, ◌<◌, ◌≤◌, Bool, true, false, cond, List, [], ◌∷◌, min, take, is_some, Option, Some, None, sym, ap, subst, ◌∙◌, refl, arith}
use Rattle.std.specs.List.{range_with_len}
use Rattle.std.specs.FinMap.{get}
use Rattle.std.proofs.lemmas.List.{get_or-set_other, get_or-set_same, set-get_or}
use Rattle.sizes.specs.declared.TheConstants.{PAGE_BYTES}
use Rattle.ovl_io.specs.Memory.{Access, Memory, denied_at}
use Rattle.ovl_io.specs.PageBytes.{page_allows}
use Rattle.translation_cache.specs.Bare.{BareTranslations}
use Rattle.translation_cache.specs.Counted.{access_translated, counted, pages_under, translated, translated_pages}
use Rattle.translation_cache.specs.Formed.{IsFormed}
use Rattle.translation_cache.specs.Finding.{found_first, found_looked}
use Rattle.translation_cache.specs.Laws.{formed_entered, formed_hits, formed_looked, is_same}
use Rattle.translation_cache.specs.Translations.{Entry, Translations, entered, entry_of, found, found_in, looked, looked_by, set_of, with_hits, with_misses, with_set, without}
use Rattle.translation_cache.specs.declared.TheConstants.{SETS, SET_ENTRIES}

-- Laws: accesses within one page and over two, and look-ups of a page at the front.

-- Pages.

either : {A : Type 0} (b : Bool) (x : A) → cond b x x ≡ x
either true x = refl
either false x = refl

-- no page, one page, and a page before others
pub no_page : (space need : ℕ) (memory : Memory) (t : BareTranslations) → translated_pages space memory need [] t ≡ t
unfolding translated_pages
no_page space need memory t = refl

pub one_page : (space need page : ℕ) (memory : Memory) (t : BareTranslations) → translated_pages space memory need (page ∷ []) t ≡ translated space memory page t
unfolding translated_pages
one_page space need page memory t = either (page_allows memory need page) (translated space memory page t)

pub further_pages : (space need page : ℕ) (pages : List ℕ) (memory : Memory) (t : BareTranslations) → page_allows memory need page ≡ true
    → translated_pages space memory need (page ∷ pages) t ≡ translated_pages space memory need pages (translated space memory page t)
unfolding translated_pages
further_pages space need page pages memory t may =
    ap (λ (b : Bool). cond b (translated_pages space memory need pages (translated space memory page t)) (translated space memory page t)) may

pub last_page : (space need page : ℕ) (pages : List ℕ) (memory : Memory) (t : BareTranslations) → page_allows memory need page ≡ false
    → translated_pages space memory need (page ∷ pages) t ≡ translated space memory page t
unfolding translated_pages
last_page space need page pages memory t denied =
    ap (λ (b : Bool). cond b (translated_pages space memory need pages (translated space memory page t)) (translated space memory page t)) denied

-- One access.

-- without a byte
pub access_of_none : (space : ℕ) (memory : Memory) (access : Access) (t : BareTranslations) → access.length ≡ 0 → access_translated space memory access t ≡ t
unfolding access_translated
access_of_none space memory access t none =
    ap (λ n. translated_pages space memory access.need (pages_under access.address n) t) none ∙ no_page space access.need memory t

-- within one page
in_page : (space need address length : ℕ) (memory : Memory) (t : BareTranslations) → 0 < length → address % PAGE_BYTES + length ≤ PAGE_BYTES
    → translated_pages space memory need (pages_under address length) t ≡ translated space memory (address / PAGE_BYTES) t
in_page space need address zero memory t some fits = absurd (omega arith)
in_page space need address (suc more) memory t some fits =
    let one : (address + more) / PAGE_BYTES - address / PAGE_BYTES + 1 ≡ 1 = omega arith in
    ap (λ n. translated_pages space memory need (range_with_len (address / PAGE_BYTES) n) t) one ∙ one_page space need (address / PAGE_BYTES) memory t

pub access_in_page : (space : ℕ) (memory : Memory) (access : Access) (t : BareTranslations) → 0 < access.length
    → access.address % PAGE_BYTES + access.length ≤ PAGE_BYTES
    → access_translated space memory access t ≡ translated space memory (access.address / PAGE_BYTES) t
unfolding access_translated
access_in_page space memory access t some fits = in_page space access.need access.address access.length memory t some fits

-- over two pages: the second one is translated where the first may be used
abbrev pub both_translated : ℕ → Memory → ℕ → ℕ → BareTranslations → BareTranslations
both_translated space memory need page t =
    cond (page_allows memory need page) (translated space memory (page + 1) (translated space memory page t)) (translated space memory page t)

two_pages : (space need page : ℕ) (memory : Memory) (t : BareTranslations)
    → translated_pages space memory need (page ∷ ((page + 1) ∷ [])) t ≡ both_translated space memory need page t
unfolding translated_pages
two_pages space need page memory t =
    ap (λ x. cond (page_allows memory need page) x (translated space memory page t)) (one_page space need (page + 1) memory (translated space memory page t))

-- Accesses.

pub counted_none : (space : ℕ) (memory : Memory) (t : BareTranslations) → counted space memory [] t ≡ t
unfolding counted
counted_none space memory t = refl

pub counted_one : (space : ℕ) (memory : Memory) (access : Access) (t : BareTranslations)
    → counted space memory (access ∷ []) t ≡ access_translated space memory access t
unfolding counted
counted_one space memory access t = either (is_some (denied_at memory access)) (access_translated space memory access t)

-- one that doesn't fail, and others behind it
pub counted_next : (space : ℕ) (memory : Memory) (access : Access) (accesses : List Access) (t : BareTranslations) → denied_at memory access ≡ None
    → counted space memory (access ∷ accesses) t ≡ counted space memory accesses (access_translated space memory access t)
unfolding counted
counted_next space memory access accesses t may =
    ap (λ (o : Option ℕ). cond (is_some o) (access_translated space memory access t) (counted space memory accesses (access_translated space memory access t))) may

-- One page.

-- one whose entry is there, one that gets an entry, and one that isn't in the memory
pub translated_hit : (space page : ℕ) (memory : Memory) (t : BareTranslations) → is_some (found space page t) ≡ true
    → translated space memory page t ≡ looked space page t
unfolding translated
translated_hit space page memory t there =
    ap (λ (b : Bool). cond b (looked space page t) (cond (is_some (get memory page)) (entered space page tt (looked space page t)) (looked space page t))) there

pub translated_miss : (space page : ℕ) (memory : Memory) (t : BareTranslations) → is_some (found space page t) ≡ false → is_some (get memory page) ≡ true
    → translated space memory page t ≡ entered space page tt (looked space page t)
unfolding translated
translated_miss space page memory t absent mapped =
    ap (λ (b : Bool). cond b (looked space page t) (cond (is_some (get memory page)) (entered space page tt (looked space page t)) (looked space page t))) absent
    ∙ ap (λ (b : Bool). cond b (entered space page tt (looked space page t)) (looked space page t)) mapped

pub translated_absent : (space page : ℕ) (memory : Memory) (t : BareTranslations) → is_some (found space page t) ≡ false → is_some (get memory page) ≡ false
    → translated space memory page t ≡ looked space page t
unfolding translated
translated_absent space page memory t absent unmapped =
    ap (λ (b : Bool). cond b (looked space page t) (cond (is_some (get memory page)) (entered space page tt (looked space page t)) (looked space page t))) absent
    ∙ ap (λ (b : Bool). cond b (entered space page tt (looked space page t)) (looked space page t)) unmapped

-- A page at the front of its list.

module _ {A : Type 0} where
  -- its entry is the first one
  pub record IsFront (space page : ℕ) (t : Translations A) : Type 0 where
    pub held : A
    pub rest : List (Entry A)
    pub first : set_of page t ≡ entry_of space page held ∷ rest

  without_first : (space page : ℕ) (held : A) (rest : List (Entry A)) → without space page (entry_of space page held ∷ rest) ≡ rest
  without_first space page held rest =
      ap (λ (b : Bool). cond b rest (entry_of space page held ∷ without space page rest)) (is_same space page held)

  pub found_front : (space page : ℕ) (t : Translations A) → (front : IsFront space page t) → found space page t ≡ Some front.held
  unfolding found
  found_front space page t front = ap (found_in space page) front.first ∙ found_first space page front.held front.rest

  -- a look-up of it raises the count of hits, and nothing else
  pub looked_front : (space page : ℕ) (t : Translations A) → IsFront space page t → looked space page t ≡ with_hits 1 t
  unfolding looked
  looked_front space page t front =
      ap (looked_by space page t) (found_front space page t front)
      ∙ ap (λ es. with_hits 1 (with_set page (entry_of space page front.held ∷ es) t))
      (ap (without space page) front.first ∙ without_first space page front.held front.rest)
      ∙ ap (λ es. with_hits 1 (with_set page es t)) (sym front.first)
      ∙ ap (λ sets. with_hits 1 (record { sets = sets; hits = t.hits; misses = t.misses })) (set-get_or t.sets (page % SETS) [])

  pub front_hits : (space page n : ℕ) (t : Translations A) → IsFront space page t → IsFront space page (with_hits n t)
  unfolding with_hits
  front_hits space page n t front = record { held = front.held; rest = front.rest; first = front.first }

  -- some hits and then more; none
  pub more_hits : (n m : ℕ) (t : Translations A) → with_hits m (with_hits n t) ≡ with_hits (n + m) t
  unfolding with_hits
  more_hits n m t =
      let count : min (min (t.hits + n) (2 ^ 64 - 1) + m) (2 ^ 64 - 1) ≡ min (t.hits + (n + m)) (2 ^ 64 - 1) = omega arith in
      ap (λ h. record { sets = t.sets; hits = h; misses = t.misses }) count

  pub no_hits : (t : Translations A) → IsFormed t → with_hits 0 t ≡ t
  unfolding with_hits
  no_hits t formed =
      let fits : t.hits ≤ 2 ^ 64 - 1 = formed.hits_fit in
      let count : min (t.hits + 0) (2 ^ 64 - 1) ≡ t.hits = omega arith in
      ap (λ h. record { sets = t.sets; hits = h; misses = t.misses }) count

-- the same of what an access does
pub translated_front : (space page : ℕ) (memory : Memory) (t : BareTranslations) → IsFront space page t → translated space memory page t ≡ with_hits 1 t
translated_front space page memory t front =
    translated_hit space page memory t (ap is_some (found_front space page t front)) ∙ looked_front space page t front

-- a page that is translated so often
unfoldable pub translated_times : ℕ → ℕ → Memory → ℕ → BareTranslations → BareTranslations
translated_times zero space memory page t = t
translated_times (suc n) space memory page t = translated_times n space memory page (translated space memory page t)

pub times_front : (n space page : ℕ) (memory : Memory) (t : BareTranslations) → IsFormed t → IsFront space page t
    → translated_times n space memory page t ≡ with_hits n t
unfolding translated_times
times_front zero space page memory t formed front = sym (no_hits t formed)
times_front (suc n) space page memory t formed front =
    let same : 1 + n ≡ suc n = omega arith in
    ap (translated_times n space memory page) (translated_front space page memory t front)
    ∙ times_front n space page memory (with_hits 1 t) (formed_hits 1 t formed) (front_hits space page 1 t front)
    ∙ more_hits 1 n t ∙ ap (λ k. with_hits k t) same

-- What is true of all lists stays true.

pub formed_translated : (space page : ℕ) (memory : Memory) (t : BareTranslations) → IsFormed t → IsFormed (translated space memory page t)
unfolding translated
formed_translated space page memory t formed = by_found (is_some (found space page t)) refl (is_some (get memory page))
  where
    looked_too : IsFormed (looked space page t)
    looked_too = formed_looked space page t formed

    absent : (o : Option (Unit {0})) → is_some o ≡ false → o ≡ None
    absent None no_entry = refl
    absent (Some x) no_entry = cc

    by_found : (b : Bool) → is_some (found space page t) ≡ b → (c : Bool)
        → IsFormed (cond b (looked space page t) (cond c (entered space page tt (looked space page t)) (looked space page t)))
    by_found true is c = looked_too
    by_found false is false = looked_too
    by_found false is true =
        formed_entered space page tt (looked space page t) looked_too (found_looked space page space page t formed ∙ absent (found space page t) is)

pub formed_pages : (space need : ℕ) (pages : List ℕ) (memory : Memory) (t : BareTranslations) → IsFormed t → IsFormed (translated_pages space memory need pages t)
unfolding translated_pages
formed_pages space need [] memory t formed = formed
formed_pages space need (page ∷ pages) memory t formed =
    by_need (page_allows memory need page) one (formed_pages space need pages memory (translated space memory page t) one)
  where
    one : IsFormed (translated space memory page t)
    one = formed_translated space page memory t formed

    by_need : (b : Bool) → IsFormed (translated space memory page t) → IsFormed (translated_pages space memory need pages (translated space memory page t))
        → IsFormed (cond b (translated_pages space memory need pages (translated space memory page t)) (translated space memory page t))
    by_need true here rest = rest
    by_need false here rest = here

pub formed_counted : (space : ℕ) (memory : Memory) (accesses : List Access) (t : BareTranslations) → IsFormed t → IsFormed (counted space memory accesses t)
unfolding counted access_translated
formed_counted space memory [] t formed = formed
formed_counted space memory (access ∷ accesses) t formed =
    by_end (is_some (denied_at memory access)) one (formed_counted space memory accesses (access_translated space memory access t) one)
  where
    one : IsFormed (access_translated space memory access t)
    one = formed_pages space access.need (pages_under access.address access.length) memory t formed

    by_end : (b : Bool) → IsFormed (access_translated space memory access t) → IsFormed (counted space memory accesses (access_translated space memory access t))
        → IsFormed (cond b (access_translated space memory access t) (counted space memory accesses (access_translated space memory access t)))
    by_end true here rest = here
    by_end false here rest = rest

-- A page that was looked up and found, or entered, is at the front; and stays there while pages of other sets are.

module _ {A : Type 0} where
  set_with : (page : ℕ) (es : List (Entry A)) (t : Translations A) → IsFormed t → set_of page (with_set page es t) ≡ es
  set_with page es t formed = get_or-set_same t.sets (page % SETS) es [] (omega (arith, formed.count))

  pub front_looked : (space page : ℕ) (held : A) (t : Translations A) → IsFormed t → found space page t ≡ Some held → IsFront space page (looked space page t)
  unfolding looked with_hits
  front_looked space page held t formed there = subst (λ o. IsFront space page (looked_by space page t o)) (sym there) (record {
    held = held;
    rest = without space page (set_of page t);
    first = set_with page (entry_of space page held ∷ without space page (set_of page t)) t formed;
  })

  pub front_entered : (space page : ℕ) (held : A) (t : Translations A) → IsFormed t → IsFront space page (entered space page held t)
  unfolding entered
  front_entered space page held t formed = record {
    held = held;
    rest = take (SET_ENTRIES - 1) (set_of page t);
    first = set_with page (take SET_ENTRIES (entry_of space page held ∷ set_of page t)) t formed;
  }

  -- the list of another set stays
  beside_with : (page q : ℕ) (es : List (Entry A)) (t : Translations A) → (page % SETS ≡ q % SETS → ⊥) → set_of page (with_set q es t) ≡ set_of page t
  beside_with page q es t other = get_or-set_other t.sets (q % SETS) (page % SETS) es [] other

  beside_looked : (space page q : ℕ) (t : Translations A) → (page % SETS ≡ q % SETS → ⊥) → set_of page (looked space q t) ≡ set_of page t
  unfolding looked with_hits with_misses
  beside_looked space page q t other = by_found (found space q t)
    where
      by_found : (o : Option A) → set_of page (looked_by space q t o) ≡ set_of page t
      by_found None = refl
      by_found (Some held) = beside_with page q (entry_of space q held ∷ without space q (set_of q t)) t other

  beside_entered : (space page q : ℕ) (held : A) (t : Translations A) → (page % SETS ≡ q % SETS → ⊥) → set_of page (entered space q held t) ≡ set_of page t
  unfolding entered
  beside_entered space page q held t other = beside_with page q (take SET_ENTRIES (entry_of space q held ∷ set_of q t)) t other

-- a page that was translated, and is in the memory, is at the front
pub front_translated : (space page : ℕ) (memory : Memory) (t : BareTranslations) → IsFormed t → is_some (get memory page) ≡ true
    → IsFront space page (translated space memory page t)
front_translated space page memory t formed mapped = by_found (found space page t) refl
  where
    by_found : (o : Option (Unit {0})) → found space page t ≡ o → IsFront space page (translated space memory page t)
    by_found None is =
        subst (IsFront space page) (sym (translated_miss space page memory t (ap is_some is) mapped))
        (front_entered space page tt (looked space page t) (formed_looked space page t formed))
    by_found (Some held) is =
        subst (IsFront space page) (sym (translated_hit space page memory t (ap is_some is))) (front_looked space page held t formed is)

-- and stays there while pages of other sets are translated, whatever their space
pub front_beside : (s space page q : ℕ) (memory : Memory) (t : BareTranslations) → (page % SETS ≡ q % SETS → ⊥) → IsFront space page t
    → IsFront space page (translated s memory q t)
unfolding translated
front_beside s space page q memory t other front = by_tests (is_some (found s q t)) (is_some (get memory q))
  where
    of : (u : BareTranslations) → set_of page u ≡ set_of page t → IsFront space page u
    of u same = record { held = front.held; rest = front.rest; first = same ∙ front.first }

    looked_too : set_of page (looked s q t) ≡ set_of page t
    looked_too = beside_looked s page q t other

    by_tests : (b c : Bool) → IsFront space page (cond b (looked s q t) (cond c (entered s q tt (looked s q t)) (looked s q t)))
    by_tests true c = of (looked s q t) looked_too
    by_tests false false = of (looked s q t) looked_too
    by_tests false true = of (entered s q tt (looked s q t)) (beside_entered s page q tt (looked s q t) other ∙ looked_too)
