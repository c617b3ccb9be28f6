use Rattle.std.proofs.Common.{◌≡◌, ℕ, zero, suc, ◌%◌, Bool, true, false, cond, not, nat_eq, List, [], ◌∷◌, get_or, map, replicate, take, slice_set, is_some, Option, Some, None, sym, refl}
use Rattle.std.specs.List.{AllByRecursion}
use Rattle.std.specs.FinMap.{get}
use Rattle.std.proofs.lemmas.Bool.{ne_eqb}
use Rattle.ovl_io.specs.Memory.{Access, Memory, denied_at}
use Rattle.ovl_io.specs.PageBytes.{page_allows}
use Rattle.translation_cache.specs.Bare.{BareTranslations}
use Rattle.translation_cache.specs.Counted.{access_translated, counted, pages_under, translated, translated_pages}
use Rattle.translation_cache.specs.Translations.{Entry, entered, entry_of, flushed, found, is_of, looked, looked_by, no_translations, set_of, with_hits, with_misses, without, without_space}
use Rattle.translation_cache.specs.declared.TheConstants.{SETS, SET_ENTRIES}

-- Spaces of which nothing is in the lists.

abbrev pub Entries : Type 0
Entries = List (Entry (Unit {0}))

-- no entry of a list is that of a space, and none of all lists
abbrev pub LacksIn : ℕ → Entries → Type 0
LacksIn space entries = AllByRecursion (λ (entry : Entry (Unit {0})). nat_eq entry.space space ≡ false) entries

abbrev pub HasNone : ℕ → BareTranslations → Type 0
HasNone space t = AllByRecursion (LacksIn space) t.sets

-- Laws: it stays so where another space's pages are translated, and where entries go.

module _ (q : ℕ) where
  -- one list
  lacks_without : (space page : ℕ) (es : Entries) → LacksIn q es → LacksIn q (without space page es)
  lacks_without space page [] none = tt
  lacks_without space page (e ∷ es) none = by_test (is_of space page e) (lacks_without space page es none.1)
    where
      by_test : (b : Bool) → LacksIn q (without space page es) → LacksIn q (cond b es (e ∷ without space page es))
      by_test true rest = none.1
      by_test false rest = (none.0, rest)

  lacks_taken : (n : ℕ) (es : Entries) → LacksIn q es → LacksIn q (take n es)
  lacks_taken zero es none = tt
  lacks_taken (suc n) [] none = tt
  lacks_taken (suc n) (e ∷ es) none = (none.0, lacks_taken n es none.1)

  lacks_left : (space : ℕ) (es : Entries) → LacksIn q es → LacksIn q (without_space space es)
  lacks_left space [] none = tt
  lacks_left space (e ∷ es) none = by_test (not (nat_eq e.space space)) (lacks_left space es none.1)
    where
      by_test : (b : Bool) → LacksIn q (without_space space es) → LacksIn q (cond b (e ∷ without_space space es) (without_space space es))
      by_test true rest = (none.0, rest)
      by_test false rest = rest

  lacks_own : (es : Entries) → LacksIn q (without_space q es)
  lacks_own [] = tt
  lacks_own (e ∷ es) = by_test (nat_eq e.space q) refl (lacks_own es)
    where
      by_test : (b : Bool) → nat_eq e.space q ≡ b → LacksIn q (without_space q es) → LacksIn q (cond (not b) (e ∷ without_space q es) (without_space q es))
      by_test true is rest = rest
      by_test false is rest = (is, rest)

  -- the lists
  lacks_at : (sets : List Entries) (at : ℕ) → AllByRecursion (LacksIn q) sets → LacksIn q (get_or sets at [])
  lacks_at [] at none = tt
  lacks_at (es ∷ sets) zero none = none.0
  lacks_at (es ∷ sets) (suc at) none = lacks_at sets at none.1

  lacks_set : (sets : List Entries) (at : ℕ) (es : Entries) → AllByRecursion (LacksIn q) sets → LacksIn q es → AllByRecursion (LacksIn q) (slice_set sets at es)
  lacks_set [] at es none lacks = tt
  lacks_set (x ∷ sets) zero es none lacks = (lacks, none.1)
  lacks_set (x ∷ sets) (suc at) es none lacks = (none.0, lacks_set sets at es none.1 lacks)

  pub none_at_first : HasNone q no_translations
  unfolding no_translations
  none_at_first = each SETS
    where
      each : (n : ℕ) → AllByRecursion (LacksIn q) (replicate n [])
      each zero = tt
      each (suc n) = (tt, each n)

  pub none_flushed : (space : ℕ) (t : BareTranslations) → HasNone q t → HasNone q (flushed space t)
  unfolding flushed
  none_flushed space t none = each t.sets none
    where
      each : (sets : List Entries) → AllByRecursion (LacksIn q) sets → AllByRecursion (LacksIn q) (map (without_space space) sets)
      each [] h = tt
      each (es ∷ sets) h = (lacks_left space es h.0, each sets h.1)

  pub none_of_own : (t : BareTranslations) → HasNone q (flushed q t)
  unfolding flushed
  none_of_own t = each t.sets
    where
      each : (sets : List Entries) → AllByRecursion (LacksIn q) (map (without_space q) sets)
      each [] = tt
      each (es ∷ sets) = (lacks_own es, each sets)

  -- another space's pages
  module _ (space : ℕ) (other : q ≡ space → ⊥) where
    lacks_entry : (page : ℕ) (es : Entries) → LacksIn q es → LacksIn q (entry_of space page tt ∷ es)
    lacks_entry page es none = (ne_eqb space q (λ same. other (sym same)), none)

    none_looked : (page : ℕ) (t : BareTranslations) → HasNone q t → HasNone q (looked space page t)
    unfolding looked with_hits with_misses
    none_looked page t none = by_found (found space page t)
      where
        by_found : (o : Option (Unit {0})) → HasNone q (looked_by space page t o)
        by_found None = none
        by_found (Some held) =
            lacks_set t.sets (page % SETS) (entry_of space page held ∷ without space page (set_of page t)) none
            (lacks_entry page (without space page (set_of page t)) (lacks_without space page (set_of page t) (lacks_at t.sets (page % SETS) none)))

    none_entered : (page : ℕ) (t : BareTranslations) → HasNone q t → HasNone q (entered space page tt t)
    unfolding entered
    none_entered page t none =
        lacks_set t.sets (page % SETS) (take SET_ENTRIES (entry_of space page tt ∷ set_of page t)) none
        (lacks_taken SET_ENTRIES (entry_of space page tt ∷ set_of page t) (lacks_entry page (set_of page t) (lacks_at t.sets (page % SETS) none)))

    none_translated : (memory : Memory) (page : ℕ) (t : BareTranslations) → HasNone q t → HasNone q (translated space memory page t)
    unfolding translated
    none_translated memory page t none = by_tests (is_some (found space page t)) (is_some (get memory page))
      where
        tried : HasNone q (looked space page t)
        tried = none_looked page t none

        by_tests : (b c : Bool) → HasNone q (cond b (looked space page t) (cond c (entered space page tt (looked space page t)) (looked space page t)))
        by_tests true c = tried
        by_tests false true = none_entered page (looked space page t) tried
        by_tests false false = tried

    by_test : (x y : BareTranslations) (b : Bool) → HasNone q x → HasNone q y → HasNone q (cond b x y)
    by_test x y true one other = one
    by_test x y false one other = other

    none_pages : (memory : Memory) (need : ℕ) (pages : List ℕ) (t : BareTranslations) → HasNone q t → HasNone q (translated_pages space memory need pages t)
    unfolding translated_pages
    none_pages memory need [] t none = none
    none_pages memory need (page ∷ pages) t none =
        let tried = none_translated memory page t none in
        by_test _ _ (page_allows memory need page) (none_pages memory need pages (translated space memory page t) tried) tried

    none_access : (memory : Memory) (access : Access) (t : BareTranslations) → HasNone q t → HasNone q (access_translated space memory access t)
    unfolding access_translated
    none_access memory access t none = none_pages memory access.need (pages_under access.address access.length) t none

    pub none_counted : (memory : Memory) (accesses : List Access) (t : BareTranslations) → HasNone q t → HasNone q (counted space memory accesses t)
    unfolding counted
    none_counted memory [] t none = none
    none_counted memory (access ∷ accesses) t none =
        let tried = none_access memory access t none in
        by_test _ _ (is_some (denied_at memory access)) tried (none_counted memory accesses (access_translated space memory access t) tried)
