use Rattle.std.proofs.Common.{◌≡◌, ℕ, zero, suc, ◌%◌, Bool, true, false, cond, not, nat_eq, List, [], ◌∷◌, take, get_or, map, replicate, Option, Some, None, sym, ap, subst, ◌∙◌, refl, arith}
use Rattle.std.specs.Option.{option_map}
use Rattle.std.proofs.Math.ListN as math
use Rattle.std.proofs.lemmas.List.{length-map, map-set, set-get_or}
use Rattle.translation_cache.specs.Formed.{AreDistinct, AreOfSet, IsFormed, IsSet}
use Rattle.translation_cache.specs.Translations.{Entry, Translations, changed, entered, entry_of, flushed, found, found_in, is_of, looked, looked_by, no_translations, set_of, updated, with_hits, with_misses, with_set, without, without_space}
use Rattle.translation_cache.specs.declared.TheConstants.{SETS, SET_ENTRIES}

-- The lists without what their entries hold: pairs of space and page, and the counts. Every change goes through that.

abbrev pub BareTranslations : Type 0
BareTranslations = Translations (Unit {0})

module _ {A : Type 0} where
  abbrev pub bare_entry : Entry A → Entry (Unit {0})
  bare_entry entry = entry_of entry.space entry.page tt

  abbrev pub bare_list : List (Entry A) → List (Entry (Unit {0}))
  bare_list entries = map bare_entry entries

  unfoldable pub bare : Translations A → BareTranslations
  bare t = record { sets = map bare_list t.sets; hits = t.hits; misses = t.misses }

  -- One list.

  bare_found_in : (space page : ℕ) (es : List (Entry A)) → found_in space page (bare_list es) ≡ option_map (λ held. tt) (found_in space page es)
  bare_found_in space page [] = refl
  bare_found_in space page (e ∷ es) = by_test (is_of space page e) (bare_found_in space page es)
    where
      by_test : (b : Bool) → found_in space page (bare_list es) ≡ option_map (λ held. tt) (found_in space page es)
          → cond b (Some tt) (found_in space page (bare_list es)) ≡ option_map (λ held. tt) (cond b (Some e.held) (found_in space page es))
      by_test true rest = refl
      by_test false rest = rest

  bare_without : (space page : ℕ) (es : List (Entry A)) → bare_list (without space page es) ≡ without space page (bare_list es)
  bare_without space page [] = refl
  bare_without space page (e ∷ es) = by_test (is_of space page e) (bare_without space page es)
    where
      by_test : (b : Bool) → bare_list (without space page es) ≡ without space page (bare_list es)
          → bare_list (cond b es (e ∷ without space page es)) ≡ cond b (bare_list es) (bare_entry e ∷ without space page (bare_list es))
      by_test true rest = refl
      by_test false rest = ap (λ xs. bare_entry e ∷ xs) rest

  bare_changed : (f : A → A) (space page : ℕ) (es : List (Entry A)) → bare_list (changed f space page es) ≡ bare_list es
  bare_changed f space page [] = refl
  bare_changed f space page (e ∷ es) = by_test (is_of space page e) (bare_changed f space page es)
    where
      by_test : (b : Bool) → bare_list (changed f space page es) ≡ bare_list es
          → bare_list (cond b (entry_of e.space e.page (f e.held) ∷ es) (e ∷ changed f space page es)) ≡ bare_list (e ∷ es)
      by_test true rest = refl
      by_test false rest = ap (λ xs. bare_entry e ∷ xs) rest

  bare_take : (n : ℕ) (es : List (Entry A)) → bare_list (take n es) ≡ take n (bare_list es)
  bare_take zero es = refl
  bare_take (suc n) [] = refl
  bare_take (suc n) (e ∷ es) = ap (λ xs. bare_entry e ∷ xs) (bare_take n es)

  bare_left : (space : ℕ) (es : List (Entry A)) → bare_list (without_space space es) ≡ without_space space (bare_list es)
  bare_left space [] = refl
  bare_left space (e ∷ es) = by_test (not (nat_eq e.space space)) (bare_left space es)
    where
      by_test : (b : Bool) → bare_list (without_space space es) ≡ without_space space (bare_list es)
          → bare_list (cond b (e ∷ without_space space es) (without_space space es)) ≡ cond b (bare_entry e ∷ without_space space (bare_list es)) (without_space space (bare_list es))
      by_test true rest = ap (λ xs. bare_entry e ∷ xs) rest
      by_test false rest = rest

  -- All lists.

  bare_set_of : (page : ℕ) (t : Translations A) → set_of page (bare t) ≡ bare_list (set_of page t)
  unfolding bare
  bare_set_of page t = math.get_or-map bare_list t.sets (page % SETS) []

  bare_with : (page : ℕ) (es : List (Entry A)) (t : Translations A) → bare (with_set page es t) ≡ with_set page (bare_list es) (bare t)
  unfolding bare
  bare_with page es t = ap (λ sets. record { sets = sets; hits = t.hits; misses = t.misses }) (map-set bare_list t.sets (page % SETS) es)

  pub bare_hits : (n : ℕ) (t : Translations A) → bare (with_hits n t) ≡ with_hits n (bare t)
  unfolding bare with_hits
  bare_hits n t = refl

  pub bare_misses : (n : ℕ) (t : Translations A) → bare (with_misses n t) ≡ with_misses n (bare t)
  unfolding bare with_misses
  bare_misses n t = refl

  pub found_bare : (space page : ℕ) (t : Translations A) → found space page (bare t) ≡ option_map (λ held. tt) (found space page t)
  unfolding found
  found_bare space page t = ap (found_in space page) (bare_set_of page t) ∙ bare_found_in space page (set_of page t)

  pub bare_looked : (space page : ℕ) (t : Translations A) → bare (looked space page t) ≡ looked space page (bare t)
  unfolding looked
  bare_looked space page t = by_found (found space page t) ∙ ap (looked_by space page (bare t)) (sym (found_bare space page t))
    where
      by_found : (o : Option A) → bare (looked_by space page t o) ≡ looked_by space page (bare t) (option_map (λ held. tt) o)
      by_found None = bare_misses 1 t
      by_found (Some held) =
          let es = entry_of space page held ∷ without space page (set_of page t) in
          bare_hits 1 (with_set page es t) ∙ ap (with_hits 1) (bare_with page es t)
          ∙ ap (λ xs. with_hits 1 (with_set page (entry_of space page tt ∷ xs) (bare t)))
          (bare_without space page (set_of page t) ∙ ap (without space page) (sym (bare_set_of page t)))

  pub bare_entered : (space page : ℕ) (held : A) (t : Translations A) → bare (entered space page held t) ≡ entered space page tt (bare t)
  unfolding entered
  bare_entered space page held t =
      bare_with page (take SET_ENTRIES (entry_of space page held ∷ set_of page t)) t
      ∙ ap (λ es. with_set page es (bare t))
      (bare_take SET_ENTRIES (entry_of space page held ∷ set_of page t)
      ∙ ap (λ es. take SET_ENTRIES (entry_of space page tt ∷ es)) (sym (bare_set_of page t)))

  pub bare_updated : (f : A → A) (space page : ℕ) (t : Translations A) → bare (updated f space page t) ≡ bare t
  unfolding updated bare
  bare_updated f space page t =
      bare_with page (changed f space page (set_of page t)) t
      ∙ ap (λ es. with_set page es (bare t)) (bare_changed f space page (set_of page t) ∙ sym (bare_set_of page t))
      ∙ ap (λ sets. record { sets = sets; hits = t.hits; misses = t.misses }) (set-get_or (map bare_list t.sets) (page % SETS) [])

  pub bare_flushed : (space : ℕ) (t : Translations A) → bare (flushed space t) ≡ flushed space (bare t)
  unfolding flushed bare
  bare_flushed space t = ap (λ sets. record { sets = sets; hits = t.hits; misses = t.misses }) (each t.sets)
    where
      each : (sets : List (List (Entry A))) → map bare_list (map (without_space space) sets) ≡ map (without_space space) (map bare_list sets)
      each [] = refl
      each (es ∷ sets) = λ i. bare_left space es i ∷ each sets i

  -- What is true of all lists is so without what they hold.

  bare_none_in : (s p : ℕ) (es : List (Entry A)) → found_in s p es ≡ None → found_in s p (bare_list es) ≡ None
  bare_none_in s p es none = bare_found_in s p es ∙ ap (option_map (λ held. tt)) none

  bare_placed : (at : ℕ) (es : List (Entry A)) → AreOfSet at es → AreOfSet at (bare_list es)
  bare_placed at [] are = tt
  bare_placed at (e ∷ es) are = (are.0, bare_placed at es are.1)

  bare_once : (es : List (Entry A)) → AreDistinct es → AreDistinct (bare_list es)
  bare_once [] once = tt
  bare_once (e ∷ es) once = (bare_none_in e.space e.page es once.0, bare_once es once.1)

  pub formed_bare : (t : Translations A) → IsFormed t → IsFormed (bare t)
  unfolding bare
  formed_bare t formed = record {
    count = length-map t.sets bare_list ∙ formed.count;
    each = λ at. subst (IsSet at) (sym (math.get_or-map bare_list t.sets at [])) (record {
      few = omega (arith, length-map (get_or t.sets at []) bare_entry, (formed.each at).few);
      placed = bare_placed at (get_or t.sets at []) (formed.each at).placed;
      once = bare_once (get_or t.sets at []) (formed.each at).once;
    });
    hits_fit = formed.hits_fit;
    misses_fit = formed.misses_fit;
  }

pub bare_none : (A : Type 0) → bare (no_translations {A = A}) ≡ no_translations
unfolding bare no_translations
bare_none A = ap (λ sets. record { sets = sets; hits = 0; misses = 0 }) (empty SETS)
  where
    empty : (n : ℕ) → map (bare_list {A = A}) (replicate n []) ≡ replicate n []
    empty zero = refl
    empty (suc n) = ap (λ sets. [] ∷ sets) (empty n)
