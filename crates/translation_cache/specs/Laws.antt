use Rattle.std.proofs.Common.{◌≡◌, ℕ, zero, suc, ◌+◌, ◌%◌, ◌<◌, ◌≤◌, Bool, true, false, cond, not, ◌&&◌, nat_eq, List, [], ◌∷◌, length, take, get_or, filter, Option, Some, None, sym, ap, subst, ◌∙◌, refl, arith, eqb-true, eq-eqb}
use Rattle.std.proofs.Math.ListN as math
use Rattle.std.proofs.lemmas.Bool.{and_parts}
use Rattle.std.proofs.lemmas.List.{get_or-set_same, get_or-set_other, length-map, length-replicate, length-set}
use Rattle.translation_cache.specs.Formed.{AreDistinct, AreOfSet, IsFormed, IsSet}
use Rattle.translation_cache.specs.Translations.{Entry, Translations, changed, entered, entry_of, flushed, found, found_in, is_of, looked, looked_by, no_translations, set_of, updated, with_hits, with_misses, with_set, without, without_space}
use Rattle.translation_cache.specs.declared.TheConstants.{SETS, SET_ENTRIES}

-- Laws: what is true of all lists stays true, and what is found after each change.

module _ {A : Type 0} where
  -- The entry of a page.

  pub of_space : (space page : ℕ) (e : Entry A) → is_of space page e ≡ true → e.space ≡ space
  of_space space page e is = eqb-true e.space space (and_parts (nat_eq e.space space) (nat_eq e.page page) is).0

  pub of_page : (space page : ℕ) (e : Entry A) → is_of space page e ≡ true → e.page ≡ page
  of_page space page e is = eqb-true e.page page (and_parts (nat_eq e.space space) (nat_eq e.page page) is).1

  pub is_same : (space page : ℕ) (held : A) → is_of space page (entry_of space page held) ≡ true
  is_same space page held = λ i. eq-eqb space space refl i && eq-eqb page page refl i

  -- a first one that isn't of the page
  pub not_first : (b : Bool) (x : A) (o : Option A) → cond b (Some x) o ≡ None → b ≡ false
  not_first true x o none = cc
  not_first false x o none = refl

  pub not_rest : (b : Bool) (x : A) (o : Option A) → cond b (Some x) o ≡ None → o ≡ None
  not_rest true x o none = cc
  not_rest false x o none = none

  pub none_first : (space page : ℕ) (e : Entry A) (es : List (Entry A)) → is_of space page e ≡ false → found_in space page es ≡ None → found_in space page (e ∷ es) ≡ None
  none_first space page e es other none = ap (λ (b : Bool). cond b (Some e.held) (found_in space page es)) other ∙ none

  -- One list.

  length_without : (space page : ℕ) (es : List (Entry A)) (held : A) → found_in space page es ≡ Some held → length (without space page es) + 1 ≡ length es
  length_without space page [] held is = cc
  length_without space page (e ∷ es) held is = by_test (is_of space page e) (length_without space page es held) is
    where
      by_test : (b : Bool) → (found_in space page es ≡ Some held → length (without space page es) + 1 ≡ length es)
          → cond b (Some e.held) (found_in space page es) ≡ Some held → length (cond b es (e ∷ without space page es)) + 1 ≡ length (e ∷ es)
      by_test true more is = omega arith
      by_test false more is = omega (arith, more is)

  placed_without : (set space page : ℕ) (es : List (Entry A)) → AreOfSet set es → AreOfSet set (without space page es)
  placed_without set space page [] are = tt
  placed_without set space page (e ∷ es) are = by_test (is_of space page e) (placed_without set space page es are.1)
    where
      by_test : (b : Bool) → AreOfSet set (without space page es) → AreOfSet set (cond b es (e ∷ without space page es))
      by_test true rest = are.1
      by_test false rest = (are.0, rest)

  none_without : (space page s p : ℕ) (es : List (Entry A)) → found_in s p es ≡ None → found_in s p (without space page es) ≡ None
  none_without space page s p [] none = none
  none_without space page s p (e ∷ es) none =
      by_test (is_of space page e) (none_without space page s p es (not_rest (is_of s p e) e.held (found_in s p es) none))
    where
      by_test : (b : Bool) → found_in s p (without space page es) ≡ None → found_in s p (cond b es (e ∷ without space page es)) ≡ None
      by_test true rest = not_rest (is_of s p e) e.held (found_in s p es) none
      by_test false rest = none_first s p e (without space page es) (not_first (is_of s p e) e.held (found_in s p es) none) rest

  -- without the entry of a page that page isn't there
  gone_without : (space page : ℕ) (es : List (Entry A)) → AreDistinct es → found_in space page (without space page es) ≡ None
  gone_without space page [] once = refl
  gone_without space page (e ∷ es) once = by_test (is_of space page e) refl (gone_without space page es once.1)
    where
      by_test : (b : Bool) → is_of space page e ≡ b → found_in space page (without space page es) ≡ None
          → found_in space page (cond b es (e ∷ without space page es)) ≡ None
      by_test true is rest =
          ap (λ s. found_in s page es) (sym (of_space space page e is)) ∙ ap (λ p. found_in e.space p es) (sym (of_page space page e is)) ∙ once.0
      by_test false is rest = none_first space page e (without space page es) is rest

  once_without : (space page : ℕ) (es : List (Entry A)) → AreDistinct es → AreDistinct (without space page es)
  once_without space page [] once = tt
  once_without space page (e ∷ es) once = by_test (is_of space page e) (once_without space page es once.1)
    where
      by_test : (b : Bool) → AreDistinct (without space page es) → AreDistinct (cond b es (e ∷ without space page es))
      by_test true rest = once.1
      by_test false rest = (none_without space page e.space e.page es once.0, rest)

  pub set_raised : (set space page : ℕ) (es : List (Entry A)) (held : A) → IsSet set es → page % SETS ≡ set → found_in space page es ≡ Some held
      → IsSet set (entry_of space page held ∷ without space page es)
  set_raised set space page es held is of there = record {
    few = omega (arith, length_without space page es held there, is.few);
    placed = (of, placed_without set space page es is.placed);
    once = (gone_without space page es is.once, once_without space page es is.once);
  }

  length_take : (n : ℕ) (es : List (Entry A)) → length (take n es) ≤ n
  length_take zero es = omega arith
  length_take (suc n) [] = omega arith
  length_take (suc n) (e ∷ es) = let more = length_take n es in omega (arith, more)

  placed_take : (set n : ℕ) (es : List (Entry A)) → AreOfSet set es → AreOfSet set (take n es)
  placed_take set zero es are = tt
  placed_take set (suc n) [] are = tt
  placed_take set (suc n) (e ∷ es) are = (are.0, placed_take set n es are.1)

  none_take : (s p n : ℕ) (es : List (Entry A)) → found_in s p es ≡ None → found_in s p (take n es) ≡ None
  none_take s p zero es none = refl
  none_take s p (suc n) [] none = refl
  none_take s p (suc n) (e ∷ es) none =
      none_first s p e (take n es) (not_first (is_of s p e) e.held (found_in s p es) none)
      (none_take s p n es (not_rest (is_of s p e) e.held (found_in s p es) none))

  once_take : (n : ℕ) (es : List (Entry A)) → AreDistinct es → AreDistinct (take n es)
  once_take zero es once = tt
  once_take (suc n) [] once = tt
  once_take (suc n) (e ∷ es) once = (none_take e.space e.page n es once.0, once_take n es once.1)

  pub set_put : (set space page : ℕ) (es : List (Entry A)) (held : A) → IsSet set es → page % SETS ≡ set → found_in space page es ≡ None
      → IsSet set (take SET_ENTRIES (entry_of space page held ∷ es))
  set_put set space page es held is of absent = record {
    few = length_take SET_ENTRIES (entry_of space page held ∷ es);
    placed = placed_take set SET_ENTRIES (entry_of space page held ∷ es) (of, is.placed);
    once = once_take SET_ENTRIES (entry_of space page held ∷ es) (absent, is.once);
  }

  length_changed : (f : A → A) (space page : ℕ) (es : List (Entry A)) → length (changed f space page es) ≡ length es
  length_changed f space page [] = refl
  length_changed f space page (e ∷ es) = by_test (is_of space page e) (length_changed f space page es)
    where
      by_test : (b : Bool) → length (changed f space page es) ≡ length es
          → length (cond b (entry_of e.space e.page (f e.held) ∷ es) (e ∷ changed f space page es)) ≡ length (e ∷ es)
      by_test true rest = refl
      by_test false rest = ap suc rest

  placed_changed : (f : A → A) (set space page : ℕ) (es : List (Entry A)) → AreOfSet set es → AreOfSet set (changed f space page es)
  placed_changed f set space page [] are = tt
  placed_changed f set space page (e ∷ es) are = by_test (is_of space page e) (placed_changed f set space page es are.1)
    where
      by_test : (b : Bool) → AreOfSet set (changed f space page es) → AreOfSet set (cond b (entry_of e.space e.page (f e.held) ∷ es) (e ∷ changed f space page es))
      by_test true rest = are
      by_test false rest = (are.0, rest)

  none_changed : (f : A → A) (space page s p : ℕ) (es : List (Entry A)) → found_in s p es ≡ None → found_in s p (changed f space page es) ≡ None
  none_changed f space page s p [] none = none
  none_changed f space page s p (e ∷ es) none =
      by_test (is_of space page e) (none_changed f space page s p es (not_rest (is_of s p e) e.held (found_in s p es) none))
    where
      first : is_of s p e ≡ false
      first = not_first (is_of s p e) e.held (found_in s p es) none

      by_test : (b : Bool) → found_in s p (changed f space page es) ≡ None
          → found_in s p (cond b (entry_of e.space e.page (f e.held) ∷ es) (e ∷ changed f space page es)) ≡ None
      by_test true rest = none_first s p (entry_of e.space e.page (f e.held)) es first (not_rest (is_of s p e) e.held (found_in s p es) none)
      by_test false rest = none_first s p e (changed f space page es) first rest

  once_changed : (f : A → A) (space page : ℕ) (es : List (Entry A)) → AreDistinct es → AreDistinct (changed f space page es)
  once_changed f space page [] once = tt
  once_changed f space page (e ∷ es) once = by_test (is_of space page e) (once_changed f space page es once.1)
    where
      by_test : (b : Bool) → AreDistinct (changed f space page es) → AreDistinct (cond b (entry_of e.space e.page (f e.held) ∷ es) (e ∷ changed f space page es))
      by_test true rest = once
      by_test false rest = (none_changed f space page e.space e.page es once.0, rest)

  pub set_changed : (f : A → A) (set space page : ℕ) (es : List (Entry A)) → IsSet set es → IsSet set (changed f space page es)
  set_changed f set space page es is = record {
    few = omega (arith, length_changed f space page es, is.few);
    placed = placed_changed f set space page es is.placed;
    once = once_changed f space page es is.once;
  }

  length_left : (p : Entry A → Bool) (es : List (Entry A)) → length (filter p es) ≤ length es
  length_left p [] = omega arith
  length_left p (e ∷ es) = by_test (p e) (length_left p es)
    where
      by_test : (b : Bool) → length (filter p es) ≤ length es → length (cond b (e ∷ filter p es) (filter p es)) ≤ length (e ∷ es)
      by_test true rest = omega arith
      by_test false rest = omega arith

  placed_left : (p : Entry A → Bool) (set : ℕ) (es : List (Entry A)) → AreOfSet set es → AreOfSet set (filter p es)
  placed_left p set [] are = tt
  placed_left p set (e ∷ es) are = by_test (p e) (placed_left p set es are.1)
    where
      by_test : (b : Bool) → AreOfSet set (filter p es) → AreOfSet set (cond b (e ∷ filter p es) (filter p es))
      by_test true rest = (are.0, rest)
      by_test false rest = rest

  none_left : (p : Entry A → Bool) (s q : ℕ) (es : List (Entry A)) → found_in s q es ≡ None → found_in s q (filter p es) ≡ None
  none_left p s q [] none = none
  none_left p s q (e ∷ es) none = by_test (p e) (none_left p s q es (not_rest (is_of s q e) e.held (found_in s q es) none))
    where
      by_test : (b : Bool) → found_in s q (filter p es) ≡ None → found_in s q (cond b (e ∷ filter p es) (filter p es)) ≡ None
      by_test true rest = none_first s q e (filter p es) (not_first (is_of s q e) e.held (found_in s q es) none) rest
      by_test false rest = rest

  once_left : (p : Entry A → Bool) (es : List (Entry A)) → AreDistinct es → AreDistinct (filter p es)
  once_left p [] once = tt
  once_left p (e ∷ es) once = by_test (p e) (once_left p es once.1)
    where
      by_test : (b : Bool) → AreDistinct (filter p es) → AreDistinct (cond b (e ∷ filter p es) (filter p es))
      by_test true rest = (none_left p e.space e.page es once.0, rest)
      by_test false rest = rest

  pub set_left : (p : Entry A → Bool) (set : ℕ) (es : List (Entry A)) → IsSet set es → IsSet set (filter p es)
  set_left p set es is = record {
    few = omega (arith, length_left p es, is.few);
    placed = placed_left p set es is.placed;
    once = once_left p es is.once;
  }

  empty_set : (set : ℕ) → IsSet {A = A} set []
  empty_set set = record { few = omega arith; placed = tt; once = tt }

  -- All lists.

  set_inside : (page : ℕ) (t : Translations A) → IsFormed t → page % SETS < length t.sets
  set_inside page t formed = omega (arith, formed.count)

  pub formed_with : (page : ℕ) (es : List (Entry A)) (t : Translations A) → IsFormed t → IsSet (page % SETS) es → IsFormed (with_set page es t)
  formed_with page es t formed is = record {
    count = length-set t.sets (page % SETS) es ∙ formed.count;
    each = λ set. by_set set (nat_eq set (page % SETS)) refl;
    hits_fit = formed.hits_fit;
    misses_fit = formed.misses_fit;
  }
    where
      by_set : (set : ℕ) (b : Bool) → nat_eq set (page % SETS) ≡ b → IsSet set (get_or (with_set page es t).sets set [])
      by_set set true e =
          let same = eqb-true set (page % SETS) e in
          subst (λ n. IsSet n (get_or (with_set page es t).sets n [])) (sym same)
          (subst (IsSet (page % SETS)) (sym (get_or-set_same t.sets (page % SETS) es [] (set_inside page t formed))) is)
      by_set set false e =
          subst (IsSet set) (sym (get_or-set_other t.sets (page % SETS) set es [] (λ same. let is = eq-eqb set (page % SETS) same in cc))) (formed.each set)

  pub formed_hits : (n : ℕ) (t : Translations A) → IsFormed t → IsFormed (with_hits n t)
  unfolding with_hits
  formed_hits n t formed = record { count = formed.count; each = formed.each; hits_fit = omega arith; misses_fit = formed.misses_fit }

  pub formed_misses : (n : ℕ) (t : Translations A) → IsFormed t → IsFormed (with_misses n t)
  unfolding with_misses
  formed_misses n t formed = record { count = formed.count; each = formed.each; hits_fit = formed.hits_fit; misses_fit = omega arith }

  pub formed_looked : (space page : ℕ) (t : Translations A) → IsFormed t → IsFormed (looked space page t)
  unfolding looked found
  formed_looked space page t formed = by_found (found_in space page (set_of page t)) refl
    where
      by_found : (o : Option A) → found_in space page (set_of page t) ≡ o → IsFormed (looked_by space page t o)
      by_found None is = formed_misses 1 t formed
      by_found (Some held) is =
          formed_hits 1 (with_set page (entry_of space page held ∷ without space page (set_of page t)) t)
          (formed_with page _ t formed (set_raised (page % SETS) space page (set_of page t) held (formed.each (page % SETS)) refl is))

  pub formed_entered : (space page : ℕ) (held : A) (t : Translations A) → IsFormed t → found space page t ≡ None → IsFormed (entered space page held t)
  unfolding entered found
  formed_entered space page held t formed absent =
      formed_with page (take SET_ENTRIES (entry_of space page held ∷ set_of page t)) t formed
      (set_put (page % SETS) space page (set_of page t) held (formed.each (page % SETS)) refl absent)

  pub formed_updated : (f : A → A) (space page : ℕ) (t : Translations A) → IsFormed t → IsFormed (updated f space page t)
  unfolding updated
  formed_updated f space page t formed =
      formed_with page (changed f space page (set_of page t)) t formed (set_changed f (page % SETS) space page (set_of page t) (formed.each (page % SETS)))

  pub formed_flushed : (space : ℕ) (t : Translations A) → IsFormed t → IsFormed (flushed space t)
  unfolding flushed
  formed_flushed space t formed = record {
    count = length-map t.sets (without_space space) ∙ formed.count;
    each = λ set. subst (IsSet set) (sym (math.get_or-map (without_space space) t.sets set []))
        (set_left (λ (entry : Entry A). not (nat_eq entry.space space)) set (get_or t.sets set []) (formed.each set));
    hits_fit = formed.hits_fit;
    misses_fit = formed.misses_fit;
  }

  pub none_at : (n set : ℕ) → get_or {A = List (Entry A)} (math.replicate n []) set [] ≡ []
  none_at zero set = refl
  none_at (suc n) zero = refl
  none_at (suc n) (suc set) = none_at n set

  pub formed_none : IsFormed (no_translations {A = A})
  unfolding no_translations
  formed_none =
      let none : List (Entry A) = [] in
      record {
        count = length-replicate SETS none;
        each = λ set. subst (IsSet set) (sym (none_at SETS set)) (empty_set set);
        hits_fit = omega arith;
        misses_fit = omega arith;
      }
