use Rattle.std.proofs.Common.{◌≡◌, ℕ, zero, suc, ◌%◌, ◌<◌, ◌⊎◌, inl, inr, Bool, true, false, cond, not, ◌&&◌, nat_eq, List, [], ◌∷◌, take, get_or, length, map, Option, Some, None, sym, ap, subst, ◌∙◌, refl, arith, eqb-true, eq-eqb}
use Rattle.std.specs.Option.{option_map}
use Rattle.std.proofs.Math.ListN as math
use Rattle.std.proofs.lemmas.List.{get_or-set_other, get_or-set_same, get_or_default, length-map, same_lists}
use Rattle.translation_cache.specs.Formed.{AreOfSet, IsFormed}
use Rattle.translation_cache.specs.Laws.{is_same, none_at, not_first, not_rest, of_page, of_space}
use Rattle.translation_cache.specs.Translations.{Entry, Translations, changed, entered, entry_of, flushed, found, found_in, is_of, looked, looked_by, no_translations, set_of, updated, with_hits, with_misses, with_set, without, without_space}
use Rattle.translation_cache.specs.declared.TheConstants.{SETS, SET_ENTRIES}

-- Laws: what is found after each change.

-- two pages are one, or not
pub by_page : {P : Type 0} (space page s p : ℕ) → ((s ≡ space) × (p ≡ page) → P) → (((s ≡ space) × (p ≡ page) → ⊥) → P) → P
by_page {P = P} space page s p one two = by_test (nat_eq s space) refl (nat_eq p page) refl
  where
    by_test : (b : Bool) → nat_eq s space ≡ b → (c : Bool) → nat_eq p page ≡ c → P
    by_test true is true also = one (eqb-true s space is, eqb-true p page also)
    by_test true is false also = two (λ h. let no_page = sym also ∙ eq-eqb p page h.1 in cc)
    by_test false is c also = two (λ h. let no_space = sym is ∙ eq-eqb s space h.0 in cc)

module _ {A : Type 0} where
  -- an entry in front
  in_front : (b : Bool) (x : A) (o r : Option A) → cond b (Some x) o ≡ r → ((b ≡ true) × (r ≡ Some x)) ⊎ ((b ≡ false) × (o ≡ r))
  in_front true x o r is = inl (refl, sym is)
  in_front false x o r is = inr (refl, is)

  not_page : (space page s p : ℕ) (e : Entry A) → is_of space page e ≡ true → is_of s p e ≡ true → (s ≡ space) × (p ≡ page)
  not_page space page s p e is also = (sym (of_space s p e also) ∙ of_space space page e is, sym (of_page s p e also) ∙ of_page space page e is)

  -- another page isn't that of an entry
  other_page : (space page s p : ℕ) (held : A) → ((s ≡ space) × (p ≡ page) → ⊥) → is_of s p (entry_of space page held) ≡ false
  other_page space page s p held other = by_test (is_of s p (entry_of space page held)) refl
    where
      by_test : (b : Bool) → is_of s p (entry_of space page held) ≡ b → b ≡ false
      by_test true is = absurd (other (sym (of_space s p (entry_of space page held) is), sym (of_page s p (entry_of space page held) is)))
      by_test false is = refl

  other_entry : (space page s p : ℕ) (e : Entry A) → ((s ≡ space) × (p ≡ page) → ⊥) → is_of space page e ≡ true → is_of s p e ≡ false
  other_entry space page s p e other is = by_test (is_of s p e) refl
    where
      by_test : (b : Bool) → is_of s p e ≡ b → b ≡ false
      by_test true also = absurd (other (not_page space page s p e is also))
      by_test false also = refl

  -- In one list.

  pub found_first : (space page : ℕ) (held : A) (es : List (Entry A)) → found_in space page (entry_of space page held ∷ es) ≡ Some held
  found_first space page held es = ap (λ (b : Bool). cond b (Some held) (found_in space page es)) (is_same space page held)

  pub found_behind : (s p : ℕ) (e : Entry A) (es : List (Entry A)) → is_of s p e ≡ false → found_in s p (e ∷ es) ≡ found_in s p es
  found_behind s p e es other = ap (λ (b : Bool). cond b (Some e.held) (found_in s p es)) other

  found_without : (space page s p : ℕ) (es : List (Entry A)) → ((s ≡ space) × (p ≡ page) → ⊥) → found_in s p (without space page es) ≡ found_in s p es
  found_without space page s p [] other = refl
  found_without space page s p (e ∷ es) other = by_test (is_of space page e) refl (found_without space page s p es other)
    where
      by_test : (b : Bool) → is_of space page e ≡ b → found_in s p (without space page es) ≡ found_in s p es
          → found_in s p (cond b es (e ∷ without space page es)) ≡ found_in s p (e ∷ es)
      by_test true is rest = sym (found_behind s p e es (other_entry space page s p e other is))
      by_test false is rest = ap (λ o. cond (is_of s p e) (Some e.held) o) rest

  found_take : (s p n : ℕ) (es : List (Entry A)) (c : A) → found_in s p (take n es) ≡ Some c → found_in s p es ≡ Some c
  found_take s p zero es c is = cc
  found_take s p (suc n) [] c is = cc
  found_take s p (suc n) (e ∷ es) c is = by_test (is_of s p e) (found_take s p n es c) is
    where
      by_test : (b : Bool) → (found_in s p (take n es) ≡ Some c → found_in s p es ≡ Some c)
          → cond b (Some e.held) (found_in s p (take n es)) ≡ Some c → cond b (Some e.held) (found_in s p es) ≡ Some c
      by_test true rest is = is
      by_test false rest is = rest is

  found_changed_same : (f : A → A) (space page : ℕ) (es : List (Entry A)) → found_in space page (changed f space page es) ≡ option_map f (found_in space page es)
  found_changed_same f space page [] = refl
  found_changed_same f space page (e ∷ es) = by_test (is_of space page e) refl (found_changed_same f space page es)
    where
      by_test : (b : Bool) → is_of space page e ≡ b → found_in space page (changed f space page es) ≡ option_map f (found_in space page es)
          → found_in space page (cond b (entry_of e.space e.page (f e.held) ∷ es) (e ∷ changed f space page es)) ≡ option_map f (cond b (Some e.held) (found_in space page es))
      by_test true is rest = ap (λ (b : Bool). cond b (Some (f e.held)) (found_in space page es)) is
      by_test false is rest = found_behind space page e (changed f space page es) is ∙ rest

  found_changed_other : (f : A → A) (space page s p : ℕ) (es : List (Entry A)) → ((s ≡ space) × (p ≡ page) → ⊥) → found_in s p (changed f space page es) ≡ found_in s p es
  found_changed_other f space page s p [] other = refl
  found_changed_other f space page s p (e ∷ es) other = by_test (is_of space page e) refl (found_changed_other f space page s p es other)
    where
      by_test : (b : Bool) → is_of space page e ≡ b → found_in s p (changed f space page es) ≡ found_in s p es
          → found_in s p (cond b (entry_of e.space e.page (f e.held) ∷ es) (e ∷ changed f space page es)) ≡ found_in s p (e ∷ es)
      by_test true is rest =
          found_behind s p (entry_of e.space e.page (f e.held)) es (other_entry space page s p e other is)
          ∙ sym (found_behind s p e es (other_entry space page s p e other is))
      by_test false is rest = ap (λ o. cond (is_of s p e) (Some e.held) o) rest

  found_left_same : (space page : ℕ) (es : List (Entry A)) → found_in space page (without_space space es) ≡ None
  found_left_same space page [] = refl
  found_left_same space page (e ∷ es) = by_test (nat_eq e.space space) refl (found_left_same space page es)
    where
      by_test : (b : Bool) → nat_eq e.space space ≡ b → found_in space page (without_space space es) ≡ None
          → found_in space page (cond (not b) (e ∷ without_space space es) (without_space space es)) ≡ None
      by_test true is rest = rest
      by_test false is rest = found_behind space page e (without_space space es) (ap (λ (b : Bool). b && nat_eq e.page page) is) ∙ rest

  found_left_other : (space s p : ℕ) (es : List (Entry A)) → (s ≡ space → ⊥) → found_in s p (without_space space es) ≡ found_in s p es
  found_left_other space s p [] other = refl
  found_left_other space s p (e ∷ es) other = by_test (nat_eq e.space space) refl (found_left_other space s p es other)
    where
      not_it : nat_eq e.space space ≡ true → (b : Bool) → is_of s p e ≡ b → b ≡ false
      not_it is true also = absurd (other (sym (of_space s p e also) ∙ eqb-true e.space space is))
      not_it is false also = refl

      by_test : (b : Bool) → nat_eq e.space space ≡ b → found_in s p (without_space space es) ≡ found_in s p es
          → found_in s p (cond (not b) (e ∷ without_space space es) (without_space space es)) ≡ found_in s p (e ∷ es)
      by_test true is rest = rest ∙ sym (found_behind s p e es (not_it is (is_of s p e) refl))
      by_test false is rest = ap (λ o. cond (is_of s p e) (Some e.held) o) rest

  -- In all lists.

  found_with : (s p page : ℕ) (es : List (Entry A)) (t : Translations A) → IsFormed t → p % SETS ≡ page % SETS → found s p (with_set page es t) ≡ found_in s p es
  unfolding found
  found_with s p page es t formed same =
      ap (λ n. found_in s p (get_or (with_set page es t).sets n [])) same
      ∙ ap (found_in s p) (get_or-set_same t.sets (page % SETS) es [] (omega (arith, formed.count)))

  found_in_set : (s p page : ℕ) (t : Translations A) → p % SETS ≡ page % SETS → found s p t ≡ found_in s p (set_of page t)
  unfolding found
  found_in_set s p page t same = ap (λ n. found_in s p (get_or t.sets n [])) same

  found_aside : (s p page : ℕ) (es : List (Entry A)) (t : Translations A) → (p % SETS ≡ page % SETS → ⊥) → found s p (with_set page es t) ≡ found s p t
  unfolding found
  found_aside s p page es t other = ap (found_in s p) (get_or-set_other t.sets (page % SETS) (p % SETS) es [] other)

  -- what another list in the place of that of a page leaves
  found_put : (P : Option A → Type 0) (s p page : ℕ) (es : List (Entry A)) (t : Translations A) → IsFormed t
      → (p % SETS ≡ page % SETS → P (found_in s p es)) → ((p ≡ page → ⊥) → P (found s p t)) → P (found s p (with_set page es t))
  found_put P s p page es t formed same other = by_test (nat_eq (p % SETS) (page % SETS)) refl
    where
      by_test : (b : Bool) → nat_eq (p % SETS) (page % SETS) ≡ b → P (found s p (with_set page es t))
      by_test true is =
          let set = eqb-true (p % SETS) (page % SETS) is in subst P (sym (found_with s p page es t formed set)) (same set)
      by_test false is =
          subst P (sym (found_aside s p page es t (λ set. let no_set = sym is ∙ eq-eqb (p % SETS) (page % SETS) set in cc)))
          (other (λ h. let no_set = sym is ∙ eq-eqb (p % SETS) (page % SETS) (ap (λ n. n % SETS) h) in cc))

  pub found_hits : (s p n : ℕ) (t : Translations A) → found s p (with_hits n t) ≡ found s p t
  unfolding found with_hits
  found_hits s p n t = refl

  pub found_misses : (s p n : ℕ) (t : Translations A) → found s p (with_misses n t) ≡ found s p t
  unfolding found with_misses
  found_misses s p n t = refl

  pub found_none : (s p : ℕ) → found s p (no_translations {A = A}) ≡ None
  unfolding found no_translations
  found_none s p = ap (found_in s p) (none_at SETS (p % SETS))

  -- a look-up changes what is found nowhere
  pub found_looked : (space page s p : ℕ) (t : Translations A) → IsFormed t → found s p (looked space page t) ≡ found s p t
  unfolding looked
  found_looked space page s p t formed = by_found (found space page t) refl
    where
      es : A → List (Entry A)
      es held = entry_of space page held ∷ without space page (set_of page t)

      found_there : (held : A) → found space page t ≡ Some held → (s ≡ space) × (p ≡ page) → found s p (with_set page (es held) t) ≡ found s p t
      found_there held is same =
          let at = λ (x : Translations A). ap (λ q. found q p x) same.0 ∙ ap (λ r. found space r x) same.1 in
          at (with_set page (es held) t) ∙ found_with space page page (es held) t formed refl ∙ found_first space page held (without space page (set_of page t))
          ∙ sym is ∙ sym (at t)

      found_beside : (held : A) → ((s ≡ space) × (p ≡ page) → ⊥) → found s p (with_set page (es held) t) ≡ found s p t
      found_beside held other =
          found_put (λ o. o ≡ found s p t) s p page (es held) t formed
          (λ set.
          found_behind s p (entry_of space page held) (without space page (set_of page t)) (other_page space page s p held other)
          ∙ found_without space page s p (set_of page t) other ∙ sym (found_in_set s p page t set))
          (λ far. refl)

      by_found : (o : Option A) → found space page t ≡ o → found s p (looked_by space page t o) ≡ found s p t
      by_found None is = found_misses s p 1 t
      by_found (Some held) is = found_hits s p 1 (with_set page (es held) t) ∙ by_page space page s p (found_there held is) (found_beside held)

  -- what is found after a page was entered is that, or was found before
  pub found_entered : (space page s p : ℕ) (held c : A) (t : Translations A) → IsFormed t → found s p (entered space page held t) ≡ Some c
      → ((s ≡ space) × (p ≡ page) × (c ≡ held)) ⊎ (found s p t ≡ Some c)
  unfolding entered
  found_entered space page s p held c t formed =
      found_put (λ o. o ≡ Some c → ((s ≡ space) × (p ≡ page) × (c ≡ held)) ⊎ (found s p t ≡ Some c)) s p page
      (take SET_ENTRIES (entry_of space page held ∷ set_of page t)) t formed
      (λ set is. by_front set (found_take s p SET_ENTRIES (entry_of space page held ∷ set_of page t) c is))
      (λ far is. inr is)
    where
      it_is : (x y : A) → Some x ≡ Some y → y ≡ x
      it_is x y is = cc

      es : List (Entry A)
      es = entry_of space page held ∷ set_of page t

      renamed : (s ≡ space) × (p ≡ page) → found_in s p es ≡ found_in space page es
      renamed same = ap (λ q. found_in q p es) same.0 ∙ ap (λ r. found_in space r es) same.1

      by_front : p % SETS ≡ page % SETS → found_in s p es ≡ Some c
          → ((s ≡ space) × (p ≡ page) × (c ≡ held)) ⊎ (found s p t ≡ Some c)
      by_front set is =
          by_page space page s p
          (λ same. inl (same.0, same.1, it_is held c (sym (found_first space page held (set_of page t)) ∙ sym (renamed same) ∙ is)))
          (λ other. inr (found_in_set s p page t set ∙ sym (found_behind s p (entry_of space page held) (set_of page t) (other_page space page s p held other)) ∙ is))

  -- a change of what an entry holds is found there, and nowhere else
  pub found_updated : (f : A → A) (space page : ℕ) (t : Translations A) → IsFormed t → found space page (updated f space page t) ≡ option_map f (found space page t)
  unfolding updated found
  found_updated f space page t formed =
      found_with space page page (changed f space page (set_of page t)) t formed refl ∙ found_changed_same f space page (set_of page t)

  pub found_beside : (f : A → A) (space page s p : ℕ) (t : Translations A) → IsFormed t → ((s ≡ space) × (p ≡ page) → ⊥)
      → found s p (updated f space page t) ≡ found s p t
  unfolding updated
  found_beside f space page s p t formed other =
      found_put (λ o. o ≡ found s p t) s p page (changed f space page (set_of page t)) t formed
      (λ set. found_changed_other f space page s p (set_of page t) other ∙ sym (found_in_set s p page t set))
      (λ far. refl)

  -- nothing is found of a space that was flushed, and of another one what was found before
  flushed_at : (space s p : ℕ) (t : Translations A) → found s p (flushed space t) ≡ found_in s p (without_space space (set_of p t))
  unfolding flushed found
  flushed_at space s p t = ap (found_in s p) (math.get_or-map (without_space space) t.sets (p % SETS) [])

  pub found_flushed : (space page : ℕ) (t : Translations A) → found space page (flushed space t) ≡ None
  found_flushed space page t = flushed_at space space page t ∙ found_left_same space page (set_of page t)

  pub found_unflushed : (space s p : ℕ) (t : Translations A) → (s ≡ space → ⊥) → found s p (flushed space t) ≡ found s p t
  unfolding found
  found_unflushed space s p t other = flushed_at space s p t ∙ found_left_other space s p (set_of p t) other

  -- To remove the entries of a space twice is to remove them once.

  left_twice : (space : ℕ) (es : List (Entry A)) → without_space space (without_space space es) ≡ without_space space es
  left_twice space [] = refl
  left_twice space (e ∷ es) = by_test (nat_eq e.space space) refl (left_twice space es)
    where
      by_test : (b : Bool) → nat_eq e.space space ≡ b → without_space space (without_space space es) ≡ without_space space es
          → without_space space (cond (not b) (e ∷ without_space space es) (without_space space es)) ≡ cond (not b) (e ∷ without_space space es) (without_space space es)
      by_test true is rest = rest
      by_test false is rest =
          ap (λ (b : Bool). cond (not b) (e ∷ without_space space (without_space space es)) (without_space space (without_space space es))) is ∙ ap (λ xs. e ∷ xs) rest

  pub flushed_twice : (space : ℕ) (t : Translations A) → flushed space (flushed space t) ≡ flushed space t
  unfolding flushed
  flushed_twice space t = ap (λ sets. record { sets = sets; hits = t.hits; misses = t.misses }) (each t.sets)
    where
      each : (sets : List (List (Entry A))) → map (without_space space) (map (without_space space) sets) ≡ map (without_space space) sets
      each [] = refl
      each (es ∷ sets) = λ i. left_twice space es i ∷ each sets i

  -- Where nothing is found of a space, there is nothing to remove.

  stays_in : (space : ℕ) (es : List (Entry A)) → ((page : ℕ) → found_in space page es ≡ None) → without_space space es ≡ es
  stays_in space [] none = refl
  stays_in space (e ∷ es) none = by_test (nat_eq e.space space) refl (stays_in space es (λ page. not_rest (is_of space page e) e.held (found_in space page es) (none page)))
    where
      no_entry : nat_eq e.space space ≡ true → ⊥
      no_entry is =
          let itself : is_of space e.page e ≡ true = λ i. is i && eq-eqb e.page e.page refl i in
          let other = sym itself ∙ not_first (is_of space e.page e) e.held (found_in space e.page es) (none e.page) in cc

      by_test : (b : Bool) → nat_eq e.space space ≡ b → without_space space es ≡ es → cond (not b) (e ∷ without_space space es) (without_space space es) ≡ e ∷ es
      by_test true is rest = absurd (no_entry is)
      by_test false is rest = ap (λ xs. e ∷ xs) rest

  elsewhere : (set space page : ℕ) (es : List (Entry A)) → AreOfSet set es → (page % SETS ≡ set → ⊥) → found_in space page es ≡ None
  elsewhere set space page [] are other = refl
  elsewhere set space page (e ∷ es) are other = by_test (is_of space page e) refl (elsewhere set space page es are.1 other)
    where
      by_test : (b : Bool) → is_of space page e ≡ b → found_in space page es ≡ None → cond b (Some e.held) (found_in space page es) ≡ None
      by_test true is rest = absurd (other (ap (λ n. n % SETS) (sym (of_page space page e is)) ∙ are.0))
      by_test false is rest = rest

  pub flushed_none : (space : ℕ) (t : Translations A) → IsFormed t → ((page : ℕ) → found space page t ≡ None) → flushed space t ≡ t
  unfolding flushed found
  flushed_none space t formed none =
      ap (λ sets. record { sets = sets; hits = t.hits; misses = t.misses })
      (same_lists (map (without_space space) t.sets) t.sets (length-map t.sets (without_space space)) (λ k d less. at k d (omega (arith, less, length-map t.sets (without_space space)))))
    where
      in_set : (set page : ℕ) → found_in space page (get_or t.sets set []) ≡ None
      in_set set page = by_test (nat_eq (page % SETS) set) refl
        where
          by_test : (b : Bool) → nat_eq (page % SETS) set ≡ b → found_in space page (get_or t.sets set []) ≡ None
          by_test true is = ap (λ n. found_in space page (get_or t.sets n [])) (sym (eqb-true (page % SETS) set is)) ∙ none page
          by_test false is =
              elsewhere set space page (get_or t.sets set []) (formed.each set).placed (λ same. let no_set = sym is ∙ eq-eqb (page % SETS) set same in cc)

      at : (k : ℕ) (d : List (Entry A)) → k < length t.sets → get_or (map (without_space space) t.sets) k d ≡ get_or t.sets k d
      at k d less =
          get_or_default (map (without_space space) t.sets) k d [] (omega (arith, less, length-map t.sets (without_space space)))
          ∙ math.get_or-map (without_space space) t.sets k [] ∙ stays_in space (get_or t.sets k []) (in_set k)
          ∙ get_or_default t.sets k [] d less
