use Rattle.std.proofs.Common.{◌≡◌, ℕ, suc, ◌%◌, Bool, true, false, cond, ◌&&◌, not, nat_eq, List, [], ◌∷◌, get_or, map, None, sym, ap, ◌∙◌, refl, eq-eqb}
use Rattle.translation_cache.specs.Formed.{AreOfSet, IsFormed}
use Rattle.translation_cache.specs.Laws.{not_first, not_rest}
use Rattle.translation_cache.specs.Translations.{Entry, Translations, flushed, found, found_in, is_of, without_space}
use Rattle.translation_cache.specs.declared.TheConstants.{SETS}

-- A space of which no page is found has no entry, so nothing of it can be removed.

module _ {A : Type 0} (space : ℕ) where
  -- in one list
  none_left : (set : ℕ) (es : List (Entry A)) → AreOfSet set es → ((page : ℕ) → page % SETS ≡ set → found_in space page es ≡ None)
      → without_space space es ≡ es
  none_left set [] placed none = refl
  none_left set (e ∷ es) placed none =
      by_test (nat_eq e.space space) refl
      (none_left set es placed.1 (λ page same. not_rest (is_of space page e) e.held (found_in space page es) (none page same)))
    where
      by_test : (b : Bool) → nat_eq e.space space ≡ b → without_space space es ≡ es
          → cond (not b) (e ∷ without_space space es) (without_space space es) ≡ e ∷ es
      by_test false other rest = ap (λ xs. e ∷ xs) rest
      by_test true same rest =
          let test : is_of space e.page e ≡ false = not_first (is_of space e.page e) e.held (found_in space e.page es) (none e.page placed.0) in
          let is : is_of space e.page e ≡ true = λ i. same i && eq-eqb e.page e.page refl i in
          let both : true ≡ false = sym is ∙ test in
          cc

  -- in all of them
  each_left : (sets : List (List (Entry A))) → ((set : ℕ) → without_space space (get_or sets set []) ≡ get_or sets set []) → map (without_space space) sets ≡ sets
  each_left [] each = refl
  each_left (es ∷ sets) each = λ i. each 0 i ∷ each_left sets (λ set. each (suc set)) i

  pub flushed_unseen : (t : Translations A) → IsFormed t → ((page : ℕ) → found space page t ≡ None) → flushed space t ≡ t
  unfolding flushed found
  flushed_unseen t formed none =
      ap (λ sets. record { sets = sets; hits = t.hits; misses = t.misses })
      (each_left t.sets (λ set. none_left set (get_or t.sets set []) (formed.each set).placed
      (λ page same. ap (λ at. found_in space page (get_or t.sets at [])) (sym same) ∙ none page)))
