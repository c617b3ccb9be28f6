use Rattle.std.proofs.Common.{◌≡◌, set, ℕ, zero, suc, ◌+◌, ◌<◌, Bool, true, false, cond, ◌&&◌, List, [], ◌∷◌, ◌++◌, length, take, drop, get_or, Some, None, sym, ap, ◌∙◌, refl, arith, eq-eqb, length-append, length-take-le, drop-cons, take-append-drop}
use Rattle.std.proofs.Math.Seq.{get_or-append_seam, take-append_seam}
use Rattle.std.proofs.lemmas.List.{length-set, take_more}
use Rattle.std.specs.List.{refill}
use Rattle.translation_cache.specs.Translations.{Entry, changed, entry_of, found_in, is_of, raised, raised_by, without}
use Rattle.translation_cache.specs.Cuts.{IsPlace}
use Rattle.translation_cache.specs.Laws.{not_first, not_rest, of_page, of_space}

-- A list that is cut at the entry of a page.

module _ {A : Type 0} where
  pub is_entry : (space page : ℕ) (e : Entry A) → is_of space page e ≡ true → e ≡ entry_of space page e.held
  is_entry space page e is = λ i. record { space = of_space space page e is i; page = of_page space page e is i; held = e.held }

  pub found_cut : (space page : ℕ) (front : List (Entry A)) (e : Entry A) (back : List (Entry A)) → found_in space page front ≡ None → is_of space page e ≡ true
      → found_in space page (front ++ e ∷ back) ≡ Some e.held
  found_cut space page [] e back none is = ap (λ (b : Bool). cond b (Some e.held) (found_in space page back)) is
  found_cut space page (x ∷ front) e back none is =
      ap (λ (b : Bool). cond b (Some x.held) (found_in space page (front ++ e ∷ back))) (not_first (is_of space page x) x.held (found_in space page front) none)
      ∙ found_cut space page front e back (not_rest (is_of space page x) x.held (found_in space page front) none) is

  pub without_cut : (space page : ℕ) (front : List (Entry A)) (e : Entry A) (back : List (Entry A)) → found_in space page front ≡ None → is_of space page e ≡ true
      → without space page (front ++ e ∷ back) ≡ front ++ back
  without_cut space page [] e back none is = ap (λ (b : Bool). cond b back (e ∷ without space page back)) is
  without_cut space page (x ∷ front) e back none is =
      ap (λ (b : Bool). cond b (front ++ e ∷ back) (x ∷ without space page (front ++ e ∷ back))) (not_first (is_of space page x) x.held (found_in space page front) none)
      ∙ ap (λ es. x ∷ es) (without_cut space page front e back (not_rest (is_of space page x) x.held (found_in space page front) none) is)

  pub changed_cut : (f : A → A) (space page : ℕ) (front : List (Entry A)) (e : Entry A) (back : List (Entry A)) → found_in space page front ≡ None
      → is_of space page e ≡ true → changed f space page (front ++ e ∷ back) ≡ front ++ entry_of e.space e.page (f e.held) ∷ back
  changed_cut f space page [] e back none is = ap (λ (b : Bool). cond b (entry_of e.space e.page (f e.held) ∷ back) (e ∷ changed f space page back)) is
  changed_cut f space page (x ∷ front) e back none is =
      ap (λ (b : Bool). cond b (entry_of x.space x.page (f x.held) ∷ (front ++ e ∷ back)) (x ∷ changed f space page (front ++ e ∷ back)))
      (not_first (is_of space page x) x.held (found_in space page front) none)
      ∙ ap (λ es. x ∷ es) (changed_cut f space page front e back (not_rest (is_of space page x) x.held (found_in space page front) none) is)

  -- one that isn't there stays unchanged
  pub changed_none : (f : A → A) (space page : ℕ) (es : List (Entry A)) → found_in space page es ≡ None → changed f space page es ≡ es
  changed_none f space page [] none = refl
  changed_none f space page (x ∷ es) none =
      ap (λ (b : Bool). cond b (entry_of x.space x.page (f x.held) ∷ es) (x ∷ changed f space page es)) (not_first (is_of space page x) x.held (found_in space page es) none)
      ∙ ap (λ es. x ∷ es) (changed_none f space page es (not_rest (is_of space page x) x.held (found_in space page es) none))

  -- one more that isn't of the page
  pub none_more : (space page : ℕ) (es : List (Entry A)) (at : ℕ) (e : Entry A) → at < length es → found_in space page (take at es) ≡ None
      → e ≡ get_or es at e → is_of space page e ≡ false → found_in space page (take (at + 1) es) ≡ None
  none_more space page es at e within none is other =
      ap (found_in space page) (take_more es at e within ∙ ap (λ x. take at es ++ x ∷ []) (sym is)) ∙ behind (take at es) none
    where
      behind : (front : List (Entry A)) → found_in space page front ≡ None → found_in space page (front ++ e ∷ []) ≡ None
      behind [] none = ap (λ (b : Bool). cond b (Some e.held) None) other
      behind (x ∷ front) none =
          ap (λ (b : Bool). cond b (Some x.held) (found_in space page (front ++ e ∷ []))) (not_first (is_of space page x) x.held (found_in space page front) none)
          ∙ behind front (not_rest (is_of space page x) x.held (found_in space page front) none)

  -- the place where it was found
  pub place_is : (space page : ℕ) (es : List (Entry A)) (at : ℕ) (e : Entry A) → at < length es → found_in space page (take at es) ≡ None
      → e ≡ get_or es at e → is_of space page e ≡ true → IsPlace space page es at
  place_is space page es at e within none is also = record {
    front = take at es;
    entry = e;
    back = drop (suc at) es;
    cut = sym (take-append-drop at es) ∙ ap (λ xs. take at es ++ xs) (drop-cons es at e within ∙ ap (λ x. x ∷ drop (suc at) es) (sym is));
    behind = length-take-le at es (omega arith);
    none = none;
    is = also;
  }

  -- What stands at a place.

  pub at_place : (space page : ℕ) (es : List (Entry A)) (at : ℕ) → (p : IsPlace space page es at) → (d : Entry A) → get_or es at d ≡ p.entry
  at_place space page es at p d =
      ap (λ xs. get_or xs at d) p.cut ∙ ap (λ n. get_or (p.front ++ p.entry ∷ p.back) n d) (sym p.behind) ∙ get_or-append_seam p.front p.entry p.back d

  pub within_place : (space page : ℕ) (es : List (Entry A)) (at : ℕ) → IsPlace space page es at → at < length es
  within_place space page es at p = omega (arith, ap length p.cut, length-append p.front (p.entry ∷ p.back), p.behind)

  -- what is left of a list at whose place an entry is passed over
  around_cut : (front : List (Entry A)) (e : Entry A) (back : List (Entry A))
      → take (length front) (front ++ e ∷ back) ++ drop (suc (length front)) (front ++ e ∷ back) ≡ front ++ back
  around_cut [] e back = refl
  around_cut (x ∷ front) e back = ap (λ es. x ∷ es) (around_cut front e back)

  around_place : (space page : ℕ) (es : List (Entry A)) (at : ℕ) → (p : IsPlace space page es at) → take at es ++ drop (at + 1) es ≡ p.front ++ p.back
  around_place space page es at p =
      let next : at + 1 ≡ suc (length p.front) = omega (arith, p.behind) in
      (λ i. take (sym p.behind i) (p.cut i) ++ drop (next i) (p.cut i)) ∙ around_cut p.front p.entry p.back

  -- what is found at a place, and raised from there
  pub found_at : (space page : ℕ) (es : List (Entry A)) (at : ℕ) → (p : IsPlace space page es at) → found_in space page es ≡ Some p.entry.held
  found_at space page es at p = ap (found_in space page) p.cut ∙ found_cut space page p.front p.entry p.back p.none p.is

  pub raised_at : (space page : ℕ) (es : List (Entry A)) (at : ℕ) → (p : IsPlace space page es at) → raised space page es ≡ p.entry ∷ (p.front ++ p.back)
  raised_at space page es at p =
      ap (raised_by space page es) (found_at space page es at p)
      ∙ ap (λ xs. entry_of space page p.entry.held ∷ without space page xs) p.cut
      ∙ ap (λ xs. entry_of space page p.entry.held ∷ xs) (without_cut space page p.front p.entry p.back p.none p.is)
      ∙ ap (λ x. x ∷ (p.front ++ p.back)) (sym (is_entry space page p.entry p.is))

  pub raised_none : (space page : ℕ) (es : List (Entry A)) → found_in space page es ≡ None → raised space page es ≡ es
  raised_none space page es none = ap (raised_by space page es) none

  -- the first one stays first
  pub raised_first : (space page : ℕ) (es : List (Entry A)) (at : ℕ) → IsPlace space page es at → at ≡ 0 → raised space page es ≡ es
  raised_first space page es at p first = raised_at space page es at p ∙ by_front p.front (p.behind ∙ first) ∙ sym p.cut
    where
      by_front : (front : List (Entry A)) → length front ≡ 0 → p.entry ∷ (front ++ p.back) ≡ front ++ p.entry ∷ p.back
      by_front [] none = refl
      by_front (x ∷ front) none = absurd (omega (arith, none))

  -- another one is put at the front
  pub raised_other : (space page : ℕ) (es : List (Entry A)) (at : ℕ) (e : Entry A) → IsPlace space page es at → e ≡ get_or es at e
      → e ∷ (take at es ++ drop (at + 1) es) ≡ raised space page es
  raised_other space page es at e p is =
      ap (λ x. x ∷ (take at es ++ drop (at + 1) es)) (is ∙ at_place space page es at p e) ∙ ap (λ xs. p.entry ∷ xs) (around_place space page es at p)
      ∙ sym (raised_at space page es at p)

  pub held_at : (space page : ℕ) (es : List (Entry A)) (at : ℕ) (e : Entry A) → IsPlace space page es at → e ≡ get_or es at e
      → Some e.held ≡ found_in space page es
  held_at space page es at e p is = ap (λ (x : Entry A). Some x.held) (is ∙ at_place space page es at p e) ∙ sym (found_at space page es at p)

  -- What the code reads and writes.

  pub is_yes : (space page : ℕ) (e : Entry A) → e.space ≡ space → e.page ≡ page → is_of space page e ≡ true
  is_yes space page e one two = λ i. eq-eqb e.space space one i && eq-eqb e.page page two i

  pub not_space : (space page : ℕ) (e : Entry A) → (e.space ≡ space → ⊥) → is_of space page e ≡ false
  not_space space page e other = by_test (is_of space page e) refl
    where
      by_test : (b : Bool) → is_of space page e ≡ b → b ≡ false
      by_test true is = absurd (other (of_space space page e is))
      by_test false is = refl

  pub not_page : (space page : ℕ) (e : Entry A) → (e.page ≡ page → ⊥) → is_of space page e ≡ false
  not_page space page e other = by_test (is_of space page e) refl
    where
      by_test : (b : Bool) → is_of space page e ≡ b → b ≡ false
      by_test true is = absurd (other (of_page space page e is))
      by_test false is = refl

  -- a whole slice that was lent and comes back
  pub refill_all : (xs ws : List (Entry A)) → length ws ≡ length xs → refill (length xs) xs ws ≡ ws
  refill_all xs ws count = ap (λ n. take n (ws ++ drop (length ws) xs)) (sym count) ∙ take-append_seam ws (drop (length ws) xs)

  refilled : (xs ys : List (Entry A)) (at : ℕ) (v : Entry A) → ys ≡ xs → refill (length xs) xs (set ys at v) ≡ set xs at v
  refilled xs ys at v same = ap (λ zs. refill (length xs) xs (set zs at v)) same ∙ refill_all xs (set xs at v) (length-set xs at v)

  set_cut : (front : List (Entry A)) (e v : Entry A) (back : List (Entry A)) → set (front ++ e ∷ back) (length front) v ≡ front ++ v ∷ back
  set_cut [] e v back = refl
  set_cut (x ∷ front) e v back = ap (λ es. x ∷ es) (set_cut front e v back)

  -- the entry at a place, with what it holds changed
  pub changed_at : (f : A → A) (space page : ℕ) (es ys : List (Entry A)) (at : ℕ) (e v d : Entry A) → IsPlace space page es at → ys ≡ es → e ≡ get_or ys at d
      → v ≡ entry_of e.space e.page (f e.held) → refill (length es) es (set ys at v) ≡ changed f space page es
  changed_at f space page es ys at e v d p same read new =
      refilled es ys at v same
      ∙ ap (λ xs. set xs at v) p.cut ∙ ap (λ n. set (p.front ++ p.entry ∷ p.back) n v) (sym p.behind) ∙ set_cut p.front p.entry v p.back
      ∙ ap (λ x. p.front ++ x ∷ p.back)
      (new ∙ ap (λ (x : Entry A). entry_of x.space x.page (f x.held)) (read ∙ ap (λ xs. get_or xs at d) same ∙ at_place space page es at p d))
      ∙ sym (ap (changed f space page) p.cut ∙ changed_cut f space page p.front p.entry p.back p.none p.is)

  -- An entry is put at the front, and those before a place go one place back, from the last of them on.

  -- the list while so many still have to go
  pub lifted : ℕ → ℕ → List (Entry A) → List (Entry A)
  lifted k at [] = []
  lifted zero at (x ∷ es) = x ∷ (take at (x ∷ es) ++ drop at es)
  lifted (suc k) zero (x ∷ es) = x ∷ es
  lifted (suc k) (suc at) (x ∷ es) = x ∷ lifted k at es

  pub lifted_none : (at : ℕ) (es : List (Entry A)) → es ≡ lifted at at es
  unfolding lifted
  lifted_none at [] = refl
  lifted_none zero (x ∷ es) = refl
  lifted_none (suc at) (x ∷ es) = ap (λ xs. x ∷ xs) (lifted_none at es)

  -- one more went
  pub lifted_more : (k at : ℕ) (es : List (Entry A)) (d : Entry A) → k < at → at < length es
      → set (lifted (suc k) at es) (suc k) (get_or (lifted (suc k) at es) k d) ≡ lifted k at es
  unfolding lifted
  lifted_more k at [] d less within = absurd (omega (arith, within))
  lifted_more k zero (x ∷ es) d less within = absurd (omega (arith, less))
  lifted_more zero (suc at) (x ∷ []) d less within = absurd (omega (arith, within))
  lifted_more zero (suc at) (x ∷ y ∷ es) d less within = refl
  lifted_more (suc k) (suc at) (x ∷ es) d less within = ap (λ xs. x ∷ xs) (lifted_more k at es d (omega (arith, less)) (omega (arith, within)))

  -- all went, and the entry stands at the front
  pub lifted_all : (at : ℕ) (e : Entry A) (es : List (Entry A)) → at < length es → set (lifted zero at es) 0 e ≡ e ∷ (take at es ++ drop (suc at) es)
  unfolding lifted
  lifted_all at e [] within = absurd (omega (arith, within))
  lifted_all at e (x ∷ es) within = refl
