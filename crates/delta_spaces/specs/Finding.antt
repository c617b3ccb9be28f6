use Rattle.std.specs.Prelude.{◌≡◌, ℕ, ◌+◌, ◌≤◌, Bool, true, false, cond, List, [], ◌∷◌, ◌++◌, length, Option, Some, None, is_some, refl}
use Rattle.std.proofs.Common.{sym, ap, ◌∙◌, arith}
use Rattle.std.specs.Ordering.{nat_cmp, is_eq}
use Rattle.std.specs.Cmp.{nat_cmp_total}
use Rattle.std.specs.FinMap.{from_entries, get-from_entries, insert, len, len-empty, len-insert}
use Rattle.std.specs.FinMap.Entries.{find}
use Rattle.number_maps.specs.Keys.{alike, by_key, differs, get_other, get_same, tied, ties}
use Rattle.number_maps.specs.Rows.{RowsRise}

-- Entries by number of which none comes twice.

-- no number comes twice
abbrev pub NoneTwice : {X : Type 0} → List (ℕ × X) → Type 0
NoneTwice [] = Unit {0}
NoneTwice (e ∷ es) = (find nat_cmp e.0 es ≡ None) × NoneTwice es

module _ {X : Type 0} where
  -- what is found beside one
  pub found_beside : (front back : List (ℕ × X)) (e : ℕ × X) (q : ℕ) → (q ≡ e.0 → ⊥) → find nat_cmp q (front ++ e ∷ back) ≡ find nat_cmp q (front ++ back)
  found_beside [] back e q other = ap (λ b. cond b (Some e.1) (find nat_cmp q back)) (differs q e.0 other)
  found_beside (d ∷ front) back e q other = ap (λ (o : Option X). cond (is_eq (nat_cmp q d.0)) (Some d.1) o) (found_beside front back e q other)

  pub found_some : (front back : List (ℕ × X)) (e : ℕ × X) → is_some (find nat_cmp e.0 (front ++ e ∷ back)) ≡ true
  found_some [] back e = ap (λ b. is_some (cond b (Some e.1) (find nat_cmp e.0 back))) (ties e.0 e.0 refl)
  found_some (d ∷ front) back e = either (is_eq (nat_cmp e.0 d.0)) (found_some front back e)
    where
      either : (b : Bool) → is_some (find nat_cmp e.0 (front ++ e ∷ back)) ≡ true → is_some (cond b (Some d.1) (find nat_cmp e.0 (front ++ e ∷ back))) ≡ true
      either true h = refl
      either false h = h

  -- and the one itself
  pub found_here : (front back : List (ℕ × X)) (e : ℕ × X) → NoneTwice (front ++ e ∷ back) → find nat_cmp e.0 (front ++ e ∷ back) ≡ Some e.1
  found_here [] back e apart = ap (λ b. cond b (Some e.1) (find nat_cmp e.0 back)) (ties e.0 e.0 refl)
  found_here (d ∷ front) back e apart = at (is_eq (nat_cmp e.0 d.0)) refl (found_here front back e apart.1)
    where
      at : (b : Bool) → is_eq (nat_cmp e.0 d.0) ≡ b → find nat_cmp e.0 (front ++ e ∷ back) ≡ Some e.1 → cond b (Some d.1) (find nat_cmp e.0 (front ++ e ∷ back)) ≡ Some e.1
      at true same h =
          let no = sym (found_some front back e) ∙ ap is_some (ap (λ q. find nat_cmp q (front ++ e ∷ back)) (tied e.0 d.0 same) ∙ apart.0) in cc
      at false other h = h

  -- without one they are so too, and it isn't found
  pub apart_without : (front back : List (ℕ × X)) (e : ℕ × X) → NoneTwice (front ++ e ∷ back) → NoneTwice (front ++ back)
  apart_without [] back e apart = apart.1
  apart_without (d ∷ front) back e apart = (less, apart_without front back e apart.1)
    where
      less : find nat_cmp d.0 (front ++ back) ≡ None
      less = by_key d.0 e.0
          (λ same. let no = sym (found_some front back e) ∙ ap is_some (ap (λ q. find nat_cmp q (front ++ e ∷ back)) (sym same) ∙ apart.0) in absurd cc)
          (λ other. sym (found_beside front back e d.0 other) ∙ apart.0)

  pub not_found : (front back : List (ℕ × X)) (e : ℕ × X) → NoneTwice (front ++ e ∷ back) → find nat_cmp e.0 (front ++ back) ≡ None
  not_found [] back e apart = apart.0
  not_found (d ∷ front) back e apart = by_key e.0 d.0
      (λ same. let no = sym (found_some front back e) ∙ ap is_some (ap (λ q. find nat_cmp q (front ++ e ∷ back)) same ∙ apart.0) in absurd cc)
      (λ other. ap (λ b. cond b (Some d.1) (find nat_cmp e.0 (front ++ back))) (differs e.0 d.0 other) ∙ not_found front back e apart.1)

  -- with another value it is so too
  pub apart_other : (front back : List (ℕ × X)) (q : ℕ) (x y : X) → NoneTwice (front ++ (q, x) ∷ back) → NoneTwice (front ++ (q, y) ∷ back)
  apart_other [] back q x y apart = apart
  apart_other (d ∷ front) back q x y apart = (
    by_key d.0 q
        (λ same. let no = sym (found_some front back (q, x)) ∙ ap is_some (ap (λ p. find nat_cmp p (front ++ (q, x) ∷ back)) (sym same) ∙ apart.0) in absurd cc)
        (λ other. found_beside front back (q, y) d.0 other ∙ sym (found_beside front back (q, x) d.0 other) ∙ apart.0),
    apart_other front back q x y apart.1,
  )

  -- the map of them with one put in, and with another value
  pub one_put : (front back : List (ℕ × X)) (e : ℕ × X) → NoneTwice (front ++ e ∷ back) → insert (from_entries {R = nat_cmp} (front ++ back)) e.0 e.1 ≡ from_entries (front ++ e ∷ back)
  one_put front back e apart = alike _ _ (λ q. by_key q e.0
      (λ same. get_same (from_entries (front ++ back)) e.0 q e.1 same ∙ sym (found_here front back e apart) ∙ ap (λ p. find nat_cmp p (front ++ e ∷ back)) (sym same)
      ∙ sym (get-from_entries nat_cmp_total (front ++ e ∷ back) q))
      (λ other. get_other (from_entries (front ++ back)) e.0 q e.1 other ∙ get-from_entries nat_cmp_total (front ++ back) q ∙ sym (found_beside front back e q other)
      ∙ sym (get-from_entries nat_cmp_total (front ++ e ∷ back) q)))

  pub other_put : (front back : List (ℕ × X)) (q : ℕ) (x y : X) → NoneTwice (front ++ (q, x) ∷ back)
      → insert (from_entries {R = nat_cmp} (front ++ (q, x) ∷ back)) q y ≡ from_entries (front ++ (q, y) ∷ back)
  other_put front back q x y apart = alike _ _ (λ p. by_key p q
      (λ same. get_same (from_entries (front ++ (q, x) ∷ back)) q p y same ∙ sym (found_here front back (q, y) (apart_other front back q x y apart))
      ∙ ap (λ r. find nat_cmp r (front ++ (q, y) ∷ back)) (sym same) ∙ sym (get-from_entries nat_cmp_total (front ++ (q, y) ∷ back) p))
      (λ other. get_other (from_entries (front ++ (q, x) ∷ back)) q p y other ∙ get-from_entries nat_cmp_total (front ++ (q, x) ∷ back) p
      ∙ found_beside front back (q, x) p other ∙ sym (found_beside front back (q, y) p other) ∙ sym (get-from_entries nat_cmp_total (front ++ (q, y) ∷ back) p)))

  -- how many there are
  pub many_apart : (es : List (ℕ × X)) → NoneTwice es → len (from_entries {R = nat_cmp} es) ≡ length es
  many_apart [] apart = len-empty nat_cmp X
  many_apart (e ∷ es) apart =
      let rest = many_apart es apart.1 in
      let new = len-insert nat_cmp_total (from_entries es) e.0 e.1 ∙ ap (λ b. cond b (len (from_entries {R = nat_cmp} es)) (len (from_entries {R = nat_cmp} es) + 1)) (ap is_some (get-from_entries nat_cmp_total es e.0 ∙ apart.0)) in
      omega (arith, rest, new)

  -- those by rising numbers are so
  none_before : (from q : ℕ) (es : List (ℕ × X)) → RowsRise from es → q + 1 ≤ from → find nat_cmp q es ≡ None
  none_before from q [] rise le = refl
  none_before from q (e ∷ es) rise le =
      ap (λ b. cond b (Some e.1) (find nat_cmp q es)) (differs q e.0 (λ same. omega (arith, same, rise.0, le))) ∙ none_before (e.0 + 1) q es rise.1 (omega (arith, rise.0, le))

  pub rise_apart : (from : ℕ) (es : List (ℕ × X)) → RowsRise from es → NoneTwice es
  rise_apart from [] rise = tt
  rise_apart from (e ∷ es) rise = (none_before (e.0 + 1) e.0 es rise.1 (omega arith), rise_apart (e.0 + 1) es rise.1)

  -- what is found isn't below the first
  pub found_from : (from q : ℕ) (es : List (ℕ × X)) → RowsRise from es → is_some (find nat_cmp q es) ≡ true → from ≤ q
  found_from from q [] rise some = absurd cc
  found_from from q (e ∷ es) rise some = by_key q e.0
      (λ same. omega (arith, same, rise.0))
      (λ other.
      let rest = found_from (e.0 + 1) q es rise.1 (sym (ap (λ b. is_some (cond b (Some e.1) (find nat_cmp q es))) (differs q e.0 other)) ∙ some) in
      omega (arith, rest, rise.0))
