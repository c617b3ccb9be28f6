use Rattle.std.proofs.Common.{◌≡◌, ℕ, ◌/◌, ◌%◌, ◌<◌, ◌≤◌, ◌⊎◌, inl, inr, Bool, true, false, cond, not, ◌&&◌, ◌||◌, nat_eq, List, [], ◌∷◌, length, get_or, replicate, slice_set, sym, ap, ◌∙◌, refl, arith}
use Rattle.std.proofs.lemmas.Bool.{cases_lt, eq-eqb, ne_eqb}
use Rattle.std.proofs.lemmas.Bool.Decides.{nat_tests}
use Rattle.std.proofs.lemmas.List.{get_or-replicate, get_or_default, get_or-set_other, get_or-set_same, length-set}
use Rattle.std.proofs.Math.ListN.{get_or-eq_default}
use Rattle.number_maps.specs.Keys.{by_key}
use Rattle.overlay_bits.specs.Lines.{has_line, lines_between, with_line, without_line}
use Rattle.overlay_bits.specs.Laws.{has_between, has_with, has_without}
use Rattle.free_numbers.specs.declared.TheConstants.{SET_NUMBERS}
use Rattle.free_numbers.specs.Numbers.{IsPut, has_member, is_in, set_at}

-- Members of sets.

-- a set that has none of the numbers from 0 on has none
pub none_has : (xs : List ℕ) → has_member xs ≡ true → ((i : ℕ) → 0 ≤ i → has_line xs i ≡ false) → ⊥
none_has [] some none = cc
none_has (x ∷ xs) some none = let here = ap (λ b. b || has_line xs x) (sym (eq-eqb x x refl)) ∙ none x (omega arith) in cc

-- one that has a number has some
pub has_some : (xs : List ℕ) (i : ℕ) → has_line xs i ≡ true → has_member xs ≡ true
has_some [] i has = cc
has_some (x ∷ xs) i has = refl

-- and one without a member has no number
pub lacks : (xs : List ℕ) (i : ℕ) → has_member xs ≡ false → has_line xs i ≡ false
lacks [] i none = refl
lacks (x ∷ xs) i none = cc

-- a set with a member is one of those that are there
pub inside : (sets : List (List ℕ)) (at : ℕ) → has_member (set_at sets at) ≡ true → at < length sets
inside sets at some = by_order (cases_lt at (length sets))
  where
    by_order : (at < length sets) ⊎ (length sets ≤ at) → at < length sets
    by_order (inl less) = less
    by_order (inr beyond) = let none = ap has_member (get_or-eq_default sets [] {n = at} beyond) in cc

-- A number put in or taken out is a change of its set.
module _ (sets : List (List ℕ)) (number : ℕ) (set : List ℕ) (put : Bool) (there : number / SET_NUMBERS < length sets) where
  -- what comes in the place of its set has this number as said, and the others as that had them
  abbrev Puts : Type 0
  Puts = (i : ℕ) → has_line set i ≡ cond (nat_eq (number % SET_NUMBERS) i) put (has_line (set_at sets (number / SET_NUMBERS)) i)

  abbrev left : List (List ℕ)
  left = slice_set sets (number / SET_NUMBERS) set

  pub set_here : set_at left (number / SET_NUMBERS) ≡ set
  set_here = get_or-set_same sets (number / SET_NUMBERS) set [] there

  pub put_by : Puts → IsPut sets number put left
  put_by puts = record {
    count = length-set sets (number / SET_NUMBERS) set;
    here = ap (λ s. has_line s (number % SET_NUMBERS)) set_here ∙ puts (number % SET_NUMBERS)
        ∙ ap (λ b. cond b put (has_line (set_at sets (number / SET_NUMBERS)) (number % SET_NUMBERS))) (eq-eqb (number % SET_NUMBERS) (number % SET_NUMBERS) refl);
    others = λ k other. by_key (k / SET_NUMBERS) (number / SET_NUMBERS)
        (λ same.
        ap (λ at. has_line (set_at left at) (k % SET_NUMBERS)) same ∙ ap (λ s. has_line s (k % SET_NUMBERS)) set_here ∙ puts (k % SET_NUMBERS)
        ∙ ap (λ b. cond b put (has_line (set_at sets (number / SET_NUMBERS)) (k % SET_NUMBERS)))
        (ne_eqb (number % SET_NUMBERS) (k % SET_NUMBERS) (λ is. other (omega (arith, is, same))))
        ∙ ap (λ at. has_line (set_at sets at) (k % SET_NUMBERS)) (sym same))
        (λ apart. ap (λ s. has_line s (k % SET_NUMBERS)) (get_or-set_other sets (number / SET_NUMBERS) (k / SET_NUMBERS) set [] apart));
    sets = λ at apart. get_or-set_other sets (number / SET_NUMBERS) at set [] apart;
  }

or_is : (b x : Bool) → (b || x) ≡ cond b true x
or_is true x = refl
or_is false x = refl

and_is : (b x : Bool) → (x && not b) ≡ cond b false x
and_is true true = refl
and_is true false = refl
and_is false true = refl
and_is false false = refl

pub puts_with : (lines : List ℕ) (place i : ℕ) → has_line (with_line lines place) i ≡ cond (nat_eq place i) true (has_line lines i)
puts_with lines place i = has_with lines place i ∙ or_is (nat_eq place i) (has_line lines i)

pub puts_without : (lines : List ℕ) (place i : ℕ) → has_line (without_line lines place) i ≡ cond (nat_eq place i) false (has_line lines i)
puts_without lines place i = has_without lines place i ∙ and_is (nat_eq place i) (has_line lines i)

-- whether a set without members is left
pub left_none : (xs : List ℕ) → length xs ≡ 0 → has_member xs ≡ false
left_none [] none = refl
left_none (x ∷ xs) none = absurd (omega (arith, none))

pub left_some : (xs : List ℕ) → (length xs ≡ 0 → ⊥) → has_member xs ≡ true
left_some [] some = absurd (some refl)
left_some (x ∷ xs) some = refl

-- so many sets of all their numbers
pub is_in_all : (count k : ℕ) → k / SET_NUMBERS < count → is_in (replicate count (lines_between 0 SET_NUMBERS)) k ≡ true
is_in_all count k below =
    ap (λ s. has_line s (k % SET_NUMBERS)) (get_or-replicate count (k / SET_NUMBERS) (lines_between 0 SET_NUMBERS) [] below)
    ∙ has_between 0 SET_NUMBERS (k % SET_NUMBERS) (omega arith) ∙ grind (arith, nat_tests)

pub is_in_none : (sets : List (List ℕ)) (k : ℕ) → length sets ≤ k / SET_NUMBERS → is_in sets k ≡ false
is_in_none sets k beyond = ap (λ s. has_line s (k % SET_NUMBERS)) (get_or-eq_default sets [] {n = k / SET_NUMBERS} beyond)

-- a set that was read is the one of its place
pub set_read : (sets : List (List ℕ)) (at : ℕ) (read : List ℕ) → at < length sets → read ≡ get_or sets at read → set_at sets at ≡ read
set_read sets at read there is = get_or_default sets at [] read there ∙ sym is
