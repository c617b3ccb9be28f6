use Rattle.std.specs.Prelude.{◌≡◌, ℕ, zero, suc, Bool, true, false, cond, nat_lt, ◌||◌, ◌+◌, ◌-◌, ◌≤◌, ◌<◌, List, [], ◌∷◌, map, Option, Some, None, is_some, IsSome, refl}
use Rattle.std.proofs.Common.{sym, ap, ◌∙◌, arith}
use Rattle.std.proofs.lemmas.Bool.Decides.{nat_tests}
use Rattle.std.proofs.lemmas.List.{map-append, nil_from_length}
use Rattle.std.proofs.lemmas.List.Folds.{list_any-append}
use Rattle.std.proofs.lemmas.List.Sums.{sum_by-append, sum_by-cons}
use Rattle.std.specs.List.{list_any, sum_by}
use Rattle.std.specs.Ordering.{nat_cmp}
use Rattle.std.specs.FinMap.{FinMap, empty, entries, get, get-empty, insert, len, len-empty, len-entries, len-remove, remove, values}
use Rattle.std.specs.Cmp.{nat_cmp_total}
use Rattle.number_maps.specs.Keys.{alike, by_key, get_same, get_other, removed_same, removed_other, insert_kept}
use Rattle.number_maps.specs.Cuts.{cut_at, by_entries}

-- The values of a map under a test.

-- a map without a key that isn't there
pub remove_absent : {X : Type 0} (m : FinMap nat_cmp X) (k : ℕ) → get m k ≡ None → remove m k ≡ m
remove_absent m k absent = alike _ _ (λ q. by_key q k
    (λ same. removed_same m k q same ∙ sym absent ∙ ap (get m) (sym same))
    (λ other. removed_other m k q other))

-- a value at a key that has a property
pub record HasValue {X : Type 0} (m : FinMap nat_cmp X) (test : X → Bool) : Type 0 where
  pub key : ℕ
  pub value : X
  pub there : get m key ≡ Some value
  pub passes : test value ≡ true

no_entries : {X : Type 0} → entries (empty {X = X} {R = nat_cmp}) ≡ []
no_entries {X = X} = nil_from_length _ (sym (len-entries (empty {X = X} {R = nat_cmp})) ∙ len-empty nat_cmp X)

values_in : {X : Type 0} → List (ℕ × X) → List X
values_in es = map (λ e. e.1) es

module _ {X : Type 0} (test : X → Bool) where
  swap : (a b c : Bool) → (a || (b || c)) ≡ (b || (a || c))
  swap true true c = refl
  swap true false c = refl
  swap false b c = refl

  -- whether some value passes, with one more at a key
  pub any_put : (m : FinMap nat_cmp X) (k : ℕ) (x : X) → list_any test (values (insert m k x)) ≡ (test x || list_any test (values (remove m k)))
  unfolding values_in
  any_put m k x =
      let cut = cut_at m k in
      ap (λ es. list_any test (values_in es)) (cut.put_in x)
      ∙ ap (list_any test) (map-append (λ (e : ℕ × X). e.1) cut.front ((k, x) ∷ cut.back))
      ∙ list_any-append test (values_in cut.front) (x ∷ values_in cut.back)
      ∙ swap (list_any test (values_in cut.front)) (test x) (list_any test (values_in cut.back))
      ∙ ap (λ b. test x || b) (sym (
      ap (λ es. list_any test (values_in es)) cut.gone
      ∙ ap (list_any test) (map-append (λ (e : ℕ × X). e.1) cut.front cut.back)
      ∙ list_any-append test (values_in cut.front) (values_in cut.back)))

  -- one that passes shows that some does
  pub any_from : (m : FinMap nat_cmp X) (k : ℕ) (x : X) → get m k ≡ Some x → test x ≡ true → list_any test (values m) ≡ true
  any_from m k x there passes =
      ap (λ (m : FinMap nat_cmp X). list_any test (values m)) (sym (insert_kept m k x there)) ∙ any_put m k x
      ∙ ap (λ b. b || list_any test (values (remove m k))) passes

  nothing : (m : FinMap nat_cmp X) → entries m ≡ [] → list_any test (values m) ≡ false
  nothing m none = ap (λ es. list_any test (map (λ (e : ℕ × X). e.1) es)) none

  -- where some value passes, there is one
  pub any_at : (m : FinMap nat_cmp X) → list_any test (values m) ≡ true → HasValue m test
  any_at = by_entries (λ m. list_any test (values m) ≡ true → HasValue m test) none more
    where
      none : list_any test (values (empty {X = X} {R = nat_cmp})) ≡ true → HasValue (empty {X = X} {R = nat_cmp}) test
      none h = let no = nothing empty no_entries in cc

      step : (m : FinMap nat_cmp X) (k : ℕ) (x : X) → get m k ≡ None → (list_any test (values m) ≡ true → HasValue m test)
          → (b : Bool) → test x ≡ b → (b || list_any test (values m)) ≡ true → HasValue (insert m k x) test
      step m k x absent rest true e h = record { key = k; value = x; there = get_same m k k x refl; passes = e }
      step m k x absent rest false e h =
          let found = rest h in record {
            key = found.key;
            value = found.value;
            there = get_other m k found.key x (λ same. let no = ap is_some (sym found.there ∙ ap (get m) same ∙ absent) in cc) ∙ found.there;
            passes = found.passes;
          }

      more : (m : FinMap nat_cmp X) (k : ℕ) (x : X) → get m k ≡ None → (list_any test (values m) ≡ true → HasValue m test)
          → list_any test (values (insert m k x)) ≡ true → HasValue (insert m k x) test
      more m k x absent rest h =
          step m k x absent rest (test x) refl
          (ap (λ (m : FinMap nat_cmp X). test x || list_any test (values m)) (sym (remove_absent m k absent)) ∙ sym (any_put m k x) ∙ h)

-- a sum over the values, with one more at a key
pub sum_put : {X : Type 0} (f : X → ℕ) (m : FinMap nat_cmp X) (k : ℕ) (x : X) → sum_by f (values (insert m k x)) ≡ sum_by f (values (remove m k)) + f x
unfolding values_in
sum_put {X = X} f m k x =
    let cut = cut_at m k in
    let front = values_in cut.front in
    let back = values_in cut.back in
    let whole = ap (λ es. sum_by f (values_in es)) (cut.put_in x) ∙ ap (sum_by f) (map-append (λ (e : ℕ × X). e.1) cut.front ((k, x) ∷ cut.back)) ∙ sum_by-append f front (x ∷ back) in
    let rest = ap (λ es. sum_by f (values_in es)) cut.gone ∙ ap (sum_by f) (map-append (λ (e : ℕ × X). e.1) cut.front cut.back) ∙ sum_by-append f front back in
    let one = sum_by-cons f x back in
    omega (arith, whole, rest, one)

pub sum_new : {X : Type 0} (f : X → ℕ) (m : FinMap nat_cmp X) (k : ℕ) (x : X) → get m k ≡ None → sum_by f (values (insert m k x)) ≡ sum_by f (values m) + f x
sum_new {X = X} f m k x absent = sum_put f m k x ∙ ap (λ (n : FinMap nat_cmp X). sum_by f (values n) + f x) (remove_absent m k absent)

pub no_values : {X : Type 0} → values (empty {X = X} {R = nat_cmp}) ≡ []
no_values {X = X} = ap (map (λ (e : ℕ × X). e.1)) no_entries

-- keys below a number are at most as many
pub len_low : {X : Type 0} (n : ℕ) (m : FinMap nat_cmp X) → ((q : ℕ) → IsSome (get m q) → q < n) → len m ≤ n
len_low {X = X} zero m low =
    let none : m ≡ empty = alike _ _ (λ q. absent q (get m q) refl ∙ sym (get-empty {X = X} nat_cmp q)) in
    let is = ap len none ∙ len-empty nat_cmp X in omega (arith, is)
  where
    absent : (q : ℕ) (o : Option X) → get m q ≡ o → get m q ≡ None
    absent q None is = is
    absent q (Some x) is = let no = low q (ap is_some is) in absurd (omega (arith, no))
len_low {X = X} (suc n) m low =
    let rest = len_low n (remove m n) (λ q there. by_key q n
    (λ same. let no = sym there ∙ ap is_some (removed_same m n q same) in cc)
    (λ other. below q other (low q (ap is_some (sym (removed_other m n q other)) ∙ there)))) in
    one_more (is_some (get m n)) (len m) (len (remove m n)) (len-remove nat_cmp_total m n) rest
  where
    below : (q : ℕ) → (q ≡ n → ⊥) → q < suc n → q < n
    below q other less = at (nat_lt q n) refl
      where
        at : (b : Bool) → nat_lt q n ≡ b → q < n
        at true e = grind (arith, nat_tests)
        at false e = absurd (other (grind (arith, nat_tests)))

    one_more : (b : Bool) (all rest : ℕ) → rest ≡ cond b (all - 1) all → rest ≤ n → all ≤ suc n
    one_more true all rest is le = omega (arith, is, le)
    one_more false all rest is le = omega (arith, is, le)
