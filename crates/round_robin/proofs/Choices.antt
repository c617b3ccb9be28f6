use Rattle.std.proofs.Common.{◌≡◌, ℕ, zero, suc, ◌+◌, ◌<◌, ◌≤◌, ◌==◌, ◌&&◌, min, nat_lt, Bool, true, false, cond, List, [], ◌∷◌, length, get_or, ap, sym, ◌∙◌, refl, arith, Option, Some, None, slice_get, eqb-true, Ok, Err, nat_cmp, ◌⊎◌, inl, inr}
use Rattle.std.specs.List.{filter, AllPairs, All, list_any}
use Rattle.std.specs.List.Sorted.{IsStrictlyIncreasing}
use Rattle.std.specs.Option.{option_or}
use Rattle.std.proofs.lemmas.List.Kept.{AllPairs-from_increasing, AllPairs-filter}
use Rattle.std.proofs.lemmas.List.Folds.{list_any_none}
use Rattle.std.proofs.lemmas.Bool.Decides.{nat_tests}
use Rattle.std.proofs.lemmas.Bool.{false_from_ne_true, cases_lt}
use Rattle.std.proofs.lemmas.List.{get_or_default}
use Rattle.std.proofs.lemmas.Option.{slice_get_past}
use Rattle.std.proofs.lemmas.List.Sorted.{searched}
use Rattle.std.specs.List.Sorted.{IsBinarySearchResult}
use Rattle.round_robin.specs.Turns.{lesser, least, least_above, Turns, goes_on, next_number}

-- The choice of a number, of numbers that rise.

-- the least of them is the first
pub least_first : (xs : List ℕ) → AllPairs (λ x y. x < y) xs → least xs ≡ slice_get xs 0
least_first [] rises = refl
least_first (x ∷ []) rises = refl
least_first (x ∷ y ∷ ys) rises =
    let behind = least_first (y ∷ ys) (λ i j d below inside. rises (suc i) (suc j) d (omega arith) (omega arith)) in
    let less : x < y = rises 0 1 0 (omega arith) (omega arith) in
    let same : min x y ≡ x = omega arith in
    ap (λ (o : Option ℕ). Some (lesser x o)) behind ∙ ap Some same

-- those above a number are those from a place on, where all before it are not above
above_is : (p : ℕ) (xs : List ℕ) (j : ℕ) → ((k : ℕ) → k < j → k < length xs → get_or xs k 0 ≤ p)
    → ((k : ℕ) → j ≤ k → k < length xs → p < get_or xs k 0) → slice_get (filter (λ n. nat_lt p n) xs) 0 ≡ slice_get xs j
above_is p [] j low high = refl
above_is p (x ∷ xs) zero low high =
    let passes : nat_lt p x ≡ true = let more : p < x = high 0 (omega arith) (omega arith) in grind (arith, nat_tests) in
    ap (λ (t : Bool). slice_get (cond t (x ∷ filter (λ n. nat_lt p n) xs) (filter (λ n. nat_lt p n) xs)) 0) passes
above_is p (x ∷ xs) (suc j) low high =
    let fails : nat_lt p x ≡ false = let less : x ≤ p = low 0 (omega arith) (omega arith) in grind (arith, nat_tests) in
    ap (λ (t : Bool). slice_get (cond t (x ∷ filter (λ n. nat_lt p n) xs) (filter (λ n. nat_lt p n) xs)) 0) fails
    ∙ above_is p xs j (λ k below inside. low (suc k) (omega arith) (omega arith)) (λ k from inside. high (suc k) (omega arith) (omega arith))

least_above_is : (p : ℕ) (xs : List ℕ) (j : ℕ) → IsStrictlyIncreasing xs → ((k : ℕ) → k < j → k < length xs → get_or xs k 0 ≤ p)
    → ((k : ℕ) → j ≤ k → k < length xs → p < get_or xs k 0) → least_above p xs ≡ slice_get xs j
least_above_is p xs j rises low high =
    least_first (filter (λ n. nat_lt p n) xs) (AllPairs-filter (λ x y. x < y) (λ n. nat_lt p n) xs (AllPairs-from_increasing xs rises)) ∙ above_is p xs j low high

-- at the start
pub first_choice : (turns : Turns) (running : List ℕ) (quantum : ℕ) (got : Option ℕ) → turns ≡ record { quantum = quantum; last = None } → IsStrictlyIncreasing running
    → got ≡ slice_get running 0 → got ≡ next_number turns running
first_choice turns running quantum got is rises first =
    first ∙ sym (least_first running (AllPairs-from_increasing running rises)) ∙ ap (λ (t : Turns). next_number t running) (sym is)

-- a number that is chosen anew
pub choice_anew : (turns : Turns) (running : List ℕ) (quantum number had j : ℕ) (got : Option ℕ)
    → turns ≡ record { quantum = quantum; last = Some (record { number = number; had = had }) } → IsStrictlyIncreasing running
    → goes_on quantum (record { number = number; had = had }) running ≡ false → ((k : ℕ) → k < j → k < length running → get_or running k 0 ≤ number)
    → ((k : ℕ) → j ≤ k → k < length running → number < get_or running k 0) → got ≡ option_or (slice_get running j) (slice_get running 0) → got ≡ next_number turns running
choice_anew turns running quantum number had j got is rises stops low high chosen =
    let above = least_above_is number running j rises low high in
    let first = least_first running (AllPairs-from_increasing running rises) in
    chosen
    ∙ sym (ap (λ (o : Option ℕ). option_or o (slice_get running 0)) above)
    ∙ sym (ap (λ (o : Option ℕ). option_or (least_above number running) o) first)
    ∙ sym (ap (λ (t : Bool). cond t (Some number) (option_or (least_above number running) (least running))) stops)
    ∙ ap (λ (t : Turns). next_number t running) (sym is)

-- a number that has had its turns doesn't go on, nor does one that isn't running
pub had_all : (quantum number had : ℕ) (running : List ℕ) → quantum ≤ had → goes_on quantum (record { number = number; had = had }) running ≡ false
had_all quantum number had running all =
    let no_more : nat_lt had quantum ≡ false = grind (arith, nat_tests) in
    ap (λ (t : Bool). t && list_any (λ n. n == number) running) no_more

pub not_running : (quantum number had : ℕ) (running : List ℕ) → ((k : ℕ) → k < length running → get_or running k 0 ≡ number → ⊥)
    → goes_on quantum (record { number = number; had = had }) running ≡ false
not_running quantum number had running differs =
    ap (λ (t : Bool). nat_lt had quantum && t) (list_any_none (λ n. n == number) running (none_at running differs)) ∙ and_false (nat_lt had quantum)
  where
    none_at : (xs : List ℕ) → ((k : ℕ) → k < length xs → get_or xs k 0 ≡ number → ⊥) → All (λ n. (n == number) ≡ false) xs
    none_at xs h k d below = false_from_ne_true (get_or xs k d == number) (λ same. h k below (get_or_default xs k 0 d below ∙ eqb-true (get_or xs k d) number same))

    and_false : (t : Bool) → (t && false) ≡ false
    and_false true = refl
    and_false false = refl

-- what a search found of numbers that rise: where it isn't, and where it is

not_falling : (xs : List ℕ) → IsStrictlyIncreasing xs → (i j : ℕ) → i ≤ j → j < length xs → get_or xs i 0 ≤ get_or xs j 0
not_falling xs rises i j order inside = by_order (cases_lt i j)
  where
    by_order : ((i < j) ⊎ (j ≤ i)) → get_or xs i 0 ≤ get_or xs j 0
    by_order (inl less) = let h = AllPairs-from_increasing xs rises i j 0 less inside in omega (arith, h)
    by_order (inr more) = let same : i ≡ j = omega arith in omega (arith, ap (λ k. get_or xs k 0) same)

pub missed : (turns : Turns) (running : List ℕ) (quantum number had i : ℕ) (got : Option ℕ)
    → turns ≡ record { quantum = quantum; last = Some (record { number = number; had = had }) } → IsStrictlyIncreasing running
    → IsBinarySearchResult (λ y. nat_cmp y number) running (Err i) → got ≡ option_or (slice_get running i) (slice_get running 0) → got ≡ next_number turns running
missed turns running quantum number had i got is rises found chosen =
    let at = searched running number (Err i) found (not_falling running rises) in
    choice_anew turns running quantum number had i got is rises
    (not_running quantum number had running (λ k below same. differs k below same (at.1) (at.2) (cases_lt k i)))
    (λ k before below. let h = at.1 k before in omega (arith, h)) at.2 chosen
  where
    differs : (k : ℕ) → k < length running → get_or running k 0 ≡ number → ((j : ℕ) → j < i → get_or running j 0 < number)
        → ((j : ℕ) → i ≤ j → j < length running → number < get_or running j 0) → ((k < i) ⊎ (i ≤ k)) → ⊥
    differs k below same low high (inl before) = let h = low k before in absurd (omega (arith, h, same))
    differs k below same low high (inr from) = let h = high k from below in absurd (omega (arith, h, same))

pub found_again : (turns : Turns) (running : List ℕ) (quantum number had i : ℕ) (got : Option ℕ)
    → turns ≡ record { quantum = quantum; last = Some (record { number = number; had = had }) } → IsStrictlyIncreasing running
    → IsBinarySearchResult (λ y. nat_cmp y number) running (Ok i) → quantum ≤ had → got ≡ option_or (slice_get running (i + 1)) (slice_get running 0)
    → got ≡ next_number turns running
found_again turns running quantum number had i got is rises found all chosen =
    let at = searched running number (Ok i) found (not_falling running rises) in
    let inside = at.0 in
    let there = at.1 in
    choice_anew turns running quantum number had (i + 1) got is rises (had_all quantum number had running all)
    (λ k before below. let h = not_falling running rises k i (omega arith) inside in omega (arith, h, there))
    (λ k from below. let h = AllPairs-from_increasing running rises i k 0 (omega arith) below in omega (arith, h, there)) chosen

-- none is next exactly where none is running
pub none_exactly : (running : List ℕ) (j : ℕ) (got : Option ℕ) → got ≡ option_or (slice_get running j) (slice_get running 0)
    → (got ≡ None → length running ≡ 0) × (length running ≡ 0 → got ≡ None)
none_exactly [] j got is = ((λ h. refl), (λ h. is ∙ ap (λ (o : Option ℕ). option_or o None) (slice_get_past {X = ℕ} [] j (omega arith))))
none_exactly (x ∷ xs) j got is = ((λ h. absurd (some (slice_get (x ∷ xs) j) (sym is ∙ h))), (λ h. absurd (omega arith)))
  where
    some : (o : Option ℕ) → option_or o (Some x) ≡ None → ⊥
    some None h = cc
    some (Some y) h = cc
