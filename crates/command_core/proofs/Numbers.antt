use Rattle.std.proofs.Common.{◌≡◌, ℕ, zero, suc, ◌+◌, ◌<◌, ◌≤◌, ◌⊎◌, inl, inr, Bool, true, false, cond, List, [], ◌∷◌, subst, sym, ap, ◌∙◌, refl, arith, Option, Some, None}
use Rattle.std.specs.Prelude.{◌==◌, ◌&&◌, ◌||◌, not}
use Rattle.std.specs.List.{AllByRecursion, find, list_any, range_with_len}
use Rattle.std.specs.Option.{is_some, option_map}
use Rattle.std.specs.FinMap.{get}
use Rattle.std.proofs.lemmas.Bool.{cases_order, eqb-true}
use Rattle.std.proofs.lemmas.Bool.Decides.{nat_tests}
use Rattle.sizes.specs.declared.TheConstants.{LAST_SPACE}
use Rattle.breakpoints.specs.Breakpoints.{Breaks}
use Rattle.free_numbers.specs.Numbers.{IsLeast, is_in, is_number}
use Rattle.overlay_pages.specs.State.{State as Spaces}
use Rattle.machine_core.specs.declared.process.Process as declared
use Rattle.machine_core.specs.Machine.{Machine, has_space, processes_of, spaces_of, whole_in}
use Rattle.machine_core.specs.Laws.{processes_at}
use Rattle.command_core.specs.declared.checkpoints.Kept.{Kept}
use Rattle.command_core.specs.State.{Checkpoint, Registry, is_used, next_number, registry_of}
use Rattle.command_core.specs.Sessions.{HasNoProcess, IsSession}
use Rattle.command_core.specs.Kept.{checkpoints_in, shown_state, spaces_kept}
use Rattle.process_runs.specs.PlaceLaws.{none_is}

-- The next number is the least that is free.

-- the first of some numbers that passes a test
find_first : (test : ℕ → Bool) (count from n : ℕ) → from ≤ n → n < from + count → test n ≡ true → ((k : ℕ) → from ≤ k → k < n → test k ≡ false)
    → find test (range_with_len from count) ≡ Some n
find_first test zero from n low high is before = absurd (omega (arith, low, high))
find_first test (suc count) from n low high is before = by_order (cases_order from n) (find_first test count (from + 1) n)
  where
    by_order : (from ≡ n) ⊎ ((from < n) ⊎ (n < from))
        → (from + 1 ≤ n → n < from + 1 + count → test n ≡ true → ((k : ℕ) → from + 1 ≤ k → k < n → test k ≡ false) → find test (range_with_len (from + 1) count) ≡ Some n)
        → find test (range_with_len from (suc count)) ≡ Some n
    by_order (inl same) rest = ap (λ b. cond b (Some from) (find test (range_with_len (from + 1) count))) (ap test same ∙ is) ∙ ap Some same
    by_order (inr (inl less)) rest =
        ap (λ b. cond b (Some from) (find test (range_with_len (from + 1) count))) (before from (omega arith) less)
        ∙ rest (omega (arith, less)) (omega (arith, high)) is (λ k le lt. before k (omega (arith, le)) lt)
    by_order (inr (inr more)) rest = absurd (omega (arith, low, more))

find_nothing : (test : ℕ → Bool) (count from : ℕ) → ((k : ℕ) → from ≤ k → k < from + count → test k ≡ false) → find test (range_with_len from count) ≡ None
find_nothing test zero from none = refl
find_nothing test (suc count) from none =
    ap (λ b. cond b (Some from) (find test (range_with_len (from + 1) count))) (none from (omega arith) (omega arith))
    ∙ find_nothing test count (from + 1) (λ k le lt. none k (omega (arith, le)) (omega (arith, lt)))

-- a number that stands among those of checkpoints is that of a space without a process
among : (P : ℕ → Type 0) (qs : List ℕ) (n : ℕ) → AllByRecursion P qs → list_any (λ q. q == n) qs ≡ true → (q : ℕ) × (q ≡ n) × P q
among P [] n all has = cc
among P (q ∷ qs) n all has = by_test (q == n) refl (among P qs n all.1) has
  where
    by_test : (b : Bool) → (q == n) ≡ b → (list_any (λ q. q == n) qs ≡ true → (q : ℕ) × (q ≡ n) × P q) → (b || list_any (λ q. q == n) qs) ≡ true → (q : ℕ) × (q ≡ n) × P q
    by_test true same rest h = (q, eqb-true q n same, all.0)
    by_test false other rest h = rest h

any_shown : (spaces : Spaces) (xs : List Kept) (n : ℕ) → list_any (λ (x : Checkpoint). x.space == n) (checkpoints_in spaces xs) ≡ list_any (λ q. q == n) (spaces_kept xs)
any_shown spaces [] n = refl
any_shown spaces (x ∷ xs) n = ap (λ b. (x.space == n) || b) (any_shown spaces xs n)

module _ (machine : Machine) (xs : List Kept) (breaks : Breaks) (numbers : List (List ℕ)) (is : IsSession machine (spaces_kept xs) numbers) where
  abbrev registry : Registry
  registry = registry_of (shown_state machine xs breaks)

  processes_shown : (n : ℕ) → is_some (get (processes_of machine) n) ≡ is_some (get machine.processes n)
  processes_shown n = ap is_some (processes_at machine n) ∙ by_found (get machine.processes n)
    where
      by_found : (o : Option declared.Process) → is_some (option_map (whole_in (spaces_of machine) n) o) ≡ is_some o
      by_found None = refl
      by_found (Some process) = refl

  -- a number is used where its space is there
  used_is : (n : ℕ) → is_used registry n ≡ has_space machine n
  used_is n =
      ap (λ b. b || list_any (λ (x : Checkpoint). x.space == n) (checkpoints_in (spaces_of machine) xs)) (processes_shown n)
      ∙ ap (λ b. is_some (get machine.processes n) || b) (any_shown (spaces_of machine) xs n)
      ∙ by_tests (is_some (get machine.processes n)) refl (has_space machine n) refl (list_any (λ q. q == n) (spaces_kept xs)) refl
    where
      by_tests : (a : Bool) → is_some (get machine.processes n) ≡ a → (b : Bool) → has_space machine n ≡ b → (c : Bool) → list_any (λ q. q == n) (spaces_kept xs) ≡ c
          → (a || c) ≡ b
      by_tests true some true there c has = refl
      by_tests true some false absent c has = let both : false ≡ true = sym absent ∙ is.own_space n some in cc
      by_tests false none true there true has = refl
      by_tests false none true there false has =
          let both : false ≡ true = sym has ∙ is.owned n there (none_is (get machine.processes n) none) in cc
      by_tests false none false absent true has =
          let (q, same, free) = among (HasNoProcess machine) (spaces_kept xs) n is.free has in
          let both : false ≡ true = sym absent ∙ sym (ap (has_space machine) same) ∙ free.0 in cc
      by_tests false none false absent false has = refl

  -- one that is free is one that may be taken
  free_test : (n : ℕ) → is_number n ≡ true → not (is_used registry n) ≡ is_in numbers n
  free_test n number = ap not (used_is n) ∙ sym (is.are_free n ∙ ap (λ b. b && not (has_space machine n)) number)

  pub next_is : (r : Option ℕ) → IsLeast (is_in numbers) r → r ≡ next_number registry
  unfolding next_number
  next_is None none = sym (find_nothing (λ n. not (is_used registry n)) LAST_SPACE 1
      (λ k le lt. free_test k (number k le (omega (arith, lt))) ∙ none k))
    where
      number : (k : ℕ) → 1 ≤ k → k ≤ LAST_SPACE → is_number k ≡ true
      number k low high = grind (arith, nat_tests, low, high)
  next_is (Some n) least = sym (by_number (is_number n) refl (sym (is.are_free n) ∙ least.0))
    where
      inside : (k : ℕ) → 1 ≤ k → k ≤ LAST_SPACE → is_number k ≡ true
      inside k low high = grind (arith, nat_tests, low, high)

      by_number : (b : Bool) → is_number n ≡ b → (b && not (has_space machine n)) ≡ true → find (λ n. not (is_used registry n)) (range_with_len 1 LAST_SPACE) ≡ Some n
      by_number true number free =
          let low : 1 ≤ n = grind (arith, nat_tests, number) in
          let high : n ≤ LAST_SPACE = grind (arith, nat_tests, number) in
          find_first (λ n. not (is_used registry n)) LAST_SPACE 1 n low (omega (arith, high)) (free_test n number ∙ least.0)
          (λ k le lt. free_test k (inside k le (omega (arith, lt, high))) ∙ least.1 k lt)
      by_number false number free = cc

-- the number that is taken is one that is free
pub taken_free : (numbers : List (List ℕ)) (r : Option ℕ) (n : ℕ) → IsLeast (is_in numbers) r → r ≡ Some n → is_in numbers n ≡ true
taken_free numbers r n least is = (subst (λ (o : Option ℕ). IsLeast (is_in numbers) o) is least).0
