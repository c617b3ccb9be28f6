use Rattle.std.specs.Prelude.{◌≡◌, ℕ, zero, suc, ◌+◌, ◌<◌, ◌≤◌, ◌==◌, ◌&&◌, Bool, true, false, cond, nat_lt, List, Some, refl}
use Rattle.std.proofs.Common.{ap, ◌∙◌, arith}
use Rattle.std.specs.List.{list_any}
use Rattle.std.specs.Option.{option_or}
use Rattle.std.proofs.lemmas.Bool.Decides.{nat_tests}
use Rattle.round_robin.specs.Turns.{Turns, after_turn_of, after_turns_of, had_before, least, least_above, left_for, next_number}

-- Turns of one number, one after the other, as long as it has some left.

-- what it has had before, once it had a turn
pub before_by : (quantum p had : ℕ) → had < quantum → cond ((p == p) && nat_lt had quantum) had 0 ≡ had
before_by quantum p had below =
    let same : (p == p) ≡ true = grind (arith, nat_tests) in
    let left : nat_lt had quantum ≡ true = grind (arith, nat_tests) in
    ap (λ b. cond (b && nat_lt had quantum) had 0) same ∙ ap (λ b. cond b had 0) left

anew_by : (quantum p had : ℕ) → quantum ≤ had → cond ((p == p) && nat_lt had quantum) had 0 ≡ 0
anew_by quantum p had above =
    let same : (p == p) ≡ true = grind (arith, nat_tests) in
    let none : nat_lt had quantum ≡ false = grind (arith, nat_tests) in
    ap (λ b. cond (b && nat_lt had quantum) had 0) same ∙ ap (λ b. cond b had 0) none

by_left : {P : Type 0} (quantum had : ℕ) → (had < quantum → P) → (quantum ≤ had → P) → P
by_left {P = P} quantum had less more = by_test (nat_lt had quantum) refl
  where
    by_test : (b : Bool) → nat_lt had quantum ≡ b → P
    by_test true is = less (grind (arith, nat_tests))
    by_test false is = more (grind (arith, nat_tests))

-- a turn leaves all the others that it had
pub left_after : (n p : ℕ) (turns : Turns) → n + 1 ≤ left_for p turns → n ≤ left_for p (after_turn_of p turns)
left_after n p turns left =
    let had = had_before turns.quantum turns.last p + 1 in
    by_left turns.quantum had
    (λ less. omega (arith, left, before_by turns.quantum p had less))
    (λ more. omega (arith, left, more, anew_by turns.quantum p had more))

-- and as long as there are some it goes on
pub goes_on_next : (p : ℕ) (turns : Turns) (running : List ℕ) → 2 ≤ left_for p turns → list_any (λ n. n == p) running ≡ true
    → next_number (after_turn_of p turns) running ≡ Some p
goes_on_next p turns running left runs =
    let had = had_before turns.quantum turns.last p + 1 in
    let less : nat_lt had turns.quantum ≡ true = grind (arith, nat_tests, left) in
    ap (λ b. cond (b && list_any (λ n. n == p) running) (Some p) (option_or (least_above p running) (least running))) less
    ∙ ap (λ b. cond b (Some p) (option_or (least_above p running) (least running))) runs

-- one turn more
pub one_turn_more : (n p : ℕ) (turns : Turns) → after_turns_of (n + 1) p turns ≡ after_turn_of p (after_turns_of n p turns)
one_turn_more zero p turns = refl
one_turn_more (suc n) p turns =
    let next : suc n + 1 ≡ suc (n + 1) = omega arith in
    ap (λ k. after_turns_of k p turns) next ∙ one_turn_more n p (after_turn_of p turns)
