use Rattle.std.proofs.Common.{◌≡◌, ℕ, zero, suc, ◌+◌, ◌<◌, ◌≤◌, ◌==◌, ◌&&◌, Bool, true, false, cond, nat_lt, ap, sym, ◌∙◌, refl, arith, Option, Some, None}
use Rattle.std.proofs.lemmas.Bool.Decides.{nat_tests}
use Rattle.round_robin.specs.Laws.{before_by}
use Rattle.round_robin.specs.Turns.{Last, Turns, after_turn_of, after_turns_of, had_before, left_for, with_turns}

-- Turns of one number, one after the other.

abbrev standing : ℕ → ℕ → ℕ → Turns
standing quantum p had = record { quantum = quantum; last = Some (record { number = p; had = had }) }

next_standing : (quantum p had : ℕ) → had < quantum → after_turn_of p (standing quantum p had) ≡ standing quantum p (had + 1)
next_standing quantum p had below = ap (λ n. standing quantum p (n + 1)) (before_by quantum p had below)

more_turns : (n quantum p had : ℕ) → had + n ≤ quantum → after_turns_of n p (standing quantum p had) ≡ standing quantum p (had + n)
more_turns zero quantum p had fits = ap (λ k. standing quantum p k) (omega arith)
more_turns (suc n) quantum p had fits =
    let same : had + 1 + n ≡ had + suc n = omega arith in
    ap (after_turns_of n p) (next_standing quantum p had (omega (arith, fits)))
    ∙ more_turns n quantum p (had + 1) (omega (arith, fits)) ∙ ap (λ k. standing quantum p k) same

pub turns_are : (n p : ℕ) (turns : Turns) (had : ℕ) → 1 ≤ n → n ≤ left_for p turns → had ≡ had_before turns.quantum turns.last p + n
    → with_turns p had turns ≡ after_turns_of n p turns
turns_are zero p turns had some fits is = absurd (omega (arith, some))
turns_are (suc n) p turns had some fits is =
    let before = had_before turns.quantum turns.last p in
    let same : had ≡ before + 1 + n = omega (arith, is) in
    ap (λ k. standing turns.quantum p k) same ∙ sym (more_turns n turns.quantum p (before + 1) (omega (arith, fits)))

below_by : (b : Bool) (quantum : ℕ) (had : ℕ) → 1 ≤ quantum → nat_lt had quantum ≡ b → cond b had 0 < quantum
below_by true quantum had some is = grind (arith, nat_tests)
below_by false quantum had some is = omega (arith, some)

below_both : (a : Bool) (quantum had : ℕ) → 1 ≤ quantum → cond (a && nat_lt had quantum) had 0 < quantum
below_both true quantum had some = below_by (nat_lt had quantum) quantum had some refl
below_both false quantum had some = omega (arith, some)

below_quantum : (quantum : ℕ) (last : Option Last) (p : ℕ) → 1 ≤ quantum → had_before quantum last p < quantum
below_quantum quantum None p some = omega (arith, some)
below_quantum quantum (Some last) p some = below_both (p == last.number) quantum last.had some

pub some_left : (turns : Turns) (p : ℕ) → 1 ≤ turns.quantum → 1 ≤ left_for p turns
some_left turns p some = omega (arith, below_quantum turns.quantum turns.last p some)
