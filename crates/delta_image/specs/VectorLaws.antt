use Rattle.std.proofs.Common.{◌≡◌, ℕ, zero, suc, ◌+◌, ◌*◌, ◌^◌, ◌<◌, ◌≤◌, Bool, true, false, cond, List, [], ◌∷◌, ◌++◌, refl, sym, ap, ◌∙◌, arith, add-one, mul_comm}
use Rattle.std.proofs.lemmas.List.{append-nil}
use Rattle.std.proofs.Math.Nat.{pow-le-pow_right, pow-suc}
use Rattle.overlay_bits.specs.Kept.{has_bit, lines_of_word, word_back, word_of}
use Rattle.overlay_bits.specs.Lines.{AreLines, Rise, below, has_line}
use Rattle.overlay_bits.specs.Laws.{are_rise, are_where, is_where}
use Rattle.overlay_bits.specs.Below.{rise_below}

-- A vector: the number that has a bit for each of some lines.

low_power : (i j : ℕ) → i ≤ j → 2 ^ i ≤ 2 ^ j
low_power i j h = pow-le-pow_right {n = 2} (omega arith) h

pub next_power : (k : ℕ) → 2 ^ (k + 1) ≡ 2 * 2 ^ k
next_power k = ap (λ j. 2 ^ j) (add-one k) ∙ pow-suc 2 k ∙ mul_comm (2 ^ k) 2

-- it has no bit from the end of its lines on
pub word_rise : (from : ℕ) (xs : List ℕ) (end : ℕ) → Rise from xs end → word_of xs + 2 ^ from ≤ 2 ^ end
word_rise from [] end h = omega (arith, low_power from end h)
word_rise from (x ∷ xs) end h =
    let rest = word_rise (x + 1) xs end h.1 in
    let low : 2 ^ from ≤ 2 ^ x = low_power from x h.0 in
    omega (arith, rest, low, next_power x)

pub word_fits : (xs : List ℕ) → Rise 0 xs 64 → word_of xs < 2 ^ 64
word_fits xs h = omega (arith, word_rise 0 xs 64 h)

pub word_push : (xs : List ℕ) (y : ℕ) → word_of (xs ++ y ∷ []) ≡ word_of xs + 2 ^ y
word_push [] y = omega arith
word_push (x ∷ xs) y = omega (arith, word_push xs y)

-- Sets of one vector are equal.

same_step : (xs ys : List ℕ) (k : ℕ) (b c : Bool) → word_of xs < 2 ^ k → word_of ys < 2 ^ k
    → word_of (xs ++ cond b (k ∷ []) []) ≡ word_of (ys ++ cond c (k ∷ []) []) → (b ≡ c) × (word_of xs ≡ word_of ys)
same_step xs ys k true true one other e = (refl, omega (arith, e, word_push xs k, word_push ys k))
same_step xs ys k true false one other e = absurd (omega (arith, e, other, word_push xs k, ap word_of (append-nil ys)))
same_step xs ys k false true one other e = absurd (omega (arith, e, one, word_push ys k, ap word_of (append-nil xs)))
same_step xs ys k false false one other e = (refl, sym (ap word_of (append-nil xs)) ∙ e ∙ ap word_of (append-nil ys))

below_fits : (test : ℕ → Bool) (k : ℕ) → word_of (below test k) < 2 ^ k
below_fits test k = omega (arith, word_rise 0 (below test k) k (rise_below test k))

same_below : (t u : ℕ → Bool) (k : ℕ) → word_of (below t k) ≡ word_of (below u k) → below t k ≡ below u k
unfolding below
same_below t u zero e = refl
same_below t u (suc k) e =
    let parts = same_step (below t k) (below u k) k (t k) (u k) (below_fits t k) (below_fits u k) e in
    λ i. same_below t u k parts.1 i ++ cond (parts.0 i) (k ∷ []) []

pub same_words : (a b : List ℕ) → AreLines a → AreLines b → word_of a ≡ word_of b → a ≡ b
same_words a b one other same =
    let first = is_where a one in
    let second = is_where b other in
    first ∙ same_below (has_line a) (has_line b) 64 (sym (ap word_of first) ∙ same ∙ ap word_of second) ∙ sym second

-- the lines of a vector are those that it was made of
pub numbers_back : (xs : List ℕ) → Rise 0 xs 64 → lines_of_word (word_of xs) ≡ xs
numbers_back xs h =
    same_words (lines_of_word (word_of xs)) xs (are_where (has_bit (word_of xs))) (are_rise xs h) (word_back (word_of xs) (word_fits xs h))
