use Rattle.std.proofs.Common.{◌≡◌, ℕ, ◌+◌, ◌-◌, ◌<◌, ◌≤◌, List, ◌++◌, length, get_or, take, drop, ap, ◌∙◌, arith, length-append, length-drop}
use Rattle.std.proofs.Math.Seq.{get_or-append_right}
use Rattle.std.proofs.lemmas.List.{get_or_append_left, get_or-take, get_or-drop, length-take-le}
use Rattle.ovl_io.specs.PageBytes.{overwritten}

-- What stands where in bytes that were overwritten from a place on.

pub before : (xs : List ℕ) (at : ℕ) (ys : List ℕ) (i : ℕ) → at + length ys ≤ length xs → i < at → get_or (overwritten xs at ys) i 0 ≡ get_or xs i 0
before xs at ys i fits h =
    get_or_append_left (take at xs) _ 0 i (omega (arith, length-take-le at xs (omega (arith, fits)))) ∙ get_or-take at xs i 0 h

pub inside : (xs : List ℕ) (at : ℕ) (ys : List ℕ) (i k : ℕ) → at + length ys ≤ length xs → i ≡ at + k → k < length ys
    → get_or (overwritten xs at ys) i 0 ≡ get_or ys k 0
inside xs at ys i k fits is h =
    let len = length-take-le at xs (omega (arith, fits)) in
    let place : i - length (take at xs) ≡ k = omega (arith, len, is) in
    get_or-append_right (take at xs) (ys ++ drop (at + length ys) xs) i 0 (omega (arith, len, is))
    ∙ ap (λ n. get_or (ys ++ drop (at + length ys) xs) n 0) place
    ∙ get_or_append_left ys _ 0 k h

pub behind : (xs : List ℕ) (at : ℕ) (ys : List ℕ) (i : ℕ) → at + length ys ≤ length xs → at + length ys ≤ i → get_or (overwritten xs at ys) i 0 ≡ get_or xs i 0
behind xs at ys i fits h =
    let len = length-take-le at xs (omega (arith, fits)) in
    let k = i - (at + length ys) in
    let place : i - length (take at xs) ≡ length ys + k = omega (arith, len, h) in
    let rest : length ys + k - length ys ≡ k = omega arith in
    let whole : at + length ys + k ≡ i = omega (arith, h) in
    get_or-append_right (take at xs) (ys ++ drop (at + length ys) xs) i 0 (omega (arith, len, h))
    ∙ ap (λ n. get_or (ys ++ drop (at + length ys) xs) n 0) place
    ∙ get_or-append_right ys (drop (at + length ys) xs) (length ys + k) 0 (omega arith)
    ∙ ap (λ n. get_or (drop (at + length ys) xs) n 0) rest
    ∙ get_or-drop (at + length ys) xs k 0
    ∙ ap (λ n. get_or xs n 0) whole

pub count : (xs : List ℕ) (at : ℕ) (ys : List ℕ) → at + length ys ≤ length xs → length (overwritten xs at ys) ≡ length xs
count xs at ys fits =
    let len = length-take-le at xs (omega (arith, fits)) in
    omega (arith, len, fits, length-append (take at xs) (ys ++ drop (at + length ys) xs), length-append ys (drop (at + length ys) xs), length-drop (at + length ys) xs)
