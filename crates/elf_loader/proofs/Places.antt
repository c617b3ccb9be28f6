use Rattle.std.proofs.Common.{◌≡◌, ℕ, suc, ◌+◌, ◌-◌, ◌<◌, ◌≤◌, Bool, true, false, cond, ◌&&◌, leb, ltb, List, ◌++◌, length, get_or, take, drop, min, max, sym, ap, subst, ◌∙◌, inl, inr, arith, length-drop}
use Rattle.std.proofs.Math.Seq.{get_or-append_right}
use Rattle.std.proofs.lemmas.List.{get_or_append_left, get_or-take, get_or-drop, drop-drop, length-take-le}
use Rattle.std.proofs.lemmas.Bool.Decides.{leb_tells}

-- What stands where after ys was put in the place of k elements of xs from a on.
abbrev put : ℕ → ℕ → List ℕ → List ℕ → List ℕ
put a k xs ys = take a xs ++ (ys ++ drop k (drop a xs))

pub before : (a k : ℕ) (xs ys : List ℕ) (i : ℕ) → a ≤ length xs → i < a → get_or (put a k xs ys) i 0 ≡ get_or xs i 0
before a k xs ys i within h =
    get_or_append_left (take a xs) _ 0 i (omega (arith, length-take-le a xs within)) ∙ get_or-take a xs i 0 h

pub inside : (a k : ℕ) (xs ys : List ℕ) (i : ℕ) → a ≤ length xs → a ≤ i → i < a + length ys → get_or (put a k xs ys) i 0 ≡ get_or ys (i - a) 0
inside a k xs ys i within low high =
    let len = length-take-le a xs within in
    get_or-append_right (take a xs) _ i 0 (omega arith) ∙ ap (λ n. get_or (ys ++ drop k (drop a xs)) (i - n) 0) len
    ∙ get_or_append_left ys _ 0 (i - a) (omega arith)

pub behind : (a k : ℕ) (xs ys : List ℕ) (i : ℕ) → a ≤ length xs → length ys ≡ k → a + k ≤ i → get_or (put a k xs ys) i 0 ≡ get_or xs i 0
behind a k xs ys i within same h =
    let len = length-take-le a xs within in
    get_or-append_right (take a xs) _ i 0 (omega arith) ∙ ap (λ n. get_or (ys ++ drop k (drop a xs)) (i - n) 0) len
    ∙ get_or-append_right ys _ (i - a) 0 (omega arith) ∙ ap (λ zs. get_or zs (i - a - length ys) 0) (drop-drop k a xs)
    ∙ get_or-drop (a + k) xs (i - a - length ys) 0 ∙ ap (λ n. get_or xs n 0) (omega arith)

-- The bytes of a segment were put into a page that begins at base: what stands at each place of it.
pub laid : (out file w : List ℕ) (base address size offset a k m from i : ℕ) → a ≡ max base address - base → a + k ≡ min (base + 4096) (address + size) - base
    → 0 < k → length out ≡ 4096 → w ≡ take m (drop from file) → m ≡ k → from ≡ offset + (base + a - address) → offset + size ≤ length file → i < 4096
    → get_or (put a k out w) i 0 ≡ cond (leb address (base + i) && ltb (base + i) (address + size)) (get_or file (offset + (base + i - address)) 0) (get_or out i 0)
laid out file w base address size offset a k m from i at_a at_end some whole_page is_w is_m is_from whole_file in_page =
    let len : length w ≡ k = ap length is_w ∙ length-take-le m (drop from file) (omega (arith, length-drop from file)) ∙ is_m in
    let P : Bool → Bool → Type 0 = λ low high. get_or (put a k out w) i 0 ≡ cond (low && high) (get_or file (offset + (base + i - address)) 0) (get_or out i 0) in
    elim (leb_tells address (base + i)) [
      | inr below ↦ subst (λ b. P b (ltb (base + i) (address + size))) (sym below.0) (before a k out w i (omega arith) (omega (arith, below.1)))
      | inl low ↦ elim (leb_tells (suc (base + i)) (address + size)) [
        | inr above ↦ subst (λ b. P (leb address (base + i)) b) (sym above.0)
            (subst (λ b. P b false) (sym low.0) (behind a k out w i (omega arith) len (omega (arith, above.1))))
        | inl high ↦ subst (λ b. P (leb address (base + i)) b) (sym high.0) (subst (λ b. P b true) (sym low.0)
            (inside a k out w i (omega arith) (omega (arith, low.1)) (omega (arith, len, high.1, low.1))
            ∙ ap (λ ws. get_or ws (i - a) 0) is_w ∙ get_or-take m (drop from file) (i - a) 0 (omega (arith, high.1, low.1))
            ∙ get_or-drop from file (i - a) 0 ∙ ap (λ n. get_or file n 0) (omega (arith, low.1))))
      ]
    ]
