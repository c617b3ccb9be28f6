use Rattle.std.proofs.Common.{◌≡◌, ℕ, zero, suc, ◌+◌, ◌-◌, ◌<◌, ◌≤◌, Bool, true, false, cond, [], ◌∷◌, ◌++◌, List, length, map, ap, ◌∙◌, refl, arith, sym, append-nil, append_assoc, length-append}
use Rattle.std.specs.List.{range_with_len, filter}
use Rattle.std.proofs.lemmas.List.Elements.{filter-append}
use Rattle.std.proofs.lemmas.List.FromFn.{map-range_with_len_more}

-- What a filter keeps of a range of numbers, and functions that agree on a range.

filter_none : (test : ℕ → Bool) (a n : ℕ) → ((q : ℕ) → a ≤ q → q < a + n → test q ≡ false) → filter test (range_with_len a n) ≡ []
filter_none test a zero h = refl
filter_none test a (suc n) h =
    ap (λ b. cond b (a ∷ filter test (range_with_len (a + 1) n)) (filter test (range_with_len (a + 1) n))) (h a (omega arith) (omega arith))
    ∙ filter_none test (a + 1) n (λ q low high. h q (omega arith) (omega arith))

filter_all : (test : ℕ → Bool) (a n : ℕ) → ((q : ℕ) → a ≤ q → q < a + n → test q ≡ true) → filter test (range_with_len a n) ≡ range_with_len a n
filter_all test a zero h = refl
filter_all test a (suc n) h =
    ap (λ b. cond b (a ∷ filter test (range_with_len (a + 1) n)) (filter test (range_with_len (a + 1) n))) (h a (omega arith) (omega arith))
    ∙ ap (λ qs. a ∷ qs) (filter_all test (a + 1) n (λ q low high. h q (omega arith) (omega arith)))

range_split : (a m n : ℕ) → range_with_len a (m + n) ≡ range_with_len a m ++ range_with_len (a + m) n
range_split a zero n = let same : zero + n ≡ n = omega arith in let from : a + zero ≡ a = omega arith in
    ap (range_with_len a) same ∙ ap (λ b. range_with_len b n) (sym from)
range_split a (suc m) n =
    let same : suc m + n ≡ suc (m + n) = omega arith in
    let from : a + 1 + m ≡ a + suc m = omega arith in
    ap (range_with_len a) same ∙ ap (λ qs. a ∷ qs) (range_split (a + 1) m n ∙ ap (λ b. range_with_len (a + 1) m ++ range_with_len b n) from)

-- What a filter keeps below a number, from what it keeps below a lower one: in between the test holds of
-- k numbers from there on, and of no others.
pub filter_more : (test : ℕ → Bool) (f k n : ℕ) → f + k ≤ n → ((q : ℕ) → f ≤ q → q < f + k → test q ≡ true)
    → ((q : ℕ) → f + k ≤ q → q < n → test q ≡ false)
    → filter test (range_with_len 0 n) ≡ filter test (range_with_len 0 f) ++ range_with_len f k
filter_more test f k n within inside above =
    let rest = n - (f + k) in
    let parts : n ≡ f + (k + rest) = omega arith in
    let zero_f : 0 + f ≡ f = omega arith in
    ap (λ m. filter test (range_with_len 0 m)) parts ∙ ap (filter test) (range_split 0 f (k + rest))
    ∙ filter-append test (range_with_len 0 f) (range_with_len (0 + f) (k + rest))
    ∙ ap (λ b. filter test (range_with_len 0 f) ++ filter test (range_with_len b (k + rest))) zero_f
    ∙ ap (λ qs. filter test (range_with_len 0 f) ++ qs) (ap (filter test) (range_split f k rest) ∙ filter-append test (range_with_len f k) (range_with_len (f + k) rest)
    ∙ ap (λ qs. filter test (range_with_len f k) ++ qs) (filter_none test (f + k) rest (λ q low high. above q low (omega arith)))
    ∙ append-nil (filter test (range_with_len f k)) ∙ filter_all test f k inside)

-- a filter keeps no more below a lower number
pub filter_fewer : (test : ℕ → Bool) (m n : ℕ) → m ≤ n → length (filter test (range_with_len 0 m)) ≤ length (filter test (range_with_len 0 n))
filter_fewer test m n h =
    let parts : n ≡ m + (n - m) = omega arith in
    let same = ap (λ k. filter test (range_with_len 0 k)) parts ∙ ap (filter test) (range_split 0 m (n - m))
    ∙ filter-append test (range_with_len 0 m) (range_with_len (0 + m) (n - m)) in
    omega (arith, ap length same, length-append (filter test (range_with_len 0 m)) (filter test (range_with_len (0 + m) (n - m))))

-- one element more behind those of a range
pub one_more : {X : Type 0} (f : ℕ → X) (from at : ℕ) (start old new : List X) (x : X) → new ≡ old ++ x ∷ [] → x ≡ f at
    → old ≡ start ++ map f (range_with_len from (at - from)) → from ≤ at → new ≡ start ++ map f (range_with_len from (at + 1 - from))
one_more f from at start old new x pushed is so_far low =
    let more : at - from + 1 ≡ at + 1 - from = omega arith in
    pushed ∙ ap (λ y. old ++ y ∷ []) is ∙ ap (λ xs. xs ++ f at ∷ []) so_far
    ∙ append_assoc start (map f (range_with_len from (at - from))) (f at ∷ [])
    ∙ ap (λ xs. start ++ xs) (sym (map-range_with_len_more f from (at - from) at (omega arith)) ∙ ap (λ n. map f (range_with_len from n)) more)

-- functions that agree on a range give one list
pub map_range_agree : {X : Type 0} (f g : ℕ → X) (a n : ℕ) → ((q : ℕ) → a ≤ q → q < a + n → f q ≡ g q) → map f (range_with_len a n) ≡ map g (range_with_len a n)
map_range_agree f g a zero h = refl
map_range_agree f g a (suc n) h =
    ap (λ x. x ∷ map f (range_with_len (a + 1) n)) (h a (omega arith) (omega arith))
    ∙ ap (λ xs. g a ∷ xs) (map_range_agree f g (a + 1) n (λ q low high. h q (omega arith) (omega arith)))
