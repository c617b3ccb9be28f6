use Rattle.std.specs.Prelude.{◌≡◌, ℕ, zero, suc, ◌+◌, ◌*◌, ◌<◌, ◌≤◌, Bool, true, false, cond, ◌||◌, nat_eq, List, [], ◌∷◌, ◌++◌, length, take, drop, refl}
use Rattle.std.proofs.Common.{◌⊎◌, inl, inr, sym, ap, ◌∙◌, arith, append_assoc, append-nil, length-append}
use Rattle.std.proofs.lemmas.Bool.{cases_order, eqb-true}
use Rattle.std.proofs.lemmas.List.{drop-append-le, drop_all, take-append-le, take_all}
use Rattle.std.proofs.Math.Seq.{take-append_seam}
use Rattle.std.specs.List.{AllByRecursion}
use Rattle.ledger.specs.AloneLaws.{are, arent}
use Rattle.sizes.specs.declared.TheConstants.{LINE_BYTES, PAGE_BYTES, PAGE_LINES}
use Rattle.ovl_io.specs.PageBytes.{overwritten}
use Rattle.overlay_bits.specs.Lines.{has_line}
use Rattle.delta_image.specs.Line.{IsLine, Line, numbers_of}
use Rattle.delta_image.specs.Applied.{applied_bytes, given_or, joined, line_in}
use Rattle.delta_image.specs.AppliedLaws.{joined_lines, joined_same, line_long}

-- The bytes of a page to which lines are given, one more each time.

-- a line more
given_more : (lines : List Line) (line : ℕ) (bytes other : List ℕ) (i : ℕ) → has_line (numbers_of lines) line ≡ false
    → given_or (lines ++ (line, bytes) ∷ []) other i ≡ cond (nat_eq line i) bytes (given_or lines other i)
given_more [] line bytes other i new = refl
given_more (x ∷ xs) line bytes other i new =
    at (nat_eq x.0 line) (has_line (numbers_of xs) line) new refl refl (λ f. given_more xs line bytes other i f)
  where
    swap : (a b : Bool) → (a ≡ true → b ≡ true → ⊥) → (y z w : List ℕ) → cond a y (cond b z w) ≡ cond b z (cond a y w)
    swap true true never y z w = absurd (never refl refl)
    swap true false never y z w = refl
    swap false b never y z w = refl

    at : (c d : Bool) → (c || d) ≡ false → nat_eq x.0 line ≡ c → has_line (numbers_of xs) line ≡ d
        → (has_line (numbers_of xs) line ≡ false → given_or (xs ++ (line, bytes) ∷ []) other i ≡ cond (nat_eq line i) bytes (given_or xs other i))
        → cond (nat_eq x.0 i) x.1 (given_or (xs ++ (line, bytes) ∷ []) other i) ≡ cond (nat_eq line i) bytes (cond (nat_eq x.0 i) x.1 (given_or xs other i))
    at true d h e f rest = cc
    at false true h e f rest = cc
    at false false h e f rest =
        ap (cond (nat_eq x.0 i) x.1) (rest f)
        ∙ swap (nat_eq x.0 i) (nat_eq line i) (λ a b. let no = sym e ∙ are x.0 line (eqb-true x.0 i a ∙ sym (eqb-true line i b)) in absurd cc) x.1 bytes (given_or xs other i)

-- lines one behind the other, of which one is another one
joined_long : (f : ℕ → List ℕ) (n : ℕ) → ((i : ℕ) → i < n → length (f i) ≡ 64) → length (joined f n) ≡ 64 * n
unfolding joined
joined_long f zero each = omega arith
joined_long f (suc n) each =
    let rest = joined_long f n (λ i lt. each i (omega (arith, lt))) in
    let last = each n (omega arith) in
    length-append (joined f n) (f n) ∙ omega (arith, rest, last)

over_front : (xs ys : List ℕ) (at : ℕ) (bytes : List ℕ) → at + length bytes ≤ length xs → overwritten (xs ++ ys) at bytes ≡ overwritten xs at bytes ++ ys
over_front xs ys at bytes fits =
    ap (λ front. front ++ (bytes ++ drop (at + length bytes) (xs ++ ys))) (take-append-le at xs ys (omega (arith, fits)))
    ∙ ap (λ rest. take at xs ++ (bytes ++ rest)) (drop-append-le (at + length bytes) xs ys fits)
    ∙ ap (λ rest. take at xs ++ rest) (sym (append_assoc bytes (drop (at + length bytes) xs) ys))
    ∙ sym (append_assoc (take at xs) (bytes ++ drop (at + length bytes) xs) ys)

over_back : (xs ys : List ℕ) (at : ℕ) (bytes : List ℕ) → length xs ≡ at → length ys ≡ length bytes → overwritten (xs ++ ys) at bytes ≡ xs ++ bytes
over_back xs ys at bytes long whole =
    ap (λ n. take n (xs ++ ys) ++ (bytes ++ drop (at + length bytes) (xs ++ ys))) (sym long)
    ∙ ap (λ front. front ++ (bytes ++ drop (at + length bytes) (xs ++ ys))) (take-append_seam xs ys)
    ∙ ap (λ rest. xs ++ (bytes ++ rest)) (drop_all (at + length bytes) (xs ++ ys) (omega (arith, length-append xs ys, long, whole)))
    ∙ ap (λ rest. xs ++ rest) (append-nil bytes)

joined_put : (f : ℕ → List ℕ) (line : ℕ) (bytes : List ℕ) (n : ℕ) → line < n → length bytes ≡ 64 → ((i : ℕ) → i < n → length (f i) ≡ 64)
    → overwritten (joined f n) (64 * line) bytes ≡ joined (λ i. cond (nat_eq line i) bytes (f i)) n
unfolding joined
joined_put f line bytes zero low whole each = absurd (omega (arith, low))
joined_put f line bytes (suc n) low whole each = at (cases_order line n) (λ less. joined_put f line bytes n less whole (λ i lt. each i (omega (arith, lt))))
  where
    long : length (joined f n) ≡ 64 * n
    long = joined_long f n (λ i lt. each i (omega (arith, lt)))

    last : length (f n) ≡ 64
    last = each n (omega arith)

    at : (line ≡ n) ⊎ ((line < n) ⊎ (n < line)) → (line < n → overwritten (joined f n) (64 * line) bytes ≡ joined (λ i. cond (nat_eq line i) bytes (f i)) n)
        → overwritten (joined f n ++ f n) (64 * line) bytes ≡ joined (λ i. cond (nat_eq line i) bytes (f i)) n ++ cond (nat_eq line n) bytes (f n)
    at (inl same) rest =
        over_back (joined f n) (f n) (64 * line) bytes (omega (arith, long, same)) (omega (arith, last, whole))
        ∙ ap (λ xs. xs ++ bytes) (joined_same f (λ i. cond (nat_eq line i) bytes (f i)) n (λ i lt. ap (λ b. cond b bytes (f i)) (sym (arent line i (λ e. omega (arith, e, same, lt))))))
        ∙ ap (λ b. joined (λ i. cond (nat_eq line i) bytes (f i)) n ++ cond b bytes (f n)) (sym (are line n same))
    at (inr (inl less)) rest =
        over_front (joined f n) (f n) (64 * line) bytes (omega (arith, long, whole, less))
        ∙ ap (λ xs. xs ++ f n) (rest less)
        ∙ ap (λ b. joined (λ i. cond (nat_eq line i) bytes (f i)) n ++ cond b bytes (f n)) (sym (arent line n (λ e. omega (arith, e, less))))
    at (inr (inr more)) rest = absurd (omega (arith, low, more))

-- Bytes of a page with lines given.

given_long : (lines : List Line) (other : List ℕ) (i : ℕ) → AllByRecursion IsLine lines → length other ≡ 64 → length (given_or lines other i) ≡ 64
given_long [] other i whole long = long
given_long (x ∷ xs) other i whole long = at (nat_eq x.0 i) (given_long xs other i whole.1 long)
  where
    at : (b : Bool) → length (given_or xs other i) ≡ 64 → length (cond b x.1 (given_or xs other i)) ≡ 64
    at true rest = whole.0
    at false rest = rest

each_long : (lines : List Line) (base : List ℕ) → AllByRecursion IsLine lines → length base ≡ PAGE_BYTES → (i : ℕ) → i < 64 → length (given_or lines (line_in base i) i) ≡ 64
each_long lines base whole page i lt = given_long lines (line_in base i) i whole (line_long base i page lt)

pub applied_long : (lines : List Line) (base : List ℕ) → AllByRecursion IsLine lines → length base ≡ PAGE_BYTES → length (applied_bytes lines base) ≡ PAGE_BYTES
applied_long lines base whole page = joined_long (λ i. given_or lines (line_in base i) i) 64 (each_long lines base whole page)

-- none
pub applied_none : (base : List ℕ) → length base ≡ PAGE_BYTES → applied_bytes [] base ≡ base
applied_none base page = joined_lines base 64 ∙ take_all 4096 base (omega (arith, page))

-- one more
pub applied_more : (lines : List Line) (line : ℕ) (bytes base : List ℕ) → has_line (numbers_of lines) line ≡ false → line < PAGE_LINES → length bytes ≡ LINE_BYTES
    → AllByRecursion IsLine lines → length base ≡ PAGE_BYTES
    → overwritten (applied_bytes lines base) (LINE_BYTES * line) bytes ≡ applied_bytes (lines ++ (line, bytes) ∷ []) base
applied_more lines line bytes base new low long whole page =
    joined_put (λ i. given_or lines (line_in base i) i) line bytes 64 low long (each_long lines base whole page)
    ∙ joined_same (λ i. cond (nat_eq line i) bytes (given_or lines (line_in base i) i)) (λ i. given_or (lines ++ (line, bytes) ∷ []) (line_in base i) i) 64
    (λ i lt. sym (given_more lines line bytes (line_in base i) i new))
