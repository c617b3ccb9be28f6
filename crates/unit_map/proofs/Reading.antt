use Rattle.std.proofs.Common.{◌≡◌, ℕ, zero, suc, ◌+◌, ◌-◌, ◌^◌, ◌<◌, ◌≤◌, Bool, cond, nat_eq, nat_lt, true, false, ◌⊎◌, inl, inr, List, [], ◌∷◌, ◌++◌, length, get_or, sym, ap, subst, ◌∙◌, refl, arith, append_assoc}
use Rattle.std.proofs.lemmas.Bool.{cases_lt}
use Rattle.std.proofs.lemmas.List.{get_or_past}
use Rattle.std.proofs.lemmas.Nat.{pow_pos}
use Rattle.unit_map.specs.Pieces.{Piece, IsPiece, moved}
use Rattle.unit_map.specs.Cells.{code, order_of, piece_at, pieces_in, pieces_of, behind, AreInside, AreSameBut}
use Rattle.unit_map.proofs.Codes.{block, code_some, piece_none, piece_code}
use Rattle.unit_map.proofs.Lists.{in_either, in_lower, in_upper}

-- The pieces that a table tells.

-- the piece of a byte starts at its unit
at_unit : (u c : ℕ) (p : Piece) → IsPiece (piece_at u c) p → p.unit ≡ u
unfolding piece_at
at_unit u c p h = at (nat_eq c 0) h
  where
    at : (b : Bool) → IsPiece (cond b [] (block u (order_of c) (nat_lt c 32) ∷ [])) p → p.unit ≡ u
    at true h = absurd h
    at false (inl e) = sym (ap (λ (q : Piece). q.unit) e)
    at false (inr h) = absurd h

pub in_two : (cells : List ℕ) (a m n : ℕ) → pieces_in cells a (m + n) ≡ pieces_in cells a m ++ pieces_in cells (a + m) n
unfolding pieces_in
in_two cells a zero n =
    let here : a ≡ a + zero = omega arith in
    let none : zero + n ≡ n = omega arith in
    ap (pieces_in cells a) none ∙ ap (λ b. pieces_in cells b n) here
in_two cells a (suc m) n =
    let one : suc m + n ≡ suc (m + n) = omega arith in
    let there : a + 1 + m ≡ a + suc m = omega arith in
    ap (pieces_in cells a) one
    ∙ ap (λ ps. piece_at a (get_or cells a 0) ++ ps) (in_two cells (a + 1) m n ∙ ap (λ b. pieces_in cells (a + 1) m ++ pieces_in cells b n) there)
    ∙ sym (append_assoc (piece_at a (get_or cells a 0)) (pieces_in cells (a + 1) m) (pieces_in cells (a + suc m) n))

pub in_one : (cells : List ℕ) (a n : ℕ) → 0 < n → pieces_in cells a n ≡ piece_at a (get_or cells a 0) ++ pieces_in cells (a + 1) (n - 1)
unfolding pieces_in
in_one cells a n h = let e : n ≡ suc (n - 1) = omega (arith, h) in ap (pieces_in cells a) e

pub in_same : (cells other : List ℕ) (a n : ℕ) → ((x : ℕ) → a ≤ x → x < a + n → get_or cells x 0 ≡ get_or other x 0) → pieces_in cells a n ≡ pieces_in other a n
unfolding pieces_in
in_same cells other a zero h = refl
in_same cells other a (suc n) h =
    ap (λ c. piece_at a c ++ pieces_in cells (a + 1) n) (h a (omega arith) (omega arith))
    ∙ ap (λ ps. piece_at a (get_or other a 0) ++ ps) (in_same cells other (a + 1) n (λ x le lt. h x (omega (arith, le)) (omega (arith, lt))))

pub in_none : (cells : List ℕ) (a n : ℕ) → AreInside cells a (a + n) → pieces_in cells a n ≡ []
unfolding pieces_in
in_none cells a zero h = refl
in_none cells a (suc n) h =
    ap (λ c. piece_at a c ++ pieces_in cells (a + 1) n) (h a (omega arith) (omega arith))
    ∙ ap (λ ps. ps ++ pieces_in cells (a + 1) n) (piece_none a)
    ∙ in_none cells (a + 1) n (λ x le lt. h x (omega (arith, le)) (omega (arith, lt)))

-- a piece of a range, by its byte
pub from_cells : (cells : List ℕ) (a n : ℕ) (p : Piece) → IsPiece (pieces_in cells a n) p → (a ≤ p.unit) × (p.unit < a + n) × IsPiece (piece_at p.unit (get_or cells p.unit 0)) p
unfolding pieces_in
from_cells cells a zero p h = absurd h
from_cells cells a (suc n) p h = at (in_either (piece_at a (get_or cells a 0)) (pieces_in cells (a + 1) n) p h) (from_cells cells (a + 1) n p)
  where
    at : IsPiece (piece_at a (get_or cells a 0)) p ⊎ IsPiece (pieces_in cells (a + 1) n) p
        → (IsPiece (pieces_in cells (a + 1) n) p → (a + 1 ≤ p.unit) × (p.unit < a + 1 + n) × IsPiece (piece_at p.unit (get_or cells p.unit 0)) p)
        → (a ≤ p.unit) × (p.unit < a + suc n) × IsPiece (piece_at p.unit (get_or cells p.unit 0)) p
    at (inl here) rest =
        let e = at_unit a (get_or cells a 0) p here in
        (omega (arith, e), omega (arith, e), subst (λ u. IsPiece (piece_at u (get_or cells u 0)) p) (sym e) here)
    at (inr there) rest = let r = rest there in (omega (arith, r.0), omega (arith, r.1), r.2)

in_cells : (cells : List ℕ) (a n x : ℕ) (p : Piece) → a ≤ x → x < a + n → IsPiece (piece_at x (get_or cells x 0)) p → IsPiece (pieces_in cells a n) p
in_cells cells a n x p le lt h =
    let all : x - a + (n - (x - a)) ≡ n = omega (arith, le, lt) in
    let here : a + (x - a) ≡ x = omega (arith, le) in
    subst (λ m. IsPiece (pieces_in cells a m) p) all
    (subst (λ ps. IsPiece ps p) (sym (in_two cells a (x - a) (n - (x - a))))
    (in_upper (pieces_in cells a (x - a)) (pieces_in cells (a + (x - a)) (n - (x - a))) p
    (subst (λ y. IsPiece (pieces_in cells y (n - (x - a))) p) (sym here)
    (subst (λ ps. IsPiece ps p) (sym (in_one cells x (n - (x - a)) (omega (arith, le, lt))))
    (in_lower (piece_at x (get_or cells x 0)) (pieces_in cells (x + 1) (n - (x - a) - 1)) p h)))))

-- a byte that isn't 0 stands in the table
pub cell_there : (cells : List ℕ) (x c : ℕ) → get_or cells x 0 ≡ c → (c ≡ 0 → ⊥) → x < length cells
cell_there cells x c e some = elim (cases_lt x (length cells)) [ inl lt ↦ lt | inr le ↦ absurd (some (sym e ∙ get_or_past cells x 0 le)) ]

pub here_in : (cells : List ℕ) (a n x k : ℕ) (b : Bool) → a ≤ x → x < a + n → k ≤ 4 → get_or cells x 0 ≡ code b k → IsPiece (pieces_in cells a n) (block x k b)
here_in cells a n x k b le lt low e =
    in_cells cells a n x (block x k b) le lt (subst (λ ps. IsPiece ps (block x k b)) (sym (ap (piece_at x) e ∙ piece_code x b k low)) (inl refl))

pub piece_here : (cells : List ℕ) (x k : ℕ) (b : Bool) → k ≤ 4 → get_or cells x 0 ≡ code b k → IsPiece (pieces_of cells) (block x k b)
piece_here cells x k b low e = here_in cells 0 (length cells) x k b (omega arith) (omega (arith, cell_there cells x (code b k) e (code_some b k))) low e

-- one block fills a range
pub one_piece : (cells : List ℕ) (u k : ℕ) (b : Bool) → k ≤ 4 → get_or cells u 0 ≡ code b k → AreInside cells (u + 1) (u + 2 ^ k) → pieces_in cells u (2 ^ k) ≡ block u k b ∷ []
one_piece cells u k b low here inside =
    in_one cells u (2 ^ k) (pow_pos k)
    ∙ ap (λ ps. ps ++ pieces_in cells (u + 1) (2 ^ k - 1)) (ap (piece_at u) here ∙ piece_code u b k low)
    ∙ ap (λ ps. block u k b ∷ ps) (in_none cells (u + 1) (2 ^ k - 1) (λ x le lt. inside x le (omega (arith, lt, pow_pos k))))

-- The table in three parts.

pub in_three : (cells : List ℕ) (u m : ℕ) → u + m ≤ length cells → pieces_of cells ≡ pieces_in cells 0 u ++ (pieces_in cells u m ++ behind cells u m)
in_three cells u m fits =
    let all : length cells ≡ u + (m + (length cells - (u + m))) = omega (arith, fits) in
    let none : 0 + u ≡ u = omega arith in
    ap (pieces_in cells 0) all ∙ in_two cells 0 u (m + (length cells - (u + m)))
    ∙ ap (λ v. pieces_in cells 0 u ++ pieces_in cells v (m + (length cells - (u + m)))) none
    ∙ ap (λ ps. pieces_in cells 0 u ++ ps) (in_two cells u m (length cells - (u + m)))

-- a table that differs in the middle alone
pub in_three_new : (cells new : List ℕ) (u m : ℕ) → u + m ≤ length cells → AreSameBut u m cells new → pieces_of new ≡ pieces_in cells 0 u ++ (pieces_in new u m ++ behind cells u m)
in_three_new cells new u m fits same =
    in_three new u m (omega (arith, fits, same.units))
    ∙ ap (λ ps. ps ++ (pieces_in new u m ++ behind new u m)) (in_same new cells 0 u (λ x le lt. same.before x (omega (arith, lt))))
    ∙ ap (λ ps. pieces_in cells 0 u ++ (pieces_in new u m ++ ps)) (in_same new cells (u + m) (length new - (u + m)) (λ x le lt. same.behind x le) ∙ ap (λ n. pieces_in cells (u + m) (n - (u + m))) same.units)

-- Equal bytes elsewhere are the same pieces there.

moved_append : (u v : ℕ) (ps qs : List Piece) → moved u v (ps ++ qs) ≡ moved u v ps ++ moved u v qs
moved_append u v [] qs = refl
moved_append u v (p ∷ ps) qs = ap (λ xs. block (v + (p.unit - u)) p.order p.free ∷ xs) (moved_append u v ps qs)

moved_code : (u v i c : ℕ) → moved u v (piece_at (u + i) c) ≡ piece_at (v + i) c
unfolding piece_at
moved_code u v i c = at (nat_eq c 0)
  where
    at : (b : Bool) → moved u v (cond b [] (block (u + i) (order_of c) (nat_lt c 32) ∷ [])) ≡ cond b [] (block (v + i) (order_of c) (nat_lt c 32) ∷ [])
    at true = refl
    at false = let e : v + (u + i - u) ≡ v + i = omega arith in ap (λ x. block x (order_of c) (nat_lt c 32) ∷ []) e

moved_from : (old new : List ℕ) (u v i n : ℕ) → ((j : ℕ) → j < i + n → get_or new (v + j) 0 ≡ get_or old (u + j) 0) → pieces_in new (v + i) n ≡ moved u v (pieces_in old (u + i) n)
unfolding pieces_in
moved_from old new u v i zero h = refl
moved_from old new u v i (suc n) h =
    let a : v + i + 1 ≡ v + (i + 1) = omega arith in
    let b : u + i + 1 ≡ u + (i + 1) = omega arith in
    ap (λ c. piece_at (v + i) c ++ pieces_in new (v + i + 1) n) (h i (omega arith))
    ∙ ap (λ ps. ps ++ pieces_in new (v + i + 1) n) (sym (moved_code u v i (get_or old (u + i) 0)))
    ∙ ap (λ x. moved u v (piece_at (u + i) (get_or old (u + i) 0)) ++ pieces_in new x n) a
    ∙ ap (λ ps. moved u v (piece_at (u + i) (get_or old (u + i) 0)) ++ ps) (moved_from old new u v (i + 1) n (λ j lt. h j (omega (arith, lt))) ∙ ap (λ x. moved u v (pieces_in old x n)) (sym b))
    ∙ sym (moved_append u v (piece_at (u + i) (get_or old (u + i) 0)) (pieces_in old (u + i + 1) n))

pub moved_cells : (old new : List ℕ) (u v n : ℕ) → ((j : ℕ) → j < n → get_or new (v + j) 0 ≡ get_or old (u + j) 0) → pieces_in new v n ≡ moved u v (pieces_in old u n)
moved_cells old new u v n h =
    let a : v ≡ v + 0 = omega arith in
    let b : u + 0 ≡ u = omega arith in
    ap (λ x. pieces_in new x n) a ∙ moved_from old new u v 0 n (λ j lt. h j (omega (arith, lt))) ∙ ap (λ x. moved u v (pieces_in old x n)) b
