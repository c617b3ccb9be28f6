use Rattle.std.proofs.Common.{◌≡◌, ℕ, zero, suc, ◌+◌, ◌-◌, ◌^◌, ◌<◌, ◌≤◌, Bool, true, false, cond, nat_eq, nat_lt, inl, inr, List, [], ◌∷◌, ◌++◌, length, get_or, set, sym, ap, subst, ◌∙◌, refl, arith}
use Rattle.std.proofs.lemmas.Bool.{cases_eq}
use Rattle.std.proofs.lemmas.List.{length-set, get_or-set_same, get_or-set_other}
use Rattle.unit_map.specs.Pieces.{Piece, count, free_at, free_frames, is_free_of, moved, taken_at}
use Rattle.unit_map.specs.Changes.{TakesFrom, split}
use Rattle.unit_map.specs.Cells.{behind, order_of, piece_at, pieces_in, pieces_of, with_free, IsTable}
use Rattle.unit_map.specs.Counted.{AreCounts, CanCount, GoAlong}
use Rattle.unit_map.specs.Settled.{count_append, count_moved, count_split, is_none, is_one}
use Rattle.unit_map.proofs.Codes.{block}
use Rattle.unit_map.proofs.Reading.{in_three}

-- How many free blocks there are of each order.

-- one piece counts for one at most
one_at_most : (b : Bool) → cond b 1 0 ≤ 1
one_at_most true = omega arith
one_at_most false = omega arith

count_byte : (k u c : ℕ) → count k (piece_at u c) ≤ 1
unfolding piece_at
count_byte k u c = at (nat_eq c 0)
  where
    at : (b : Bool) → count k (cond b [] (block u (order_of c) (nat_lt c 32) ∷ [])) ≤ 1
    at true = omega arith
    at false = omega (arith, one_at_most (is_free_of k (block u (order_of c) (nat_lt c 32))))

pub count_few : (k : ℕ) (cells : List ℕ) (a n : ℕ) → count k (pieces_in cells a n) ≤ n
unfolding pieces_in
count_few k cells a zero = omega arith
count_few k cells a (suc n) =
    omega (arith, count_append k (piece_at a (get_or cells a 0)) (pieces_in cells (a + 1) n), count_byte k a (get_or cells a 0), count_few k cells (a + 1) n)

pub counts_few : (counts cells : List ℕ) → IsTable cells → AreCounts counts (pieces_of cells) → (k : ℕ) → k ≤ 4 → get_or counts k 0 ≤ 2 ^ 20
counts_few counts cells is are k low = omega (arith, are.each k low, count_few k cells 0 (length cells), is.few)

-- What is counted may be counted so, and goes on so.

pub can_are : (counts : List ℕ) (ps : List Piece) → AreCounts counts ps → CanCount counts ps
can_are counts ps are = record { size = are.size; some = λ k low. omega (arith, are.each k low); few = λ k low. omega (arith, are.each k low) }

pub goes_same : (counts : List ℕ) (ps qs : List Piece) → ps ≡ qs → GoAlong counts ps counts qs
goes_same counts ps qs e = record { size = refl; each = λ k low. ap (λ xs. get_or counts k 0 + count k xs) e }

pub goes_both : (a b c : List ℕ) (ps qs rs : List Piece) → GoAlong a ps b qs → GoAlong b qs c rs → GoAlong a ps c rs
goes_both a b c ps qs rs one two = record { size = two.size ∙ one.size; each = λ k low. omega (arith, one.each k low, two.each k low) }

pub can_go : (old new : List ℕ) (ps qs : List Piece) → CanCount old ps → GoAlong old ps new qs → CanCount new qs
can_go old new ps qs can go = record {
  size = go.size ∙ can.size;
  some = λ k low. omega (arith, go.each k low, can.some k low);
  few = λ k low. omega (arith, go.each k low, can.few k low);
}

pub are_go : (old new : List ℕ) (ps qs : List Piece) → AreCounts old ps → GoAlong old ps new qs → AreCounts new qs
are_go old new ps qs are go = record { size = go.size ∙ are.size; each = λ k low. omega (arith, go.each k low, are.each k low) }

-- pieces in the middle
pub goes_within : (old new : List ℕ) (front part other back : List Piece) → GoAlong old part new other → GoAlong old (front ++ (part ++ back)) new (front ++ (other ++ back))
goes_within old new front part other back go = record {
  size = go.size;
  each = λ k low. omega (arith, go.each k low, count_append k front (part ++ back), count_append k part back, count_append k front (other ++ back), count_append k other back);
}

-- A count is changed.

one_here : (k u : ℕ) → count k (free_at u k ∷ []) ≡ 1
one_here k u = is_one k (free_at u k) refl refl

pub goes_up : (counts : List ℕ) (k u : ℕ) → k < length counts → GoAlong counts [] (set counts k (get_or counts k 0 + 1)) (free_at u k ∷ [])
goes_up counts k u there = record {
  size = length-set counts k (get_or counts k 0 + 1);
  each = λ i low. elim (cases_eq i k) [
    | inl e ↦ omega (arith, ap (λ j. get_or (set counts k (get_or counts k 0 + 1)) j 0) e, get_or-set_same counts k (get_or counts k 0 + 1) 0 there, ap (λ j. get_or counts j 0) e, ap (λ j. count j (free_at u k ∷ [])) e, one_here k u)
    | inr other ↦ omega (arith, get_or-set_other counts k i (get_or counts k 0 + 1) 0 other, is_none i (free_at u k) (λ e. other (sym e)))
  ];
}

pub goes_down : (counts : List ℕ) (k u : ℕ) → k < length counts → 0 < get_or counts k 0 → GoAlong counts (free_at u k ∷ []) (set counts k (get_or counts k 0 - 1)) []
goes_down counts k u there some = record {
  size = length-set counts k (get_or counts k 0 - 1);
  each = λ i low. elim (cases_eq i k) [
    | inl e ↦ omega (arith, some, ap (λ j. get_or (set counts k (get_or counts k 0 - 1)) j 0) e, get_or-set_same counts k (get_or counts k 0 - 1) 0 there, ap (λ j. get_or counts j 0) e, ap (λ j. count j (free_at u k ∷ [])) e, one_here k u)
    | inr other ↦ omega (arith, get_or-set_other counts k i (get_or counts k 0 - 1) 0 other, is_none i (free_at u k) (λ e. other (sym e)))
  ];
}

-- A free block is split.

pub split_none : (counts : List ℕ) (from order u : ℕ) → from < length counts → 0 < get_or counts from 0 → GoAlong counts (free_at u from ∷ []) (set counts from (get_or counts from 0 - 1)) (split u order (order - order))
split_none counts from order u there some =
    let none : 0 ≡ order - order = omega arith in
    let down = goes_down counts from u there some in
    subst (λ n. GoAlong counts (free_at u from ∷ []) (set counts from (get_or counts from 0 - 1)) (split u order n)) none (record { size = down.size; each = down.each })

pub split_one : (old counts : List ℕ) (ps : List Piece) (order below u : ℕ) → order ≤ below → below < length counts → GoAlong old ps counts (split u order (below - order))
    → GoAlong old ps (set counts below (get_or counts below 0 + 1)) (split u order (below + 1 - order))
split_one old counts ps order below u le there go =
    let next : suc (below - order) ≡ below + 1 - order = omega (arith, le) in
    let at : below ≡ order + (below - order) = omega (arith, le) in
    let top = u + 2 ^ (order + (below - order)) in
    let up = goes_up counts below top there in
    subst (λ n. GoAlong old ps (set counts below (get_or counts below 0 + 1)) (split u order n)) next (record {
      size = up.size ∙ go.size;
      each = λ k low. omega (
        arith,
        go.each k low,
        up.each k low,
        count_append k (split u order (below - order)) (free_at top (order + (below - order)) ∷ []),
        ap (λ n. count k (free_at top n ∷ [])) at,
      );
    })

pub split_few : (old counts : List ℕ) (ps : List Piece) (order n k u : ℕ) → k ≤ 4 → GoAlong old ps counts (split u order n) → get_or counts k 0 ≤ get_or old k 0 + 1
split_few old counts ps order n k u low go = omega (arith, go.each k low, (count_split k u order n).0)

-- A block is taken.

pub counts_taken : (old new : List ℕ) (ps qs : List Piece) (order from unit : ℕ) → TakesFrom ps order from unit qs → AreCounts old ps → GoAlong old (free_at unit from ∷ []) new (split unit order (from - order)) → AreCounts new qs
counts_taken old new ps qs order from unit takes are go =
    let within = goes_within old new takes.front (free_at unit from ∷ []) (split unit order (from - order)) takes.back go in
    subst (AreCounts new) (sym takes.now) (are_go old new (takes.front ++ free_at unit from ∷ takes.back) (takes.front ++ (split unit order (from - order) ++ takes.back)) (subst (AreCounts old) takes.was are) within)

-- A block is given.

pub counts_given : (counts : List ℕ) (ps front back : List Piece) (order unit : ℕ) → order ≤ 4 → ps ≡ front ++ taken_at unit order ∷ back → AreCounts counts ps → AreCounts (set counts order (get_or counts order 0 + 1)) (front ++ free_at unit order ∷ back)
counts_given counts ps front back order unit low was are =
    let up = goes_up counts order unit (omega (arith, are.size, low)) in
    let within = goes_within counts (set counts order (get_or counts order 0 + 1)) front (taken_at unit order ∷ []) (free_at unit order ∷ []) back (record { size = up.size; each = up.each }) in
    are_go counts (set counts order (get_or counts order 0 + 1)) (front ++ taken_at unit order ∷ back) (front ++ free_at unit order ∷ back) (subst (AreCounts counts) was are) within

-- Two free halves become one block.

pub two_there : (counts : List ℕ) (ps front back : List Piece) (k u v : ℕ) → k ≤ 4 → ps ≡ front ++ free_at u k ∷ free_at v k ∷ back → CanCount counts ps → 2 ≤ get_or counts k 0
two_there counts ps front back k u v low was can =
    omega (
      arith,
      can.some k low,
      ap (count k) was,
      count_append k front (free_at u k ∷ free_at v k ∷ back),
      count_append k (free_at u k ∷ []) (free_at v k ∷ back),
      count_append k (free_at v k ∷ []) back,
      one_here k u,
      one_here k v,
    )

pub can_few : (counts cells : List ℕ) (k : ℕ) → length cells ≤ 2 ^ 20 → k ≤ 4 → CanCount counts (pieces_of cells) → get_or counts k 0 < 2 ^ 31
can_few counts cells k few low can = omega (arith, can.few k low, count_few k cells 0 (length cells), few)

pub counts_joined : (old new : List ℕ) (ps qs front back : List Piece) (k u v : ℕ) → ps ≡ front ++ free_at u k ∷ free_at v k ∷ back → qs ≡ front ++ free_at u (k + 1) ∷ back
    → GoAlong old (free_at u k ∷ free_at v k ∷ []) new (free_at u (k + 1) ∷ []) → GoAlong old ps new qs
counts_joined old new ps qs front back k u v was now go =
    subst (λ xs. GoAlong old xs new qs) (sym was)
    (subst (GoAlong old (front ++ free_at u k ∷ free_at v k ∷ back) new) (sym now) (goes_within old new front (free_at u k ∷ free_at v k ∷ []) (free_at u (k + 1) ∷ []) back go))

-- What fills the range of a block goes to a free one: its count goes up while the range is cleared.

pub can_clear_counts : (counts cells : List ℕ) (from k : ℕ) → k ≤ 4 → from + 2 ^ k ≤ length cells → IsTable cells → AreCounts counts (pieces_of cells) → CanCount (set counts k (get_or counts k 0 + 1)) (with_free cells from k)
can_clear_counts counts cells from k low fits is are = record {
  size = up.size ∙ are.size;
  some = λ i less. omega (arith, up.each i less, are.each i less, was i, free i);
  few = λ i less. omega (arith, up.each i less, counts_few counts cells is are i less, free i);
}
  where
    up : GoAlong counts [] (set counts k (get_or counts k 0 + 1)) (free_at from k ∷ [])
    up = goes_up counts k from (omega (arith, are.size, low))

    was : (i : ℕ) → count i (pieces_of cells) ≡ count i (pieces_in cells 0 from) + count i (pieces_in cells from (2 ^ k)) + count i (behind cells from (2 ^ k))
    was i =
        omega (
          arith,
          ap (count i) (in_three cells from (2 ^ k) fits),
          count_append i (pieces_in cells 0 from) (pieces_in cells from (2 ^ k) ++ behind cells from (2 ^ k)),
          count_append i (pieces_in cells from (2 ^ k)) (behind cells from (2 ^ k)),
        )

    free : (i : ℕ) → count i (with_free cells from k) ≡ count i (pieces_in cells 0 from) + count i (free_at from k ∷ []) + count i (behind cells from (2 ^ k))
    free i = omega (arith, count_append i (pieces_in cells 0 from) (free_at from k ∷ behind cells from (2 ^ k)), count_append i (free_at from k ∷ []) (behind cells from (2 ^ k)))

pub counts_carried : (counts mid : List ℕ) (cells : List ℕ) (qs rs front back : List Piece) (from to k : ℕ) → k ≤ 4 → from + 2 ^ k ≤ length cells → AreCounts counts (pieces_of cells)
    → GoAlong (set counts k (get_or counts k 0 + 1)) (with_free cells from k) mid qs → qs ≡ front ++ free_at to k ∷ back → rs ≡ front ++ (moved from to (pieces_in cells from (2 ^ k)) ++ back) → 0 < get_or mid k 0
    → AreCounts (set mid k (get_or mid k 0 - 1)) rs
counts_carried counts mid cells qs rs front back from to k low fits are go was now some = record {
  size = down.size ∙ go.size ∙ up.size ∙ are.size;
  each = λ i less. omega (
    arith,
    down.each i less,
    go.each i less,
    up.each i less,
    are.each i less,
    ap (count i) (in_three cells from (2 ^ k) fits),
    count_append i (pieces_in cells 0 from) (pieces_in cells from (2 ^ k) ++ behind cells from (2 ^ k)),
    count_append i (pieces_in cells from (2 ^ k)) (behind cells from (2 ^ k)),
    count_append i (pieces_in cells 0 from) (free_at from k ∷ behind cells from (2 ^ k)),
    count_append i (free_at from k ∷ []) (behind cells from (2 ^ k)),
    ap (count i) was,
    count_append i front (free_at to k ∷ back),
    count_append i (free_at to k ∷ []) back,
    ap (count i) now,
    count_append i front (moved from to (pieces_in cells from (2 ^ k)) ++ back),
    count_append i (moved from to (pieces_in cells from (2 ^ k))) back,
    count_moved i from to (pieces_in cells from (2 ^ k)),
  );
}
  where
    up : GoAlong counts [] (set counts k (get_or counts k 0 + 1)) (free_at from k ∷ [])
    up = goes_up counts k from (omega (arith, are.size, low))

    down : GoAlong mid (free_at to k ∷ []) (set mid k (get_or mid k 0 - 1)) []
    down = goes_down mid k to (omega (arith, go.size, up.size, are.size, low)) some

pub some_there : (counts : List ℕ) (ps front back : List Piece) (k u : ℕ) → k ≤ 4 → ps ≡ front ++ free_at u k ∷ back → CanCount counts ps → 0 < get_or counts k 0
some_there counts ps front back k u low was can =
    omega (arith, can.some k low, ap (count k) was, count_append k front (free_at u k ∷ back), count_append k (free_at u k ∷ []) back, one_here k u)

-- A new map has frames alone.

pub frames_count : (u n k : ℕ) → k < 4 → count k (free_frames u n) ≡ 0
frames_count u zero k low = refl
frames_count u (suc n) k low = omega (arith, is_none k (free_at u 4) (λ e. omega (arith, e, low)), frames_count (u + 16) n k low)

pub frames_all : (u n : ℕ) → count 4 (free_frames u n) ≡ n
frames_all u zero = refl
frames_all u (suc n) = omega (arith, frames_all (u + 16) n)

pub frames_counts : (n : ℕ) → AreCounts (0 ∷ 0 ∷ 0 ∷ 0 ∷ n ∷ []) (free_frames 0 n)
frames_counts n = record { size = refl; each = λ k low. each k low }
  where
    each : (k : ℕ) → k ≤ 4 → get_or (0 ∷ 0 ∷ 0 ∷ 0 ∷ n ∷ []) k 0 ≡ count k (free_frames 0 n)
    each zero low = sym (frames_count 0 n 0 (omega arith))
    each (suc zero) low = sym (frames_count 0 n 1 (omega arith))
    each (suc (suc zero)) low = sym (frames_count 0 n 2 (omega arith))
    each (suc (suc (suc zero))) low = sym (frames_count 0 n 3 (omega arith))
    each (suc (suc (suc (suc zero)))) low = sym (frames_all 0 n)
    each (suc (suc (suc (suc (suc k))))) low = absurd (omega (arith, low))
