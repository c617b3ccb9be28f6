use Rattle.std.proofs.Common.{◌≡◌, ℕ, zero, suc, ◌+◌, ◌-◌, ◌*◌, ◌^◌, ◌<◌, ◌≤◌, Bool, true, false, cond, ◌⊎◌, inl, inr, List, [], ◌∷◌, ◌++◌, sym, ap, subst, ◌∙◌, refl, arith, true≢false}
use Rattle.std.proofs.lemmas.Bool.{cases_eq, cases_lt}
use Rattle.std.proofs.lemmas.Bool.Decides.{nat_tests}
use Rattle.std.proofs.Math.Pow.{pow_mono}
use Rattle.unit_map.specs.Pieces.{Piece, ArePieces, AreSettled, AreSettledBut, IsPiece, count, free_at, free_blocks, free_frames, free_units, is_free_of, moved, taken_at}
use Rattle.unit_map.specs.Changes.{CanMove, Clears, Gives, HasRoom, IsFull, Joins, Merges, Puts, Relocates, TakesBlock, split}
use Rattle.unit_map.specs.Changes.Merges.{Done, Step}
use Rattle.unit_map.specs.Laws.{fewer_beside, free_counts, free_of, in_upper, one_if, stays}

-- How many free pieces there are of an order, and what keeps them settled.

pub count_append : (k : ℕ) (ps qs : List Piece) → count k (ps ++ qs) ≡ count k ps + count k qs
count_append k [] qs = omega arith
count_append k (p ∷ ps) qs = omega (arith, count_append k ps qs)

pub count_moved : (k u v : ℕ) (ps : List Piece) → count k (moved u v ps) ≡ count k ps
count_moved k u v [] = refl
count_moved k u v (p ∷ ps) = ap (λ n. cond (is_free_of k p) 1 0 + n) (count_moved k u v ps)

-- where there is none
pub count_none : (k : ℕ) (ps : List Piece) → ((p : Piece) → IsPiece ps p → p.free ≡ true → p.order ≡ k → ⊥) → count k ps ≡ 0
count_none k [] h = refl
count_none k (p ∷ ps) h = at (is_free_of k p) refl (count_none k ps (λ q g. h q (inr g)))
  where
    at : (b : Bool) → is_free_of k p ≡ b → count k ps ≡ 0 → cond b 1 0 + count k ps ≡ 0
    at false e rest = omega (arith, rest)
    at true e rest = absurd (h p (inl refl) (free_of k p e).0 (free_of k p e).1)

-- a piece counts where it is free and of the order, and nowhere else
pub is_one : (k : ℕ) (p : Piece) → p.free ≡ true → p.order ≡ k → count k (p ∷ []) ≡ 1
unfolding one_if
is_one k p free order = let is : is_free_of k p ≡ true = grind (arith, nat_tests) in omega (arith, ap one_if is)

pub is_none : (k : ℕ) (p : Piece) → (p.order ≡ k → ⊥) → count k (p ∷ []) ≡ 0
is_none k p other = count_none k (p ∷ []) (λ q h free order. at q h order)
  where
    at : (q : Piece) → IsPiece (p ∷ []) q → q.order ≡ k → ⊥
    at q (inl e) order = other (ap (λ (r : Piece). r.order) e ∙ order)
    at q (inr h) order = absurd h

-- where there is one
pub count_some : (k : ℕ) (ps : List Piece) (x : ℕ) → IsPiece ps (free_at x k) → 1 ≤ count k ps
count_some k [] x h = absurd h
count_some k (p ∷ ps) x (inl e) = omega (arith, is_one k p (ap (λ (q : Piece). q.free) e) (ap (λ (q : Piece). q.order) e))
count_some k (p ∷ ps) x (inr h) = omega (arith, count_some k ps x h)

-- Halves that become one block: two of an order less, and one more of the next.

pub record Counts (old new : List Piece) (order : ℕ) : Type 0 where
  pub low : order < 4
  pub here : count order new + 2 ≡ count order old
  pub next : count (order + 1) new ≡ count (order + 1) old + 1
  pub others : (k : ℕ) → (k ≡ order → ⊥) → (k ≡ order + 1 → ⊥) → count k new ≡ count k old

joined : (old new : List Piece) (j : Joins old new) → Counts old new j.lower.order
joined old new j = record {
  low = j.halves.order;
  here = omega (arith, each order, is_one order j.lower j.halves.lower refl, is_one order j.upper j.halves.upper j.halves.same, is_none order whole (λ e. omega (arith, e)));
  next = omega (arith, each (order + 1), is_none (order + 1) j.lower (λ e. omega (arith, e)), is_none (order + 1) j.upper (λ e. omega (arith, e, j.halves.same)), is_one (order + 1) whole refl refl);
  others = λ k one two. omega (arith, each k, is_none k j.lower (λ e. one (omega (arith, e))), is_none k j.upper (λ e. one (omega (arith, e, j.halves.same))), is_none k whole (λ e. two (omega (arith, e))));
}
  where
    order : ℕ
    order = j.lower.order

    whole : Piece
    whole = free_at j.lower.unit (order + 1)

    each : (k : ℕ) → count k new + (cond (is_free_of k j.lower) 1 0 + cond (is_free_of k j.upper) 1 0) ≡ count k old + cond (is_free_of k whole) 1 0
    each k = omega (arith, ap (count k) j.was, ap (count k) j.now, count_append k j.front (j.lower ∷ j.upper ∷ j.back), count_append k j.front (whole ∷ j.back))

-- The free piece that is aside is the one that may be joined.

-- pieces beside others, of which none takes part
pub joins_settled : (old new beside : List Piece) (from : ℕ) → Joins old new → AreSettledBut (old ++ beside) from → AreSettledBut (new ++ beside) from
joins_settled old new beside from j is = at (cases_eq order is.aside)
  where
    order : ℕ
    order = j.lower.order

    c : Counts old new order
    c = joined old new j

    few : (k : ℕ) → count k (old ++ beside) ≡ count k old + count k beside
    few k = count_append k old beside

    now : (k : ℕ) → count k (new ++ beside) ≡ count k new + count k beside
    now k = count_append k new beside

    at : (order ≡ is.aside) ⊎ (order ≡ is.aside → ⊥) → AreSettledBut (new ++ beside) from
    at (inl e) = record {
      aside = order + 1;
      high = omega (arith, is.high, e);
      two = λ low. omega (arith, now (order + 1), few (order + 1), c.next, is.others (order + 1) low (λ s. omega (arith, s, e)));
      others = λ k low other. next k low other (cases_eq k order);
    }
      where
        next : (k : ℕ) → k < 4 → (k ≡ order + 1 → ⊥) → (k ≡ order) ⊎ (k ≡ order → ⊥) → count k (new ++ beside) < 2
        next k low other (inl s) =
            let two = is.two (omega (arith, c.low, e)) in
            omega (arith, ap (λ i. count i (new ++ beside)) s, now order, few order, c.here, two, ap (λ i. count i (old ++ beside)) e)
        next k low other (inr n) = omega (arith, now k, few k, c.others k n other, is.others k low (λ s. n (omega (arith, s, e))))
    at (inr n) = absurd (omega (arith, c.here, few order, is.others order c.low n))

pub merges_settled : (old new beside : List Piece) (from : ℕ) → Merges old new → AreSettledBut (old ++ beside) from → AreSettledBut (new ++ beside) from
merges_settled old new beside from (Done ps) is = is
merges_settled old new beside from (Step a mid b j m) is = merges_settled mid b beside from m (joins_settled a mid beside from j is)

fewer_settled : (ps qs : List Piece) (from : ℕ) → ((k : ℕ) → count k qs ≤ count k ps) → AreSettledBut ps from → AreSettledBut qs from
fewer_settled ps qs from less is = record {
  aside = is.aside;
  high = is.high;
  two = λ low. omega (arith, is.two low, less is.aside);
  others = λ k low other. omega (arith, is.others k low other, less k);
}

-- A block that was given.

pub gives_settled : (old new : List Piece) (unit order : ℕ) → Gives old unit order new → AreSettled old → AreSettledBut new order
gives_settled old new unit order g settled =
    fewer_settled (new ++ []) new order (λ k. omega (arith, count_append k new [])) (merges_settled start new [] order g.merges (record {
      aside = order;
      high = omega arith;
      two = λ low. omega (arith, each order, is_one order (free_at unit order) refl refl, settled order low);
      others = λ k low other. omega (arith, each k, is_none k (free_at unit order) (λ e. other (omega (arith, e))), settled k low);
    }))
  where
    start : List Piece
    start = g.front ++ free_at unit order ∷ g.back

    each : (k : ℕ) → count k (start ++ []) ≡ count k old + count k (free_at unit order ∷ [])
    each k =
        omega (arith, ap (count k) g.was, count_append k g.front (taken_at unit order ∷ g.back), count_append k g.front (free_at unit order ∷ g.back), count_append k start [])

-- where the one aside is a frame, none is
pub all_settled : (ps : List Piece) (from : ℕ) → 4 ≤ from → AreSettledBut ps from → AreSettled ps
all_settled ps from frame is k low = is.others k low (λ e. omega (arith, e, low, is.high, frame))

-- from an order on is from any lower one on
pub lower_settled : (ps : List Piece) (low from : ℕ) → low ≤ from → AreSettledBut ps from → AreSettledBut ps low
lower_settled ps low from le is = record { aside = is.aside; high = omega (arith, is.high, le); two = is.two; others = is.others }

-- frames alone are settled
pub frames_settled : (unit n : ℕ) → AreSettled (free_frames unit n)
frames_settled unit zero k low = omega arith
frames_settled unit (suc n) k low = omega (arith, is_none k (free_at unit 4) (λ e. omega (arith, e, low)), frames_settled (unit + 16) n k low)

-- A block that was taken.

pub count_split : (k unit order n : ℕ) → (count k (split unit order n) ≤ 1) × ((k < order) ⊎ (order + n ≤ k) → count k (split unit order n) ≡ 0)
count_split k unit order zero = (omega arith, λ _. refl)
count_split k unit order (suc n) = at (count_split k unit order n) (cases_eq (order + n) k)
  where
    top : Piece
    top = free_at (unit + 2 ^ (order + n)) (order + n)

    all : count k (split unit order (suc n)) ≡ count k (split unit order n) + count k (top ∷ [])
    all = count_append k (split unit order n) (top ∷ [])

    at : (count k (split unit order n) ≤ 1) × ((k < order) ⊎ (order + n ≤ k) → count k (split unit order n) ≡ 0)
        → (order + n ≡ k) ⊎ (order + n ≡ k → ⊥) → (count k (split unit order (suc n)) ≤ 1) × ((k < order) ⊎ (order + suc n ≤ k) → count k (split unit order (suc n)) ≡ 0)
    at below (inl e) = (omega (arith, all, is_one k top refl e, below.1 (inr (omega (arith, e)))), λ out. absurd (omega (arith, out, e)))
    at below (inr other) =
        let none = is_none k top other in
        (omega (arith, all, none, below.0), λ out. omega (arith, all, none, below.1 (rest out)))
      where
        rest : (k < order) ⊎ (order + suc n ≤ k) → (k < order) ⊎ (order + n ≤ k)
        rest (inl h) = inl h
        rest (inr h) = inr (omega (arith, h))

pub takes_settled : (old new : List Piece) (order unit : ℕ) → TakesBlock old order unit new → AreSettled old → AreSettled new
takes_settled old new order unit t settled k low = at (cases_lt k order) (cases_lt k t.from)
  where
    all : order + (t.from - order) ≡ t.from
    all = omega (arith, t.enough)

    parts : (count k (split unit order (t.from - order)) ≤ 1) × ((k < order) ⊎ (order + (t.from - order) ≤ k) → count k (split unit order (t.from - order)) ≡ 0)
    parts = count_split k unit order (t.from - order)

    each : count k new + count k (free_at unit t.from ∷ []) ≡ count k old + count k (split unit order (t.from - order))
    each =
        omega (
          arith,
          ap (count k) t.takes.was,
          ap (count k) t.takes.now,
          count_append k t.takes.front (free_at unit t.from ∷ t.takes.back),
          count_append k t.takes.front (split unit order (t.from - order) ++ t.takes.back),
          count_append k (split unit order (t.from - order)) t.takes.back,
        )

    at : (k < order) ⊎ (order ≤ k) → (k < t.from) ⊎ (t.from ≤ k) → count k new < 2
    at (inl h) _ = omega (arith, each, parts.1 (inl h), settled k low)
    at (inr h) (inr g) = omega (arith, each, parts.1 (inr (omega (arith, g, all))), settled k low)
    at (inr h) (inl g) =
        omega (arith, each, parts.0, count_none k old (λ p is free e. omega (arith, t.least p is free (omega (arith, h, e)), g, e)))

-- A move: what is aside afterwards is of a higher order.

first_joins : (old start mid beside : List Piece) (from order unit : ℕ) → order < 4 → AreSettledBut old from → 2 ≤ count order old
    → ((k : ℕ) → count k (start ++ beside) ≡ count k old + count k (free_at unit order ∷ []))
    → Merges start mid → free_blocks mid < free_blocks start → AreSettledBut (mid ++ beside) (order + 1)
first_joins old start mid beside from order unit low is two each (Done ps) fewer = absurd (omega (arith, fewer))
first_joins old start mid beside from order unit low is two each (Step a m b j rest) fewer = merges_settled m mid beside (order + 1) rest (at (cases_eq j.lower.order order))
  where
    c : Counts a m j.lower.order
    c = joined a m j

    aside : is.aside ≡ order
    aside = elim (cases_eq order is.aside) [ inl e ↦ omega (arith, e) | inr n ↦ absurd (omega (arith, is.others order low n, two)) ]

    was : (k : ℕ) → count k (start ++ beside) ≡ count k start + count k beside
    was k = count_append k start beside

    now : (k : ℕ) → count k (m ++ beside) ≡ count k m + count k beside
    now k = count_append k m beside

    at : (j.lower.order ≡ order) ⊎ (j.lower.order ≡ order → ⊥) → AreSettledBut (m ++ beside) (order + 1)
    at (inl e) = record {
      aside = order + 1;
      high = omega arith;
      two = λ less. omega (arith, now (order + 1), was (order + 1), d.next, each (order + 1), is_none (order + 1) (free_at unit order) (λ s. omega (arith, s)), is.others (order + 1) less (λ s. omega (arith, s, aside)));
      others = λ k less other. each_less k less other (cases_eq k order);
    }
      where
        d : Counts a m order
        d = subst (Counts a m) e c

        each_less : (k : ℕ) → k < 4 → (k ≡ order + 1 → ⊥) → (k ≡ order) ⊎ (k ≡ order → ⊥) → count k (m ++ beside) < 2
        each_less k less other (inl s) =
            omega (
              arith,
              ap (λ i. count i (m ++ beside)) s,
              now order,
              was order,
              d.here,
              each order,
              is_one order (free_at unit order) refl refl,
              is.two (omega (arith, low, aside)),
              ap (λ i. count i old) aside,
            )
        each_less k less other (inr n) =
            omega (arith, now k, was k, d.others k n other, each k, is_none k (free_at unit order) (λ s. n (omega (arith, s))), is.others k less (λ s. n (omega (arith, s, aside))))
    at (inr n) =
        let k = j.lower.order in
        absurd (omega (arith, c.here, was k, each k, is_none k (free_at unit order) (λ s. n (omega (arith, s))), is.others k c.low (λ s. n (omega (arith, s, aside)))))

pub moves_settled : (old new : List Piece) (unit to order from : ℕ) → CanMove old unit to order → Relocates old unit to order new → AreSettledBut old from → 2 ≤ count order old → AreSettledBut new (order + 1)
moves_settled old new unit to order from can r is two = fewer_settled (r.mid ++ r.part) new (order + 1) less (first_joins old start r.mid r.part from order unit can.low is two each c.merges fewer)
  where
    c : Clears old unit order r.part r.mid
    c = r.cleared

    put : Puts r.mid to order (moved unit to r.part) new
    put = r.put

    start : List Piece
    start = c.front ++ free_at unit order ∷ c.back

    fewer : free_blocks r.mid < free_blocks start
    fewer =
        let half = stays unit can.other order c.front r.part c.back c.fills c.total can.beside (subst (λ ps. IsPiece ps (free_at can.other order)) c.was can.half) in
        fewer_beside start r.mid unit can.other order can.low c.merges r.merged can.beside (in_upper c.front (free_at unit order ∷ c.back) _ (inl refl)) half

    each : (k : ℕ) → count k (start ++ r.part) ≡ count k old + count k (free_at unit order ∷ [])
    each k =
        omega (
          arith,
          ap (count k) c.was,
          count_append k c.front (r.part ++ c.back),
          count_append k r.part c.back,
          count_append k start r.part,
          count_append k c.front (free_at unit order ∷ c.back),
        )

    less : (k : ℕ) → count k new ≤ count k (r.mid ++ r.part)
    less k =
        omega (
          arith,
          ap (count k) put.was,
          ap (count k) put.now,
          count_append k r.mid r.part,
          count_append k put.front (free_at to order ∷ put.back),
          count_append k put.front (moved unit to r.part ++ put.back),
          count_append k (moved unit to r.part) put.back,
          count_moved k unit to r.part,
        )

-- In a settled map there is room exactly where the units are free.

piece_fits : (ps : List Piece) (p : Piece) → IsPiece ps p → p.free ≡ true → 2 ^ p.order ≤ free_units ps
piece_fits [] p h free = absurd h
piece_fits (x ∷ ps) p (inl e) free =
    let same = ap (λ (q : Piece). cond q.free (2 ^ q.order) 0) e in
    let here = ap (λ b. cond b (2 ^ p.order) 0) free in
    omega (arith, same, here)
piece_fits (x ∷ ps) p (inr h) free = omega (arith, piece_fits ps p h free)

pub room_fits : (ps : List Piece) (order : ℕ) → HasRoom ps order → 2 ^ order ≤ free_units ps
room_fits ps order room = let is = room.1 in omega (arith, piece_fits ps room.0 is.0 is.1, pow_mono is.2)

pub room_or_full : (order : ℕ) (ps : List Piece) → HasRoom ps order ⊎ IsFull ps order
room_or_full order [] = inr (λ p h free le. h)
room_or_full order (p ∷ ps) = at p.free refl (cases_lt p.order order) (room_or_full order ps)
  where
    full : (p.free ≡ true → order ≤ p.order → ⊥) → IsFull ps order → IsFull (p ∷ ps) order
    full none rest q (inl e) free le = none (ap (λ (r : Piece). r.free) e ∙ free) (omega (arith, ap (λ (r : Piece). r.order) e, le))
    full none rest q (inr h) free le = rest q h free le

    at : (b : Bool) → p.free ≡ b → (p.order < order) ⊎ (order ≤ p.order) → HasRoom ps order ⊎ IsFull ps order → HasRoom (p ∷ ps) order ⊎ IsFull (p ∷ ps) order
    at true e (inr le) rest = inl (p, (inl refl, e, le))
    at true e (inl lt) (inl room) = inl (room.0, (inr room.1.0, room.1.1, room.1.2))
    at true e (inl lt) (inr none) = inr (full (λ free le. omega (arith, lt, le)) none)
    at false e _ (inl room) = inl (room.0, (inr room.1.0, room.1.1, room.1.2))
    at false e _ (inr none) = inr (full (λ free le. true≢false (sym free ∙ e)) none)

-- where no free block is of an order or above, there is none of it
none_full : (order k : ℕ) (ps : List Piece) → order ≤ k → IsFull ps order → count k ps ≡ 0
none_full order k ps le full = count_none k ps (λ p h free e. full p h free (omega (arith, e, le)))

-- one free block of each order below k at most, and none above, are fewer units than one of order k
pub too_few : (order : ℕ) (ps : List Piece) → order ≤ 4 → ArePieces ps → ((k : ℕ) → k < order → count k ps < 2) → IsFull ps order → 2 ^ order ≤ free_units ps → ⊥
too_few order ps low are few full enough = at order low (λ k lt. few k lt) (λ k le. none_full order k ps le full) enough (free_counts ps are.aligned)
  where
    at : (j : ℕ) → j ≤ 4 → ((k : ℕ) → k < j → count k ps < 2) → ((k : ℕ) → j ≤ k → count k ps ≡ 0) → 2 ^ j ≤ free_units ps
        → free_units ps ≡ count 0 ps + 2 * count 1 ps + 4 * count 2 ps + 8 * count 3 ps + 16 * count 4 ps → ⊥
    at zero h few none enough sum = omega (arith, enough, sum, none 0 (omega arith), none 1 (omega arith), none 2 (omega arith), none 3 (omega arith), none 4 (omega arith))
    at (suc zero) h few none enough sum = omega (arith, enough, sum, few 0 (omega arith), none 1 (omega arith), none 2 (omega arith), none 3 (omega arith), none 4 (omega arith))
    at (suc (suc zero)) h few none enough sum = omega (arith, enough, sum, few 0 (omega arith), few 1 (omega arith), none 2 (omega arith), none 3 (omega arith), none 4 (omega arith))
    at (suc (suc (suc zero))) h few none enough sum = omega (arith, enough, sum, few 0 (omega arith), few 1 (omega arith), few 2 (omega arith), none 3 (omega arith), none 4 (omega arith))
    at (suc (suc (suc (suc zero)))) h few none enough sum = omega (arith, enough, sum, few 0 (omega arith), few 1 (omega arith), few 2 (omega arith), few 3 (omega arith), none 4 (omega arith))
    at (suc (suc (suc (suc (suc j))))) h few none enough sum = absurd (omega (arith, h))

pub settled_room : (ps : List Piece) (order : ℕ) → order ≤ 4 → ArePieces ps → AreSettled ps → 2 ^ order ≤ free_units ps → HasRoom ps order
settled_room ps order low are settled enough =
    elim (room_or_full order ps) [ inl room ↦ room | inr full ↦ absurd (too_few order ps low are (λ k lt. settled k (omega (arith, lt, low))) full enough) ]
