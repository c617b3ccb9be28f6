use Rattle.std.proofs.Common.{◌≡◌, ℕ, zero, suc, ◌+◌, ◌*◌, ◌^◌, ◌<◌, ◌≤◌, Bool, true, false, cond, ◌&&◌, nat_eq, ◌⊎◌, inl, inr, List, [], ◌∷◌, ◌++◌, sym, ap, subst, ◌∙◌, refl, arith}
use Rattle.std.proofs.lemmas.Bool.Decides.{nat_tests}
use Rattle.std.proofs.lemmas.Nat.{pow_pos}
use Rattle.std.proofs.Math.Nat.{two-pow-succ}
use Rattle.unit_map.specs.Pieces.{Piece, IsPiece, IsAligned, Fills, is_free_of, AreFreeHalves, AreTwoHalves, AreMerged, units_in, free_units, free_by_order, free_blocks, free_at, moved, AreBlocksApart, ArePieces}
use Rattle.unit_map.specs.Changes.{Joins, Merges, Relocates, CanMove}
use Rattle.unit_map.specs.Changes.Merges.{Done, Step}

-- What holds of the pieces of every map, and of every move: free units stay, free blocks become fewer.

pub by_order : (P : ℕ → Type 0) → P 0 → P 1 → P 2 → P 3 → P 4 → (k : ℕ) → k ≤ 4 → P k
by_order P a b c d e zero h = a
by_order P a b c d e (suc zero) h = b
by_order P a b c d e (suc (suc zero)) h = c
by_order P a b c d e (suc (suc (suc zero))) h = d
by_order P a b c d e (suc (suc (suc (suc zero)))) h = e
by_order P a b c d e (suc (suc (suc (suc (suc k))))) h = absurd (omega arith)

pub twice : (k : ℕ) → 2 ^ (k + 1) ≡ 2 ^ k + 2 ^ k
twice k = let e : k + 1 ≡ suc k = omega arith in ap (λ n. 2 ^ n) e ∙ two-pow-succ k

-- Pieces of two lists, one after the other.

pub in_either : (ps qs : List Piece) (p : Piece) → IsPiece (ps ++ qs) p → IsPiece ps p ⊎ IsPiece qs p
in_either [] qs p h = inr h
in_either (x ∷ ps) qs p (inl e) = inl (inl e)
in_either (x ∷ ps) qs p (inr h) = elim (in_either ps qs p h) [ inl a ↦ inl (inr a) | inr b ↦ inr b ]

pub in_lower : (ps qs : List Piece) (p : Piece) → IsPiece ps p → IsPiece (ps ++ qs) p
in_lower [] qs p h = absurd h
in_lower (x ∷ ps) qs p (inl e) = inl e
in_lower (x ∷ ps) qs p (inr h) = inr (in_lower ps qs p h)

pub in_upper : (ps qs : List Piece) (p : Piece) → IsPiece qs p → IsPiece (ps ++ qs) p
in_upper [] qs p h = h
in_upper (x ∷ ps) qs p h = inr (in_upper ps qs p h)

-- a piece lies within what the pieces fill
pub lies : (u : ℕ) (ps : List Piece) (p : Piece) → Fills u ps → IsPiece ps p → (u ≤ p.unit) × (p.unit + 2 ^ p.order ≤ u + units_in ps)
lies u [] p f h = absurd h
lies u (x ∷ ps) p f (inl e) = let P : Piece → Type 0 = λ p. (u ≤ p.unit) × (p.unit + 2 ^ p.order ≤ u + (2 ^ x.order + units_in ps)) in subst P e (omega (arith, f.0), omega (arith, f.0))
lies u (x ∷ ps) p f (inr h) = let r = lies (u + 2 ^ x.order) ps p f.1 h in (omega (arith, r.0), omega (arith, r.1))

-- two pieces are equal or apart
two_fill : (u : ℕ) (ps : List Piece) (p q : Piece) → Fills u ps → IsPiece ps p → IsPiece ps q → (p ≡ q) ⊎ AreBlocksApart p.unit p.order q.unit q.order
two_fill u [] p q f h g = absurd h
two_fill u (x ∷ ps) p q f (inl e) (inl i) = inl (sym e ∙ i)
two_fill u (x ∷ ps) p q f (inl e) (inr g) = inr (inl (omega (arith, ap (λ (y : Piece). y.unit + 2 ^ y.order) e, f.0, (lies (u + 2 ^ x.order) ps q f.1 g).0)))
two_fill u (x ∷ ps) p q f (inr h) (inl i) = inr (inr (omega (arith, ap (λ (y : Piece). y.unit + 2 ^ y.order) i, f.0, (lies (u + 2 ^ x.order) ps p f.1 h).0)))
two_fill u (x ∷ ps) p q f (inr h) (inr g) = two_fill (u + 2 ^ x.order) ps p q f.1 h g

pub equal_or_apart : (ps : List Piece) → ArePieces ps → (p q : Piece) → IsPiece ps p → IsPiece ps q → (p ≡ q) ⊎ AreBlocksApart p.unit p.order q.unit q.order
equal_or_apart ps are p q h g = two_fill 0 ps p q are.fills h g

-- and inside
pub within : (ps : List Piece) → ArePieces ps → (p : Piece) → IsPiece ps p → p.unit + 2 ^ p.order ≤ units_in ps
within ps are p h = omega (arith, (lies 0 ps p are.fills h).1)

pub units_append : (ps qs : List Piece) → units_in (ps ++ qs) ≡ units_in ps + units_in qs
units_append [] qs = omega arith
units_append (p ∷ ps) qs = omega (arith, units_append ps qs)

pub free_append : (ps qs : List Piece) → free_units (ps ++ qs) ≡ free_units ps + free_units qs
free_append [] qs = omega arith
free_append (p ∷ ps) qs = omega (arith, free_append ps qs)

blocks_append : (ps qs : List Piece) → free_blocks (ps ++ qs) ≡ free_blocks ps + free_blocks qs
blocks_append [] qs = omega arith
blocks_append (p ∷ ps) qs = omega (arith, blocks_append ps qs)

-- How many are free.

one_free : (b : Bool) (n : ℕ) → cond b n 0 ≤ n
one_free true n = omega arith
one_free false n = omega arith

pub free_le : (ps : List Piece) → free_units ps ≤ units_in ps
free_le [] = omega arith
free_le (p ∷ ps) = omega (arith, one_free p.free (2 ^ p.order), free_le ps)

one_block : (b : Bool) (n : ℕ) → 1 ≤ n → cond b 1 0 ≤ cond b n 0
one_block true n h = omega (arith, h)
one_block false n h = omega arith

pub blocks_le : (ps : List Piece) → free_blocks ps ≤ free_units ps
blocks_le [] = omega arith
blocks_le (p ∷ ps) = omega (arith, one_block p.free (2 ^ p.order) (pow_pos p.order), blocks_le ps)

-- Pieces by order.

pub free_of : (k : ℕ) (p : Piece) → is_free_of k p ≡ true → (p.free ≡ true) × (p.order ≡ k)
free_of k p h = (grind (arith, nat_tests), grind (arith, nat_tests))

unfoldable pub one_if : Bool → ℕ
one_if b = cond b 1 0

one_counts : (b : Bool) (k : ℕ) → k ≤ 4
    → cond b (2 ^ k) 0 ≡ cond (b && nat_eq k 0) 1 0 + 2 * cond (b && nat_eq k 1) 1 0 + 4 * cond (b && nat_eq k 2) 1 0 + 8 * cond (b && nat_eq k 3) 1 0 + 16 * cond (b && nat_eq k 4) 1 0
one_counts false k h = refl
one_counts true k h =
    by_order (λ k. 2 ^ k ≡ cond (nat_eq k 0) 1 0 + 2 * cond (nat_eq k 1) 1 0 + 4 * cond (nat_eq k 2) 1 0 + 8 * cond (nat_eq k 3) 1 0 + 16 * cond (nat_eq k 4) 1 0) refl refl refl refl refl k h

-- the free units are those of the free pieces by order
pub free_counts : (ps : List Piece) → ((p : Piece) → IsPiece ps p → IsAligned p) → free_units ps ≡ free_by_order ps
free_counts [] h = refl
free_counts (p ∷ ps) h = omega (arith, one_counts p.free p.order (h p (inl refl)).order, free_counts ps (λ q g. h q (inr g)))

-- Pieces that lie elsewhere.

free_moved : (u v : ℕ) (ps : List Piece) → free_units (moved u v ps) ≡ free_units ps
free_moved u v [] = refl
free_moved u v (p ∷ ps) = ap (λ n. cond p.free (2 ^ p.order) 0 + n) (free_moved u v ps)

blocks_moved : (u v : ℕ) (ps : List Piece) → free_blocks (moved u v ps) ≡ free_blocks ps
blocks_moved u v [] = refl
blocks_moved u v (p ∷ ps) = ap (λ n. cond p.free 1 0 + n) (blocks_moved u v ps)

-- Halves that become one block.

free_joins : (old new : List Piece) → Joins old new → free_units new ≡ free_units old
free_joins old new j =
    let lower = ap (λ (b : Bool). cond b (2 ^ j.lower.order) 0) j.halves.lower in
    let upper = ap (λ (b : Bool). cond b (2 ^ j.upper.order) 0) j.halves.upper in
    let same = ap (λ k. 2 ^ k) j.halves.same in
    omega (arith, ap free_units j.was, ap free_units j.now, free_append j.front (j.lower ∷ j.upper ∷ j.back), free_append j.front (free_at j.lower.unit (j.lower.order + 1) ∷ j.back), lower, upper, same, twice j.lower.order)

pub free_merges : (old new : List Piece) → Merges old new → free_units new ≡ free_units old
free_merges old new (Done ps) = refl
free_merges old new (Step a mid b j m) = free_merges mid new m ∙ free_joins old mid j

blocks_joins : (old new : List Piece) → Joins old new → free_blocks new + 1 ≡ free_blocks old
unfolding one_if
blocks_joins old new j =
    let lower = ap one_if j.halves.lower in
    let upper = ap one_if j.halves.upper in
    omega (arith, ap free_blocks j.was, ap free_blocks j.now, blocks_append j.front (j.lower ∷ j.upper ∷ j.back), blocks_append j.front (free_at j.lower.unit (j.lower.order + 1) ∷ j.back), lower, upper)

blocks_merges : (old new : List Piece) → Merges old new → free_blocks new ≤ free_blocks old
blocks_merges old new (Done ps) = omega arith
blocks_merges old new (Step a mid b j m) = omega (arith, blocks_joins old mid j, blocks_merges mid new m)

-- where there were free halves, and none are left
fewer_merges : (old new : List Piece) (p q : Piece) → Merges old new → AreMerged new → IsPiece old p → IsPiece old q → AreFreeHalves p q → free_blocks new < free_blocks old
fewer_merges old new p q (Done ps) merged a b halves = absurd (merged p q a b halves)
fewer_merges old new p q (Step a mid b j m) merged _ _ halves = omega (arith, blocks_joins old mid j, blocks_merges mid new m)

-- Moves.

beside_swap : (u v order : ℕ) → AreTwoHalves u v order → AreTwoHalves v u order
beside_swap u v order (inl b) = inr b
beside_swap u v order (inr b) = inl b

-- the other half of one free block can go to another free block of the order
pub can_move : (ps : List Piece) (u v from order : ℕ) → order < 4 → IsPiece ps (free_at u order) → IsPiece ps (free_at v order) → (v ≡ u → ⊥) → AreTwoHalves u from order → CanMove ps from v order
can_move ps u v from order low here there differ beside = record { low = low; other = u; beside = beside_swap u from order beside; half = here; there = there; differ = differ }

pub free_moves : (old new : List Piece) (from to order : ℕ) → Relocates old from to order new → free_units new ≡ free_units old
free_moves old new from to order r =
    let c = r.cleared in
    let put = r.put in
    omega (
      arith,
      ap free_units c.was,
      free_append c.front (r.part ++ c.back),
      free_append r.part c.back,
      free_merges _ r.mid c.merges,
      free_append c.front (free_at from order ∷ c.back),
      ap free_units put.was,
      free_append put.front (free_at to order ∷ put.back),
      ap free_units put.now,
      free_append put.front (moved from to r.part ++ put.back),
      free_append (moved from to r.part) put.back,
      free_moved from to r.part,
    )

-- the other half is none of the pieces that go
pub stays : (u v order : ℕ) (front part back : List Piece) → Fills u part → units_in part ≡ 2 ^ order → AreTwoHalves u v order → IsPiece (front ++ (part ++ back)) (free_at v order) → IsPiece (front ++ free_at u order ∷ back) (free_at v order)
stays u v order front part back fills total beside h = elim (in_either front (part ++ back) (free_at v order) h) [
  | inl a ↦ in_lower front (free_at u order ∷ back) _ a
  | inr b ↦ elim (in_either part back (free_at v order) b) [
    | inl gone ↦
        let apart : (v ≡ u + 2 ^ order) ⊎ (u ≡ v + 2 ^ order) = elim beside [ inl s ↦ inl s.1 | inr s ↦ inr s.1 ] in
        absurd (omega (arith, lies u part (free_at v order) fills gone, total, pow_pos order, apart))
    | inr c ↦ in_upper front (free_at u order ∷ back) _ (inr c)
  ]
]

pub fewer_beside : (old new : List Piece) (u v order : ℕ) → order < 4 → Merges old new → AreMerged new → AreTwoHalves u v order → IsPiece old (free_at u order) → IsPiece old (free_at v order) → free_blocks new < free_blocks old
fewer_beside old new u v order low m merged (inl b) at other = fewer_merges old new (free_at u order) (free_at v order) m merged at other (record { lower = refl; upper = refl; order = low; same = refl; unit = b.0; beside = b.1 })
fewer_beside old new u v order low m merged (inr b) at other = fewer_merges old new (free_at v order) (free_at u order) m merged other at (record { lower = refl; upper = refl; order = low; same = refl; unit = b.0; beside = b.1 })

pub fewer_moves : (old new : List Piece) (from to order : ℕ) → CanMove old from to order → Relocates old from to order new → free_blocks new < free_blocks old
fewer_moves old new from to order can r =
    let c = r.cleared in
    let put = r.put in
    let half = stays from can.other order c.front r.part c.back c.fills c.total can.beside (subst (λ ps. IsPiece ps (free_at can.other order)) c.was can.half) in
    let start = c.front ++ free_at from order ∷ c.back in
    let fewer = fewer_beside start r.mid from can.other order can.low c.merges r.merged can.beside (in_upper c.front (free_at from order ∷ c.back) _ (inl refl)) half in
    omega (
      arith,
      ap free_blocks c.was,
      blocks_append c.front (r.part ++ c.back),
      blocks_append r.part c.back,
      fewer,
      blocks_append c.front (free_at from order ∷ c.back),
      ap free_blocks put.was,
      blocks_append put.front (free_at to order ∷ put.back),
      ap free_blocks put.now,
      blocks_append put.front (moved from to r.part ++ put.back),
      blocks_append (moved from to r.part) put.back,
      blocks_moved from to r.part,
    )
