use Rattle.std.proofs.Common.{◌≡◌, ℕ, zero, suc, ◌+◌, ◌^◌, ◌<◌, ◌≤◌, Bool, true, false, cond, ◌⊎◌, inl, inr, List, [], ◌∷◌, ap, ◌∙◌, refl, arith}
use Rattle.std.proofs.lemmas.Nat.{pow_pos}
use Rattle.std.proofs.lemmas.Bool.{cases_lt}
use Rattle.unit_map.specs.Pieces.{Piece, ArePieces, count, free_blocks, free_units}
use Rattle.unit_map.specs.Changes.{IsFull}
use Rattle.unit_map.specs.Laws.{free_moves, fewer_moves}
use Rattle.unit_map.specs.Settled.{too_few}
use Rattle.store_compaction.specs.Runs.{HasPair, Moves}
use Rattle.store_compaction.specs.Runs.Moves.{Still, Then}

-- Where enough units are free and no free block is large enough, two smaller free blocks are equal in size.

-- there are two below an order, or fewer than two of each
two_below : (order : ℕ) (ps : List Piece) → HasPair ps order ⊎ ((k : ℕ) → k < order → count k ps < 2)
two_below zero ps = inr (λ k lt. absurd (omega (arith, lt)))
two_below (suc n) ps = elim (two_below n ps) [ inl h ↦ inl (record { size = h.size; below = omega (arith, h.below); two = h.two }) | inr few ↦ at few (cases_lt (count n ps) 2) ]
  where
    here : (k : ℕ) → ((k : ℕ) → k < n → count k ps < 2) → count n ps < 2 → (k < n) ⊎ (n ≤ k) → k < suc n → count k ps < 2
    here k few one (inl lt) h = few k lt
    here k few one (inr le) h = let same : n ≡ k = omega (arith, le, h) in omega (arith, one, ap (λ j. count j ps) same)

    at : ((k : ℕ) → k < n → count k ps < 2) → (count n ps < 2) ⊎ (2 ≤ count n ps) → HasPair ps (suc n) ⊎ ((k : ℕ) → k < suc n → count k ps < 2)
    at few (inl lt) = inr (λ k h. here k few lt (cases_lt k n) h)
    at few (inr le) = inl (record { size = n; below = omega arith; two = le })

pub packs : (order : ℕ) (ps : List Piece) → order ≤ 4 → ArePieces ps → 2 ^ order ≤ free_units ps → IsFull ps order → HasPair ps order
packs order ps low are enough full = elim (two_below order ps) [ inl h ↦ h | inr few ↦ absurd (too_few order ps low are few full enough) ]

-- Moves, one after the other.

run_free : (n : ℕ) (old new : List Piece) → Moves n old new → free_units new ≡ free_units old
run_free n old new (Still ps) = refl
run_free n old new (Then m a mid b from to order can r are rest) = run_free m mid b rest ∙ free_moves a mid from to order r

run_fewer : (n : ℕ) (old new : List Piece) → Moves n old new → n + free_blocks new ≤ free_blocks old
run_fewer n old new (Still ps) = omega arith
run_fewer n old new (Then m a mid b from to order can r are rest) = omega (arith, run_fewer m mid b rest, fewer_moves a mid from to order can r)

run_are : (n : ℕ) (old new : List Piece) → ArePieces old → Moves n old new → ArePieces new
run_are n old new was (Still ps) = was
run_are n old new was (Then m a mid b from to order can r are rest) = run_are m mid b are rest

-- free units are in free blocks
none_free : (b : Bool) (n u k : ℕ) → (1 ≤ u → 1 ≤ k) → 1 ≤ cond b n 0 + u → 1 ≤ cond b 1 0 + k
none_free true n u k h g = omega arith
none_free false n u k h g = omega (arith, h (omega (arith, g)))

pub some_free : (ps : List Piece) → 1 ≤ free_units ps → 1 ≤ free_blocks ps
some_free [] h = absurd (omega (arith, h))
some_free (p ∷ ps) h = none_free p.free (2 ^ p.order) (free_units ps) (free_blocks ps) (some_free ps) h

-- what any moves leave
pub runs : (order n : ℕ) (old new : List Piece) → order ≤ 4 → ArePieces old → 2 ^ order ≤ free_units old → Moves n old new → (n < free_blocks old) × (IsFull new order → HasPair new order)
runs order n old new low are enough moves =
    let kept : 2 ^ order ≤ free_units new = omega (arith, enough, run_free n old new moves) in
    (omega (arith, run_fewer n old new moves, some_free new (omega (arith, kept, pow_pos order))), λ full. packs order new low (run_are n old new are moves) kept full)
