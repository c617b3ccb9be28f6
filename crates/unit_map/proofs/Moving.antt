use Rattle.std.proofs.Common.{◌≡◌, ℕ, ◌+◌, ◌-◌, ◌*◌, ◌/◌, ◌^◌, ◌%◌, ◌<◌, ◌≤◌, true, false, inl, inr, List, ◌∷◌, ◌++◌, length, get_or, max, sym, ap, subst, ◌∙◌, arith}
use Rattle.std.proofs.lemmas.Bool.{cases_lt}
use Rattle.std.proofs.lemmas.Nat.{pow_pos}
use Rattle.unit_map.specs.Pieces.{AreTwoHalves, AreBlocksApart, Fills, free_at, moved, taken_at, units_in}
use Rattle.unit_map.specs.Changes.{CanMove, KeepsOutside, MovesInside, OnlyMoves}
use Rattle.unit_map.specs.Cells.{code, pieces_in, pieces_of, behind, AreSameBut, IsCleared, IsBlockOrHalf, IsTable}
use Rattle.unit_map.specs.Moves.{IsCarried}
use Rattle.unit_map.proofs.Numbers.{in_frame, less_aligned, nested, next_aligned, not_both, twice}
use Rattle.unit_map.proofs.Reading.{in_three, in_three_new, moved_cells, one_piece, piece_here}
use Rattle.unit_map.proofs.Tables.{IsThere, beside_merged, block_there, frame_fits, frame_start, frame_tiled, none_taken, piece_block, piece_there, table_next, table_pieces, there_fits}
use Rattle.unit_map.proofs.Tiles.{replaced, tiled_fills, tiled_moved}
use Rattle.unit_map.proofs.Writes.{same_side, same_wider}

-- What fills the range of a block whose other half is free goes to a free block.

pub record IsMove (cells : List ℕ) (from to k : ℕ) : Type 0 where
  pub low : k < 4
  pub held : IsBlockOrHalf cells from k
  pub fits : from + 2 ^ k ≤ length cells
  pub taken : get_or cells from 0 ≡ code true k → ⊥
  pub there : get_or cells to 0 ≡ code true k
  pub apart : AreBlocksApart from k to k
  pub beside : AreTwoHalves from to k → ⊥

beside_one : (u v w k : ℕ) → k < 4 → AreTwoHalves u v k → AreTwoHalves u w k → v ≡ w
beside_one u v w k low (inl a) (inl b) = a.1 ∙ sym b.1
beside_one u v w k low (inl a) (inr b) = absurd (not_both w k low b.0 (subst (λ x. x % 2 ^ (k + 1) ≡ 0) b.1 a.0))
beside_one u v w k low (inr a) (inl b) = absurd (not_both v k low a.0 (subst (λ x. x % 2 ^ (k + 1) ≡ 0) a.1 b.0))
beside_one u v w k low (inr a) (inr b) = omega (arith, a.1, b.1)

-- the other half is aligned, and in the same frame
beside_place : (u v k : ℕ) → k < 4 → AreTwoHalves u v k → (u % 2 ^ k ≡ 0) × (u / 16 ≡ v / 16)
beside_place u v k low (inl b) =
    (less_aligned k (k + 1) u (omega arith) b.0, sym (in_frame u (k + 1) v (omega (arith, low)) b.0 (omega (arith, b.1)) (omega (arith, b.1, twice k, pow_pos k))))
beside_place u v k low (inr b) = (
  subst (λ x. x % 2 ^ k ≡ 0) (sym b.1) (next_aligned k v (less_aligned k (k + 1) v (omega arith) b.0)),
  in_frame v (k + 1) u (omega (arith, low)) b.0 (omega (arith, b.1)) (omega (arith, b.1, twice k, pow_pos k)),
)

-- two aligned blocks of an order are apart, or one
apart_of : (u v k : ℕ) → k ≤ 4 → u % 2 ^ k ≡ 0 → v % 2 ^ k ≡ 0 → (v ≡ u → ⊥) → AreBlocksApart u k v k
apart_of u v k low eu ev differs = elim (cases_lt v (u + 2 ^ k)) [
  | inr le ↦ inl le
  | inl lt ↦ elim (cases_lt u (v + 2 ^ k)) [
    | inr le ↦ inr le
    | inl less ↦
        let n = nested k k v u (max u v) low (omega arith) ev eu (omega arith) (omega (arith, less, pow_pos k)) (omega arith) (omega (arith, lt, pow_pos k)) in
        absurd (differs (omega (arith, n)))
  ]
]

pub can_move : (cells : List ℕ) (from to k : ℕ) → IsTable cells → CanMove (pieces_of cells) from to k → IsMove cells from to k
can_move cells from to k is can = record {
  low = can.low;
  held = record { low = low; there = start; aligned = place.0; at = can.other; free = true; is = half; place = inr (can.low, can.beside) };
  fits = omega (arith, nested k 4 from (16 * (from / 16)) from (omega arith) low place.0 (frame_start from) (omega arith) (omega (arith, pow_pos k)) (omega arith) (omega arith), frame_fits cells from is start);
  taken = taken;
  there = there;
  apart = apart_of from to k low place.0 (piece_block cells (free_at to k) is can.there).aligned (λ e. taken (ap (λ x. get_or cells x 0) (sym e) ∙ there));
  beside = λ b. can.differ (beside_one from to can.other k can.low b can.beside);
}
  where
    low : k ≤ 4
    low = omega (arith, can.low)

    place : (from % 2 ^ k ≡ 0) × (from / 16 ≡ can.other / 16)
    place = beside_place from can.other k can.low can.beside

    half : get_or cells can.other 0 ≡ code true k
    half = (piece_there cells (free_at can.other k) is can.half).1

    there : get_or cells to 0 ≡ code true k
    there = (piece_there cells (free_at to k) is can.there).1

    taken : get_or cells from 0 ≡ code true k → ⊥
    taken e = beside_merged cells from can.other k is can.low can.beside e half

    start : from < length cells
    start = omega (arith, place.1, frame_fits cells can.other is (piece_block cells (free_at can.other k) is can.half).there)

-- Once its place is cleared, the free block is still there.
pub move_there : (old mid : List ℕ) (from to k : ℕ) → IsMove old from to k → IsTable mid → IsCleared old from k (16 * (from / 16)) 4 mid → get_or mid to 0 ≡ code true k
move_there old mid from to k move table_mid gone = elim (gone.kept to) [
  | inl within ↦ elim move.apart [ inl le ↦ absurd (omega (arith, le, within.0)) | inr le ↦ absurd (omega (arith, le, within.0, pow_pos k)) ]
  | inr (out, kept) ↦ elim kept [ inl same ↦ same ∙ move.there | inr merged ↦ absurd (move.beside (merged.2 move.there)) ]
]

pub move_fits : (old mid : List ℕ) (from to k : ℕ) → IsMove old from to k → IsTable mid → IsCleared old from k (16 * (from / 16)) 4 mid → to + 2 ^ k ≤ length mid
move_fits old mid from to k move table_mid gone = there_fits mid to k table_mid (block_there mid to k true table_mid (omega (arith, move.low)) (move_there old mid from to k move table_mid gone))

-- The pieces there, before and after.
pub move_was : (old mid : List ℕ) (from to k : ℕ) → IsMove old from to k → IsTable mid → IsCleared old from k (16 * (from / 16)) 4 mid → pieces_of mid ≡ pieces_in mid 0 to ++ free_at to k ∷ behind mid to (2 ^ k)
move_was old mid from to k move table_mid gone =
    let low : k ≤ 4 = omega (arith, move.low) in
    let there = move_there old mid from to k move table_mid gone in
    in_three mid to (2 ^ k) (move_fits old mid from to k move table_mid gone)
    ∙ ap (λ ps. pieces_in mid 0 to ++ (ps ++ behind mid to (2 ^ k))) (one_piece mid to k true low there (block_there mid to k true table_mid low there).inside)

pub move_now : (old mid new part : List ℕ) (from to k : ℕ) → IsMove old from to k → ((i : ℕ) → i < 2 ^ k → get_or part i 0 ≡ get_or old (from + i) 0) → IsTable mid → IsCleared old from k (16 * (from / 16)) 4 mid
    → AreSameBut to (2 ^ k) mid new → ((i : ℕ) → i < 2 ^ k → get_or new (to + i) 0 ≡ get_or part i 0)
    → pieces_of new ≡ pieces_in mid 0 to ++ (moved from to (pieces_in old from (2 ^ k)) ++ behind mid to (2 ^ k))
move_now old mid new part from to k move lifts table_mid gone laid lays =
    in_three_new mid new to (2 ^ k) (move_fits old mid from to k move table_mid gone) laid
    ∙ ap (λ ps. pieces_in mid 0 to ++ (ps ++ behind mid to (2 ^ k))) (moved_cells old new from to (2 ^ k) (λ j lt. lays j lt ∙ lifts j lt))

-- Then what was lifted out is laid there.
pub carried : (old mid new part : List ℕ) (from to k : ℕ) → IsMove old from to k → ((i : ℕ) → i < 2 ^ k → get_or part i 0 ≡ get_or old (from + i) 0) → IsTable mid → IsCleared old from k (16 * (from / 16)) 4 mid
    → AreSameBut to (2 ^ k) mid new → ((i : ℕ) → i < 2 ^ k → get_or new (to + i) 0 ≡ get_or part i 0) → IsTable old → IsCarried old from to k new
carried old mid new part from to k move lifts table_mid gone laid lays is = record {
  units = laid.units ∙ gone.same.units;
  table = table;
  within = move.fits;
  apart = move.apart;
  relocates = record {
    part = pieces_in old from (2 ^ k);
    mid = pieces_of mid;
    cleared = record {
      front = pieces_in old 0 from;
      back = behind old from (2 ^ k);
      was = in_three old from (2 ^ k) move.fits;
      fills = fills.0;
      total = fills.1;
      merges = gone.merges;
    };
    merged = (table_pieces mid table_mid).merged;
    put = record {
      front = pieces_in mid 0 to;
      back = behind mid to (2 ^ k);
      was = move_was old mid from to k move table_mid gone;
      now = move_now old mid new part from to k move lifts table_mid gone laid lays;
    };
  };
  inside = λ v i h from below. inside v i h from below;
  outside = λ v i h out. outside v i h out;
  only = λ v i h. only v i h;
}
  where
    low : k ≤ 4
    low = omega (arith, move.low)

    there : get_or mid to 0 ≡ code true k
    there = move_there old mid from to k move table_mid gone

    at : IsThere mid to k
    at = block_there mid to k true table_mid low there

    fills : Fills from (pieces_in old from (2 ^ k)) × (units_in (pieces_in old from (2 ^ k)) ≡ 2 ^ k)
    fills = tiled_fills k old from low gone.part

    equal : (j : ℕ) → j < 2 ^ k → get_or new (to + j) 0 ≡ get_or old (from + j) 0
    equal j lt = lays j lt ∙ lifts j lt

    first : get_or new to 0 ≡ get_or old from 0
    first = let a : to ≡ to + 0 = omega arith in let b : from + 0 ≡ from = omega arith in ap (λ x. get_or new x 0) a ∙ equal 0 (pow_pos k) ∙ ap (λ x. get_or old x 0) b

    table : IsTable new
    table =
        table_next mid new (to / 16) table_mid (same_wider to (2 ^ k) (16 * (to / 16)) (2 ^ 4) mid new (omega arith) at.fits laid)
        (replaced 4 mid new (16 * (to / 16)) to k true (omega arith) low (frame_start to) (frame_tiled mid to table_mid at.there) (omega arith) (omega arith) there laid
        (tiled_moved k old new from to equal gone.part) (λ e. move.taken (sym first ∙ e)))

    inside : MovesInside (pieces_of old) from to k (pieces_of new)
    inside v i h low high =
        let byte = piece_there old (taken_at v i) is h in
        let e : from + (v - from) ≡ v = omega (arith, low) in
        piece_here new (to + (v - from)) i false byte.0 (equal (v - from) (omega (arith, low, high)) ∙ ap (λ x. get_or old x 0) e ∙ byte.1)

    outside : KeepsOutside (pieces_of old) from k (pieces_of new)
    outside v i h out =
        let byte = piece_there old (taken_at v i) is h in
        let stays : get_or mid v 0 ≡ code false i = elim (gone.kept v) [
          | inl within ↦ elim out [ inl lt ↦ absurd (omega (arith, lt, within.0)) | inr le ↦ absurd (omega (arith, le, within.0)) ]
          | inr (away, kept) ↦ elim kept [ inl same ↦ same ∙ byte.1 | inr merged ↦ absurd (omega (arith, byte.1, merged.0)) ]
        ] in
        piece_here new v i false byte.0 (elim (same_side to (2 ^ k) mid new v laid) [ inl within ↦ absurd (none_taken mid to k at low there v i byte.0 stays within) | inr away ↦ away.1 ∙ stays ])

    only : OnlyMoves (pieces_of old) from to k (pieces_of new)
    only v i h =
        let byte = piece_there new (taken_at v i) table h in
        elim (same_side to (2 ^ k) mid new v laid) [
          | inl within ↦
              let e : to + (v - to) ≡ v = omega (arith, within) in
              let was = sym (equal (v - to) (omega (arith, within))) ∙ ap (λ x. get_or new x 0) e ∙ byte.1 in
              inr (from + (v - to), (omega arith, omega (arith, within), omega (arith, within), piece_here old (from + (v - to)) i false byte.0 was))
          | inr away ↦ elim (gone.kept v) [
            | inl within ↦ absurd (omega (arith, byte.1, away.1, within.1))
            | inr (out, kept) ↦ elim kept [
              | inl same ↦ inl (out, piece_here old v i false byte.0 (sym (away.1 ∙ same) ∙ byte.1))
              | inr merged ↦ absurd (omega (arith, byte.1, away.1, merged.1))
            ]
          ]
        ]
