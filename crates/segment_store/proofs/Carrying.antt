use Rattle.std.proofs.Common.{◌≡◌, ℕ, ◌+◌, ◌-◌, ◌*◌, ◌%◌, ◌^◌, ◌<◌, ◌≤◌, cond, nat_eq, ◌⊎◌, inl, inr, List, [], ◌∷◌, ◌++◌, length, Some, sym, ap, subst, refl, ◌∙◌, arith, true≢false, pow_pos}
use Rattle.std.proofs.lemmas.Bool.{cases_lt}
use Rattle.line_store.specs.Lines.{line_of, with_copied}
use Rattle.unit_map.specs.Pieces.{Piece, ArePieces, AreBlocksApart, Fills, IsPiece, free_at, taken_at, units_in}
use Rattle.unit_map.specs.Changes.{CanMove, KeepsOutside, MovesInside, Relocates}
use Rattle.unit_map.specs.Laws.{by_order, equal_or_apart, in_either, lies, within}
use Rattle.overlay_bits.specs.Lines.{AreLines}
use Rattle.segment_store.specs.Pointers.{ArePointers, capacity_of, slot_of}
use Rattle.segment_store.specs.Store.{Store, line_in, place_in, place_of, segment_at}
use Rattle.segment_store.specs.Places.{LiesIn}
use Rattle.segment_store.specs.Kept.{IsStore}
use Rattle.segment_store.specs.Changes.{WholeSegmentsStay, GoesAlong, KeepsFrames, KeepsScratch, KeepsSegment, MovesSegments, block_of}
use Rattle.segment_store.specs.Laws.{line_lies, some_none, stays}
use Rattle.segment_store.specs.declared.segment.Segment.{Segment}
use Rattle.line_store.specs.LineLaws.{copied_in, copied_out}

-- A move: lines, segments and blocks of one range go to another.

fills_split : (u : ℕ) (xs ys : List Piece) → Fills u (xs ++ ys) → Fills u xs × Fills (u + units_in xs) ys
fills_split u [] ys f = (tt, (let e : u ≡ u + 0 = omega arith in subst (λ n. Fills n ys) e f))
fills_split u (p ∷ xs) ys f =
    let rest = fills_split (u + 2 ^ p.order) xs ys f.1 in
    let e : u + 2 ^ p.order + units_in xs ≡ u + (2 ^ p.order + units_in xs) = omega arith in
    ((f.0, rest.0), subst (λ n. Fills n ys) e rest.1)

same_start : (a b : ℕ) (ps : List Piece) → Fills a ps → Fills b ps → 0 < units_in ps → a ≡ b
same_start a b [] f g h = absurd (omega (arith, h))
same_start a b (p ∷ ps) f g h = sym f.0 ∙ g.0

-- a block that starts inside the range ends there
pub ends_inside : (old new : List Piece) (from to order : ℕ) → ArePieces old → Relocates old from to order new → (v j : ℕ) → IsPiece old (taken_at v j) → from ≤ v → v < from + 2 ^ order → v + 2 ^ j ≤ from + 2 ^ order
ends_inside old new from to order are r v j there low high =
    in_parts r.cleared.front r.part r.cleared.back from (2 ^ order) v j (subst (Fills 0) r.cleared.was are.fills) r.cleared.fills r.cleared.total (pow_pos order) (subst (λ ps. IsPiece ps (taken_at v j)) r.cleared.was there) low high
  where
    in_parts : (front part back : List Piece) (from size v j : ℕ) → Fills 0 (front ++ (part ++ back)) → Fills from part → units_in part ≡ size → 0 < size → IsPiece (front ++ (part ++ back)) (taken_at v j) → from ≤ v → v < from + size
        → v + 2 ^ j ≤ from + size
    in_parts front part back from size v j fills inside total some there low high =
        at (in_either front (part ++ back) (taken_at v j) there)
      where
        both : Fills 0 front × Fills (0 + units_in front) (part ++ back)
        both = fills_split 0 front (part ++ back) fills

        rest : Fills (0 + units_in front) part × Fills (0 + units_in front + units_in part) back
        rest = fills_split (0 + units_in front) part back both.1

        start : 0 + units_in front ≡ from
        start = same_start (0 + units_in front) from part rest.0 inside (omega (arith, total, some))

        in_back : IsPiece part (taken_at v j) ⊎ IsPiece back (taken_at v j) → v + 2 ^ j ≤ from + size
        in_back (inl i) = omega (arith, (lies from part (taken_at v j) inside i).1, total)
        in_back (inr i) = absurd (omega (arith, (lies (0 + units_in front + units_in part) back (taken_at v j) rest.1 i).0, start, total, high))

        at : IsPiece front (taken_at v j) ⊎ IsPiece (part ++ back) (taken_at v j) → v + 2 ^ j ≤ from + size
        at (inl i) = absurd (omega (arith, (lies 0 front (taken_at v j) both.0 i).1, start, low, pow_pos j))
        at (inr i) = in_back (in_either part back (taken_at v j) i)

-- a taken block is apart from a free one
pub free_apart : (blocks : List Piece) → ArePieces blocks → (u k v j : ℕ) → IsPiece blocks (free_at u k) → IsPiece blocks (taken_at v j) → AreBlocksApart u k v j
free_apart blocks are u k v j here there = at (equal_or_apart blocks are (free_at u k) (taken_at v j) here there)
  where
    at : (free_at u k ≡ taken_at v j) ⊎ AreBlocksApart u k v j → AreBlocksApart u k v j
    at (inl e) = absurd (true≢false (ap (λ (p : Piece). p.free) e))
    at (inr a) = a

-- a unit is in a range, or not
in_range : (unit first count : ℕ) → ((i : ℕ) × (i < count) × (unit ≡ first + i)) ⊎ ((unit < first) ⊎ (first + count ≤ unit))
in_range unit first count = at (cases_lt unit first)
  where
    more : first ≤ unit → (unit < first + count) ⊎ (first + count ≤ unit) → ((i : ℕ) × (i < count) × (unit ≡ first + i)) ⊎ ((unit < first) ⊎ (first + count ≤ unit))
    more low (inl h) = inl (unit - first, omega (arith, low, h), omega (arith, low))
    more low (inr h) = inr (inr h)

    at : (unit < first) ⊎ (first ≤ unit) → ((i : ℕ) × (i < count) × (unit ≡ first + i)) ⊎ ((unit < first) ⊎ (first + count ≤ unit))
    at (inl h) = inr (inl h)
    at (inr low) = more low (cases_lt unit (first + count))

-- what a move is, part by part
pub record IsMoved (old new : Store) (from to order : ℕ) : Type 0 where
  pub is : IsStore old
  pub can : CanMove old.blocks from to order
  pub relocates : Relocates old.blocks from to order new.blocks
  pub inside : MovesInside old.blocks from to order new.blocks
  pub outside : KeepsOutside old.blocks from order new.blocks
  pub pieces : ArePieces new.blocks
  pub units : units_in new.blocks ≡ units_in old.blocks
  pub within : from + 2 ^ order ≤ units_in old.blocks
  pub apart : AreBlocksApart from order to order
  pub lines : new.lines ≡ with_copied old.lines (4 * from) (4 * to) (4 * 2 ^ order)
  pub size : length new.lines ≡ length old.lines
  pub segments : MovesSegments from to (2 ^ order) old.segments new.segments

-- the block at `to` lies before scratch
pub target_inside : (store : Store) → IsStore store → (from to order : ℕ) → CanMove store.blocks from to order → to + 2 ^ order ≤ units_in store.blocks
target_inside store is from to order can = within store.blocks is.pieces (free_at to order) can.there

line_moved : (old new : Store) (from to order i : ℕ) → IsMoved old new from to order → i < 4 * 2 ^ order → line_of new.lines (4 * to + i) ≡ line_of old.lines (4 * from + i)
line_moved old new from to order i m h =
    ap (λ l. line_of l (4 * to + i)) m.lines
    ∙ copied_in old.lines (4 * from) (4 * to) (4 * 2 ^ order) i (omega (arith, m.within, m.is.lines)) (omega (arith, target_inside old m.is from to order m.can, m.is.lines)) h

line_stays : (old new : Store) (from to order at : ℕ) → IsMoved old new from to order → (at < 4 * to) ⊎ (4 * to + 4 * 2 ^ order ≤ at) → line_of new.lines at ≡ line_of old.lines at
line_stays old new from to order at m out =
    ap (λ l. line_of l at) m.lines
    ∙ copied_out old.lines (4 * from) (4 * to) (4 * 2 ^ order) at (omega (arith, m.within, m.is.lines)) (omega (arith, target_inside old m.is from to order m.can, m.is.lines)) out

-- the lines of another block stay
lines_stay : (old new : Store) (from to order v j : ℕ) → IsMoved old new from to order → IsPiece old.blocks (taken_at v j) → (at : ℕ) → 4 * v ≤ at → at < 4 * (v + 2 ^ j) → line_of new.lines at ≡ line_of old.lines at
lines_stay old new from to order v j m taken at low high = line_stays old new from to order at m (by_side (free_apart old.blocks m.is.pieces to order v j m.can.there taken))
  where
    by_side : AreBlocksApart to order v j → (at < 4 * to) ⊎ (4 * to + 4 * 2 ^ order ≤ at)
    by_side (inl h) = inr (omega (arith, h, low))
    by_side (inr h) = inl (omega (arith, h, high))

-- a taken block starts outside the range that was free
starts_outside : (old new : Store) (from to order v j : ℕ) → IsMoved old new from to order → IsPiece old.blocks (taken_at v j) → (v < to) ⊎ (to + 2 ^ order ≤ v)
starts_outside old new from to order v j m taken = by_side (free_apart old.blocks m.is.pieces to order v j m.can.there taken)
  where
    by_side : AreBlocksApart to order v j → (v < to) ⊎ (to + 2 ^ order ≤ v)
    by_side (inl h) = inr h
    by_side (inr h) = inl (omega (arith, h, pow_pos j))

pub others_stayed : (old new : Store) (from to order : ℕ) → IsMoved old new from to order → (unit : ℕ) (segment : Segment) → segment_at old unit ≡ Some segment → (unit < from) ⊎ (from + 2 ^ order ≤ unit)
    → KeepsSegment old new (block_of unit segment)
others_stayed old new from to order m unit segment there out =
    let taken = m.is.taken unit segment there in
    stays old new m.is unit segment there (m.segments.outside unit out (starts_outside old new from to order unit segment.order m taken)) (lines_stay old new from to order unit segment.order m taken)

pub went_along : (old new : Store) (from to order : ℕ) → IsMoved old new from to order → (unit : ℕ) (segment : Segment) → segment_at old unit ≡ Some segment → from ≤ unit → unit < from + 2 ^ order
    → GoesAlong old new unit (to + (unit - from)) segment
went_along old new from to order m unit segment there low high = record {
  there = m.segments.inside i less ∙ ap (segment_at old) same ∙ there;
  places = λ line has. places line;
  lines = λ line has. lines line (line_lies old m.is unit segment line there has);
}
  where
    i : ℕ
    i = unit - from

    less : i < 2 ^ order
    less = omega (arith, low, high)

    same : from + i ≡ unit
    same = omega (arith, low)

    -- the lines of the pointers
    first : line_of new.lines (4 * (to + i)) ≡ line_of old.lines (4 * unit)
    first =
        let a : 4 * (to + i) ≡ 4 * to + 4 * i = omega arith in
        let b : 4 * from + 4 * i ≡ 4 * unit = omega (arith, low) in
        ap (line_of new.lines) a ∙ line_moved old new from to order (4 * i) m (omega (arith, less)) ∙ ap (line_of old.lines) b

    places : (line : ℕ) → place_of new (block_of (to + i) segment) line + 4 * unit ≡ place_of old (block_of unit segment) line + 4 * (to + i)
    places line =
        let e : cond (nat_eq segment.order 4) line (slot_of (line_of new.lines (4 * (to + i))) line) ≡ cond (nat_eq segment.order 4) line (slot_of (line_of old.lines (4 * unit)) line) = ap (λ p. cond (nat_eq segment.order 4) line (slot_of p line)) first in
        omega (arith, e)

    ends : unit + 2 ^ segment.order ≤ from + 2 ^ order
    ends = ends_inside old.blocks new.blocks from to order m.is.pieces m.relocates unit segment.order (m.is.taken unit segment there) low high

    lines : (line : ℕ) → LiesIn old.lines unit segment.order line → line_in new (block_of (to + i) segment) line ≡ line_in old (block_of unit segment) line
    lines line lies =
        let p = place_in old.lines unit segment.order line in
        let q = place_in new.lines (to + i) segment.order line in
        let a : q ≡ 4 * to + (p - 4 * from) = omega (arith, places line, lies.from, low) in
        let b : 4 * from + (p - 4 * from) ≡ p = omega (arith, lies.from, low) in
        ap (line_of new.lines) a ∙ line_moved old new from to order (p - 4 * from) m (omega (arith, lies.from, lies.to, ends, low)) ∙ ap (line_of old.lines) b

small_order : (k : ℕ) → k < 4 → 2 ^ k < 16
small_order k h = by_order (λ k. k < 4 → 2 ^ k < 16) (λ h. omega arith) (λ h. omega arith) (λ h. omega arith) (λ h. omega arith) (λ h. absurd (omega (arith, h))) k (omega (arith, h)) h

-- a block of 16 units starts outside a range that moves
whole_outside : (old new : Store) (from to order : ℕ) → IsMoved old new from to order → (v : ℕ) → IsPiece old.blocks (taken_at v 4) → (v < from) ⊎ (from + 2 ^ order ≤ v)
whole_outside old new from to order m v taken = by_start (cases_lt v from)
  where
    up : from ≤ v → (v < from + 2 ^ order) ⊎ (from + 2 ^ order ≤ v) → (v < from) ⊎ (from + 2 ^ order ≤ v)
    up low (inl high) = absurd (omega (arith, ends_inside old.blocks new.blocks from to order m.is.pieces m.relocates v 4 taken low high, small_order order m.can.low, low))
    up low (inr h) = inr h

    by_start : (v < from) ⊎ (from ≤ v) → (v < from) ⊎ (from + 2 ^ order ≤ v)
    by_start (inl h) = inl h
    by_start (inr low) = up low (cases_lt v (from + 2 ^ order))

pub wholes_stayed : (old new : Store) (from to order : ℕ) → IsMoved old new from to order → WholeSegmentsStay old new
wholes_stayed old new from to order m unit segment whole there =
    others_stayed old new from to order m unit segment there
    (whole_outside old new from to order m unit (subst (λ k. IsPiece old.blocks (taken_at unit k)) whole (m.is.taken unit segment there)))

pub frames_stayed : (old new : Store) (from to order : ℕ) → IsMoved old new from to order → KeepsFrames old new
frames_stayed old new from to order m frame f = record {
  stays = record {
    taken = m.outside (16 * frame) 4 f.taken (whole_outside old new from to order m (16 * frame) f.taken);
    alone = m.segments.outside (16 * frame) (whole_outside old new from to order m (16 * frame) f.taken) (starts_outside old new from to order (16 * frame) 4 m f.taken) ∙ f.alone;
  };
  lines = λ line h. lines_stay old new from to order (16 * frame) 4 m f.taken (64 * frame + line) (omega arith) (omega (arith, h));
}

pub scratch_stayed : (old new : Store) (from to order : ℕ) → IsMoved old new from to order → KeepsScratch old new
scratch_stayed old new from to order m line h =
    ap (λ n. line_of new.lines (4 * n + line)) m.units
    ∙ line_stays old new from to order (4 * units_in old.blocks + line) m (inr (omega (arith, target_inside old m.is from to order m.can)))

-- where the segments of the new store were
data WasAt (old : Store) (from to count : ℕ) (segment : Segment) : ℕ → Type 0 where
  Inside : (i : ℕ) → i < count → segment_at old (from + i) ≡ Some segment → WasAt old from to count segment (to + i)
  Outside : (unit : ℕ) → (unit < from) ⊎ (from + count ≤ unit) → (unit < to) ⊎ (to + count ≤ unit) → segment_at old unit ≡ Some segment → WasAt old from to count segment unit

was_at : (old new : Store) (from to order : ℕ) → IsMoved old new from to order → (unit : ℕ) (segment : Segment) → segment_at new unit ≡ Some segment → WasAt old from to (2 ^ order) segment unit
was_at old new from to order m unit segment there = by_target (in_range unit to (2 ^ order)) (in_range unit from (2 ^ order))
  where
    by_target : ((i : ℕ) × (i < 2 ^ order) × (unit ≡ to + i)) ⊎ ((unit < to) ⊎ (to + 2 ^ order ≤ unit)) → ((i : ℕ) × (i < 2 ^ order) × (unit ≡ from + i)) ⊎ ((unit < from) ⊎ (from + 2 ^ order ≤ unit))
        → WasAt old from to (2 ^ order) segment unit
    by_target (inl t) other =
        subst (WasAt old from to (2 ^ order) segment) (sym t.2) (Inside t.0 t.1 (sym (m.segments.inside t.0 t.1) ∙ sym (ap (segment_at new) t.2) ∙ there))
    by_target (inr out) (inl f) = absurd (some_none segment (sym there ∙ ap (segment_at new) f.2 ∙ m.segments.left f.0 f.1))
    by_target (inr out) (inr off) = Outside unit off out (sym (m.segments.outside unit off out) ∙ there)

-- what holds of each segment
record IsRight (new : Store) (unit : ℕ) (segment : Segment) : Type 0 where
  pub taken : IsPiece new.blocks (taken_at unit segment.order)
  pub pointers : segment.order < 4 → ArePointers (capacity_of segment.order) segment.bits (line_of new.lines (4 * unit))

each_right : (old new : Store) (from to order : ℕ) → IsMoved old new from to order → (unit : ℕ) (segment : Segment) → WasAt old from to (2 ^ order) segment unit → IsRight new unit segment
each_right old new from to order m _ segment (Inside i less was) =
    let e : to + (from + i - from) ≡ to + i = omega arith in
    let a : 4 * (to + i) ≡ 4 * to + 4 * i = omega arith in
    let b : 4 * from + 4 * i ≡ 4 * (from + i) = omega arith in
    record {
      taken = subst (λ u. IsPiece new.blocks (taken_at u segment.order)) e (m.inside (from + i) segment.order (m.is.taken (from + i) segment was) (omega arith) (omega (arith, less)));
      pointers = λ h. subst (ArePointers (capacity_of segment.order) segment.bits)
          (sym (ap (line_of new.lines) a ∙ line_moved old new from to order (4 * i) m (omega (arith, less)) ∙ ap (line_of old.lines) b))
          (m.is.pointers (from + i) segment was h);
    }
each_right old new from to order m _ segment (Outside unit off out was) =
    let taken = m.is.taken unit segment was in
    record {
      taken = m.outside unit segment.order taken off;
      pointers = λ h. subst (ArePointers (capacity_of segment.order) segment.bits)
          (sym (lines_stay old new from to order unit segment.order m taken (4 * unit) (omega arith) (omega (arith, pow_pos segment.order))))
          (m.is.pointers unit segment was h);
    }

each_set : (old : Store) (from to count : ℕ) → IsStore old → (unit : ℕ) (segment : Segment) → WasAt old from to count segment unit → AreLines segment.bits
each_set old from to count is _ segment (Inside i less was) = is.sets (from + i) segment was
each_set old from to count is _ segment (Outside unit off out was) = is.sets unit segment was

pub moved_store : (old new : Store) (from to order : ℕ) → IsMoved old new from to order → IsStore new
moved_store old new from to order m = record {
  pieces = m.pieces;
  lines = omega (arith, m.size, m.is.lines, m.units);
  units = omega (arith, m.segments.size, m.is.units, m.units);
  taken = λ unit segment there. (each_right old new from to order m unit segment (was_at old new from to order m unit segment there)).taken;
  sets = λ unit segment there. each_set old from to (2 ^ order) m.is unit segment (was_at old new from to order m unit segment there);
  pointers = λ unit segment there. (each_right old new from to order m unit segment (was_at old new from to order m unit segment there)).pointers;
}

pub four_fits : (order : ℕ) → order < 4 → 4 * 2 ^ order % 4294967296 ≡ 4 * 2 ^ order
four_fits order h = by_order (λ k. k < 4 → 4 * 2 ^ k % 4294967296 ≡ 4 * 2 ^ k) (λ h. refl) (λ h. refl) (λ h. refl) (λ h. refl) (λ h. refl) order (omega (arith, h)) h

pub one_fits : (order : ℕ) → order < 4 → 1 * 2 ^ order % 4294967296 ≡ 2 ^ order
one_fits order h = by_order (λ k. k < 4 → 1 * 2 ^ k % 4294967296 ≡ 2 ^ k) (λ h. refl) (λ h. refl) (λ h. refl) (λ h. refl) (λ h. refl) order (omega (arith, h)) h
