use Rattle.std.proofs.Common.{◌≡◌, ℕ, ◌+◌, ◌*◌, ◌^◌, ◌<◌, ◌≤◌, true, false, cond, nat_eq, ◌⊎◌, inl, inr, List, [], length, Option, Some, None, sym, ap, subst, refl, ◌∙◌, arith, true≢false, pow_pos, get_or, option_map}
use Rattle.std.specs.Option.{option_map_or}
use Rattle.std.proofs.lemmas.Bool.{cases_eq, cases_lt}
use Rattle.std.proofs.lemmas.Bool.Decides.{nat_tests}
use Rattle.std.proofs.lemmas.List.{get_or-set_same, get_or-set_other, length-set}
use Rattle.line_store.specs.Lines.{line_of}
use Rattle.unit_map.specs.Pieces.{Piece, ArePieces, AreBlocksApart, IsApartFromTaken, IsPiece, taken_at, units_in}
use Rattle.unit_map.specs.Laws.{by_order, equal_or_apart, within}
use Rattle.unit_map.specs.declared.block.Block.{Block}
use Rattle.overlay_bits.specs.Lines.{AreLines, has_line}
use Rattle.segment_store.specs.Pointers.{ArePointers, capacity_of, slot_of}
use Rattle.segment_store.specs.Store.{HoldsLine, IsFrame, IsSegment, Store, frame_line, frame_place, line_in, lines_at, place_in, place_of, segment_at, with_line_at, with_lines_at}
use Rattle.segment_store.specs.Kept.{IsStore}
use Rattle.segment_store.specs.Places.{HasBlock, LiesIn}
use Rattle.segment_store.specs.Changes.{HasLinesNow, KeepsFrame, KeepsFrames, KeepsLinesOutside, KeepsOtherSegments, KeepsScratch, KeepsSegment, KeepsSegments, block_of}
use Rattle.segment_store.specs.declared.segment.Segment.{Segment}

-- Laws for the crates above, and for this one: where lines stand, and what stays while something else changes.

-- where there is something, there is not nothing
pub some_none : {X : Type 0} (x : X) → Some x ≡ None → ⊥
some_none x e = true≢false (ap (λ o. option_map_or (λ _. true) o false) e)

-- the lines of a segment that is there
pub lines_there : (store : Store) (unit : ℕ) (segment : Segment) → segment_at store unit ≡ Some segment → lines_at store unit ≡ segment.bits
lines_there store unit segment there = ap (λ o. option_map_or (λ (s : Segment). s.bits) o []) there

-- a segment's order, and that it lies before scratch
pub order_of : (store : Store) → IsStore store → (unit : ℕ) (segment : Segment) → segment_at store unit ≡ Some segment → segment.order ≤ 4
order_of store is unit segment there = (is.pieces.aligned _ (is.taken unit segment there)).order

pub inside_of : (store : Store) → IsStore store → (unit : ℕ) (segment : Segment) → segment_at store unit ≡ Some segment → unit + 2 ^ segment.order ≤ units_in store.blocks
inside_of store is unit segment there = within store.blocks is.pieces _ (is.taken unit segment there)

-- two taken blocks that start at different units are apart
pub taken_apart : (blocks : List Piece) → ArePieces blocks → (u k v j : ℕ) → IsPiece blocks (taken_at u k) → IsPiece blocks (taken_at v j) → (v ≡ u → ⊥) → AreBlocksApart u k v j
taken_apart blocks are u k v j here there n = at (equal_or_apart blocks are (taken_at u k) (taken_at v j) here there)
  where
    at : (taken_at u k ≡ taken_at v j) ⊎ AreBlocksApart u k v j → AreBlocksApart u k v j
    at (inl e) = absurd (n (sym (ap (λ (p : Piece). p.unit) e)))
    at (inr a) = a

-- the places of a segment's lines lie in its block
pub capacity_below : (order : ℕ) → order < 4 → capacity_of order + 1 ≡ 4 * 2 ^ order
capacity_below order h = by_order (λ k. k < 4 → capacity_of k + 1 ≡ 4 * 2 ^ k) (λ h. refl) (λ h. refl) (λ h. refl) (λ h. refl) (λ h. absurd (omega (arith, h))) order (omega (arith, h)) h

pub place_four : (lines : List (List ℕ)) (unit order line : ℕ) → order ≡ 4 → place_in lines unit order line ≡ 4 * unit + line
place_four lines unit order line e = ap (λ k. 4 * unit + cond (nat_eq k 4) line (slot_of (line_of lines (4 * unit)) line)) e

pub place_below : (lines : List (List ℕ)) (unit order line : ℕ) → order < 4 → place_in lines unit order line ≡ 4 * unit + slot_of (line_of lines (4 * unit)) line
place_below lines unit order line h =
    let off : nat_eq order 4 ≡ false = grind (arith, nat_tests) in
    ap (λ b. 4 * unit + cond b line (slot_of (line_of lines (4 * unit)) line)) off

pub lies_in : (lines : List (List ℕ)) (unit order : ℕ) (bits : List ℕ) (line : ℕ) → order ≤ 4 → AreLines bits → (order < 4 → ArePointers (capacity_of order) bits (line_of lines (4 * unit)))
    → has_line bits line ≡ true → LiesIn lines unit order line
lies_in lines unit order bits line low are pointers has = at (cases_lt order 4)
  where
    at : (order < 4) ⊎ (4 ≤ order) → LiesIn lines unit order line
    at (inl h) =
        let p = place_below lines unit order line h in
        let s = (pointers h).present line has in
        let c = capacity_below order h in
        record {
          from = omega (arith, p);
          to = omega (arith, p, s.1, c);
          behind = λ _. omega (arith, p, s.0);
        }
    at (inr h) =
        let four : order ≡ 4 = omega (arith, h, low) in
        let p = place_four lines unit order line four in
        let size : 2 ^ order ≡ 16 = ap (λ k. 2 ^ k) four in
        record {
          from = omega (arith, p);
          to = omega (arith, p, size, are.inside line has);
          behind = λ less. absurd (omega (arith, less, h));
        }

pub line_lies : (store : Store) → IsStore store → (unit : ℕ) (segment : Segment) (line : ℕ) → segment_at store unit ≡ Some segment → has_line segment.bits line ≡ true
    → LiesIn store.lines unit segment.order line
line_lies store is unit segment line there has =
    lies_in store.lines unit segment.order segment.bits line (order_of store is unit segment there) (is.sets unit segment there) (is.pointers unit segment there) has

-- a segment stays where the lines of its block do
pub stays : (old new : Store) → IsStore old → (unit : ℕ) (segment : Segment) → segment_at old unit ≡ Some segment → segment_at new unit ≡ segment_at old unit
    → ((at : ℕ) → 4 * unit ≤ at → at < 4 * (unit + 2 ^ segment.order) → line_of new.lines at ≡ line_of old.lines at)
    → KeepsSegment old new (block_of unit segment)
stays old new is unit segment there kept same = record {
  there = kept;
  places = λ line has. places line;
  lines = λ line has. ap (line_of new.lines) (places line) ∙ (let l = lies line has in same (place_in old.lines unit segment.order line) l.from l.to);
}
  where
    first : line_of new.lines (4 * unit) ≡ line_of old.lines (4 * unit)
    first = same (4 * unit) (omega arith) (omega (arith, pow_pos segment.order))

    places : (line : ℕ) → place_in new.lines unit segment.order line ≡ place_in old.lines unit segment.order line
    places line = ap (λ pointers. 4 * unit + cond (nat_eq segment.order 4) line (slot_of pointers line)) first

    lies : (line : ℕ) → has_line (lines_at old unit) line ≡ true → LiesIn old.lines unit segment.order line
    lies line has = line_lies old is unit segment line there (subst (λ bits. has_line bits line ≡ true) (lines_there old unit segment there) has)

-- A change: lines in a range that no taken block meets, but for one that starts at a unit; the segment at that unit; and its block.

abbrev pub IsRangeOf : List Piece → ℕ → ℕ → ℕ → Type 0
IsRangeOf blocks but from count = (v j : ℕ) → IsPiece blocks (taken_at v j) → (v ≡ but → ⊥) → (4 * (v + 2 ^ j) ≤ from) ⊎ (from + count ≤ 4 * v)

pub record Alters (old new : Store) (but from count : ℕ) : Type 0 where
  pub is : IsStore old
  pub range : IsRangeOf old.blocks but from count
  pub lines : KeepsLinesOutside from count old.lines new.lines
  pub same : (v : ℕ) → (v ≡ but → ⊥) → segment_at new v ≡ segment_at old v
  pub taken : (v j : ℕ) → IsPiece old.blocks (taken_at v j) → (v ≡ but → ⊥) → IsPiece new.blocks (taken_at v j)
  pub pieces : ArePieces new.blocks
  pub units : units_in new.blocks ≡ units_in old.blocks
  pub size : length new.segments ≡ length old.segments

-- a line before or behind the range
out_of : (from count low high at : ℕ) → (high ≤ from) ⊎ (from + count ≤ low) → low ≤ at → at < high → (at < from) ⊎ (from + count ≤ at)
out_of from count low high at (inl h) a b = inl (omega (arith, h, b))
out_of from count low high at (inr h) a b = inr (omega (arith, h, a))

pub others_stay : (old new : Store) (but from count : ℕ) → Alters old new but from count → KeepsOtherSegments old but new
others_stay old new but from count c unit segment n there =
    stays old new c.is unit segment there (c.same unit n)
    (λ at a b. c.lines.outside at (out_of from count (4 * unit) (4 * (unit + 2 ^ segment.order)) at (c.range unit segment.order (c.is.taken unit segment there) n) a b))

-- where no segment starts at the unit, all stay
pub segments_stay : (old new : Store) (but from count : ℕ) → Alters old new but from count → segment_at old but ≡ None → KeepsSegments old new
segments_stay old new but from count c none unit segment there =
    others_stay old new but from count c unit segment (λ e. some_none segment (sym there ∙ ap (segment_at old) e ∙ none)) there

pub frame_stays : (old new : Store) (but from count : ℕ) → Alters old new but from count → (frame : ℕ) → IsFrame old frame → (16 * frame ≡ but → ⊥) → KeepsFrame old new frame
frame_stays old new but from count c frame f n = record {
  stays = record { taken = c.taken (16 * frame) 4 f.taken n; alone = c.same (16 * frame) n ∙ f.alone };
  lines = λ line h. c.lines.outside (64 * frame + line)
      (out_of from count (4 * (16 * frame)) (4 * (16 * frame + 2 ^ 4)) (64 * frame + line) (c.range (16 * frame) 4 f.taken n) (omega arith) (omega (arith, h)));
}

-- where a segment starts at the unit, no frame does
pub frames_stay : (old new : Store) (but from count : ℕ) → Alters old new but from count → (segment : Segment) → segment_at old but ≡ Some segment → KeepsFrames old new
frames_stay old new but from count c segment there frame f =
    frame_stays old new but from count c frame f (λ e. some_none segment (sym there ∙ sym (ap (segment_at old) e) ∙ f.alone))

pub scratch_stays : (old new : Store) (but from count : ℕ) → Alters old new but from count → from + count ≤ 4 * units_in old.blocks → KeepsScratch old new
scratch_stays old new but from count c before line h =
    ap (λ n. line_of new.lines (4 * n + line)) c.units ∙ c.lines.outside (4 * units_in old.blocks + line) (inr (omega (arith, before)))

-- what has to hold of the segment at a unit
pub record IsGood (store : Store) (unit : ℕ) (segment : Segment) : Type 0 where
  pub taken : IsPiece store.blocks (taken_at unit segment.order)
  pub set : AreLines segment.bits
  pub pointers : segment.order < 4 → ArePointers (capacity_of segment.order) segment.bits (line_of store.lines (4 * unit))

pub next_store : (old new : Store) (but from count : ℕ) → Alters old new but from count → ((segment : Segment) → segment_at new but ≡ Some segment → IsGood new but segment) → IsStore new
next_store old new but from count c good = record {
  pieces = c.pieces;
  lines = omega (arith, c.lines.size, c.is.lines, c.units);
  units = omega (arith, c.size, c.is.units, c.units);
  taken = λ unit segment there. (each unit segment there (cases_eq unit but)).taken;
  sets = λ unit segment there. (each unit segment there (cases_eq unit but)).set;
  pointers = λ unit segment there. (each unit segment there (cases_eq unit but)).pointers;
}
  where
    each : (unit : ℕ) (segment : Segment) → segment_at new unit ≡ Some segment → (unit ≡ but) ⊎ (unit ≡ but → ⊥) → IsGood new unit segment
    each unit segment there (inl e) =
        subst (λ u. IsGood new u segment) (sym e) (good segment (sym (ap (segment_at new) e) ∙ there))
    each unit segment there (inr n) =
        let was = sym (c.same unit n) ∙ there in
        let block = c.is.taken unit segment was in
        record {
          taken = c.taken unit segment.order block n;
          set = c.is.sets unit segment was;
          pointers = λ h. subst (ArePointers (capacity_of segment.order) segment.bits)
              (sym (c.lines.outside (4 * unit) (out_of from count (4 * unit) (4 * (unit + 2 ^ segment.order)) (4 * unit) (c.range unit segment.order block n) (omega arith) (omega (arith, pow_pos segment.order)))))
              (c.is.pointers unit segment was h);
        }

-- the block of a segment lies in the region
pub block_in : (store : Store) → IsStore store → (block : Block) → IsSegment store block → HasBlock store.lines block
block_in store is block there =
    let low = order_of store is block.unit there.segment there.there in
    let inside = inside_of store is block.unit there.segment there.there in
    record {
      order = omega (arith, low, there.order);
      inside = omega (arith, inside, is.lines, ap (λ k. 2 ^ k) there.order);
      few = omega (arith, is.lines, is.pieces.few);
    }

-- a line of a segment
pub has_in : (store : Store) (block : Block) (there : IsSegment store block) (line : ℕ) → has_line (lines_at store block.unit) line ≡ true → has_line there.segment.bits line ≡ true
has_in store block there line has = subst (λ bits. has_line bits line ≡ true) (lines_there store block.unit there.segment there.there) has

pub line_below : (store : Store) → IsStore store → (block : Block) → IsSegment store block → (line : ℕ) → has_line (lines_at store block.unit) line ≡ true → line < 64
line_below store is block there line has = (is.sets block.unit there.segment there.there).inside line (has_in store block there line has)

pub lies_at : (store : Store) → IsStore store → (block : Block) → IsSegment store block → (line : ℕ) → has_line (lines_at store block.unit) line ≡ true → LiesIn store.lines block.unit block.order line
lies_at store is block there line has =
    subst (λ k. LiesIn store.lines block.unit k line) there.order (line_lies store is block.unit there.segment line there.there (has_in store block there line has))

pub place_inside : (store : Store) → IsStore store → (block : Block) → IsSegment store block → (line : ℕ) → has_line (lines_at store block.unit) line ≡ true → place_of store block line < length store.lines
place_inside store is block there line has = omega (arith, (lies_at store is block there line has).to, (block_in store is block there).inside)

-- the range of a segment's block, and that of a taken frame's
pub segment_range : (store : Store) → IsStore store → (block : Block) → IsSegment store block → IsRangeOf store.blocks block.unit (4 * block.unit) (4 * 2 ^ block.order)
segment_range store is block there v j taken n =
    let size : 2 ^ there.segment.order ≡ 2 ^ block.order = ap (λ k. 2 ^ k) there.order in
    at size (taken_apart store.blocks is.pieces block.unit there.segment.order v j (is.taken block.unit there.segment there.there) taken n)
  where
    at : 2 ^ there.segment.order ≡ 2 ^ block.order → AreBlocksApart block.unit there.segment.order v j → (4 * (v + 2 ^ j) ≤ 4 * block.unit) ⊎ (4 * block.unit + 4 * 2 ^ block.order ≤ 4 * v)
    at size (inl h) = inr (omega (arith, h, size))
    at size (inr h) = inl (omega (arith, h))

-- the same of a frame that is taken
pub frame_inside : (store : Store) → IsStore store → (frame : ℕ) → IsFrame store frame → 16 * frame + 16 ≤ units_in store.blocks
frame_inside store is frame f = within store.blocks is.pieces _ f.taken

pub frame_range : (store : Store) → IsStore store → (frame : ℕ) → IsFrame store frame → IsRangeOf store.blocks (16 * frame) (64 * frame) 64
frame_range store is frame f v j taken n = at (taken_apart store.blocks is.pieces (16 * frame) 4 v j f.taken taken n)
  where
    at : AreBlocksApart (16 * frame) 4 v j → (4 * (v + 2 ^ j) ≤ 64 * frame) ⊎ (64 * frame + 64 ≤ 4 * v)
    at (inl h) = inr (omega (arith, h))
    at (inr h) = inl (omega (arith, h))

-- a block that overlaps no taken one: no segment and no frame starts there
pub free_range : (store : Store) (unit order : ℕ) → IsApartFromTaken store.blocks unit order → IsRangeOf store.blocks unit (4 * unit) (4 * 2 ^ order)
free_range store unit order apart v j taken n = at (apart v j taken)
  where
    at : AreBlocksApart unit order v j → (4 * (v + 2 ^ j) ≤ 4 * unit) ⊎ (4 * unit + 4 * 2 ^ order ≤ 4 * v)
    at (inl h) = inr (omega (arith, h))
    at (inr h) = inl (omega (arith, h))

pub not_taken : (store : Store) (unit order j : ℕ) → IsApartFromTaken store.blocks unit order → IsPiece store.blocks (taken_at unit j) → ⊥
not_taken store unit order j apart taken = at (apart unit j taken)
  where
    at : AreBlocksApart unit order unit j → ⊥
    at (inl h) = omega (arith, h, pow_pos order)
    at (inr h) = omega (arith, h, pow_pos j)

pub fresh_unit : (store : Store) → IsStore store → (unit order : ℕ) → IsApartFromTaken store.blocks unit order → segment_at store unit ≡ None
fresh_unit store is unit order apart = at (segment_at store unit) refl
  where
    at : (found : Option Segment) → segment_at store unit ≡ found → found ≡ None
    at None e = refl
    at (Some segment) e = absurd (not_taken store unit order segment.order apart (is.taken unit segment e))

pub fresh_frame : (store : Store) (unit order : ℕ) → IsApartFromTaken store.blocks unit order → (frame : ℕ) → IsFrame store frame → 16 * frame ≡ unit → ⊥
fresh_frame store unit order apart frame f e = not_taken store unit order 4 apart (subst (λ u. IsPiece store.blocks (taken_at u 4)) e f.taken)

-- One line is another one: a line of a segment, or of a frame that is taken.

line_set : (store : Store) (from count at : ℕ) (bytes : List ℕ) → from ≤ at → at < from + count → KeepsLinesOutside from count store.lines (with_line_at store at bytes).lines
line_set store from count at bytes low high = record {
  size = length-set store.lines at bytes;
  outside = λ x out. get_or-set_other store.lines at x bytes [] (λ e. off x e out);
}
  where
    off : (x : ℕ) → x ≡ at → (x < from) ⊎ (from + count ≤ x) → ⊥
    off x e (inl h) = omega (arith, e, h, low)
    off x e (inr h) = omega (arith, e, h, high)

pub line_alters : (store : Store) → IsStore store → (block : Block) → IsSegment store block → (line : ℕ) → has_line (lines_at store block.unit) line ≡ true → (bytes : List ℕ)
    → Alters store (with_line_at store (place_of store block line) bytes) block.unit (4 * block.unit) (4 * 2 ^ block.order)
line_alters store is block there line has bytes =
    let lies = lies_at store is block there line has in
    record {
      is = is;
      range = segment_range store is block there;
      lines = line_set store (4 * block.unit) (4 * 2 ^ block.order) (place_of store block line) bytes lies.from (omega (arith, lies.to));
      same = λ v n. refl;
      taken = λ v j taken n. taken;
      pieces = is.pieces;
      units = refl;
      size = refl;
    }

pub same_order : (store : Store) (block : Block) → IsSegment store block → (segment : Segment) → segment_at store block.unit ≡ Some segment → segment.order ≡ block.order
same_order store block there segment here = ap (λ o. option_map_or (λ (s : Segment). s.order) o 0) (sym here ∙ there.there) ∙ there.order

pub line_set_store : (store : Store) → IsStore store → (block : Block) → IsSegment store block → (line : ℕ) → has_line (lines_at store block.unit) line ≡ true → (bytes : List ℕ)
    → IsStore (with_line_at store (place_of store block line) bytes)
line_set_store store is block there line has bytes =
    next_store store (with_line_at store at bytes) block.unit (4 * block.unit) (4 * 2 ^ block.order) (line_alters store is block there line has bytes)
    (λ segment here. record {
      taken = is.taken block.unit segment here;
      set = is.sets block.unit segment here;
      pointers = λ h. subst (ArePointers (capacity_of segment.order) segment.bits) (sym (get_or-set_other store.lines at (4 * block.unit) bytes [] (λ e. first segment here h e))) (is.pointers block.unit segment here h);
    })
  where
    at : ℕ
    at = place_of store block line

    first : (segment : Segment) → segment_at store block.unit ≡ Some segment → segment.order < 4 → 4 * block.unit ≡ at → ⊥
    first segment here h e = omega (arith, (lies_at store is block there line has).behind (omega (arith, same_order store block there segment here, h)), e)

pub frame_alters : (store : Store) → IsStore store → (frame : ℕ) → IsFrame store frame → (line : ℕ) → line < 64 → (bytes : List ℕ)
    → Alters store (with_line_at store (frame_place frame line) bytes) (16 * frame) (64 * frame) 64
frame_alters store is frame f line h bytes = record {
  is = is;
  range = frame_range store is frame f;
  lines = line_set store (64 * frame) 64 (64 * frame + line) bytes (omega arith) (omega (arith, h));
  same = λ v n. refl;
  taken = λ v j taken n. taken;
  pieces = is.pieces;
  units = refl;
  size = refl;
}

pub frame_set_store : (store : Store) → IsStore store → (frame : ℕ) → IsFrame store frame → (line : ℕ) → line < 64 → (bytes : List ℕ) → IsStore (with_line_at store (frame_place frame line) bytes)
frame_set_store store is frame f line h bytes =
    next_store store (with_line_at store (64 * frame + line) bytes) (16 * frame) (64 * frame) 64 (frame_alters store is frame f line h bytes)
    (λ segment here. absurd (some_none segment (sym here ∙ f.alone)))

-- the pointers of a segment, by the set that the store tells
pub set_there : (store : Store) → IsStore store → (block : Block) → IsSegment store block → AreLines (lines_at store block.unit)
set_there store is block there = subst AreLines (sym (lines_there store block.unit there.segment there.there)) (is.sets block.unit there.segment there.there)

pub pointers_there : (store : Store) → IsStore store → (block : Block) → IsSegment store block → block.order < 4
    → ArePointers (capacity_of block.order) (lines_at store block.unit) (line_of store.lines (4 * block.unit))
pointers_there store is block there h =
    subst (λ b. ArePointers (capacity_of block.order) b (line_of store.lines (4 * block.unit))) (sym (lines_there store block.unit there.segment there.there))
    (subst (λ k. ArePointers (capacity_of k) there.segment.bits (line_of store.lines (4 * block.unit))) there.order (is.pointers block.unit there.segment there.there (omega (arith, h, there.order))))

-- where a line stands depends on the pointers alone, and in a segment of order 4 on nothing
pub place_same : (one two : List (List ℕ)) (unit order line : ℕ) → order ≤ 4 → (order < 4 → slot_of (line_of one (4 * unit)) line ≡ slot_of (line_of two (4 * unit)) line) → place_in one unit order line ≡ place_in two unit order line
place_same one two unit order line low same = at (cases_lt order 4)
  where
    at : (order < 4) ⊎ (4 ≤ order) → place_in one unit order line ≡ place_in two unit order line
    at (inl h) = place_below one unit order line h ∙ ap (λ n. 4 * unit + n) (same h) ∙ sym (place_below two unit order line h)
    at (inr h) = let four : order ≡ 4 = omega (arith, h, low) in place_four one unit order line four ∙ sym (place_four two unit order line four)

-- two lines of a segment stand in two places
pub places_differ : (lines : List (List ℕ)) (block : Block) (bits : List ℕ) (one two : ℕ) → block.order ≤ 4 → (block.order < 4 → ArePointers (capacity_of block.order) bits (line_of lines (4 * block.unit)))
    → has_line bits one ≡ true → has_line bits two ≡ true → place_in lines block.unit block.order one ≡ place_in lines block.unit block.order two → one ≡ two
places_differ lines block bits one two low pointers here there e = at (cases_lt block.order 4)
  where
    at : (block.order < 4) ⊎ (4 ≤ block.order) → one ≡ two
    at (inl h) = (pointers h).differ one two here there (omega (arith, place_below lines block.unit block.order one h, place_below lines block.unit block.order two h, e))
    at (inr h) =
        let four : block.order ≡ 4 = omega (arith, h, low) in
        omega (arith, place_four lines block.unit block.order one four, place_four lines block.unit block.order two four, e)

-- What a borrower left, and what stays beside it.

-- the pointers of the segment stay
set_first : (store : Store) → IsStore store → (block : Block) → IsSegment store block → (line : ℕ) → has_line (lines_at store block.unit) line ≡ true → (bytes : List ℕ) → block.order < 4
    → line_of (with_line_at store (place_of store block line) bytes).lines (4 * block.unit) ≡ line_of store.lines (4 * block.unit)
set_first store is block there line has bytes h =
    get_or-set_other store.lines (place_of store block line) (4 * block.unit) bytes [] (λ e. absurd (omega (arith, (lies_at store is block there line has).behind h, e)))

-- so each line of it keeps its place
pub set_place : (store : Store) → IsStore store → (block : Block) → IsSegment store block → (line : ℕ) → has_line (lines_at store block.unit) line ≡ true → (bytes : List ℕ) → (other : ℕ)
    → place_of (with_line_at store (place_of store block line) bytes) block other ≡ place_of store block other
set_place store is block there line has bytes other =
    place_same (with_line_at store (place_of store block line) bytes).lines store.lines block.unit block.order other (block_in store is block there).order
    (λ h. ap (λ p. slot_of p other) (set_first store is block there line has bytes h))

-- and a line that is written where one stands moves none of any segment
pub places_set : (store : Store) → IsStore store → (at : ℕ) → HoldsLine store at → (bytes : List ℕ) → (block : Block) → IsSegment store block → (line : ℕ) → has_line (lines_at store block.unit) line ≡ true
    → place_of (with_line_at store at bytes) block line ≡ place_of store block line
places_set store is at (inl s) bytes block there line has =
    subst (λ n. place_of (with_line_at store n bytes) block line ≡ place_of store block line) s.at_is (by_unit (cases_eq block.unit s.block.unit))
  where
    new : Store
    new = with_line_at store (place_of store s.block s.line) bytes

    by_unit : (block.unit ≡ s.block.unit) ⊎ (block.unit ≡ s.block.unit → ⊥) → place_of new block line ≡ place_of store block line
    by_unit (inl e) =
        let order : s.block.order ≡ block.order = sym (same_order store s.block s.there there.segment (ap (segment_at store) (sym e) ∙ there.there)) ∙ there.order in
        let one : s.block ≡ block = λ i. record { unit = (sym e) i; order = order i } in
        subst (λ (b : Block). place_of new b line ≡ place_of store b line) one (set_place store is s.block s.there s.line s.has bytes line)
    by_unit (inr n) =
        let keeps = others_stay store new s.block.unit (4 * s.block.unit) (4 * 2 ^ s.block.order) (line_alters store is s.block s.there s.line s.has bytes) block.unit there.segment n there.there in
        subst (λ k. place_in new.lines block.unit k line ≡ place_in store.lines block.unit k line) there.order (keeps.places line has)
places_set store is at (inr f) bytes block there line has =
    let new = with_line_at store (frame_place f.frame f.line) bytes in
    let keeps = segments_stay store new (16 * f.frame) (64 * f.frame) 64 (frame_alters store is f.frame f.taken f.line f.low bytes) f.taken.alone block.unit there.segment there.there in
    subst (λ n. place_of (with_line_at store n bytes) block line ≡ place_of store block line) f.at_is
    (subst (λ k. place_in new.lines block.unit k line ≡ place_in store.lines block.unit k line) there.order (keeps.places line has))

-- the line is what was left
pub set_here : (store : Store) → IsStore store → (block : Block) → IsSegment store block → (line : ℕ) → has_line (lines_at store block.unit) line ≡ true → (bytes : List ℕ)
    → line_in (with_line_at store (place_of store block line) bytes) block line ≡ bytes
set_here store is block there line has bytes =
    ap (line_of (with_line_at store (place_of store block line) bytes).lines) (set_place store is block there line has bytes line)
    ∙ get_or-set_same store.lines (place_of store block line) bytes [] (place_inside store is block there line has)

-- and every other line of the segment stays
pub set_beside : (store : Store) → IsStore store → (block : Block) → IsSegment store block → (line other : ℕ) → has_line (lines_at store block.unit) line ≡ true → has_line (lines_at store block.unit) other ≡ true → (other ≡ line → ⊥) → (bytes : List ℕ)
    → line_in (with_line_at store (place_of store block line) bytes) block other ≡ line_in store block other
set_beside store is block there line other has also n bytes =
    ap (line_of (with_line_at store (place_of store block line) bytes).lines) (set_place store is block there line has bytes other)
    ∙ get_or-set_other store.lines (place_of store block line) (place_of store block other) bytes []
    (λ e. n (places_differ store.lines block (lines_at store block.unit) other line (block_in store is block there).order (pointers_there store is block there) also has e))

-- a line of a frame is what was left
pub frame_set_here : (store : Store) → IsStore store → (frame : ℕ) → IsFrame store frame → (line : ℕ) → line < 64 → (bytes : List ℕ) → frame_line (with_line_at store (frame_place frame line) bytes) frame line ≡ bytes
frame_set_here store is frame f line h bytes =
    get_or-set_same store.lines (64 * frame + line) bytes [] (omega (arith, frame_inside store is frame f, is.lines, h))

-- A block that ended and one that began, one after the other, and moves: a segment that stays through one change and the next stays through both.
pub stays_twice : (one two three : Store) (block : Block) → KeepsSegment one two block → KeepsSegment two three block → KeepsSegment one three block
stays_twice one two three block a b = record {
  there = b.there ∙ a.there;
  places = λ line has. b.places line (later line has) ∙ a.places line has;
  lines = λ line has. b.lines line (later line has) ∙ a.lines line has;
}
  where
    later : (line : ℕ) → has_line (lines_at one block.unit) line ≡ true → has_line (lines_at two block.unit) line ≡ true
    later line has = ap (λ o. has_line (option_map_or (λ (s : Segment). s.bits) o []) line) a.there ∙ has

-- How many lines a segment has.

pub count_fits : (store : Store) → IsStore store → (block : Block) → IsSegment store block → length (lines_at store block.unit) ≤ capacity_of block.order
count_fits store is block there = at (cases_lt block.order 4)
  where
    at : (block.order < 4) ⊎ (4 ≤ block.order) → length (lines_at store block.unit) ≤ capacity_of block.order
    at (inl h) = omega (arith, (pointers_there store is block there h).left)
    at (inr h) =
        let four : block.order ≡ 4 = omega (arith, h, (block_in store is block there).order) in
        subst (λ k. length (lines_at store block.unit) ≤ capacity_of k) (sym four) (set_there store is block there).few

-- the segment at a unit has other lines now
pub refilled : (segments : List (Option Segment)) (unit : ℕ) (s : Segment) (bits : List ℕ) → get_or segments unit None ≡ Some s → unit < length segments
    → get_or (with_lines_at segments unit bits) unit None ≡ Some (record { owner = s.owner; order = s.order; bits = bits })
refilled segments unit s bits there low =
    get_or-set_same segments unit _ None low ∙ ap (λ o. option_map (λ (s : Segment). record { owner = s.owner; order = s.order; bits = bits }) o) there

-- a segment that got other lines is there, with them
pub filled_there : (old new : Store) (block : Block) (bits : List ℕ) → IsStore old → IsSegment old block → HasLinesNow old new block bits → IsSegment new block
filled_there old new block bits is there h = record {
  segment = record { owner = there.segment.owner; order = there.segment.order; bits = bits };
  there = ap (λ l. get_or l block.unit None) h.segments
      ∙ refilled old.segments block.unit there.segment bits there.there (omega (arith, inside_of old is block.unit there.segment there.there, is.units, pow_pos there.segment.order));
  order = there.order;
}
