use Rattle.std.proofs.Common.{◌≡◌, ℕ, ◌+◌, ◌*◌, ◌^◌, ◌<◌, ◌≤◌, Bool, true, false, ◌||◌, nat_eq, ◌⊎◌, inl, inr, List, [], length, get_or, set, Some, None, sym, ap, subst, refl, ◌∙◌, arith, true≢false, pow_pos}
use Rattle.std.specs.Option.{option_map_or}
use Rattle.std.proofs.lemmas.Bool.Decides.{nat_tests}
use Rattle.std.proofs.lemmas.List.{get_or-set_same, get_or-set_other, length-set}
use Rattle.line_store.specs.Lines.{line_of}
use Rattle.unit_map.specs.Pieces.{ArePieces, IsPiece, taken_at, units_in}
use Rattle.unit_map.specs.Laws.{by_order}
use Rattle.unit_map.specs.declared.block.Block.{Block}
use Rattle.overlay_bits.specs.Lines.{AreLines, has_line, with_line}
use Rattle.overlay_bits.specs.Laws.{are_with, has_with}
use Rattle.segment_store.specs.Pointers.{ArePointers, HasTaken, IsLowestFree, capacity_of, free_word, slot_of}
use Rattle.segment_store.specs.Store.{Store, IsSegment, set_in, lines_at, place_in, segment_at, with_lines_at}
use Rattle.segment_store.specs.Places.{HasBlock, LiesIn, Reserves}
use Rattle.segment_store.specs.Kept.{IsStore}
use Rattle.segment_store.specs.Changes.{HasLinesNow, Inserts, KeepsFrames, KeepsLinesOutside, KeepsOtherSegments, KeepsScratch}
use Rattle.segment_store.specs.Laws.{refilled, Alters, IsGood, block_in, frames_stay, inside_of, lies_in, place_same, places_differ, next_store, others_stay, pointers_there, scratch_stays, segment_range, set_there}
use Rattle.segment_store.specs.declared.segment.Segment.{Segment}
use Rattle.segment_store.proofs.Pointing.{inserted, some_free}

-- Segments that get lines.

pub capacity_low : (order : ℕ) → order < 4 → capacity_of order < 32
capacity_low order h = by_order (λ k. k < 4 → capacity_of k < 32) (λ h. omega arith) (λ h. omega arith) (λ h. omega arith) (λ h. omega arith) (λ h. absurd (omega (arith, h))) order (omega (arith, h)) h

some_is : {one two : Segment} → Some one ≡ Some two → one ≡ two
some_is {one = one} e = ap (λ o. option_map_or (λ (s : Segment). s) o one) e

-- the segment of a block has these lines now
pub record HasFilled (old new : Store) (block : Block) (bits : List ℕ) : Type 0 where
  pub lines : HasLinesNow old new block bits
  pub segments : KeepsOtherSegments old block.unit new
  pub frames : KeepsFrames old new
  pub scratch : KeepsScratch old new
  pub store : IsStore new

pub filled : (old new : Store) (block : Block) (bits : List ℕ) → IsStore old → IsSegment old block → KeepsLinesOutside (4 * block.unit) (4 * 2 ^ block.order) old.lines new.lines → new.blocks ≡ old.blocks
    → new.segments ≡ with_lines_at old.segments block.unit bits → AreLines bits → (block.order < 4 → ArePointers (capacity_of block.order) bits (line_of new.lines (4 * block.unit)))
    → HasFilled old new block bits
filled old new block bits is there lines blocks segments set pointers = record {
  lines = record { segments = segments; blocks = blocks; lines = lines };
  segments = others_stay old new block.unit (4 * block.unit) (4 * 2 ^ block.order) alters;
  frames = frames_stay old new block.unit (4 * block.unit) (4 * 2 ^ block.order) alters there.segment there.there;
  scratch = scratch_stays old new block.unit (4 * block.unit) (4 * 2 ^ block.order) alters (omega (arith, inside, size));
  store = next_store old new block.unit (4 * block.unit) (4 * 2 ^ block.order) alters (λ segment here. good segment (some_is (sym here ∙ now)));
}
  where
    size : 2 ^ there.segment.order ≡ 2 ^ block.order
    size = ap (λ k. 2 ^ k) there.order

    inside : block.unit + 2 ^ there.segment.order ≤ units_in old.blocks
    inside = inside_of old is block.unit there.segment there.there

    alters : Alters old new block.unit (4 * block.unit) (4 * 2 ^ block.order)
    alters = record {
      is = is;
      range = segment_range old is block there;
      lines = lines;
      same = λ v n. ap (λ l. get_or l v None) segments ∙ get_or-set_other old.segments block.unit v _ None n;
      taken = λ v j taken n. subst (λ ps. IsPiece ps (taken_at v j)) (sym blocks) taken;
      pieces = subst ArePieces (sym blocks) is.pieces;
      units = ap units_in blocks;
      size = ap length segments ∙ length-set old.segments block.unit _;
    }

    now : segment_at new block.unit ≡ Some (record { owner = there.segment.owner; order = there.segment.order; bits = bits })
    now = ap (λ l. get_or l block.unit None) segments ∙ refilled old.segments block.unit there.segment bits there.there (omega (arith, inside, is.units, pow_pos there.segment.order))

    good : (segment : Segment) → segment ≡ record { owner = there.segment.owner; order = there.segment.order; bits = bits } → IsGood new block.unit segment
    good segment e = subst (IsGood new block.unit) (sym e) (record {
      taken = subst (λ ps. IsPiece ps (taken_at block.unit there.segment.order)) (sym blocks) (is.taken block.unit there.segment there.there);
      set = set;
      pointers = λ h. subst (λ k. ArePointers (capacity_of k) bits (line_of new.lines (4 * block.unit))) (sym there.order) (pointers (omega (arith, h, there.order)));
    })

-- the pointers after a line got a slot
pub pointers_after : (old mid : List (List ℕ)) (block : Block) (bits : List ℕ) (line : ℕ) → AreLines bits → line < 64 → has_line bits line ≡ false → Reserves old mid block line → block.order < 4
    → ArePointers (capacity_of block.order) bits (line_of old (4 * block.unit)) → ArePointers (capacity_of block.order) (with_line bits line) (line_of mid (4 * block.unit))
pointers_after old mid block bits line set low absent reserves h are =
    inserted (capacity_of block.order) bits (line_of old (4 * block.unit)) (line_of mid (4 * block.unit)) line (slot_of (line_of mid (4 * block.unit)) line)
    (capacity_low block.order h) are set low absent (reserves.lowest h) (reserves.taken h)

-- there is a slot for one more line
pub some_slot : (lines : List (List ℕ)) (block : Block) (bits : List ℕ) → block.order < 4 → ArePointers (capacity_of block.order) bits (line_of lines (4 * block.unit)) → length bits < capacity_of block.order
    → 0 < free_word (line_of lines (4 * block.unit))
some_slot lines block bits h are room = some_free (capacity_of block.order) bits (line_of lines (4 * block.unit)) (capacity_low block.order h) are room

-- A line got a place in the segment of a block, and came there.

pub record PutsLine (old new : List (List ℕ)) (block : Block) (bits : List ℕ) (line : ℕ) (bytes : List ℕ) : Type 0 where
  pub here : line_of new (place_in new block.unit block.order line) ≡ bytes
  pub places : (other : ℕ) → has_line bits other ≡ true → place_in new block.unit block.order other ≡ place_in old block.unit block.order other
  pub lines : (other : ℕ) → has_line bits other ≡ true → line_of new (place_in new block.unit block.order other) ≡ line_of old (place_in old block.unit block.order other)
  pub lowest : block.order < 4 → IsLowestFree (line_of old (4 * block.unit)) (slot_of (line_of new (4 * block.unit)) line)
  pub taken : block.order < 4 → HasTaken line (slot_of (line_of new (4 * block.unit)) line) (line_of old (4 * block.unit)) (line_of new (4 * block.unit))
  pub pointers : block.order < 4 → ArePointers (capacity_of block.order) (with_line bits line) (line_of new (4 * block.unit))
  pub rest : (at : ℕ) → (at ≡ place_in new block.unit block.order line → ⊥) → (block.order < 4 → at ≡ 4 * block.unit → ⊥) → line_of new at ≡ line_of old at
  pub outside : KeepsLinesOutside (4 * block.unit) (4 * 2 ^ block.order) old new

pub puts_line : (old mid new : List (List ℕ)) (block : Block) (bits : List ℕ) (line at : ℕ) (bytes : List ℕ) → HasBlock old block → AreLines bits
    → (block.order < 4 → ArePointers (capacity_of block.order) bits (line_of old (4 * block.unit))) → line < 64 → has_line bits line ≡ false
    → Reserves old mid block line → at ≡ place_in mid block.unit block.order line → new ≡ set mid at bytes → PutsLine old new block bits line bytes
puts_line old mid new block bits line at bytes within set_bits old_pointers low absent reserves place lines = record {
  here = ap (line_of new) (new_place line ∙ sym place) ∙ ap (λ l. line_of l at) lines ∙ get_or-set_same mid at bytes [] fits;
  places = places;
  lines = λ other has. ap (line_of new) (places other has) ∙ kept (place_in old block.unit block.order other) (λ e. apart other has e) (λ h e. omega (arith, (old_lies other has).behind h, e));
  lowest = λ h. subst (λ p. IsLowestFree (line_of old (4 * block.unit)) (slot_of p line)) (sym (first h)) (reserves.lowest h);
  taken = λ h. subst (λ p. HasTaken line (slot_of p line) (line_of old (4 * block.unit)) p) (sym (first h)) (reserves.taken h);
  pointers = λ h. subst (ArePointers (capacity_of block.order) more) (sym (first h)) (pointers h);
  rest = λ x n m. kept x (λ e. n (e ∙ place ∙ sym (new_place line))) m;
  outside = changed;
}
  where
    more : List ℕ
    more = with_line bits line

    set_more : AreLines more
    set_more = are_with bits line set_bits low

    pointers : block.order < 4 → ArePointers (capacity_of block.order) more (line_of mid (4 * block.unit))
    pointers h = pointers_after old mid block bits line set_bits low absent reserves h (old_pointers h)

    has_here : has_line more line ≡ true
    has_here = has_with bits line line ∙ (let e : nat_eq line line ≡ true = grind (arith, nat_tests) in ap (λ b. b || has_line bits line) e)

    has_more : (other : ℕ) → has_line bits other ≡ true → has_line more other ≡ true
    has_more other has = has_with bits line other ∙ ap (λ b. nat_eq line other || b) has ∙ or_true (nat_eq line other)
      where
        or_true : (b : Bool) → (b || true) ≡ true
        or_true true = refl
        or_true false = refl

    other_than : (other : ℕ) → has_line bits other ≡ true → other ≡ line → ⊥
    other_than other has e = true≢false (sym has ∙ ap (has_line bits) e ∙ absent)

    lies : (other : ℕ) → has_line more other ≡ true → LiesIn mid block.unit block.order other
    lies other has = lies_in mid block.unit block.order more other within.order set_more pointers has

    old_lies : (other : ℕ) → has_line bits other ≡ true → LiesIn old block.unit block.order other
    old_lies other has = lies_in old block.unit block.order bits other within.order set_bits old_pointers has

    fits : at < length mid
    fits = omega (arith, (lies line has_here).to, place, within.inside, reserves.size)

    -- what stays of the region
    kept : (x : ℕ) → (x ≡ at → ⊥) → (block.order < 4 → x ≡ 4 * block.unit → ⊥) → line_of new x ≡ line_of old x
    kept x n m = ap (λ l. line_of l x) lines ∙ get_or-set_other mid at x bytes [] n ∙ reserves.others x m

    first : block.order < 4 → line_of new (4 * block.unit) ≡ line_of mid (4 * block.unit)
    first h = ap (λ l. line_of l (4 * block.unit)) lines ∙ get_or-set_other mid at (4 * block.unit) bytes [] (λ e. absurd (omega (arith, (lies line has_here).behind h, place, e)))

    new_place : (other : ℕ) → place_in new block.unit block.order other ≡ place_in mid block.unit block.order other
    new_place other = place_same new mid block.unit block.order other within.order (λ h. ap (λ p. slot_of p other) (first h))

    mid_place : (other : ℕ) → has_line bits other ≡ true → place_in mid block.unit block.order other ≡ place_in old block.unit block.order other
    mid_place other has = place_same mid old block.unit block.order other within.order (λ h. (reserves.taken h).others other (set_bits.inside other has) (other_than other has))

    places : (other : ℕ) → has_line bits other ≡ true → place_in new block.unit block.order other ≡ place_in old block.unit block.order other
    places other has = new_place other ∙ mid_place other has

    apart : (other : ℕ) → has_line bits other ≡ true → place_in old block.unit block.order other ≡ at → ⊥
    apart other has e = other_than other has (places_differ mid block more other line within.order pointers (has_more other has) has_here (mid_place other has ∙ e ∙ place))

    changed : KeepsLinesOutside (4 * block.unit) (4 * 2 ^ block.order) old new
    changed = record {
      size = ap length lines ∙ length-set mid at bytes ∙ reserves.size;
      outside = λ x out. kept x (λ e. off x out (omega (arith, (lies line has_here).from, place, e)) (omega (arith, (lies line has_here).to, place, e))) (λ h e. off x out (omega (arith, e)) (omega (arith, e, pow_pos block.order)));
    }
      where
        off : (x : ℕ) → (x < 4 * block.unit) ⊎ (4 * block.unit + 4 * 2 ^ block.order ≤ x) → 4 * block.unit ≤ x → x < 4 * (block.unit + 2 ^ block.order) → ⊥
        off x (inl h) a b = omega (arith, h, a)
        off x (inr h) a b = omega (arith, h, b)

-- a line that came in
pub record HasInserted (old new : Store) (block : Block) (line : ℕ) (bytes : List ℕ) : Type 0 where
  pub inserts : Inserts old new block line bytes
  pub filled : HasFilled old new block (with_line (lines_at old block.unit) line)

pub has_inserted : (old new : Store) (mid : List (List ℕ)) (block : Block) (line at : ℕ) (bytes : List ℕ) → IsStore old → IsSegment old block → line < 64 → has_line (lines_at old block.unit) line ≡ false
    → Reserves old.lines mid block line → at ≡ place_in mid block.unit block.order line → new.lines ≡ set mid at bytes → new.blocks ≡ old.blocks
    → new.segments ≡ with_lines_at old.segments block.unit (with_line (set_in old.segments block.unit) line) → HasInserted old new block line bytes
has_inserted old new mid block line at bytes is there low absent reserves place lines blocks segments =
    let set_bits = set_there old is block there in
    let puts = puts_line old.lines mid new.lines block (lines_at old block.unit) line at bytes (block_in old is block there) set_bits (pointers_there old is block there) low absent reserves place lines in
    record {
      inserts = record { here = puts.here; slot = puts.lowest; places = puts.places; lines = puts.lines; rest = puts.rest };
      filled = filled old new block (with_line (lines_at old block.unit) line) is there puts.outside blocks segments (are_with (lines_at old block.unit) line set_bits low) puts.pointers;
    }
