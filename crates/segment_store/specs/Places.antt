use Rattle.std.specs.Prelude.{◌≡◌, ℕ, ◌+◌, ◌*◌, ◌^◌, ◌<◌, ◌≤◌, ◌⊎◌, true, cond, List, [], ◌++◌, length}
use Rattle.sizes.specs.declared.TheConstants.{PAGE_LINES, UNIT_LINES}
use Rattle.line_store.specs.Lines.{line_of}
use Rattle.unit_map.specs.declared.block.Block.{Block}
use Rattle.overlay_bits.specs.Lines.{has_line, rank_of}
use Rattle.segment_store.specs.Pointers.{ArePointers, HasTaken, IsLowestFree, capacity_of, free_bit, free_word, slot_of}
use Rattle.segment_store.specs.Store.{place_in}

-- Lines of a region, as segments have them.

-- a block lies before scratch, the last lines
pub record HasBlock (lines : List (List ℕ)) (block : Block) : Type 0 where
  pub order : block.order ≤ 4
  pub inside : UNIT_LINES * (block.unit + 2 ^ block.order) + PAGE_LINES ≤ length lines
  pub few : length lines ≤ 2 ^ 23

-- a line of a segment stands inside its block, and not where the pointers are
pub record LiesIn (lines : List (List ℕ)) (unit order line : ℕ) : Type 0 where
  pub from : UNIT_LINES * unit ≤ place_in lines unit order line
  pub to : place_in lines unit order line < UNIT_LINES * (unit + 2 ^ order)
  pub behind : order < 4 → UNIT_LINES * unit < place_in lines unit order line

-- all lines of a set do
abbrev pub LieIn : List (List ℕ) → Block → List ℕ → Type 0
LieIn lines block bits = (line : ℕ) → has_line bits line ≡ true → LiesIn lines block.unit block.order line

-- no line of a block is one of the 64 from one on
abbrev pub IsApartFrom : Block → ℕ → Type 0
IsApartFrom block first = (first + PAGE_LINES ≤ UNIT_LINES * block.unit) ⊎ (UNIT_LINES * (block.unit + 2 ^ block.order) ≤ first)

-- below order 4 the line of a segment's pointers has no line yet, or a slot that is free
abbrev pub HasNoLine : List (List ℕ) → Block → Type 0
HasNoLine lines block = block.order < 4 → ArePointers (capacity_of block.order) [] (line_of lines (UNIT_LINES * block.unit))

abbrev pub HasFreeSlot : List (List ℕ) → Block → Type 0
HasFreeSlot lines block = block.order < 4 → 0 < free_word (line_of lines (UNIT_LINES * block.unit))

-- A line got a place: below order 4 the lowest free slot, and no line but that of the pointers changed; else no line changed.
pub record Reserves (old new : List (List ℕ)) (block : Block) (line : ℕ) : Type 0 where
  pub size : length new ≡ length old
  pub others : (at : ℕ) → (block.order < 4 → at ≡ UNIT_LINES * block.unit → ⊥) → line_of new at ≡ line_of old at
  pub lowest : block.order < 4 → IsLowestFree (line_of old (UNIT_LINES * block.unit)) (slot_of (line_of new (UNIT_LINES * block.unit)) line)
  pub taken : block.order < 4 → HasTaken line (slot_of (line_of new (UNIT_LINES * block.unit)) line) (line_of old (UNIT_LINES * block.unit)) (line_of new (UNIT_LINES * block.unit))

-- below order 4 the line of the pointers of an empty segment was put, and no other line changed
pub record BeginsLines (old new : List (List ℕ)) (block : Block) : Type 0 where
  pub size : length new ≡ length old
  pub others : (at : ℕ) → (block.order < 4 → at ≡ UNIT_LINES * block.unit → ⊥) → line_of new at ≡ line_of old at
  pub pointers : block.order < 4 → ArePointers (capacity_of block.order) [] (line_of new (UNIT_LINES * block.unit))

-- the lines of a segment were copied to their own places from `scratch` on, or from the first line of a page, and no other line changed
pub record LiftsLines (scratch : ℕ) (block : Block) (bits : List ℕ) (old new : List (List ℕ)) : Type 0 where
  pub size : length new ≡ length old
  pub lifted : (line : ℕ) → has_line bits line ≡ true → line_of new (scratch + line) ≡ line_of old (place_in old block.unit block.order line)
  pub others : (at : ℕ) → ((line : ℕ) → has_line bits line ≡ true → at ≡ scratch + line → ⊥) → line_of new at ≡ line_of old at

-- some lines of a set came into the segment of a block from their own places behind `scratch`, and no line outside the block changed
pub record LaysLines (scratch : ℕ) (block : Block) (whole bits : List ℕ) (old new : List (List ℕ)) : Type 0 where
  pub size : length new ≡ length old
  pub outside : (at : ℕ) → (at < UNIT_LINES * block.unit) ⊎ (UNIT_LINES * (block.unit + 2 ^ block.order) ≤ at) → line_of new at ≡ line_of old at
  pub lines : (line : ℕ) → has_line bits line ≡ true → line_of new (place_in new block.unit block.order line) ≡ line_of old (scratch + line)
  pub pointers : block.order < 4 → ArePointers (capacity_of block.order) bits (line_of new (UNIT_LINES * block.unit))
  pub slots : block.order < 4 → (line : ℕ) → has_line bits line ≡ true → slot_of (line_of new (UNIT_LINES * block.unit)) line ≡ rank_of whole line + 1

-- the first of them were laid so, and the slots behind theirs are the free ones
pub record HasLaid (scratch : ℕ) (block : Block) (bits front rest : List ℕ) (old new : List (List ℕ)) : Type 0 where
  pub whole : bits ≡ front ++ rest
  pub laid : LaysLines scratch block bits front old new
  pub low : block.order < 4 → (slot : ℕ) → 1 ≤ slot → slot ≤ length front → free_bit (line_of new (UNIT_LINES * block.unit)) slot ≡ 0
  pub high : block.order < 4 → (slot : ℕ) → length front < slot → slot ≤ capacity_of block.order → free_bit (line_of new (UNIT_LINES * block.unit)) slot ≡ 1

-- the first of them were lifted
pub record HasLifted (scratch : ℕ) (block : Block) (bits front rest : List ℕ) (old new : List (List ℕ)) : Type 0 where
  pub whole : bits ≡ front ++ rest
  pub lifted : LiftsLines scratch block front old new

-- the 64 lines from one on are those from another one on, and no other line changed
pub record CopiesPage (from to : ℕ) (old new : List (List ℕ)) : Type 0 where
  pub size : length new ≡ length old
  pub lines : (i : ℕ) → i < PAGE_LINES → line_of new (to + i) ≡ line_of old (from + i)
  pub outside : (at : ℕ) → (at < to) ⊎ (to + PAGE_LINES ≤ at) → line_of new at ≡ line_of old at

-- some of the 64 lines from one on are those of the same places behind `scratch`, and no other line changed
pub record LaysOver (scratch first : ℕ) (bits : List ℕ) (old new : List (List ℕ)) : Type 0 where
  pub size : length new ≡ length old
  pub lines : (i : ℕ) → i < PAGE_LINES → line_of new (first + i) ≡ cond (has_line bits i) (line_of old (scratch + i)) (line_of old (first + i))
  pub outside : (at : ℕ) → (at < first) ⊎ (first + PAGE_LINES ≤ at) → line_of new at ≡ line_of old at

-- the first of them are
pub record HasLaidOver (scratch first : ℕ) (bits front rest : List ℕ) (old new : List (List ℕ)) : Type 0 where
  pub whole : bits ≡ front ++ rest
  pub laid : LaysOver scratch first front old new
