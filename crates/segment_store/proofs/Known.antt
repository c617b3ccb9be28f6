use Rattle.std.proofs.Common.{◌≡◌, ℕ, ◌+◌, ◌<◌, true, inl, inr, List, length, sym, subst, arith}
use Rattle.unit_map.specs.declared.block.Block.{Block}
use Rattle.overlay_bits.specs.Lines.{has_line}
use Rattle.segment_store.specs.Store.{HoldsLine, Store, IsFrame, IsSegment, frame_place, lines_at, place_of, with_line_at}
use Rattle.segment_store.specs.Places.{HasBlock}
use Rattle.segment_store.specs.Kept.{IsStore}
use Rattle.segment_store.specs.Laws.{block_in, frame_inside, frame_set_store, lies_at, line_below, line_set_store}

-- What is known of a line that a segment has, where the store's fields are open.

pub record IsKnownLine (store : Store) (block : Block) (line : ℕ) : Type 0 where
  pub there : IsSegment store block
  pub has : has_line (lines_at store block.unit) line ≡ true
  pub low : line < 64
  pub within : HasBlock store.lines block
  pub before : place_of store block line + 64 < length store.lines

pub known : (store now : Store) → store ≡ now → IsStore store → (block : Block) → IsSegment now block → (line : ℕ) → has_line (lines_at now block.unit) line ≡ true → IsKnownLine store block line
known store now same is block found line found_line =
    let there = subst (λ s. IsSegment s block) (sym same) found in
    let has = subst (λ s. has_line (lines_at s block.unit) line ≡ true) (sym same) found_line in
    record {
      there = there;
      has = has;
      low = line_below store is block there line has;
      within = block_in store is block there;
      before = omega (arith, (lies_at store is block there line has).to, (block_in store is block there).inside);
    }

-- A place at which a line stands: it is before scratch, and what is written there leaves a store.

pub holds_before : (store : Store) → IsStore store → (at : ℕ) → HoldsLine store at → at + 64 < length store.lines
holds_before store is at (inl s) = omega (arith, (lies_at store is s.block s.there s.line s.has).to, (block_in store is s.block s.there).inside, s.at_is)
holds_before store is at (inr f) = omega (arith, frame_inside store is f.frame f.taken, is.lines, f.low, f.at_is)

pub holds_store : (store : Store) → IsStore store → (at : ℕ) → HoldsLine store at → (bytes : List ℕ) → IsStore (with_line_at store at bytes)
holds_store store is at (inl s) bytes = subst (λ n. IsStore (with_line_at store n bytes)) s.at_is (line_set_store store is s.block s.there s.line s.has bytes)
holds_store store is at (inr f) bytes = subst (λ n. IsStore (with_line_at store n bytes)) f.at_is (frame_set_store store is f.frame f.taken f.line f.low bytes)
