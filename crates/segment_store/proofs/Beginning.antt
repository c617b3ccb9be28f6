use Rattle.std.proofs.Common.{◌≡◌, ℕ, ◌+◌, ◌*◌, ◌/◌, ◌%◌, ◌^◌, ◌<◌, ◌≤◌, ◌⊎◌, inl, inr, List, length, get_or, set, Some, None, sym, ap, subst, ◌∙◌, arith, pow_pos}
use Rattle.std.proofs.lemmas.List.{get_or-set_same, get_or-set_other, length-set}
use Rattle.std.proofs.lemmas.Option.{same_Some}
use Rattle.line_store.specs.Lines.{line_of}
use Rattle.unit_map.specs.Blocks.{LosesUnits, TakesAsked}
use Rattle.unit_map.specs.Pieces.{AreSettled, Piece, ArePieces, IsApartFromTaken, IsPiece, taken_at, units_in}
use Rattle.unit_map.specs.Changes.{KeepsTaken, KeepsOthers, OnlyTakes}
use Rattle.unit_map.specs.Laws.{within}
use Rattle.unit_map.specs.declared.block.Block.{Block}
use Rattle.overlay_bits.specs.Lines.{AreLines}
use Rattle.segment_store.specs.Pointers.{ArePointers, capacity_of}
use Rattle.segment_store.specs.Store.{Store, IsFrame, IsSegment, segment_at}
use Rattle.segment_store.specs.Places.{BeginsLines}
use Rattle.segment_store.specs.Kept.{IsStore}
use Rattle.segment_store.specs.Changes.{BeginsSegment, KeepsFrames, KeepsLinesOutside, KeepsOtherSegments, KeepsScratch}
use Rattle.segment_store.specs.Laws.{Alters, IsGood, free_range, frame_stays, fresh_frame, fresh_unit, next_store, others_stay, scratch_stays, segments_stay, frames_stay, segment_range, some_none}
use Rattle.segment_store.specs.declared.segment.Segment.{Segment}

-- Blocks that are taken for frames and segments, and given back.

-- where a taken block of order 4 begins
pub frame_at : (blocks : List Piece) → ArePieces blocks → (unit order : ℕ) → order ≡ 4 → IsPiece blocks (taken_at unit order) → 16 * (unit / 16) ≡ unit
frame_at blocks are unit order e taken = at (subst (λ k. unit % 2 ^ k ≡ 0) e (are.aligned _ taken).unit)
  where
    at : unit % 2 ^ 4 ≡ 0 → 16 * (unit / 16) ≡ unit
    at h = omega (arith, h)

pub frame_taken : (store : Store) (unit order : ℕ) → ArePieces store.blocks → order ≡ 4 → IsPiece store.blocks (taken_at unit order) → segment_at store unit ≡ None → IsFrame store (unit / 16)
frame_taken store unit order are e taken none =
    let at = frame_at store.blocks are unit order e taken in
    record {
      taken = subst (λ k. IsPiece store.blocks (taken_at (16 * (unit / 16)) k)) e (subst (λ u. IsPiece store.blocks (taken_at u order)) (sym at) taken);
      alone = ap (segment_at store) at ∙ none;
    }

-- a segment began
module _ (old new : Store) (owner order : ℕ) (bits : List ℕ) (block : Block) (is : IsStore old) (are : ArePieces new.blocks) (asked : TakesAsked old.blocks order new.blocks block)
    (taken : IsPiece new.blocks (taken_at block.unit block.order)) (kept : KeepsTaken old.blocks new.blocks) (only : OnlyTakes old.blocks block.unit block.order new.blocks) (units : units_in new.blocks ≡ units_in old.blocks)
    (free : LosesUnits old.blocks new.blocks block) (apart : IsApartFromTaken old.blocks block.unit block.order) (settled : AreSettled old.blocks → AreSettled new.blocks)
    (segments : new.segments ≡ set old.segments block.unit (Some (record { owner = owner; order = block.order; bits = bits }))) where
  abbrev begun_now : Segment
  begun_now = record { owner = owner; order = block.order; bits = bits }

  inside : block.unit + 2 ^ block.order ≤ units_in new.blocks
  inside = within new.blocks are _ taken

  fresh : segment_at old block.unit ≡ None
  fresh = fresh_unit old is block.unit block.order apart

  there : segment_at new block.unit ≡ Some begun_now
  there = ap (λ l. get_or l block.unit None) segments ∙ get_or-set_same old.segments block.unit (Some begun_now) None (omega (arith, inside, units, is.units, pow_pos block.order))

  alters : KeepsLinesOutside (4 * block.unit) (4 * 2 ^ block.order) old.lines new.lines → Alters old new block.unit (4 * block.unit) (4 * 2 ^ block.order)
  alters lines = record {
    is = is;
    range = free_range old block.unit block.order apart;
    lines = lines;
    same = λ v n. ap (λ l. get_or l v None) segments ∙ get_or-set_other old.segments block.unit v (Some begun_now) None n;
    taken = λ v j h n. kept v j h;
    pieces = are;
    units = units;
    size = ap length segments ∙ length-set old.segments block.unit (Some begun_now);
  }

  pub began : KeepsLinesOutside (4 * block.unit) (4 * 2 ^ block.order) old.lines new.lines → AreLines bits → (block.order < 4 → ArePointers (capacity_of block.order) bits (line_of new.lines (4 * block.unit)))
      → BeginsSegment old new owner order bits block
  began lines set pointers = record {
    fresh = fresh;
    segments = segments;
    there = there;
    asked = asked;
    only = only;
    others = segments_stay old new block.unit (4 * block.unit) (4 * 2 ^ block.order) (alters lines) fresh;
    frames = λ frame f. frame_stays old new block.unit (4 * block.unit) (4 * 2 ^ block.order) (alters lines) frame f (fresh_frame old block.unit block.order apart frame f);
    scratch = scratch_stays old new block.unit (4 * block.unit) (4 * 2 ^ block.order) (alters lines) (omega (arith, inside, units));
    free = free;
    units = units;
    settled = settled;
    store = next_store old new block.unit (4 * block.unit) (4 * 2 ^ block.order) (alters lines) (λ segment here. good segment (same_Some _ _ (sym here ∙ there)));
  }
    where
      good : (segment : Segment) → segment ≡ begun_now → IsGood new block.unit segment
      good segment e = subst (IsGood new block.unit) (sym e) (record { taken = taken; set = set; pointers = pointers })

-- without a line
pub begun_lines : (old new : List (List ℕ)) (block : Block) → BeginsLines old new block → KeepsLinesOutside (4 * block.unit) (4 * 2 ^ block.order) old new
begun_lines old new block lines = record { size = lines.size; outside = λ at out. lines.others at (λ h. off at out) }
  where
    off : (at : ℕ) → (at < 4 * block.unit) ⊎ (4 * block.unit + 4 * 2 ^ block.order ≤ at) → at ≡ 4 * block.unit → ⊥
    off at (inl h) e = omega (arith, h, e)
    off at (inr h) e = omega (arith, h, e, pow_pos block.order)

-- a segment ended, or a frame was given back: its block is free
pub record HasEnded (old new : Store) (unit : ℕ) : Type 0 where
  pub segments : KeepsOtherSegments old unit new
  pub frames : KeepsFrames old new
  pub scratch : KeepsScratch old new
  pub store : IsStore new

pub ended : (old new : Store) (block : Block) → IsStore old → IsSegment old block → ArePieces new.blocks → units_in new.blocks ≡ units_in old.blocks → KeepsOthers old.blocks block.unit new.blocks
    → new.lines ≡ old.lines → new.segments ≡ set old.segments block.unit None → HasEnded old new block.unit
ended old new block is there are units kept lines segments = record {
  segments = others_stay old new block.unit (4 * block.unit) (4 * 2 ^ block.order) alters;
  frames = frames_stay old new block.unit (4 * block.unit) (4 * 2 ^ block.order) alters there.segment there.there;
  scratch = λ line h. ap (λ n. line_of new.lines (4 * n + line)) units ∙ ap (λ l. line_of l (4 * units_in old.blocks + line)) lines;
  store = next_store old new block.unit (4 * block.unit) (4 * 2 ^ block.order) alters (λ segment here. absurd (some_none segment (sym here ∙ gone)));
}
  where
    low : block.unit < length old.segments
    low = omega (arith, within old.blocks is.pieces _ (is.taken block.unit there.segment there.there), is.units, pow_pos there.segment.order)

    gone : segment_at new block.unit ≡ None
    gone = ap (λ l. get_or l block.unit None) segments ∙ get_or-set_same old.segments block.unit None None low

    alters : Alters old new block.unit (4 * block.unit) (4 * 2 ^ block.order)
    alters = record {
      is = is;
      range = segment_range old is block there;
      lines = record { size = ap length lines; outside = λ at out. ap (λ l. line_of l at) lines };
      same = λ v n. ap (λ l. get_or l v None) segments ∙ get_or-set_other old.segments block.unit v None None n;
      taken = kept;
      pieces = are;
      units = units;
      size = ap length segments ∙ length-set old.segments block.unit None;
    }
