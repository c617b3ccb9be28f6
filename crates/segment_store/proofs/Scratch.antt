use Rattle.std.proofs.Common.{◌≡◌, ℕ, ◌+◌, ◌-◌, ◌*◌, ◌^◌, ◌<◌, ◌≤◌, ◌⊎◌, inl, inr, List, length, get_or, None, sym, ap, subst, ◌∙◌, arith}
use Rattle.std.proofs.lemmas.List.{get_or_past}
use Rattle.line_store.specs.Lines.{line_of}
use Rattle.unit_map.specs.Pieces.{ArePieces, IsPiece, taken_at, units_in}
use Rattle.unit_map.specs.Laws.{within}
use Rattle.unit_map.specs.declared.block.Block.{Block}
use Rattle.overlay_bits.specs.Lines.{AreLines}
use Rattle.segment_store.specs.Store.{Store, IsSegment, segment_at, with_lines_at}
use Rattle.segment_store.specs.Places.{LaysLines, LiftsLines}
use Rattle.segment_store.specs.Kept.{IsStore}
use Rattle.segment_store.specs.Changes.{KeepsFrames, KeepsSegments, Lays, Lifts}
use Rattle.segment_store.specs.Laws.{Alters, frame_inside, frame_stays, next_store, segments_stay, some_none}
use Rattle.segment_store.proofs.Filling.{HasFilled, filled}

-- Scratch, behind the units.

-- where it begins
pub scratch_is : (store : Store) → IsStore store → length store.lines - 64 ≡ 4 * units_in store.blocks
scratch_is store is = omega (arith, is.lines)

-- a segment was lifted
pub record HasLiftedWhole (old new : Store) (block : Block) (bits : List ℕ) : Type 0 where
  pub lifts : Lifts old new block bits
  pub segments : KeepsSegments old new
  pub frames : KeepsFrames old new
  pub store : IsStore new

pub lifted_whole : (old new : Store) (block : Block) (bits : List ℕ) → IsStore old → AreLines bits
    → LiftsLines (length old.lines - 64) block bits old.lines new.lines → new.blocks ≡ old.blocks → new.segments ≡ old.segments → HasLiftedWhole old new block bits
lifted_whole old new block bits is are lift blocks segments = record {
  lifts = record {
    segments = segments;
    blocks = blocks;
    lifted = λ line has. ap (λ n. line_of new.lines (n + line)) (ap (λ ps. 4 * units_in ps) blocks ∙ sym place) ∙ lift.lifted line has;
    size = lift.size;
    others = λ at n. lift.others at (λ line has s. n line has (s ∙ ap (λ k. k + line) place));
  };
  segments = segments_stay old new (units_in old.blocks) (4 * units_in old.blocks) 64 alters none;
  frames = λ frame f. frame_stays old new (units_in old.blocks) (4 * units_in old.blocks) 64 alters frame f (λ s. absurd (omega (arith, frame_inside old is frame f, s)));
  store = next_store old new (units_in old.blocks) (4 * units_in old.blocks) 64 alters (λ segment here. absurd (some_none segment (sym here ∙ ap (λ l. get_or l (units_in old.blocks) None) segments ∙ none)));
}
  where
    place : length old.lines - 64 ≡ 4 * units_in old.blocks
    place = scratch_is old is

    none : segment_at old (units_in old.blocks) ≡ None
    none = get_or_past old.segments (units_in old.blocks) None (omega (arith, is.units))

    off : (at : ℕ) → (at < 4 * units_in old.blocks) ⊎ (4 * units_in old.blocks + 64 ≤ at) → (line : ℕ) → line < 64 → at ≡ length old.lines - 64 + line → ⊥
    off at (inl h) line low s = omega (arith, h, s, place)
    off at (inr h) line low s = omega (arith, h, s, place, low)

    alters : Alters old new (units_in old.blocks) (4 * units_in old.blocks) 64
    alters = record {
      is = is;
      range = λ v j taken n. inl (omega (arith, within old.blocks is.pieces _ taken));
      lines = record { size = lift.size; outside = λ at out. lift.others at (λ line has s. off at out line (are.inside line has) s) };
      same = λ v n. ap (λ l. get_or l v None) segments;
      taken = λ v j taken n. subst (λ ps. IsPiece ps (taken_at v j)) (sym blocks) taken;
      pieces = subst ArePieces (sym blocks) is.pieces;
      units = ap units_in blocks;
      size = ap length segments;
    }

-- a segment was laid
pub record HasLaidWhole (old new : Store) (block : Block) (bits : List ℕ) : Type 0 where
  pub lays : Lays old new block bits
  pub filled : HasFilled old new block bits

pub laid_whole : (old new : Store) (block : Block) (bits : List ℕ) → IsStore old → IsSegment old block → AreLines bits
    → LaysLines (length old.lines - 64) block bits bits old.lines new.lines → new.blocks ≡ old.blocks → new.segments ≡ with_lines_at old.segments block.unit bits → HasLaidWhole old new block bits
laid_whole old new block bits is there are lay blocks segments = record {
  lays = record {
    lines = λ line has. lay.lines line has ∙ ap (λ n. line_of old.lines (n + line)) (scratch_is old is);
    slots = lay.slots;
  };
  filled = filled old new block bits is there (record { size = lay.size; outside = λ at out. lay.outside at (by_end at out) }) blocks segments are lay.pointers;
}
  where
    by_end : (x : ℕ) → (x < 4 * block.unit) ⊎ (4 * block.unit + 4 * 2 ^ block.order ≤ x) → (x < 4 * block.unit) ⊎ (4 * (block.unit + 2 ^ block.order) ≤ x)
    by_end x (inl a) = inl a
    by_end x (inr a) = inr (omega (arith, a))
