use Rattle.std.proofs.Common.{◌≡◌, ℕ, zero, suc, ◌+◌, ◌*◌, length, get_or, replicate, Option, Some, None, sym, ap, refl, ◌∙◌, arith}
use Rattle.std.proofs.lemmas.List.{length-replicate}
use Rattle.unit_map.specs.Pieces.{ArePieces, free_frames, units_in}
use Rattle.segment_store.specs.Store.{Store, segment_at}
use Rattle.segment_store.specs.Kept.{IsStore}
use Rattle.segment_store.specs.Changes.{IsEmptyStore}
use Rattle.segment_store.specs.Laws.{some_none}
use Rattle.segment_store.specs.declared.segment.Segment.{Segment}

-- A new store.

free_frames_units : (unit n : ℕ) → units_in (free_frames unit n) ≡ 16 * n
free_frames_units unit zero = refl
free_frames_units unit (suc n) = omega (arith, free_frames_units (unit + 16) n)

none_at : (n unit : ℕ) → get_or {A = Option Segment} (replicate n None) unit None ≡ None
none_at zero unit = refl
none_at (suc n) zero = refl
none_at (suc n) (suc unit) = none_at n unit

pub new_store : (frames : ℕ) (store : Store) → IsEmptyStore frames store → ArePieces store.blocks → length store.lines ≡ 64 * (frames + 1) → IsStore store
new_store frames store is pieces lines = record {
  pieces = pieces;
  lines = omega (arith, lines, units);
  units = ap length is.segments ∙ length-replicate (16 * frames) None ∙ sym units;
  taken = λ unit segment there. absurd (none unit segment there);
  sets = λ unit segment there. absurd (none unit segment there);
  pointers = λ unit segment there h. absurd (none unit segment there);
}
  where
    units : units_in store.blocks ≡ 16 * frames
    units = ap units_in is.blocks ∙ free_frames_units 0 frames

    none : (unit : ℕ) (segment : Segment) → segment_at store unit ≡ Some segment → ⊥
    none unit segment there = some_none segment (sym there ∙ ap (λ l. get_or l unit None) is.segments ∙ none_at (16 * frames) unit)
