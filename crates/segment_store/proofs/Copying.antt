use Rattle.std.proofs.Common.{◌≡◌, ℕ, ◌+◌, ◌-◌, ◌*◌, ◌%◌, ◌^◌, ◌<◌, ◌≤◌, true, cond, nat_eq, ◌⊎◌, inl, inr, length, set, Some, option_map, sym, ap, subst, ◌∙◌, refl, arith, pow_pos}
use Rattle.line_store.specs.Lines.{line_of, with_copied}
use Rattle.unit_map.specs.Pieces.{AreBlocksApart, IsApartFromTaken, units_in}
use Rattle.unit_map.specs.Laws.{by_order}
use Rattle.unit_map.specs.declared.block.Block.{Block}
use Rattle.overlay_bits.specs.Lines.{has_line}
use Rattle.segment_store.specs.Pointers.{ArePointers, capacity_of, slot_of}
use Rattle.segment_store.specs.Store.{Store, IsSegment, line_in, lines_at, place_of, with_copy_at}
use Rattle.segment_store.specs.Kept.{IsStore}
use Rattle.segment_store.specs.Changes.{CopiesSegment, KeepsLinesOutside}
use Rattle.segment_store.specs.Laws.{inside_of, lies_at, lines_there, pointers_there}
use Rattle.segment_store.specs.declared.segment.Segment.{Segment}
use Rattle.line_store.specs.LineLaws.{copied_in, copied_out}

-- A segment is copied for another owner.

pub four_fits : (order : ℕ) → order ≤ 4 → 4 * 2 ^ order % 4294967296 ≡ 4 * 2 ^ order
four_fits = by_order (λ k. 4 * 2 ^ k % 4294967296 ≡ 4 * 2 ^ k) refl refl refl refl refl

-- what is known of the two blocks
pub record IsCopying (old : Store) (from to : Block) : Type 0 where
  pub source : from.unit + 2 ^ from.order ≤ units_in old.blocks
  pub target : to.unit + 2 ^ to.order ≤ units_in old.blocks
  pub apart : AreBlocksApart from.unit from.order to.unit from.order
  pub low : from.order ≤ 4

pub copying : (old : Store) → IsStore old → (from to : Block) → IsSegment old from → to.order ≡ from.order → to.unit + 2 ^ to.order ≤ units_in old.blocks → IsApartFromTaken old.blocks to.unit to.order → IsCopying old from to
copying old is from to there same target apart = record {
  source = omega (arith, inside_of old is from.unit there.segment there.there, size);
  target = target;
  apart = by_side (apart from.unit there.segment.order (is.taken from.unit there.segment there.there));
  low = omega (arith, there.order, (is.pieces.aligned _ (is.taken from.unit there.segment there.there)).order);
}
  where
    size : 2 ^ there.segment.order ≡ 2 ^ from.order
    size = ap (λ k. 2 ^ k) there.order

    sizes : 2 ^ to.order ≡ 2 ^ from.order
    sizes = ap (λ k. 2 ^ k) same

    by_side : AreBlocksApart to.unit to.order from.unit there.segment.order → AreBlocksApart from.unit from.order to.unit from.order
    by_side (inl h) = inr (omega (arith, h, sizes))
    by_side (inr h) = inl (omega (arith, h, size))

module _ (old new : Store) (from : Block) (owner : ℕ) (to : Block) (is : IsStore old) (found : IsSegment old from) (same : to.order ≡ from.order) (within : to.unit + 2 ^ to.order ≤ units_in old.blocks)
    (apart : IsApartFromTaken old.blocks to.unit to.order) (lines : new.lines ≡ with_copied old.lines (4 * from.unit) (4 * to.unit) (4 * 2 ^ from.order)) (size : length new.lines ≡ length old.lines)
    (segments : new.segments ≡ with_copy_at old.segments from.unit to.unit owner) where
  sizes : 2 ^ to.order ≡ 2 ^ from.order
  sizes = ap (λ k. 2 ^ k) same

  known : IsCopying old from to
  known = copying old is from to found same within apart

  source_lines : 4 * from.unit + 4 * 2 ^ from.order ≤ length old.lines
  source_lines = omega (arith, known.source, is.lines)

  target_lines : 4 * to.unit + 4 * 2 ^ from.order ≤ length old.lines
  target_lines = omega (arith, within, is.lines, sizes)

  made : set old.segments to.unit (Some (record { owner = owner; order = to.order; bits = lines_at old from.unit })) ≡ with_copy_at old.segments from.unit to.unit owner
  made =
      let copied = λ (o : _). set old.segments to.unit (option_map (λ (s : Segment). record { owner = owner; order = s.order; bits = s.bits }) o) in
      ap (λ k. set old.segments to.unit (Some (record { owner = owner; order = k; bits = lines_at old from.unit }))) (same ∙ sym found.order)
      ∙ ap (λ b. set old.segments to.unit (Some (record { owner = owner; order = found.segment.order; bits = b }))) (lines_there old from.unit found.segment found.there)
      ∙ sym (ap copied found.there)

  pub now_segments : new.segments ≡ set old.segments to.unit (Some (record { owner = owner; order = to.order; bits = lines_at old from.unit }))
  now_segments = segments ∙ sym made

  outside : KeepsLinesOutside (4 * to.unit) (4 * 2 ^ to.order) old.lines new.lines
  outside = record {
    size = size;
    outside = λ at out. ap (λ l. line_of l at) lines ∙ copied_out old.lines (4 * from.unit) (4 * to.unit) (4 * 2 ^ from.order) at source_lines target_lines (by_size at out);
  }
    where
      by_size : (at : ℕ) → (at < 4 * to.unit) ⊎ (4 * to.unit + 4 * 2 ^ to.order ≤ at) → (at < 4 * to.unit) ⊎ (4 * to.unit + 4 * 2 ^ from.order ≤ at)
      by_size at (inl h) = inl h
      by_size at (inr h) = inr (omega (arith, h, sizes))

  inside : (i : ℕ) → i < 4 * 2 ^ from.order → line_of new.lines (4 * to.unit + i) ≡ line_of old.lines (4 * from.unit + i)
  inside i less = ap (λ l. line_of l (4 * to.unit + i)) lines ∙ copied_in old.lines (4 * from.unit) (4 * to.unit) (4 * 2 ^ from.order) i source_lines target_lines less

  -- the line of the pointers
  first : line_of new.lines (4 * to.unit) ≡ line_of old.lines (4 * from.unit)
  first =
      let a : 4 * to.unit ≡ 4 * to.unit + 0 = omega arith in
      let b : 4 * from.unit + 0 ≡ 4 * from.unit = omega arith in
      ap (line_of new.lines) a ∙ inside 0 (omega (arith, pow_pos from.order)) ∙ ap (line_of old.lines) b

  place_goes : (line : ℕ) → place_of new to line + 4 * from.unit ≡ place_of old from line + 4 * to.unit
  place_goes line =
      let e : cond (nat_eq to.order 4) line (slot_of (line_of new.lines (4 * to.unit)) line) ≡ cond (nat_eq from.order 4) line (slot_of (line_of old.lines (4 * from.unit)) line) =
      ap (λ k. cond (nat_eq k 4) line (slot_of (line_of new.lines (4 * to.unit)) line)) same ∙ ap (λ p. cond (nat_eq from.order 4) line (slot_of p line)) first in
      omega (arith, e)

  line_goes : (line : ℕ) → has_line (lines_at old from.unit) line ≡ true → line_in new to line ≡ line_in old from line
  line_goes line has =
      let lies = lies_at old is from found line has in
      let p = place_of old from line in
      let a : place_of new to line ≡ 4 * to.unit + (p - 4 * from.unit) = omega (arith, place_goes line, lies.from) in
      let b : 4 * from.unit + (p - 4 * from.unit) ≡ p = omega (arith, lies.from) in
      ap (line_of new.lines) a ∙ inside (p - 4 * from.unit) (omega (arith, lies.from, lies.to)) ∙ ap (line_of old.lines) b

  pub copies : CopiesSegment old new from to
  copies = record { outside = outside; places = λ line has. place_goes line; lines = line_goes }

  pub copied_pointers : to.order < 4 → ArePointers (capacity_of to.order) (lines_at old from.unit) (line_of new.lines (4 * to.unit))
  copied_pointers less = subst (λ p. ArePointers (capacity_of to.order) (lines_at old from.unit) p) (sym first)
      (subst (λ k. ArePointers (capacity_of k) (lines_at old from.unit) (line_of old.lines (4 * from.unit))) (sym same) (pointers_there old is from found (omega (arith, less, same))))
