use Rattle.std.specs.Prelude.{◌≡◌, ℕ, ◌/◌, ◌%◌, ◌^◌, ◌<◌, ◌⊎◌, List, [], ◌∷◌, length, get_or, is_some, IsSome, refl, slice_set, true, false}
use Rattle.std.proofs.Common.{inl, inr, subst, sym, ap, ◌∙◌, arith}
use Rattle.std.specs.List as list
use Rattle.std.specs.List.{AllZip}
use Rattle.std.specs.FinMap.{get, insert}
use Rattle.std.proofs.lemmas.List.{length-append}
use Rattle.number_maps.specs.Rows.{IsAt, IsGap, RowsRise, map_of}
use Rattle.number_maps.specs.RowLaws as laws
use Rattle.number_maps.specs.RowLaws.{map_insert, map_remove, map_set, rise_insert, rise_remove, rise_set}
use Rattle.overlay_bits.specs.Lines.{AreLines, lines_before, lines_behind, with_line, without_line}
use Rattle.page_set.specs.declared.TheConstants.{CHUNK_PAGES}
use Rattle.page_set.specs.Sets.{CanInsert, IsChunk, IsPut, Members, places_in}
use Rattle.page_set.specs.Laws.{are_none}
use Rattle.page_set.specs.Kept.{AreSetRows}
use Rattle.page_set.proofs.Chunks.{are_gone, are_put, put_last, put_nowhere, put_with, put_without}

-- Sets, by the rows that they keep.

pub kept_none : AreSetRows []
kept_none = record { rise = tt; are = are_none (map_of []) refl }

-- The bits of a chunk.

pub had : (rows : List (ℕ × List ℕ)) (k i : ℕ) (row : ℕ × List ℕ) → RowsRise 0 rows → IsAt rows k i → row ≡ get_or rows i row
    → places_in (get (map_of rows) k) ≡ row.1
had rows k i row rise at is = ap places_in (sym (laws.got (map_of rows) rows k i row refl rise at is))

pub had_none : (rows : List (ℕ × List ℕ)) (k i : ℕ) → IsGap rows k i → places_in (get (map_of rows) k) ≡ []
had_none rows k i gap = ap places_in (laws.got_gap rows k i gap)

longer : (places : List ℕ) (place : ℕ) → 0 < length (with_line places place)
longer places place = let is = length-append (lines_before places place) (place ∷ lines_behind places place) in omega (arith, is)

chunk_low : (page : ℕ) → page < 2 ^ 64 → page / CHUNK_PAGES < 2 ^ 58
chunk_low page low = omega (arith, low)

chunk_with : (page : ℕ) (places bits : List ℕ) → page < 2 ^ 64 → bits ≡ with_line places (page % CHUNK_PAGES) → AreLines bits → IsChunk (page / CHUNK_PAGES) bits
chunk_with page places bits low is are =
    let long = ap length is in let some = longer places (page % CHUNK_PAGES) in
    record { low = chunk_low page low; are = are; some = omega (arith, long, some) }

-- A page put in, where its chunk has a row and where it has none.

module _ (rows : List (ℕ × List ℕ)) (page i : ℕ) (bits : List ℕ) (low : page < 2 ^ 64) (kept : AreSetRows rows) (are : AreLines bits) where
  pub kept_with : (places : List ℕ) → IsAt rows (page / CHUNK_PAGES) i → bits ≡ with_line places (page % CHUNK_PAGES)
      → AreSetRows (slice_set rows i (page / CHUNK_PAGES, bits))
  kept_with places at is = record {
    rise = rise_set 0 rows (page / CHUNK_PAGES) i bits kept.rise at;
    are = are_put (map_of rows) (map_of (slice_set rows i (page / CHUNK_PAGES, bits))) (page / CHUNK_PAGES) bits kept.are
        (map_set rows (page / CHUNK_PAGES) i bits kept.rise at) (chunk_with page places bits low is are);
  }

  pub puts_with : (row : ℕ × List ℕ) → IsAt rows (page / CHUNK_PAGES) i → row ≡ get_or rows i row → bits ≡ with_line row.1 (page % CHUNK_PAGES)
      → IsPut (map_of rows) page true (map_of (slice_set rows i (page / CHUNK_PAGES, bits)))
  puts_with row at found is =
      put_with (map_of rows) (map_of (slice_set rows i (page / CHUNK_PAGES, bits))) page row.1 (had rows (page / CHUNK_PAGES) i row kept.rise at found)
      (map_set rows (page / CHUNK_PAGES) i bits kept.rise at ∙ ap (insert (map_of rows) (page / CHUNK_PAGES)) is)

  pub kept_new : (none : List ℕ) (new : List (ℕ × List ℕ)) → IsGap rows (page / CHUNK_PAGES) i → new ≡ list.insert rows i (page / CHUNK_PAGES, bits)
      → bits ≡ with_line none (page % CHUNK_PAGES) → AreSetRows new
  kept_new none new gap put is = subst AreSetRows (sym put) (record {
    rise = rise_insert 0 rows (page / CHUNK_PAGES) i bits kept.rise (omega arith) gap;
    are = are_put (map_of rows) (map_of (list.insert rows i (page / CHUNK_PAGES, bits))) (page / CHUNK_PAGES) bits kept.are
        (map_insert rows (page / CHUNK_PAGES) i bits gap) (chunk_with page none bits low is are);
  })

  pub puts_new : (none : List ℕ) (new : List (ℕ × List ℕ)) → IsGap rows (page / CHUNK_PAGES) i → new ≡ list.insert rows i (page / CHUNK_PAGES, bits)
      → none ≡ [] → bits ≡ with_line none (page % CHUNK_PAGES) → IsPut (map_of rows) page true (map_of new)
  puts_new none new gap put empty is =
      put_with (map_of rows) (map_of new) page none (had_none rows (page / CHUNK_PAGES) i gap ∙ sym empty)
      (ap map_of put ∙ map_insert rows (page / CHUNK_PAGES) i bits gap ∙ ap (insert (map_of rows) (page / CHUNK_PAGES)) is)

  -- A page taken out, where others are left in its chunk.

  pub kept_without : IsAt rows (page / CHUNK_PAGES) i → 0 < length bits → AreSetRows (slice_set rows i (page / CHUNK_PAGES, bits))
  kept_without at some = record {
    rise = rise_set 0 rows (page / CHUNK_PAGES) i bits kept.rise at;
    are = are_put (map_of rows) (map_of (slice_set rows i (page / CHUNK_PAGES, bits))) (page / CHUNK_PAGES) bits kept.are
        (map_set rows (page / CHUNK_PAGES) i bits kept.rise at) (record { low = chunk_low page low; are = are; some = some });
  }

  pub puts_without : (row : ℕ × List ℕ) → IsAt rows (page / CHUNK_PAGES) i → row ≡ get_or rows i row → bits ≡ without_line row.1 (page % CHUNK_PAGES)
      → IsPut (map_of rows) page false (map_of (slice_set rows i (page / CHUNK_PAGES, bits)))
  puts_without row at found is =
      put_without (map_of rows) (map_of (slice_set rows i (page / CHUNK_PAGES, bits))) page row.1 (had rows (page / CHUNK_PAGES) i row kept.rise at found)
      (map_set rows (page / CHUNK_PAGES) i bits kept.rise at ∙ ap (insert (map_of rows) (page / CHUNK_PAGES)) is)

-- where none is left

nil : (xs : List ℕ) → length xs ≡ 0 → xs ≡ []
nil [] h = refl
nil (x ∷ xs) h = absurd (omega (arith, h))

module _ (rows new : List (ℕ × List ℕ)) (page i : ℕ) (kept : AreSetRows rows) (at : IsAt rows (page / CHUNK_PAGES) i) (gone : new ≡ list.remove rows i) where
  pub kept_last : AreSetRows new
  kept_last = subst AreSetRows (sym gone) (record {
    rise = rise_remove 0 rows i kept.rise at.there;
    are = are_gone (map_of rows) (map_of (list.remove rows i)) (page / CHUNK_PAGES) kept.are (map_remove rows (page / CHUNK_PAGES) i kept.rise at);
  })

  pub puts_last : (row : ℕ × List ℕ) (bits : List ℕ) → row ≡ get_or rows i row → bits ≡ without_line row.1 (page % CHUNK_PAGES) → length bits ≡ 0
      → IsPut (map_of rows) page false (map_of new)
  puts_last row bits found is none =
      put_last (map_of rows) (map_of new) page row.1 (had rows (page / CHUNK_PAGES) i row kept.rise at found) (sym is ∙ nil bits none)
      (ap map_of gone ∙ map_remove rows (page / CHUNK_PAGES) i kept.rise at)

-- and where its chunk has no row
pub puts_nowhere : (rows : List (ℕ × List ℕ)) (page i : ℕ) → IsGap rows (page / CHUNK_PAGES) i → IsPut (map_of rows) page false (map_of rows)
puts_nowhere rows page i gap = put_nowhere (map_of rows) page (laws.got_gap rows (page / CHUNK_PAGES) i gap)

-- Room.

-- there is room for one more row, where its chunk has none
pub row_left : (rows : List (ℕ × List ℕ)) (k i room : ℕ) → IsGap rows k i → IsSome (get (map_of rows) k) ⊎ (length rows < room) → length rows < room
row_left rows k i room gap (inl some) = let no = sym some ∙ ap is_some (laws.got_gap rows k i gap) in cc
row_left rows k i room gap (inr less) = less

pub row_room : (set : Members) (rows : List (ℕ × List ℕ)) (room page : ℕ) → ◌≡◌ {A = Members} (record { chunks = map_of rows; room = room }) set → RowsRise 0 rows
    → CanInsert set page → IsSome (get (map_of rows) (page / CHUNK_PAGES)) ⊎ (length rows < room)
row_room set rows room page same rise has = by (subst (λ (s : Members). CanInsert s page) (sym same) has)
  where
    by : CanInsert (record { chunks = map_of rows; room = room }) page → IsSome (get (map_of rows) (page / CHUNK_PAGES)) ⊎ (length rows < room)
    by (inl some) = inl some
    by (inr less) = inr (omega (arith, less, laws.counted (map_of rows) rows refl rise))

-- A copy.

pub rows_cloned : (rows copies : List (ℕ × List ℕ)) → AllZip (λ row copy. (copy.0 ≡ row.0) × (copy.1 ≡ row.1)) rows copies → copies ≡ rows
rows_cloned [] [] each = refl
rows_cloned [] (copy ∷ copies) each = absurd each
rows_cloned (row ∷ rows) [] each = absurd each
rows_cloned (row ∷ rows) (copy ∷ copies) each = λ i. (each.0.0 i, each.0.1 i) ∷ rows_cloned rows copies each.1 i
