use Rattle.std.specs.Prelude.{◌≡◌, ℕ, false, if◌then◌else◌, List}
use Rattle.number_maps.specs.Rows.{RowsRise, map_of}
use Rattle.page_set.specs.Sets.{AreChunks, Chunks, holds}
use Rattle.overlay_bits.specs.Below.{is_between}

-- What a set keeps: rows of a chunk and its bits, by rising chunks. This is true of the rows of every set.
pub record AreSetRows (rows : List (ℕ × List ℕ)) : Type 0 where
  pub rise : RowsRise 0 rows
  pub are : AreChunks (map_of rows)

-- the members from one page to below another one were taken out
abbrev pub IsCutTo : Chunks → ℕ → ℕ → Chunks → Type 0
IsCutTo old from to new = (q : ℕ) → holds new q ≡ (if is_between from to q then false else holds old q)
