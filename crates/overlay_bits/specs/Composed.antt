use Rattle.std.proofs.Common.{◌≡◌, ℕ, ◌<◌, cond, List, [], map, length, get_or, slice_index_or, arith}
use Rattle.std.specs.List.{range_with_len}
use Rattle.std.proofs.lemmas.List.FromFn.{get_or-map-range_with_len, length-map-range_with_len}
use Rattle.sizes.specs.declared.TheConstants.{PAGE_LINES}
use Rattle.overlay_bits.specs.Lines.{has_line}

-- Pages composed of two pages.

-- a line that an overlay has is that of the overlay, and any other one is that of the frame
abbrev pub line_composed : List (List ℕ) → List (List ℕ) → List ℕ → ℕ → List ℕ
line_composed frame over lines i = cond (has_line lines i) (slice_index_or over i []) (slice_index_or frame i [])

-- the first n lines
unfoldable pub composed_lines : List (List ℕ) → List (List ℕ) → List ℕ → ℕ → List (List ℕ)
composed_lines frame over lines n = map (line_composed frame over lines) (range_with_len 0 n)

-- all lines of a page
abbrev pub composed : List (List ℕ) → List (List ℕ) → List ℕ → List (List ℕ)
composed frame over lines = composed_lines frame over lines PAGE_LINES

-- Each by its number.

pub composed_at : (frame over : List (List ℕ)) (lines : List ℕ) (n i : ℕ) (d : List ℕ) → i < n
    → get_or (composed_lines frame over lines n) i d ≡ line_composed frame over lines i
unfolding composed_lines
composed_at frame over lines n i d lt = get_or-map-range_with_len (line_composed frame over lines) 0 n i i d lt (omega arith)

pub composed_count : (frame over : List (List ℕ)) (lines : List ℕ) (n : ℕ) → length (composed_lines frame over lines n) ≡ n
unfolding composed_lines
composed_count frame over lines n = length-map-range_with_len (line_composed frame over lines) 0 n
