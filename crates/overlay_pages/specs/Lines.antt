use Rattle.std.specs.Prelude.{ℕ, ◌*◌, ◌/◌, ◌%◌, List, [], map, take, drop, replicate, slice_index_or, slice_index}
use Rattle.std.specs.List.{range_with_len}
use Rattle.sizes.specs.declared.TheConstants.{LINE_BYTES, PAGE_BYTES, PAGE_LINES}

-- The lines of a page, and its bytes by its lines.

-- How many lines and bytes a page has, where a range runs over them: names that don't unfold by themselves.
unfoldable pub lines_of_page : ℕ
lines_of_page = PAGE_LINES

unfoldable pub bytes_of_page : ℕ
bytes_of_page = PAGE_BYTES

unfoldable pub bytes_of_line : ℕ
bytes_of_line = LINE_BYTES

-- the lines of a page, one by one
unfoldable pub page_lines : (ℕ → List ℕ) → List (List ℕ)
page_lines line = map line (range_with_len 0 lines_of_page)

-- one of them
abbrev pub line_in_page : List (List ℕ) → ℕ → List ℕ
line_in_page lines line = slice_index_or lines line []

-- the bytes of a page: each is that of its line, at its place there
unfoldable pub bytes_in_lines : List (List ℕ) → List ℕ
bytes_in_lines lines = map (λ i. slice_index (line_in_page lines (i / LINE_BYTES)) (i % LINE_BYTES)) (range_with_len 0 bytes_of_page)

-- the lines that a page's bytes make
unfoldable pub lines_of_bytes : List ℕ → List (List ℕ)
lines_of_bytes bytes = page_lines (λ i. take LINE_BYTES (drop (LINE_BYTES * i) bytes))

-- a page of zero bytes
unfoldable pub zero_line : List ℕ
zero_line = replicate bytes_of_line 0

unfoldable pub zero_page : List (List ℕ)
zero_page = page_lines (λ _. zero_line)
