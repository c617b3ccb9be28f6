use Rattle.std.specs.Prelude.{ℕ, ◌+◌, ◌-◌, List, [], ◌++◌, length, take, drop, replicate, slice_index_or}

-- Lines of 64 bytes, as lists.

-- n lines of zero bytes
unfoldable pub zero_lines : ℕ → List (List ℕ)
zero_lines n = replicate n (replicate 64 0)

-- the line of a number, which is there
abbrev pub line_of : List (List ℕ) → ℕ → List ℕ
line_of lines at = slice_index_or lines at []

-- zero lines behind these, until there are as many as wanted
abbrev pub made_up_to : ℕ → List (List ℕ) → List (List ℕ)
made_up_to wanted lines = lines ++ replicate (wanted - length lines) (replicate 64 0)

-- the first n of some lines were put over those from one on
abbrev pub with_put : List (List ℕ) → ℕ → List (List ℕ) → ℕ → List (List ℕ)
with_put lines to given n = take to lines ++ take n given ++ drop (to + n) lines

-- the lines after the n from `from` on were copied over the n from `to` on
abbrev pub with_copied : List (List ℕ) → ℕ → ℕ → ℕ → List (List ℕ)
with_copied lines from to n = with_put lines to (drop from lines) n
