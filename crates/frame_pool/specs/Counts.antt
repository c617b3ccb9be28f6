use Rattle.std.specs.Prelude.{ℕ, ◌+◌, ◌-◌, List, replicate, slice_index_or, slice_set}

-- How many pages name each frame.

-- no page names any of these frames
unfoldable pub none_shared : ℕ → List ℕ
none_shared frames = replicate frames 0

-- how many pages name a frame, which is there
abbrev pub sharers_of : List ℕ → ℕ → ℕ
sharers_of counts frame = slice_index_or counts frame 0

-- one more page names a frame, and one fewer
abbrev pub held : List ℕ → ℕ → List ℕ
held counts frame = slice_set counts frame (sharers_of counts frame + 1)

abbrev pub released : List ℕ → ℕ → List ℕ
released counts frame = slice_set counts frame (sharers_of counts frame - 1)
