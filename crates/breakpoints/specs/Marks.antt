use Rattle.std.specs.Prelude.{◌≡◌, ℕ, ◌/◌, ◌%◌, List, [], length, slice_index_or, true, nat_eq}
use Rattle.std.specs.List.{list_any}
use Rattle.overlay_bits.specs.Lines.{has_line}
use Rattle.breakpoints.specs.declared.TheConstants.{MARKED_PIECES, PIECE_BYTES, PIECE_WORDS}

-- Marks of the words with addresses.

-- the mark that the piece of an address has, by its place, and the number of its word there
abbrev pub piece_of : ℕ → ℕ
piece_of address = address / PIECE_BYTES % MARKED_PIECES

abbrev pub piece_marks : List (List ℕ) → ℕ → List ℕ
piece_marks marks address = slice_index_or marks (piece_of address) []

abbrev pub word_place : ℕ → ℕ
word_place address = address / 4 % PIECE_WORDS

-- each address is marked
pub record AreMarked (addresses : List ℕ) (marks : List (List ℕ)) : Type 0 where
  pub count : length marks ≡ MARKED_PIECES
  pub each : (address : ℕ) → list_any (nat_eq address) addresses ≡ true → has_line (piece_marks marks address) (word_place address) ≡ true
