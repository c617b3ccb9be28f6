use Rattle.std.specs.Prelude.{ℕ, ◌/◌, ◌%◌, List, [], ◌∷◌, slice_index}
use Rattle.std.specs.List.{flat_map}
use Rattle.hex.specs.Hex.{lower_digits}

-- a digit of the kit's table, the two of a byte, and those of bytes
abbrev pub digit : ℕ → ℕ
digit d = slice_index lower_digits d

abbrev pub byte_digits : ℕ → List ℕ
byte_digits b = digit (b / 16) ∷ digit (b % 16) ∷ []

abbrev pub bytes_digits : List ℕ → List ℕ
bytes_digits bytes = flat_map byte_digits bytes
