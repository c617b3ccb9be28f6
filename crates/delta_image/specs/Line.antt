use Rattle.std.specs.Prelude.{◌≡◌, ℕ, List, length, map}
use Rattle.sizes.specs.declared.TheConstants.{LINE_BYTES}

-- a line of a page: its number, and its bytes
abbrev pub Line : Type 0
Line = ℕ × List ℕ

abbrev pub IsLine : Line → Type 0
IsLine line = length line.1 ≡ LINE_BYTES

abbrev pub numbers_of : List Line → List ℕ
numbers_of lines = map (λ line. line.0) lines
