use Rattle.std.specs.Prelude.{◌≡◌, ℕ, ◌+◌, ◌-◌, Bool, ◌&&◌, cond, nat_eq, nat_le, nat_lt, List, [], ◌∷◌, ◌++◌, length, take, drop, Result, Ok, Err}
use Rattle.std.specs.List.{list_all}
use Rattle.std.specs.Result.{result_unwrap_or}
use Rattle.std.specs.Str.{bytes_eq}
use Rattle.hex.specs.Hex.{decode_of}
use Rattle.sizes.specs.declared.TheConstants.{LINE_BYTES}
use Rattle.image_lines.specs.declared.lines_error.LinesError.{LinesError}
use Rattle.image_lines.specs.declared.lines_error.LinesError.TheVariants.{BadLine, Memory}
use Rattle.image_lines.specs.Lines.{image_line}

-- What a file says: the bytes that its lines say, or the number of its first line that isn't well formed.

-- A file is cut behind each 0A; what stands behind the last one is a line too.
abbrev pub in_front : ℕ → List (List ℕ) → List (List ℕ)
in_front c [] = (c ∷ []) ∷ []
in_front c (line ∷ lines) = (c ∷ line) ∷ lines

unfoldable pub lines_in : List ℕ → List (List ℕ)
lines_in [] = []
lines_in (c ∷ text) = cond (nat_eq c 10) ((10 ∷ []) ∷ lines_in text) (in_front c (lines_in text))

-- The bytes of a line: its digits stand behind 6 bytes and before the last one. Capital letters are digits here too.
unfoldable pub piece_of : List ℕ → List ℕ
piece_of line = result_unwrap_or (decode_of (take (length line - 7) (drop 6 line))) []

-- It is well formed where a line may say those bytes, and it is the line that says them.
abbrev pub is_piece : List ℕ → Bool
is_piece bytes = nat_lt 0 (length bytes) && nat_le (length bytes) LINE_BYTES && list_all (λ b. nat_lt b 256) bytes

unfoldable pub is_line : List ℕ → Bool
is_line line = is_piece (piece_of line) && bytes_eq (image_line (piece_of line)) line

-- one that isn't the last says 64 bytes
unfoldable pub is_whole : List ℕ → Bool
is_whole line = is_line line && nat_eq (length (piece_of line)) LINE_BYTES

-- behind a line that says bytes
abbrev pub behind : List ℕ → Result (List ℕ) ℕ → Result (List ℕ) ℕ
behind piece (Ok bytes) = Ok (piece ++ bytes)
behind piece (Err k) = Err (k + 1)

unfoldable pub said_in : List (List ℕ) → Result (List ℕ) ℕ
said_in [] = Err 1
said_in (line ∷ []) = cond (is_line line) (Ok (piece_of line)) (Err 1)
said_in (line ∷ next ∷ more) = cond (is_whole line) (behind (piece_of line) (said_in (next ∷ more))) (Err 1)

unfoldable pub said_by : List ℕ → Result (List ℕ) ℕ
said_by file = said_in (lines_in file)

-- what came of reading a file is what it says
abbrev pub SaysLines : {X : Type 0} → (X → List ℕ) → List ℕ → Result X LinesError → Type 0
SaysLines view file (Ok x) = said_by file ≡ Ok (view x)
SaysLines view file (Err (BadLine k)) = said_by file ≡ Err k
SaysLines view file (Err Memory) = Unit {0}
