use Rattle.std.specs.Prelude.{◌≡◌, ℕ, suc, zero, ◌<◌, ◌≤◌, nat_le, cond, List, [], ◌∷◌, ◌++◌, length, take, drop, codes}
use Rattle.std.specs.List.{flat_map, AllByRecursion}
use Rattle.sizes.specs.declared.TheConstants.{LINE_BYTES}
use Rattle.hex.specs.Hex.{encode_lower}

-- The lines that say bytes.

-- a line: the word, a blank, two digits for each byte, the higher one first, and the end
unfoldable pub image_line : List ℕ → List ℕ
image_line bytes = codes "image " ++ (encode_lower bytes ++ 10 ∷ [])

abbrev pub lines_of : List (List ℕ) → List ℕ
lines_of pieces = flat_map image_line pieces

-- the bytes that lines say, one behind the other
abbrev pub bytes_of : List (List ℕ) → List ℕ
bytes_of pieces = flat_map (λ piece. piece) pieces

abbrev pub IsByte : ℕ → Type 0
IsByte b = b < 256

-- what a line may say
pub record IsPiece (bytes : List ℕ) : Type 0 where
  pub some : 0 < length bytes
  pub few : length bytes ≤ LINE_BYTES
  pub each : AllByRecursion IsByte bytes

-- what one may say that isn't the last
abbrev pub IsWhole : List ℕ → Type 0
IsWhole piece = IsPiece piece × (length piece ≡ LINE_BYTES)

abbrev pub ArePieces : List (List ℕ) → Type 0
ArePieces [] = ⊥
ArePieces (piece ∷ []) = IsPiece piece
ArePieces (piece ∷ next ∷ more) = IsPiece piece × (length piece ≡ LINE_BYTES) × ArePieces (next ∷ more)

-- Bytes in pieces, at most so many whole ones and a last one: and the lines that are printed of bytes.
unfoldable pub pieces_up_to : ℕ → List ℕ → List (List ℕ)
pieces_up_to zero bytes = bytes ∷ []
pieces_up_to (suc more) bytes =
    cond (nat_le (length bytes) LINE_BYTES) (bytes ∷ []) (take LINE_BYTES bytes ∷ pieces_up_to more (drop LINE_BYTES bytes))

abbrev pub pieces_of : List ℕ → List (List ℕ)
pieces_of bytes = pieces_up_to (length bytes) bytes

abbrev pub printed : List ℕ → List ℕ
printed bytes = lines_of (pieces_of bytes)
