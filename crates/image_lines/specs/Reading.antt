use Rattle.std.specs.Prelude.{◌≡◌, ℕ, ◌+◌, ◌<◌, List, [], ◌∷◌, ◌++◌, length, Option, Some, None, Result, Ok, Err, ◌⊎◌}
use Rattle.std.specs.List.{AllByRecursion}
use Rattle.sizes.specs.declared.TheConstants.{LINE_BYTES}
use Rattle.image_lines.specs.declared.lines_error.LinesError.{LinesError}
use Rattle.image_lines.specs.declared.lines_error.LinesError.TheVariants.{BadLine, Memory}
use Rattle.image_lines.specs.Digits.{byte_digits, bytes_digits, digit}
use Rattle.image_lines.specs.Lines.{ArePieces, IsByte, IsPiece, IsWhole, bytes_of, image_line, lines_of, printed}

-- How a file is read as lines.

-- Line k is the first that isn't well formed: whole lines stand before it, and where it should stand there is neither a whole line
-- nor a last one. An empty file has one line, which is empty.
pub record IsFirstBad (k : ℕ) (file : List ℕ) : Type 0 where
  pub front : List (List ℕ)
  pub rest : List ℕ
  pub number : k ≡ length front + 1
  pub whole : AllByRecursion IsWhole front
  pub text : file ≡ lines_of front ++ rest
  pub there : (front ≡ []) ⊎ (0 < length rest)
  pub bad : (piece more : List ℕ) → IsPiece piece → rest ≡ image_line piece ++ more → (length piece ≡ LINE_BYTES) ⊎ (more ≡ []) → ⊥

-- the bytes that the lines of a file say, or which line is the first bad one
abbrev pub ReadsLines : {X : Type 0} → (X → List ℕ) → List ℕ → Result X LinesError → Type 0
ReadsLines view file (Ok x) = (pieces : List (List ℕ)) × ArePieces pieces × (file ≡ lines_of pieces) × (view x ≡ bytes_of pieces)
ReadsLines view file (Err (BadLine k)) = IsFirstBad k file
ReadsLines view file (Err Memory) = Unit {0}

-- What is printed of bytes is read as those bytes.
abbrev pub GivesBack : {X : Type 0} → (X → List ℕ) → List ℕ → Result X LinesError → Type 0
GivesBack view bytes (Ok x) = view x ≡ bytes
GivesBack view bytes (Err (BadLine k)) = ⊥
GivesBack view bytes (Err Memory) = Unit {0}

abbrev pub ReadsBack : {X : Type 0} → (X → List ℕ) → List ℕ → Result X LinesError → Type 0
ReadsBack view file result =
    (bytes : List ℕ) → 0 < length bytes → AllByRecursion IsByte bytes → file ≡ printed bytes → GivesBack view bytes result

-- Of one line.

-- the digit that a character is, or that it is none
abbrev pub IsDigit : ℕ → Option ℕ → Type 0
IsDigit c (Some d) = (d < 16) × (digit d ≡ c)
IsDigit c None = (d : ℕ) → d < 16 → digit d ≡ c → ⊥

-- the byte that two characters say, or that they say none
abbrev pub IsByteOf : ℕ → ℕ → Option ℕ → Type 0
IsByteOf high low (Some b) = (b < 256) × (byte_digits b ≡ high ∷ low ∷ [])
IsByteOf high low None = (b : ℕ) → b < 256 → byte_digits b ≡ high ∷ low ∷ [] → ⊥

-- that a text begins with no byte
abbrev pub HasNoByte : List ℕ → Type 0
HasNoByte text = (b : ℕ) (more : List ℕ) → b < 256 → text ≡ byte_digits b ++ more → ⊥

-- bytes that were read, up to where none stands
pub record HaveBytes (old new text rest : List ℕ) : Type 0 where
  pub piece : List ℕ
  pub each : AllByRecursion IsByte piece
  pub added : new ≡ old ++ piece
  pub so_far : text ≡ bytes_digits piece ++ rest

abbrev pub ReadsBytes : List ℕ → List ℕ → List ℕ → List ℕ → Type 0
ReadsBytes old new text rest = HaveBytes old new text rest × HasNoByte rest

-- what stands behind a word, or that the word doesn't stand there
abbrev pub Begins : List ℕ → List ℕ → Option (List ℕ) → Type 0
Begins word text (Some rest) = text ≡ word ++ rest
Begins word text None = (rest : List ℕ) → text ≡ word ++ rest → ⊥

-- a line was read, or none stands there
abbrev pub ReadsLine : List ℕ → List ℕ → List ℕ → Option (List ℕ) → Type 0
ReadsLine old new text (Some rest) = (piece : List ℕ) × IsPiece piece × (new ≡ old ++ piece) × (text ≡ image_line piece ++ rest)
ReadsLine old new text None = (piece rest : List ℕ) → IsPiece piece → text ≡ image_line piece ++ rest → ⊥
