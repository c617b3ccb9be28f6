use Rattle.std.proofs.Common.{◌≡◌, ℕ, ◌<◌, List, length, sym, ap, ◌∙◌}
use Rattle.std.specs.Prelude.{Result, Ok, Err}
use Rattle.std.specs.List.{AllByRecursion}
use Rattle.image_lines.specs.declared.lines_error.LinesError.{LinesError}
use Rattle.image_lines.specs.declared.lines_error.LinesError.TheVariants.{BadLine, Memory}
use Rattle.image_lines.specs.Lines.{IsByte, printed}
use Rattle.image_lines.specs.Reading.{GivesBack, ReadsLines}
use Rattle.image_lines.specs.Said.{SaysLines, said_by}
use Rattle.image_lines.specs.SaidLaws.{said_printed, says_only}

-- What is read of a file is what it says.

pub as_said : {X : Type 0} (view : X → List ℕ) (file : List ℕ) (r : Result X LinesError) → ReadsLines view file r → SaysLines view file r
as_said view file (Ok x) reads = says_only file (Ok (view x)) reads
as_said view file (Err (BadLine k)) reads = says_only file (Err k) reads
as_said view file (Err Memory) reads = tt

-- So what is printed of bytes is read as those bytes.
pub given_back : {X : Type 0} (view : X → List ℕ) (file : List ℕ) (r : Result X LinesError) → ReadsLines view file r → (bytes : List ℕ) → 0 < length bytes
    → AllByRecursion IsByte bytes → file ≡ printed bytes → GivesBack view bytes r
given_back {X = X} view file r reads bytes some each e = at r (as_said view file r reads)
  where
    is : said_by file ≡ Ok bytes
    is = ap said_by e ∙ said_printed bytes some each

    at : (s : Result X LinesError) → SaysLines view file s → GivesBack view bytes s
    at (Ok x) says = let same : Ok (view x) ≡ Ok bytes = sym says ∙ is in cc
    at (Err (BadLine k)) says = let same : Err k ≡ Ok bytes = sym says ∙ is in cc
    at (Err Memory) says = tt
