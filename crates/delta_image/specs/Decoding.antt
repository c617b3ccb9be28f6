use Rattle.std.specs.Prelude.{◌≡◌, ℕ, ◌≤◌, Bool, ◌&&◌, nat_le, nat_lt, List, ◌++◌, length, Option, Some, None, Result, Ok, Err}
use Rattle.std.specs.List.{AllByRecursion}
use Rattle.sizes.specs.declared.TheConstants.{PAGE_END}
use Rattle.overlay_bits.specs.Kept.{lines_of_word}
use Rattle.ovl_io.specs.declared.process_state.FaultKind.{FaultKind}
use Rattle.delta_image.specs.declared.delta.Delta.{Delta}
use Rattle.delta_image.specs.declared.delta.DeltaPage.{DeltaPage}
use Rattle.delta_image.specs.declared.image_error.ImageError.{ImageError}
use Rattle.delta_image.specs.declared.image_error.ImageError.TheVariants.{BadImage, Memory}
use Rattle.delta_image.specs.Line.{Line, IsLine, numbers_of}
use Rattle.delta_image.specs.Image.{kind_code}
use Rattle.delta_image.specs.Fine.{Ascend, IsImageOf, IsPage}

-- What came of decoding: the delta that the bytes are the image of, and no other one; or they are the image of none, or there was no memory.
abbrev pub IsRefusal : List ℕ → ImageError → Type 0
IsRefusal bytes BadImage = (delta : Delta) → IsImageOf bytes delta → ⊥
IsRefusal bytes Memory = Unit {0}

abbrev pub Decodes : List ℕ → Result Delta ImageError → Type 0
Decodes bytes (Ok delta) = IsImageOf bytes delta
Decodes bytes (Err error) = IsRefusal bytes error

abbrev pub DecodesAlone : List ℕ → Result Delta ImageError → Type 0
DecodesAlone bytes (Ok delta) = (other : Delta) → IsImageOf bytes other → other ≡ delta
DecodesAlone bytes (Err error) = Unit {0}

-- Why no value was read at the front of bytes: no value's part stands there, or there was no memory.
abbrev pub IsAbsent : {V : Type 0} → (V → Type 0) → (V → List ℕ) → List ℕ → ImageError → Type 0
IsAbsent {V} IsValue part bytes BadImage = (value : V) (rest : List ℕ) → IsValue value → bytes ≡ part value ++ rest → ⊥
IsAbsent {V} IsValue part bytes Memory = Unit {0}

-- What came of reading there: a value whose part stands there, and the bytes behind it; or none.
abbrev pub Reads : {X V : Type 0} → (V → Type 0) → (V → List ℕ) → (X → V × List ℕ) → List ℕ → Result X ImageError → Type 0
Reads {X} {V} IsValue part view bytes (Ok x) = IsValue (view x).0 × (bytes ≡ part (view x).0 ++ (view x).1)
Reads {X} {V} IsValue part view bytes (Err error) = IsAbsent {V = V} IsValue part bytes error

-- the kind that has a code, or that none has it
abbrev pub IsKind : ℕ → Option FaultKind → Type 0
IsKind code (Some kind) = kind_code kind ≡ code
IsKind code None = (kind : FaultKind) → kind_code kind ≡ code → ⊥

-- whether a page may have this number, where those below one are passed
abbrev pub is_number : ℕ → ℕ → Bool
is_number from page = nat_le from page && nat_lt page PAGE_END

-- the lines that a vector gives
abbrev pub AreLinesOf : ℕ → List Line → Type 0
AreLinesOf given lines = (numbers_of lines ≡ lines_of_word given) × AllByRecursion IsLine lines

-- a page whose number isn't below one
abbrev pub IsPageFrom : ℕ → DeltaPage → Type 0
IsPageFrom from page = (from ≤ page.page) × IsPage page

-- so many pages
abbrev pub AreManyPages : ℕ → List DeltaPage → Type 0
AreManyPages count pages = (length pages ≡ count) × Ascend IsPage 0 pages
