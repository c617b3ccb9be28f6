use Rattle.std.specs.Prelude.{◌≡◌, ℕ, zero, suc, Bool, ◌&&◌, cond, nat_eq, List, [], ◌∷◌, length, take, drop, get_or, slice_index, Option, Some, None, Result, Ok, Err}
use Rattle.std.specs.Int.{w32, w64, from_le_bytes}
use Rattle.std.specs.Str.{bytes_eq}
use Rattle.sizes.specs.declared.TheConstants.{LINE_BYTES}
use Rattle.overlay_bits.specs.Kept.{lines_of_word}
use Rattle.ovl_io.specs.declared.process_state.FaultKind.{FaultKind}
use Rattle.ovl_io.specs.declared.process_state.FaultKind.TheVariants.{Align, Fetch, Illegal, Load, Store, Break}
use Rattle.ovl_io.specs.declared.process_state.ProcessState.{ProcessState}
use Rattle.ovl_io.specs.declared.process_state.ProcessState.TheVariants.{Running, Exited, Faulted}
use Rattle.rv_execute.specs.Registers.{Registers}
use Rattle.delta_image.specs.declared.delta.Delta.{Delta}
use Rattle.delta_image.specs.declared.delta.DeltaPage.{DeltaPage}
use Rattle.delta_image.specs.declared.encoding.TheConstants.{PAGE_HEAD_BYTES}
use Rattle.delta_image.specs.declared.image_error.ImageError.{ImageError}
use Rattle.delta_image.specs.declared.image_error.ImageError.TheVariants.{BadImage, Memory}
use Rattle.delta_image.specs.Line.{Line}
use Rattle.delta_image.specs.Image.{image_of, page_part, state_part}
use Rattle.delta_image.specs.FineTest.{is_fine}

-- The delta that bytes are the image of, where there is one: that which stands in them part by part, if it is fine and they are its image.

-- What stands in bytes, whether or not they are an image: each part where an image has it.
abbrev pub kind_in : ℕ → FaultKind
kind_in code = get_or (Align ∷ Fetch ∷ Illegal ∷ Load ∷ Store ∷ []) code Break

abbrev pub state_in : List ℕ → ProcessState
state_in bytes =
    cond (nat_eq (slice_index bytes 0) 1) (Exited (slice_index bytes 1)) (
    cond (nat_eq (slice_index bytes 0) 2) (Faulted (kind_in (slice_index bytes 1)) (from_le_bytes w64 (take 8 (drop 2 bytes)))) Running)

-- so many words, and the registers: the pc, then x1 to x31
unfoldable pub words_in : ℕ → List ℕ → List ℕ
words_in zero bytes = []
words_in (suc n) bytes = from_le_bytes w64 (take 8 bytes) ∷ words_in n (drop 8 bytes)

unfoldable pub registers_in : List ℕ → Registers
registers_in bytes = record { pc = from_le_bytes w64 (take 8 bytes); x = 0 ∷ words_in 31 (drop 8 bytes) }

-- the lines with these numbers, a page, and so many pages
abbrev pub lines_in : List ℕ → List ℕ → List Line
lines_in [] bytes = []
lines_in (n ∷ ns) bytes = (n, take LINE_BYTES bytes) ∷ lines_in ns (drop LINE_BYTES bytes)

unfoldable pub page_in : List ℕ → DeltaPage
page_in bytes = record {
  page = from_le_bytes w32 (take 4 bytes);
  perms = record { 0 = slice_index bytes 4 };
  lines = lines_in (lines_of_word (from_le_bytes w64 (take 8 (drop 5 bytes)))) (drop PAGE_HEAD_BYTES bytes);
}

abbrev pub pages_in : ℕ → List ℕ → List DeltaPage
pages_in zero bytes = []
pages_in (suc n) bytes = page_in bytes ∷ pages_in n (drop (length (page_part (page_in bytes))) bytes)

-- where the registers begin, and how many pages there are
abbrev pub behind_state : List ℕ → List ℕ
behind_state bytes = drop (length (state_part (state_in bytes))) bytes

abbrev pub all_pages_in : List ℕ → List DeltaPage
all_pages_in bytes = pages_in (from_le_bytes w32 (take 4 bytes)) (drop 4 bytes)

unfoldable pub delta_in : List ℕ → Delta
delta_in bytes = record {
  state = state_in (drop 4 bytes);
  regs = registers_in (behind_state (drop 4 bytes));
  pages = all_pages_in (drop 256 (behind_state (drop 4 bytes)));
}

-- The delta of an image.
abbrev pub is_image_of : List ℕ → Delta → Bool
is_image_of bytes delta = is_fine delta && bytes_eq (image_of delta) bytes

unfoldable pub delta_of : List ℕ → Option Delta
delta_of bytes = cond (is_image_of bytes (delta_in bytes)) (Some (delta_in bytes)) None

-- what came of decoding is that delta, or that there is none
abbrev pub SaysDelta : List ℕ → Result Delta ImageError → Type 0
SaysDelta bytes (Ok delta) = delta_of bytes ≡ Some delta
SaysDelta bytes (Err BadImage) = delta_of bytes ≡ None
SaysDelta bytes (Err Memory) = Unit {0}
