use Rattle.std.specs.Prelude.{ℕ, List, [], ◌∷◌, ◌++◌, length, drop}
use Rattle.std.specs.List.{flat_map}
use Rattle.std.specs.Int.{w32, w64, to_le_bytes}
use Rattle.overlay_bits.specs.Kept.{word_of}
use Rattle.ovl_io.specs.declared.process_state.FaultKind.{FaultKind}
use Rattle.ovl_io.specs.declared.process_state.FaultKind.TheVariants.{Align, Fetch, Illegal, Load, Store, Break}
use Rattle.ovl_io.specs.declared.process_state.ProcessState.{ProcessState}
use Rattle.ovl_io.specs.declared.process_state.ProcessState.TheVariants.{Running, Exited, Faulted}
use Rattle.rv_execute.specs.Registers.{Registers}
use Rattle.delta_image.specs.declared.delta.Delta.{Delta}
use Rattle.delta_image.specs.declared.delta.DeltaPage.{DeltaPage}
use Rattle.delta_image.specs.declared.encoding.TheConstants.{MAGIC}
use Rattle.delta_image.specs.Line.{Line, numbers_of}

-- The bytes of an image, part by part. Numbers have the low byte first.

-- The state: 0; or 1 and the code; or 2, the kind of the fault and its address.
abbrev pub kind_code : FaultKind → ℕ
kind_code Align = 0
kind_code Fetch = 1
kind_code Illegal = 2
kind_code Load = 3
kind_code Store = 4
kind_code Break = 5

abbrev pub state_part : ProcessState → List ℕ
state_part Running = 0 ∷ []
state_part (Exited code) = 1 ∷ code ∷ []
state_part (Faulted kind address) = 2 ∷ kind_code kind ∷ to_le_bytes w64 address

-- The registers: the pc, then x1 to x31, in 8 bytes each.
abbrev pub register_numbers : Registers → List ℕ
register_numbers regs = regs.pc ∷ drop 1 regs.x

abbrev pub words_part : List ℕ → List ℕ
words_part numbers = flat_map (to_le_bytes w64) numbers

abbrev pub registers_part : Registers → List ℕ
registers_part regs = words_part (register_numbers regs)

-- A page: its number in 4 bytes, its permissions, a bit for each line that is given, and those lines.
unfoldable pub head_part : DeltaPage → List ℕ
head_part page = to_le_bytes w32 page.page ++ (page.perms.0 ∷ to_le_bytes w64 (word_of (numbers_of page.lines)))

abbrev pub lines_part : List Line → List ℕ
lines_part lines = flat_map (λ line. line.1) lines

abbrev pub page_part : DeltaPage → List ℕ
page_part page = head_part page ++ lines_part page.lines

abbrev pub pages_part : List DeltaPage → List ℕ
pages_part pages = flat_map page_part pages

-- The image of a delta: OVL1, the state, the registers, how many pages there are, and the pages.
abbrev pub image_of : Delta → List ℕ
image_of delta =
    MAGIC ++ state_part delta.state ++ registers_part delta.regs ++ to_le_bytes w32 (length delta.pages) ++ pages_part delta.pages
