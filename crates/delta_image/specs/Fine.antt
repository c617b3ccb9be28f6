use Rattle.std.specs.Prelude.{◌≡◌, ℕ, ◌+◌, ◌<◌, ◌≤◌, ◌^◌, Bool, ◌&&◌, ◌||◌, nat_lt, IsTrue, List, [], ◌∷◌, length, slice_index}
use Rattle.std.specs.List.{AllByRecursion}
use Rattle.sizes.specs.declared.TheConstants.{MOST_SPACE_PAGES, PAGE_END, PAGE_LINES}
use Rattle.overlay_bits.specs.Lines.{Rise}
use Rattle.ovl_io.specs.declared.process_state.ProcessState.{ProcessState}
use Rattle.ovl_io.specs.declared.process_state.ProcessState.TheVariants.{Running, Exited, Faulted}
use Rattle.rv_execute.specs.Registers.{Registers}
use Rattle.delta_image.specs.declared.delta.Delta.{Delta}
use Rattle.delta_image.specs.declared.delta.DeltaPage.{DeltaPage}
use Rattle.delta_image.specs.Line.{IsLine, numbers_of}
use Rattle.delta_image.specs.Image.{image_of, register_numbers}

-- Which deltas are fine: those that have an image.

abbrev pub IsWord : ℕ → Type 0
IsWord number = number < 2 ^ 64

abbrev pub IsState : ProcessState → Type 0
IsState Running = Unit {0}
IsState (Exited code) = Unit {0}
IsState (Faulted kind address) = IsWord address

-- 32 registers of 64 bits, of which x0 is zero, and the pc
pub record AreRegisters (regs : Registers) : Type 0 where
  pub count : length regs.x ≡ 32
  pub zero : slice_index regs.x 0 ≡ 0
  pub words : AllByRecursion IsWord (register_numbers regs)

-- whether W comes with R in these permissions: 0, 1, or 4 to 7
abbrev pub are_perms : ℕ → Bool
are_perms perms = nat_lt perms 2 || nat_lt 3 perms && nat_lt perms 8

-- a page that may be given: its number is below 2^26, W comes with R, and its lines ascend strictly and are lines of a page
pub record IsPlain (page : DeltaPage) : Type 0 where
  pub low : page.page < PAGE_END
  pub perms : IsTrue (are_perms page.perms.0)
  pub rise : Rise 0 (numbers_of page.lines) PAGE_LINES

-- each of its lines has the bytes of a line
abbrev pub HasLines : DeltaPage → Type 0
HasLines page = AllByRecursion IsLine page.lines

abbrev pub IsPage : DeltaPage → Type 0
IsPage page = IsPlain page × HasLines page

-- pages that are so and ascend strictly, none below a number
abbrev pub Ascend : (DeltaPage → Type 0) → ℕ → List DeltaPage → Type 0
Ascend IsSo from [] = Unit {0}
Ascend IsSo from (page ∷ pages) = (from ≤ page.page) × IsSo page × Ascend IsSo (page.page + 1) pages

pub record IsFine (delta : Delta) : Type 0 where
  pub state : IsState delta.state
  pub regs : AreRegisters delta.regs
  pub few : length delta.pages ≤ MOST_SPACE_PAGES
  pub pages : Ascend IsPage 0 delta.pages

-- Bytes are an image where they are that of a fine delta.
abbrev pub IsImageOf : List ℕ → Delta → Type 0
IsImageOf bytes delta = IsFine delta × (bytes ≡ image_of delta)
