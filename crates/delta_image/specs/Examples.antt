use Rattle.std.specs.Prelude.{◌≡◌, ℕ, [], ◌∷◌, ◌++◌, replicate, Some, None, refl}
use Rattle.delta_image.specs.declared.encoding.TheConstants.{MAGIC, PAGE_HEAD_BYTES}
use Rattle.ovl_io.specs.declared.process_state.FaultKind.TheVariants.{Break}
use Rattle.ovl_io.specs.declared.process_state.ProcessState.TheVariants.{Running, Exited, Faulted}
use Rattle.rv_execute.specs.Registers.{Registers}
use Rattle.delta_image.specs.declared.delta.Delta.{Delta}
use Rattle.delta_image.specs.Line.{Line}
use Rattle.delta_image.specs.Image.{head_part, image_of, state_part}
use Rattle.delta_image.specs.FineTest.{is_fine}
use Rattle.delta_image.specs.Said.{delta_in, delta_of, registers_in, words_in}

-- The constants of an image as numbers.

pub magic_is : MAGIC ≡ 0x4F ∷ 0x56 ∷ 0x4C ∷ 0x31 ∷ []
magic_is = refl

pub page_head_bytes_is : PAGE_HEAD_BYTES ≡ 13
page_head_bytes_is = refl

-- Parts of images, as the checker computes them.

pub running_is : state_part Running ≡ 0 ∷ []
running_is = refl

pub exited_is : state_part (Exited 7) ≡ 1 ∷ 7 ∷ []
exited_is = refl

pub faulted_is : state_part (Faulted Break 0x10078) ≡ 2 ∷ 5 ∷ 0x78 ∷ 0 ∷ 1 ∷ 0 ∷ 0 ∷ 0 ∷ 0 ∷ 0 ∷ []
faulted_is = refl

-- a page without lines, at the last number, that may be read and written; and one of which lines 0, 1 and 63 are given
pub last_page_is : head_part (record { page = 0x3FFFFFF; perms = record { 0 = 6 }; lines = [] })
    ≡ 0xFF ∷ 0xFF ∷ 0xFF ∷ 3 ∷ 6 ∷ 0 ∷ 0 ∷ 0 ∷ 0 ∷ 0 ∷ 0 ∷ 0 ∷ 0 ∷ []
unfolding head_part
last_page_is = refl

abbrev pub line : ℕ → Line
line i = (i, [])

pub lines_are : head_part (record { page = 16; perms = record { 0 = 5 }; lines = line 0 ∷ line 1 ∷ line 63 ∷ [] })
    ≡ 16 ∷ 0 ∷ 0 ∷ 0 ∷ 5 ∷ 3 ∷ 0 ∷ 0 ∷ 0 ∷ 0 ∷ 0 ∷ 0 ∷ 0x80 ∷ []
unfolding head_part
lines_are = refl

-- the image of a process without pages whose registers are all zero, but for a pc of 0x10078 and x2
abbrev pub registers : Registers
registers = record { pc = 0x10078; x = 0 ∷ 0 ∷ 0x3FFFFFFFF0 ∷ replicate 29 0 }

abbrev pub empty : Delta
empty = record { state = Running; regs = registers; pages = [] }

pub empty_is : image_of empty
    ≡ (0x4F ∷ 0x56 ∷ 0x4C ∷ 0x31 ∷ 0 ∷ 0x78 ∷ 0 ∷ 1 ∷ 0 ∷ 0 ∷ 0 ∷ 0 ∷ 0 ∷ []) ++ replicate 8 0 ++ (0xF0 ∷ 0xFF ∷ 0xFF ∷ 0xFF ∷ 0x3F ∷ []) ++ replicate 239 0
empty_is = refl

-- it is read back; without bytes there is none
pub empty_said : delta_of (image_of empty) ≡ Some empty
unfolding delta_of delta_in registers_in words_in is_fine
empty_said = refl

pub nothing_said : delta_of [] ≡ None
unfolding delta_of delta_in registers_in words_in is_fine
nothing_said = refl
