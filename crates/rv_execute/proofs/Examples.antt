-- The definitions on small numbers, each a case that the RISC-V manual's text settles.
use Rattle.std.proofs.Common.{◌≡◌, ◌-◌, ◌^◌, true, false, refl}
use Rattle.std.specs.FinMap.{empty}
use Rattle.rv_decode.specs.declared.names.Name.TheVariants.{Auipc, Jalr, Bge, Bltu, Lbu, Sltiu, Sra, Srliw, Sllw, Sraw}
use Rattle.rv_execute.specs.declared.action.Action.TheVariants.{Write, Link, Goto, Load, Next}
use Rattle.rv_execute.specs.declared.action.Size.TheVariants.{Byte, Half}
use Rattle.rv_execute.specs.declared.action.Extension.TheVariants.{Zero}
use Rattle.rv_execute.specs.Arithmetic.{minus, is_less_signed, extended_word, shifted_left, shifted_right_signed, amount}
use Rattle.rv_execute.specs.Rows.{action_of}
use Rattle.rv_execute.specs.Registers.{first_registers, register, with_register, next_pc}
use Rattle.rv_execute.specs.Execution.{signed, effect}

-- differences and sums wrap
below_zero : minus 0 1 ≡ 2 ^ 64 - 1
below_zero = refl

-- as signed numbers -1 is less than 0, and 0 isn't less than -1
minus_one_is_less : is_less_signed (2 ^ 64 - 1) 0 ≡ true
minus_one_is_less = refl

zero_is_not_less : is_less_signed 0 (2 ^ 64 - 1) ≡ false
zero_is_not_less = refl

-- bit 31 is copied into the upper half, whatever stood there
negative_word : extended_word 0x80000000 ≡ 0xFFFFFFFF80000000
negative_word = refl

positive_word : extended_word 0xFFFFFFFF7FFFFFFF ≡ 0x7FFFFFFF
positive_word = refl

-- a shift by all but one bit, to either side; only the low six bits of the amount count
sign_alone : shifted_right_signed (2 ^ 63) 63 ≡ 2 ^ 64 - 1
sign_alone = refl

lowest_bit_alone : shifted_left 3 63 ≡ 2 ^ 63
lowest_bit_alone = refl

low_six_bits : amount 127 ≡ 63
low_six_bits = refl

-- loaded bytes and halves
negative_byte : signed Byte 0x80 ≡ 0xFFFFFFFFFFFFFF80
negative_byte = refl

positive_half : signed Half 0x7FFF ≡ 0x7FFF
positive_half = refl

-- jalr x1, 3(x5), with x5 0x10078: bit 0 of the target is cleared, and bit 1 isn't
jalr_target : action_of Jalr 0x10078 0 3 0x10000 ≡ Link 0x1007A
jalr_target = refl

-- auipc with the immediate -4096
auipc : action_of Auipc 0 0 (2 ^ 64 - 4096) 0x10078 ≡ Write 0xF078
auipc = refl

-- the same numbers compared as signed, where -1 isn't at least 0, and as unsigned, where 0 is less
bge : action_of Bge (2 ^ 64 - 1) 0 8 0x10078 ≡ Next
bge = refl

bltu : action_of Bltu 0 (2 ^ 64 - 1) 8 0x10078 ≡ Goto 0x10080
bltu = refl

-- sltiu with the immediate -1: it is the largest number
sltiu : action_of Sltiu 1 0 (2 ^ 64 - 1) 0 ≡ Write 1
sltiu = refl

-- an address wraps
lbu : action_of Lbu (2 ^ 64 - 1) 0 3 0 ≡ Load 2 Byte Zero
lbu = refl

-- sra, srliw, sllw and sraw by amounts of which only the low six or five bits count
sra : action_of Sra (2 ^ 63) 126 0 0 ≡ Write (2 ^ 64 - 2)
sra = refl

srliw : action_of Srliw 0xFFFFFFFF80000000 0 0 0 ≡ Write 0xFFFFFFFF80000000
srliw = refl

sllw : action_of Sllw 1 63 0 0 ≡ Write 0xFFFFFFFF80000000
sllw = refl

sraw : action_of Sraw 0x80000000 36 0 0 ≡ Write 0xFFFFFFFFF8000000
sraw = refl

-- x2 is the stack pointer at the start, and x0 stays zero
stack_pointer : register (first_registers 0x10078 0x3FFFFFFFF0) 2 ≡ 0x3FFFFFFFF0
unfolding first_registers
stack_pointer = refl

x0_stays : register (with_register (first_registers 0 0) 0 7) 0 ≡ 0
unfolding first_registers
x0_stays = refl

-- behind the last address comes 0
pc_wraps : next_pc (first_registers (2 ^ 64 - 4) 0) ≡ 0
unfolding first_registers
pc_wraps = refl

-- a jump to an address with bit 1 set faults and leaves the registers, its own result among them
misaligned_jump : (effect (Link 0x1007A) 1 (first_registers 0x10078 0) empty).registers ≡ first_registers 0x10078 0
misaligned_jump = refl

-- an aligned one writes the address behind it
aligned_jump : register (effect (Link 0x10080) 1 (first_registers 0x10078 0) empty).registers 1 ≡ 0x1007C
unfolding first_registers
aligned_jump = refl
