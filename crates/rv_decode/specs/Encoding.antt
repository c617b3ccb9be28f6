-- Where the operands of an instruction stand in its word: the places of the fields read in the other direction.
use Rattle.std.specs.Prelude.{ℕ, ◌+◌, ◌-◌, ◌*◌, ◌^◌, ℤ, pos, negsuc}
use Rattle.rv_decode.specs.declared.instruction.Instr.{Instr}
use Rattle.rv_decode.specs.declared.names.Format.{Format}
use Rattle.rv_decode.specs.declared.names.Format.TheVariants.{R, I, S, B, U, J, H6, H5, N}
use Rattle.rv_decode.specs.Fields.{field}
use Rattle.rv_decode.specs.Table.{row_of}

-- the two's complement of a number, in `count` bits
abbrev pub bits_of : ℕ → ℤ → ℕ
bits_of count (pos n) = n
bits_of count (negsuc n) = 2 ^ count - (n + 1)

-- the registers' bits; a register that is not there is 0
abbrev pub register_bits : Instr → ℕ
register_bits i = i.rd * 2 ^ 7 + i.rs1 * 2 ^ 15 + i.rs2 * 2 ^ 20

-- "Immediate Encoding Variants": where the bits of an S-, B- or J-immediate stand
abbrev pub store_bits : ℕ → ℕ
store_bits b = field b 5 7 * 2 ^ 25 + field b 0 5 * 2 ^ 7

abbrev pub branch_bits : ℕ → ℕ
branch_bits b = field b 12 1 * 2 ^ 31 + field b 5 6 * 2 ^ 25 + field b 1 4 * 2 ^ 8 + field b 11 1 * 2 ^ 7

abbrev pub jump_bits : ℕ → ℕ
jump_bits b = field b 20 1 * 2 ^ 31 + field b 1 10 * 2 ^ 21 + field b 11 1 * 2 ^ 20 + field b 12 8 * 2 ^ 12

-- the immediate's bits, by format
abbrev pub immediate_of : Format → ℤ → ℕ
immediate_of I imm = bits_of 12 imm * 2 ^ 20
immediate_of S imm = store_bits (bits_of 12 imm)
immediate_of B imm = branch_bits (bits_of 13 imm)
immediate_of U imm = bits_of 32 imm
immediate_of J imm = jump_bits (bits_of 21 imm)
immediate_of H6 imm = bits_of 6 imm * 2 ^ 20
immediate_of H5 imm = bits_of 5 imm * 2 ^ 20
immediate_of R imm = 0
immediate_of N imm = 0

-- the word of an instruction: the bits that its row fixes, the registers' and the immediate's
abbrev pub word_of : Instr → ℕ
word_of i = (row_of i.name).value + register_bits i + immediate_of (row_of i.name).format i.imm
