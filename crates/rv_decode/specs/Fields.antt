-- The fields and the immediate of a word by its format: RISC-V Unprivileged ISA manual, chapter "RV32I Base Integer
-- Instruction Set", sections "Base Instruction Formats" and "Immediate Encoding Variants".
use Rattle.std.specs.Prelude.{◌≡◌, ℕ, ◌+◌, ◌-◌, ◌*◌, ◌/◌, ◌%◌, ◌^◌, ℤ, pos, ◌-ℤ◌, nat_lt, if◌then◌else◌}
use Rattle.rv_decode.specs.declared.instruction.Instr.{Instr}
use Rattle.rv_decode.specs.declared.names.Format.{Format}
use Rattle.rv_decode.specs.declared.names.Format.TheVariants.{R, I, S, B, U, J, H6, H5, N}
use Rattle.rv_decode.specs.declared.names.Name.{Name}
use Rattle.rv_decode.specs.Table.{row_of}

-- the `count` bits of a word from bit `low` up
abbrev pub field : ℕ → ℕ → ℕ → ℕ
field word low count = word / 2 ^ low % 2 ^ count

-- a number of `count` bits, its highest bit read as the sign
abbrev pub sign_extended : ℕ → ℕ → ℤ
sign_extended count bits =
    if nat_lt bits (2 ^ (count - 1)) then pos bits else (pos bits -ℤ pos (2 ^ count))

-- "Base Instruction Formats": the places of the registers
abbrev pub rd_of : Format → ℕ → ℕ
rd_of S word = 0
rd_of B word = 0
rd_of N word = 0
rd_of _ word = field word 7 5

abbrev pub rs1_of : Format → ℕ → ℕ
rs1_of U word = 0
rs1_of J word = 0
rs1_of N word = 0
rs1_of _ word = field word 15 5

abbrev pub rs2_of : Format → ℕ → ℕ
rs2_of R word = field word 20 5
rs2_of S word = field word 20 5
rs2_of B word = field word 20 5
rs2_of _ word = 0

-- "Immediate Encoding Variants": the bits of the immediate
abbrev pub imm_of : Format → ℕ → ℤ
-- I-immediate: inst[31:20]
imm_of I word = sign_extended 12 (field word 20 12)
-- S-immediate: inst[31:25] above inst[11:7]
imm_of S word = sign_extended 12 (field word 25 7 * 2 ^ 5 + field word 7 5)
-- B-immediate: inst[31], inst[7], inst[30:25], inst[11:8], 0
imm_of B word =
    sign_extended 13
    (field word 31 1 * 2 ^ 12 + field word 7 1 * 2 ^ 11 + field word 25 6 * 2 ^ 5 + field word 8 4 * 2 ^ 1)
-- U-immediate: inst[31:12] in place
imm_of U word = sign_extended 32 (field word 12 20 * 2 ^ 12)
-- J-immediate: inst[31], inst[19:12], inst[20], inst[30:21], 0
imm_of J word =
    sign_extended 21
    (field word 31 1 * 2 ^ 20 + field word 12 8 * 2 ^ 12 + field word 20 1 * 2 ^ 11 + field word 21 10 * 2 ^ 1)
-- "Integer Register-Immediate Instructions" of chapter "RV64I": shamt[5:0] is inst[25:20], and shamt[4:0] of a W row inst[24:20]
imm_of H6 word = pos (field word 20 6)
imm_of H5 word = pos (field word 20 5)
imm_of R word = pos 0
imm_of N word = pos 0

-- the instruction of this name that a word of this format has
abbrev pub instr_in : Format → Name → ℕ → Instr
instr_in format name word = record {
  name = name;
  rd = rd_of format word;
  rs1 = rs1_of format word;
  rs2 = rs2_of format word;
  imm = imm_of format word;
}

-- the same in the format of the name's row
abbrev pub instr_of : Name → ℕ → Instr
instr_of name word = instr_in (row_of name).format name word

-- i has the name, and the fields that the word has in the format
pub record HasFields (format : Format) (name : Name) (word : ℕ) (i : Instr) : Type 0 where
  pub fields : i ≡ instr_in format name word
