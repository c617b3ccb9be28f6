-- Which instructions have a word: the ranges of the fields and of the immediate, by format. RISC-V Unprivileged ISA
-- manual, chapter "RV32I Base Integer Instruction Set", section "Immediate Encoding Variants".
use Rattle.std.specs.Prelude.{◌≡◌, ℕ, ◌<◌, ◌^◌, ℤ, pos, neg_ℤ, ◌≤ℤ◌, ◌<ℤ◌, int_rem, Bool, IsTrue}
use Rattle.rv_decode.specs.declared.instruction.Instr.{Instr}
use Rattle.rv_decode.specs.declared.names.Format.{Format}
use Rattle.rv_decode.specs.declared.names.Format.TheVariants.{R, I, S, B, U, J, H6, H5, N}
use Rattle.rv_decode.specs.declared.names.Name.{Name}
use Rattle.rv_decode.specs.Table.{row_of, is_base}

-- registers that are there, below 32, and those that are not, 0
abbrev pub HasRegisters : Format → Instr → Type 0
HasRegisters R i = (i.rd < 32) × (i.rs1 < 32) × (i.rs2 < 32)
HasRegisters S i = (i.rd ≡ 0) × (i.rs1 < 32) × (i.rs2 < 32)
HasRegisters B i = (i.rd ≡ 0) × (i.rs1 < 32) × (i.rs2 < 32)
HasRegisters U i = (i.rd < 32) × (i.rs1 ≡ 0) × (i.rs2 ≡ 0)
HasRegisters J i = (i.rd < 32) × (i.rs1 ≡ 0) × (i.rs2 ≡ 0)
HasRegisters N i = (i.rd ≡ 0) × (i.rs1 ≡ 0) × (i.rs2 ≡ 0)
HasRegisters _ i = (i.rd < 32) × (i.rs1 < 32) × (i.rs2 ≡ 0)

-- a signed number whose absolute part has so many bits: from -2 ^ bits up to 2 ^ bits - 1
abbrev pub IsSignedBelow : ℕ → ℤ → Type 0
IsSignedBelow bits z = (neg_ℤ (pos (2 ^ bits)) ≤ℤ z) × (z <ℤ pos (2 ^ bits))

abbrev pub IsMultiple : ℕ → ℤ → Type 0
IsMultiple k z = int_rem z (pos k) ≡ pos 0

-- the immediate has a place in the format
abbrev pub HasImmediate : Format → ℤ → Type 0
HasImmediate I imm = IsSignedBelow 11 imm
HasImmediate S imm = IsSignedBelow 11 imm
HasImmediate B imm = IsSignedBelow 12 imm × IsMultiple 2 imm
HasImmediate U imm = IsSignedBelow 31 imm × IsMultiple (2 ^ 12) imm
HasImmediate J imm = IsSignedBelow 20 imm × IsMultiple 2 imm
HasImmediate H6 imm = (pos 0 ≤ℤ imm) × (imm <ℤ pos 64)
HasImmediate H5 imm = (pos 0 ≤ℤ imm) × (imm <ℤ pos 32)
HasImmediate R imm = imm ≡ pos 0
HasImmediate N imm = imm ≡ pos 0

-- an instruction that has a word by a table
pub record IsEncodableBy (among : Name → Bool) (i : Instr) : Type 0 where
  pub listed : IsTrue (among i.name)
  pub registers : HasRegisters (row_of i.name).format i
  pub immediate : HasImmediate (row_of i.name).format i.imm

-- by the table of RV64I
abbrev pub IsEncodable : Instr → Type 0
IsEncodable i = IsEncodableBy is_base i
