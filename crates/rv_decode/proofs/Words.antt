-- A word of 32 bits and its six fields.
use Rattle.std.proofs.Common.{◌≡◌, ℕ, ◌+◌, ◌*◌, ◌%◌, ◌<◌, ◌^◌, bit_and, ap, ◌∙◌, arith}
use Rattle.rv_decode.specs.declared.instruction.Instr.{Instr}
use Rattle.rv_decode.specs.declared.names.Format.{Format}
use Rattle.rv_decode.specs.Fields.{field, instr_in}

-- the word that has these fields
abbrev pub word_of : ℕ → ℕ → ℕ → ℕ → ℕ → ℕ → ℕ
word_of op rd f3 rs1 rs2 f7 = op + rd * 2 ^ 7 + f3 * 2 ^ 12 + rs1 * 2 ^ 15 + rs2 * 2 ^ 20 + f7 * 2 ^ 25

pub record HasParts (word op rd f3 rs1 rs2 f7 : ℕ) : Type 0 where
  pub opcode_is : word % 2 ^ 7 ≡ op
  pub rd_is : field word 7 5 ≡ rd
  pub funct3_is : field word 12 3 ≡ f3
  pub rs1_is : field word 15 5 ≡ rs1
  pub rs2_is : field word 20 5 ≡ rs2
  pub funct7_is : field word 25 7 ≡ f7

pub parts-word_of : (word op rd f3 rs1 rs2 f7 : ℕ) → op < 2 ^ 7 → rd < 2 ^ 5 → f3 < 2 ^ 3 → rs1 < 2 ^ 5 → rs2 < 2 ^ 5 → f7 < 2 ^ 7 → word ≡ word_of op rd f3 rs1 rs2 f7 → HasParts word op rd f3 rs1 rs2 f7
parts-word_of word op rd f3 rs1 rs2 f7 a b c d e f is = record {
  opcode_is = omega arith;
  rd_is = omega arith;
  funct3_is = omega arith;
  rs1_is = omega arith;
  rs2_is = omega arith;
  funct7_is = omega arith;
}

-- the word has the fixed bits `value`, and the fields of i
pub record IsWordOf (format : Format) (mask value : ℕ) (i : Instr) (word : ℕ) : Type 0 where
  pub below : word < 2 ^ 32
  pub masked : bit_and word mask ≡ value
  pub fields : i ≡ instr_in format i.name word

pub same_instr : (i j : Instr) → i.name ≡ j.name → i.rd ≡ j.rd → i.rs1 ≡ j.rs1 → i.rs2 ≡ j.rs2 → i.imm ≡ j.imm → i ≡ j
same_instr i j name rd rs1 rs2 imm =
    ap (λ x. record i { name = x }) name
    ∙ ap (λ x. record i { name = j.name; rd = x }) rd
    ∙ ap (λ x. record i { name = j.name; rd = j.rd; rs1 = x }) rs1
    ∙ ap (λ x. record i { name = j.name; rd = j.rd; rs1 = j.rs1; rs2 = x }) rs2
    ∙ ap (λ x. record j { imm = x }) imm
