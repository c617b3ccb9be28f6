-- For each format: the sum of a row's value, the registers and the immediate is a word of the row with these fields.
use Rattle.std.proofs.Common.{◌≡◌, ℕ, ◌+◌, ◌*◌, ◌/◌, ◌%◌, ◌<◌, ◌^◌, ℤ, pos, negsuc, ◌≤ℤ◌, bit_and, refl, sym, ap, ◌∙◌, arith}
use Rattle.std.proofs.lemmas.Int.{ints}
use Rattle.rv_decode.specs.declared.instruction.Instr.{Instr}
use Rattle.rv_decode.specs.declared.names.Format.TheVariants.{R, I, S, B, U, J, H6, H5, N}
use Rattle.rv_decode.specs.Fields.{field, sign_extended, instr_in}
use Rattle.rv_decode.specs.Encodable.{HasRegisters, HasImmediate}
use Rattle.rv_decode.specs.Encoding.{bits_of, register_bits, immediate_of}
use Rattle.rv_decode.proofs.Masks.{opcode_bits, funct3_bits, funct6_bits, funct7_bits}
use Rattle.rv_decode.proofs.Words.{parts-word_of, IsWordOf, same_instr}
use Rattle.rv_decode.proofs.Signed.{extended-complement, complement-lt, even-complement, multiple-complement}

pub word_I : (value word : ℕ) (i : Instr) → value < 2 ^ 32 → bit_and value 0x707F ≡ value → HasRegisters I i → HasImmediate I i.imm → word ≡ value + register_bits i + immediate_of I i.imm → IsWordOf I 0x707F value i word
word_I value word i small within regs imm is =
    let b = bits_of 12 i.imm in
    let b_below : b < 4096 = complement-lt 2048 4096 i.imm refl imm.0 imm.1 in
    let fixed : value ≡ field value 12 3 * 2 ^ 12 + value % 2 ^ 7 = sym within ∙ funct3_bits value in
    let parts = parts-word_of word (value % 2 ^ 7) i.rd (field value 12 3) i.rs1 (b % 32) (b / 32) (omega arith) (omega arith) (omega arith) (omega arith) (omega arith) (omega arith) (omega arith) in
    let below : word < 2 ^ 32 = omega arith in
    record {
      below = below;
      masked = funct3_bits word ∙ (let e : field word 12 3 * 2 ^ 12 + word % 2 ^ 7 ≡ value = omega arith in e);
      fields = same_instr i (instr_in I i.name word) refl (sym parts.rd_is) (sym parts.rs1_is) (regs.2) (sym (ap (sign_extended 12) (let e : field word 20 12 ≡ b = omega arith in e) ∙ extended-complement 2048 4096 i.imm refl imm.0 imm.1));
    }

pub word_S : (value word : ℕ) (i : Instr) → value < 2 ^ 32 → bit_and value 0x707F ≡ value → HasRegisters S i → HasImmediate S i.imm → word ≡ value + register_bits i + immediate_of S i.imm → IsWordOf S 0x707F value i word
word_S value word i small within regs imm is =
    let b = bits_of 12 i.imm in
    let b_below : b < 4096 = complement-lt 2048 4096 i.imm refl imm.0 imm.1 in
    let fixed : value ≡ field value 12 3 * 2 ^ 12 + value % 2 ^ 7 = sym within ∙ funct3_bits value in
    let parts = parts-word_of word (value % 2 ^ 7) (b % 32) (field value 12 3) i.rs1 i.rs2 (b / 32) (omega arith) (omega arith) (omega arith) (omega arith) (omega arith) (omega arith) (omega arith) in
    let below : word < 2 ^ 32 = omega arith in
    record {
      below = below;
      masked = funct3_bits word ∙ (let e : field word 12 3 * 2 ^ 12 + word % 2 ^ 7 ≡ value = omega arith in e);
      fields = same_instr i (instr_in S i.name word) refl (regs.0) (sym parts.rs1_is) (sym parts.rs2_is) (sym (ap (sign_extended 12) (let e : field word 25 7 * 2 ^ 5 + field word 7 5 ≡ b = omega arith in e) ∙ extended-complement 2048 4096 i.imm refl imm.0 imm.1));
    }

pub word_B : (value word : ℕ) (i : Instr) → value < 2 ^ 32 → bit_and value 0x707F ≡ value → HasRegisters B i → HasImmediate B i.imm → word ≡ value + register_bits i + immediate_of B i.imm → IsWordOf B 0x707F value i word
word_B value word i small within regs imm is =
    let b = bits_of 13 i.imm in
    let b_below : b < 8192 = complement-lt 4096 8192 i.imm refl imm.0.0 imm.0.1 in
    let even : b % 2 ≡ 0 = even-complement 4096 i.imm imm.1 in
    let fixed : value ≡ field value 12 3 * 2 ^ 12 + value % 2 ^ 7 = sym within ∙ funct3_bits value in
    let parts = parts-word_of word (value % 2 ^ 7) (b / 2 % 16 * 2 + b / 2048 % 2) (field value 12 3) i.rs1 i.rs2 (b / 4096 * 64 + b / 32 % 64) (omega arith) (omega arith) (omega arith) (omega arith) (omega arith) (omega arith) (omega arith) in
    let top : field word 31 1 ≡ field word 25 7 / 64 = omega arith in
    let middle : field word 25 6 ≡ field word 25 7 % 64 = omega arith in
    let eleventh : field word 7 1 ≡ field word 7 5 % 2 = omega arith in
    let low : field word 8 4 ≡ field word 7 5 / 2 = omega arith in
    let below : word < 2 ^ 32 = omega arith in
    record {
      below = below;
      masked = funct3_bits word ∙ (let e : field word 12 3 * 2 ^ 12 + word % 2 ^ 7 ≡ value = omega arith in e);
      fields = same_instr i (instr_in B i.name word) refl (regs.0) (sym parts.rs1_is) (sym parts.rs2_is) (sym (ap (sign_extended 13) (let e : field word 31 1 * 2 ^ 12 + field word 7 1 * 2 ^ 11 + field word 25 6 * 2 ^ 5 + field word 8 4 * 2 ^ 1 ≡ b = omega arith in e) ∙ extended-complement 4096 8192 i.imm refl imm.0.0 imm.0.1));
    }

pub word_U : (value word : ℕ) (i : Instr) → value < 2 ^ 32 → bit_and value 0x7F ≡ value → HasRegisters U i → HasImmediate U i.imm → word ≡ value + register_bits i + immediate_of U i.imm → IsWordOf U 0x7F value i word
word_U value word i small within regs imm is =
    let b = bits_of 32 i.imm in
    let b_below : b < 4294967296 = complement-lt 2147483648 4294967296 i.imm refl imm.0.0 imm.0.1 in
    let even : b % 4096 ≡ 0 = multiple-complement 1048576 i.imm imm.1 in
    let fixed : value ≡ value % 2 ^ 7 = sym within ∙ opcode_bits value in
    let parts = parts-word_of word (value % 2 ^ 7) i.rd (b / 4096 % 8) (b / 32768 % 32) (b / 1048576 % 32) (b / 33554432) (omega arith) (omega arith) (omega arith) (omega arith) (omega arith) (omega arith) (omega arith) in
    let below : word < 2 ^ 32 = omega arith in
    record {
      below = below;
      masked = opcode_bits word ∙ (let e : word % 2 ^ 7 ≡ value = omega arith in e);
      fields = same_instr i (instr_in U i.name word) refl (sym parts.rd_is) (regs.1) (regs.2) (sym (ap (sign_extended 32) (let e : field word 12 20 * 2 ^ 12 ≡ b = omega arith in e) ∙ extended-complement 2147483648 4294967296 i.imm refl imm.0.0 imm.0.1));
    }

pub word_J : (value word : ℕ) (i : Instr) → value < 2 ^ 32 → bit_and value 0x7F ≡ value → HasRegisters J i → HasImmediate J i.imm → word ≡ value + register_bits i + immediate_of J i.imm → IsWordOf J 0x7F value i word
word_J value word i small within regs imm is =
    let b = bits_of 21 i.imm in
    let b_below : b < 2097152 = complement-lt 1048576 2097152 i.imm refl imm.0.0 imm.0.1 in
    let even : b % 2 ≡ 0 = even-complement 1048576 i.imm imm.1 in
    let fixed : value ≡ value % 2 ^ 7 = sym within ∙ opcode_bits value in
    let parts = parts-word_of word (value % 2 ^ 7) i.rd (b / 4096 % 8) (b / 32768 % 32) (b / 2 % 16 * 2 + b / 2048 % 2) (b / 1048576 * 64 + b / 32 % 64) (omega arith) (omega arith) (omega arith) (omega arith) (omega arith) (omega arith) (omega arith) in
    let top : field word 31 1 ≡ field word 25 7 / 64 = omega arith in
    let middle : field word 12 8 ≡ field word 12 3 + 8 * field word 15 5 = omega arith in
    let eleventh : field word 20 1 ≡ field word 20 5 % 2 = omega arith in
    let low : field word 21 10 ≡ field word 20 5 / 2 + 16 * (field word 25 7 % 64) = omega arith in
    let below : word < 2 ^ 32 = omega arith in
    record {
      below = below;
      masked = opcode_bits word ∙ (let e : word % 2 ^ 7 ≡ value = omega arith in e);
      fields = same_instr i (instr_in J i.name word) refl (sym parts.rd_is) (regs.1) (regs.2) (sym (ap (sign_extended 21) (let e : field word 31 1 * 2 ^ 20 + field word 12 8 * 2 ^ 12 + field word 20 1 * 2 ^ 11 + field word 21 10 * 2 ^ 1 ≡ b = omega arith in e) ∙ extended-complement 1048576 2097152 i.imm refl imm.0.0 imm.0.1));
    }

-- an amount is its own bits
amount : (count : ℕ) (z : ℤ) → pos 0 ≤ℤ z → z ≡ pos (bits_of count z)
amount count (pos n) low = refl
amount count (negsuc n) low = absurd (omega (arith, ints, low))

pub word_H6 : (value word : ℕ) (i : Instr) → value < 2 ^ 32 → bit_and value 0xFC00707F ≡ value → HasRegisters H6 i → HasImmediate H6 i.imm → word ≡ value + register_bits i + immediate_of H6 i.imm → IsWordOf H6 0xFC00707F value i word
word_H6 value word i small within regs imm is =
    let b = bits_of 6 i.imm in
    let is_amount : i.imm ≡ pos b = amount 6 i.imm imm.0 in
    let b_below : b < 64 = omega (arith, ints, is_amount, imm.1) in
    let fixed : value ≡ field value 26 6 * 2 ^ 26 + field value 12 3 * 2 ^ 12 + value % 2 ^ 7 = sym within ∙ funct6_bits value small in
    let parts = parts-word_of word (value % 2 ^ 7) i.rd (field value 12 3) i.rs1 (b % 32) (field value 26 6 * 2 + b / 32) (omega arith) (omega arith) (omega arith) (omega arith) (omega arith) (omega arith) (omega arith) in
    let below : word < 2 ^ 32 = omega arith in
    record {
      below = below;
      masked = funct6_bits word below ∙ (let e : field word 26 6 * 2 ^ 26 + field word 12 3 * 2 ^ 12 + word % 2 ^ 7 ≡ value = omega arith in e);
      fields = same_instr i (instr_in H6 i.name word) refl (sym parts.rd_is) (sym parts.rs1_is) (regs.2) (is_amount ∙ ap pos (let e : b ≡ field word 20 6 = omega arith in e));
    }

pub word_H5 : (value word : ℕ) (i : Instr) → value < 2 ^ 32 → bit_and value 0xFE00707F ≡ value → HasRegisters H5 i → HasImmediate H5 i.imm → word ≡ value + register_bits i + immediate_of H5 i.imm → IsWordOf H5 0xFE00707F value i word
word_H5 value word i small within regs imm is =
    let b = bits_of 5 i.imm in
    let is_amount : i.imm ≡ pos b = amount 5 i.imm imm.0 in
    let b_below : b < 32 = omega (arith, ints, is_amount, imm.1) in
    let fixed : value ≡ field value 25 7 * 2 ^ 25 + field value 12 3 * 2 ^ 12 + value % 2 ^ 7 = sym within ∙ funct7_bits value small in
    let parts = parts-word_of word (value % 2 ^ 7) i.rd (field value 12 3) i.rs1 b (field value 25 7) (omega arith) (omega arith) (omega arith) (omega arith) (omega arith) (omega arith) (omega arith) in
    let below : word < 2 ^ 32 = omega arith in
    record {
      below = below;
      masked = funct7_bits word below ∙ (let e : field word 25 7 * 2 ^ 25 + field word 12 3 * 2 ^ 12 + word % 2 ^ 7 ≡ value = omega arith in e);
      fields = same_instr i (instr_in H5 i.name word) refl (sym parts.rd_is) (sym parts.rs1_is) (regs.2) (is_amount ∙ ap pos (sym parts.rs2_is));
    }

pub word_R : (value word : ℕ) (i : Instr) → value < 2 ^ 32 → bit_and value 0xFE00707F ≡ value → HasRegisters R i → HasImmediate R i.imm → word ≡ value + register_bits i + immediate_of R i.imm → IsWordOf R 0xFE00707F value i word
word_R value word i small within regs imm is =
    let fixed : value ≡ field value 25 7 * 2 ^ 25 + field value 12 3 * 2 ^ 12 + value % 2 ^ 7 = sym within ∙ funct7_bits value small in
    let parts = parts-word_of word (value % 2 ^ 7) i.rd (field value 12 3) i.rs1 i.rs2 (field value 25 7) (omega arith) (omega arith) (omega arith) (omega arith) (omega arith) (omega arith) (omega arith) in
    let below : word < 2 ^ 32 = omega arith in
    record {
      below = below;
      masked = funct7_bits word below ∙ (let e : field word 25 7 * 2 ^ 25 + field word 12 3 * 2 ^ 12 + word % 2 ^ 7 ≡ value = omega arith in e);
      fields = same_instr i (instr_in R i.name word) refl (sym parts.rd_is) (sym parts.rs1_is) (sym parts.rs2_is) (imm);
    }

pub word_N : (value word : ℕ) (i : Instr) → value < 2 ^ 32 → bit_and value 0xFFFFFFFF ≡ value → HasRegisters N i → HasImmediate N i.imm → word ≡ value + register_bits i + immediate_of N i.imm → IsWordOf N 0xFFFFFFFF value i word
word_N value word i small within regs imm is =
    let same : word ≡ value = omega arith in
    record {
      below = omega arith;
      masked = ap (λ w. bit_and w 0xFFFFFFFF) same ∙ within;
      fields = same_instr i (instr_in N i.name word) refl regs.0 regs.1 regs.2 imm;
    }
