-- A word is its fixed bits, its registers and its immediate, by format; and the word of a whole row.
use Rattle.std.proofs.Common.{◌≡◌, ℕ, ◌==◌, Bool, ◌+◌, ◌*◌, ◌<◌, ◌^◌, bit_and, refl, sym, ap, ◌∙◌, arith}
use Rattle.std.specs.Prelude.{◌&&◌, nat_lt}
use Rattle.std.proofs.lemmas.Bool.{eqb-true, ltb-true, and_parts}
use Rattle.rv_decode.specs.declared.instruction.Instr.{Instr}
use Rattle.rv_decode.specs.declared.names.Format.{Format}
use Rattle.rv_decode.specs.declared.names.Format.TheVariants.{R, I, S, B, U, J, H6, H5, N}
use Rattle.rv_decode.specs.declared.names.Name.{Name}
use Rattle.rv_decode.specs.declared.rows.CaseRow.{CaseRow}
use Rattle.rv_decode.specs.Table.{row_of}
use Rattle.rv_decode.specs.Fields.{field, sign_extended, imm_of, instr_in}
use Rattle.rv_decode.specs.Meaning.{MeansInstr}
use Rattle.rv_decode.specs.Encodable.{HasRegisters, HasImmediate}
use Rattle.rv_decode.specs.Encoding.{bits_of, register_bits, immediate_of, word_of}
use Rattle.rv_decode.proofs.Masks.{opcode_bits, funct3_bits, funct6_bits, funct7_bits, whole_word}
use Rattle.rv_decode.specs.TableLaws.{each_name}
use Rattle.rv_decode.proofs.Words.{IsWordOf}
use Rattle.rv_decode.proofs.WordsByFormat.{word_R, word_I, word_S, word_B, word_U, word_J, word_H6, word_H5, word_N}
use Rattle.rv_decode.proofs.Signed.{complement-extended}

-- the bits that a format leaves to the row
abbrev pub mask_of : Format → ℕ
mask_of R = 0xFE00707F
mask_of I = 0x707F
mask_of S = 0x707F
mask_of B = 0x707F
mask_of U = 0x7F
mask_of J = 0x7F
mask_of H6 = 0xFC00707F
mask_of H5 = 0xFE00707F
mask_of N = 0xFFFFFFFF

-- the sum of the parts has the parts
pub word_by : (format : Format) (value word : ℕ) (i : Instr) → value < 2 ^ 32 → bit_and value (mask_of format) ≡ value → HasRegisters format i → HasImmediate format i.imm → word ≡ value + register_bits i + immediate_of format i.imm → IsWordOf format (mask_of format) value i word
word_by R = word_R
word_by I = word_I
word_by S = word_S
word_by B = word_B
word_by U = word_U
word_by J = word_J
word_by H6 = word_H6
word_by H5 = word_H5
word_by N = word_N

-- a word is the sum of its parts
pub parts_by : (format : Format) (name : Name) (word : ℕ) → word < 2 ^ 32 → word ≡ bit_and word (mask_of format) + register_bits (instr_in format name word) + immediate_of format (imm_of format word)
parts_by R name word below = let fixed = funct7_bits word below in omega arith
parts_by I name word below =
    let fixed = funct3_bits word in
    let n = field word 20 12 in
    let back : bits_of 12 (sign_extended 12 n) ≡ n = complement-extended 2048 4096 n refl (omega arith) in
    omega arith
parts_by S name word below =
    let fixed = funct3_bits word in
    let n = field word 25 7 * 2 ^ 5 + field word 7 5 in
    let back : bits_of 12 (sign_extended 12 n) ≡ n = complement-extended 2048 4096 n refl (omega arith) in
    omega arith
parts_by B name word below =
    let fixed = funct3_bits word in
    let n = field word 31 1 * 2 ^ 12 + field word 7 1 * 2 ^ 11 + field word 25 6 * 2 ^ 5 + field word 8 4 * 2 ^ 1 in
    let back : bits_of 13 (sign_extended 13 n) ≡ n = complement-extended 4096 8192 n refl (omega arith) in
    omega arith
parts_by U name word below =
    let fixed = opcode_bits word in
    let n = field word 12 20 * 2 ^ 12 in
    let back : bits_of 32 (sign_extended 32 n) ≡ n = complement-extended 2147483648 4294967296 n refl (omega arith) in
    omega arith
parts_by J name word below =
    let fixed = opcode_bits word in
    let n = field word 31 1 * 2 ^ 20 + field word 12 8 * 2 ^ 12 + field word 20 1 * 2 ^ 11 + field word 21 10 * 2 ^ 1 in
    let back : bits_of 21 (sign_extended 21 n) ≡ n = complement-extended 1048576 2097152 n refl (omega arith) in
    omega arith
parts_by H6 name word below = let fixed = funct6_bits word below in omega arith
parts_by H5 name word below = let fixed = funct7_bits word below in omega arith
parts_by N name word below = let fixed = whole_word word below in omega arith

-- each row fixes the bits that its format leaves to it, and no other
abbrev pub is_shaped : Name → Bool
is_shaped name =
    let row = row_of name in
    row.mask == mask_of row.format && (bit_and row.value row.mask == row.value && nat_lt row.value (2 ^ 32))

pub mask-row_of : (name : Name) → (row_of name).mask ≡ mask_of (row_of name).format
mask-row_of name = eqb-true _ _ (and_parts _ _ (each_name is_shaped refl name)).0

pub value-row_of : (name : Name) → bit_and (row_of name).value (row_of name).mask ≡ (row_of name).value
value-row_of name = eqb-true _ _ (and_parts _ _ (and_parts _ _ (each_name is_shaped refl name)).1).0

pub value_below : (name : Name) → (row_of name).value < 2 ^ 32
value_below name = ltb-true _ _ (and_parts _ _ (and_parts _ _ (each_name is_shaped refl name)).1).1

module _ (i : Instr) (registers : HasRegisters (row_of i.name).format i) (imm : HasImmediate (row_of i.name).format i.imm) where
  is_word : IsWordOf (row_of i.name).format (mask_of (row_of i.name).format) (row_of i.name).value i (word_of i)
  is_word =
      let row = row_of i.name in
      word_by row.format row.value (word_of i) i (value_below i.name)
      (ap (bit_and row.value) (sym (mask-row_of i.name)) ∙ value-row_of i.name)
      registers imm refl

  pub sum_below : word_of i < 2 ^ 32
  sum_below = is_word.below

  pub means-sum : MeansInstr (word_of i) i
  means-sum = record {
    name = i.name;
    fits = ap (bit_and (word_of i)) (mask-row_of i.name) ∙ is_word.masked;
    is = is_word.fields;
  }

-- a word is the sum of what it means
pub sum-means : (i : Instr) (word : ℕ) → word < 2 ^ 32 → MeansInstr word i → word_of i ≡ word
sum-means i word below m =
    let row = row_of m.name in
    ap word_of m.is
    ∙ ap (λ v. v + register_bits (instr_in row.format m.name word) + immediate_of row.format (imm_of row.format word)) (sym m.fits ∙ ap (bit_and word) (mask-row_of m.name))
    ∙ sym (parts_by row.format m.name word below)

-- the parts as the encoder adds them
pub sum-parts : (i : Instr) (row : CaseRow) (a b : ℕ) → row ≡ row_of i.name → a ≡ register_bits i → b ≡ immediate_of row.format i.imm → row.value + a + b ≡ word_of i
sum-parts i row a b is_row is_a is_b =
    ap (λ x. row.value + x + b) is_a
    ∙ ap (λ x. row.value + register_bits i + x) is_b
    ∙ ap (λ x. x.value + register_bits i + immediate_of x.format i.imm) is_row
