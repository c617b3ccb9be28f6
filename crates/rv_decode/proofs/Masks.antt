-- What the bits of a word under each of the table's masks are, by arithmetic.
use Rattle.std.proofs.Common.{◌≡◌, ℕ, ◌+◌, ◌*◌, ◌/◌, ◌%◌, ◌<◌, ◌^◌, bit_and, ◌∙◌, ap, arith}
use Rattle.std.proofs.lemmas.Nat.{and_mask, and_block}
use Rattle.std.proofs.lemmas.Nat.Bits.{and_high}
use Rattle.rv_decode.specs.Fields.{field}

pub no_bits : (word : ℕ) → bit_and word 0 ≡ 0
no_bits word = and_mask word 0 ∙ (let e : word % 1 ≡ 0 = omega arith in e)

pub opcode_bits : (word : ℕ) → bit_and word 0x7F ≡ word % 2 ^ 7
opcode_bits word = and_mask word 7

pub funct3_bits : (word : ℕ) → bit_and word 0x707F ≡ field word 12 3 * 2 ^ 12 + word % 2 ^ 7
funct3_bits word =
    let whole : word ≡ word / 2 ^ 7 * 2 ^ 7 + word % 2 ^ 7 = omega arith in
    let blocks : bit_and (word / 2 ^ 7 * 2 ^ 7 + word % 2 ^ 7) (0xE0 * 2 ^ 7 + 0x7F) ≡ bit_and (word / 2 ^ 7) 0xE0 * 2 ^ 7 + bit_and (word % 2 ^ 7) 0x7F =
    and_block 7 (word / 2 ^ 7) 0xE0 (word % 2 ^ 7) 0x7F (omega arith) (omega arith) in
    let high : bit_and (word / 2 ^ 7) 0xE0 ≡ (word / 2 ^ 7 / 2 ^ 5 % 2 ^ 3) * 2 ^ 5 = and_high (word / 2 ^ 7) 3 5 in
    let low : bit_and (word % 2 ^ 7) 0x7F ≡ word % 2 ^ 7 % 2 ^ 7 = and_mask (word % 2 ^ 7) 7 in
    let start : bit_and word 0x707F ≡ bit_and (word / 2 ^ 7 * 2 ^ 7 + word % 2 ^ 7) 0x707F = ap (λ w. bit_and w 0x707F) whole in
    omega arith

pub funct7_bits : (word : ℕ) → word < 2 ^ 32 → bit_and word 0xFE00707F ≡ field word 25 7 * 2 ^ 25 + field word 12 3 * 2 ^ 12 + word % 2 ^ 7
funct7_bits word fits =
    let whole : word ≡ word / 2 ^ 25 * 2 ^ 25 + word % 2 ^ 25 = omega arith in
    let blocks : bit_and (word / 2 ^ 25 * 2 ^ 25 + word % 2 ^ 25) (0x7F * 2 ^ 25 + 0x707F) ≡ bit_and (word / 2 ^ 25) 0x7F * 2 ^ 25 + bit_and (word % 2 ^ 25) 0x707F =
    and_block 25 (word / 2 ^ 25) 0x7F (word % 2 ^ 25) 0x707F (omega arith) (omega arith) in
    let high : bit_and (word / 2 ^ 25) 0x7F ≡ word / 2 ^ 25 % 2 ^ 7 = and_mask (word / 2 ^ 25) 7 in
    let low = funct3_bits (word % 2 ^ 25) in
    let start : bit_and word 0xFE00707F ≡ bit_and (word / 2 ^ 25 * 2 ^ 25 + word % 2 ^ 25) 0xFE00707F = ap (λ w. bit_and w 0xFE00707F) whole in
    omega arith

pub funct6_bits : (word : ℕ) → word < 2 ^ 32 → bit_and word 0xFC00707F ≡ field word 26 6 * 2 ^ 26 + field word 12 3 * 2 ^ 12 + word % 2 ^ 7
funct6_bits word fits =
    let whole : word ≡ word / 2 ^ 26 * 2 ^ 26 + word % 2 ^ 26 = omega arith in
    let blocks : bit_and (word / 2 ^ 26 * 2 ^ 26 + word % 2 ^ 26) (0x3F * 2 ^ 26 + 0x707F) ≡ bit_and (word / 2 ^ 26) 0x3F * 2 ^ 26 + bit_and (word % 2 ^ 26) 0x707F =
    and_block 26 (word / 2 ^ 26) 0x3F (word % 2 ^ 26) 0x707F (omega arith) (omega arith) in
    let high : bit_and (word / 2 ^ 26) 0x3F ≡ word / 2 ^ 26 % 2 ^ 6 = and_mask (word / 2 ^ 26) 6 in
    let low = funct3_bits (word % 2 ^ 26) in
    let start : bit_and word 0xFC00707F ≡ bit_and (word / 2 ^ 26 * 2 ^ 26 + word % 2 ^ 26) 0xFC00707F = ap (λ w. bit_and w 0xFC00707F) whole in
    omega arith

pub whole_word : (word : ℕ) → word < 2 ^ 32 → bit_and word 0xFFFFFFFF ≡ word
whole_word word fits = let e : bit_and word 0xFFFFFFFF ≡ word % 2 ^ 32 = and_mask word 32 in omega arith
