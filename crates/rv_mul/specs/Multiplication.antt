-- What each row of extension M makes of two values of 64 bits (RISC-V Unprivileged ISA, chapter '"M" Extension for Integer
-- Multiplication and Division'), over whole numbers. A value is a number below 2^64, which stands for itself in an unsigned row and
-- for `signed_value` of it in a signed one; in the rows of words that is so of its low 32 bits.
use Rattle.std.specs.Prelude.{ℕ, zero, ◌*◌, ◌/◌, ◌%◌, ◌^◌, ℤ, pos, negsuc, ◌-ℤ◌, ◌*ℤ◌, int_div}
use Rattle.std.specs.Int.{w32, w64, w128, cast_signed, cast_unsigned}
use Rattle.rv_decode.specs.declared.names.Name.{Name}
use Rattle.rv_decode.specs.declared.names.Name.TheVariants.{Mul, Mulh, Mulhsu, Mulhu, Div, Divu, Rem, Remu, Mulw, Divw, Divuw, Remw, Remuw}
use Rattle.rv_execute.specs.Arithmetic.{low_word, extended_word}

-- the signed numbers that 64 bits and the low 32 bits stand for
abbrev pub signed_value : ℕ → ℤ
signed_value a = cast_signed w64 a

abbrev pub signed_word : ℕ → ℤ
signed_word a = cast_signed w32 (low_word a)

-- a whole number in 64 bits, and its low 32 bits with their sign extended
abbrev pub doubleword : ℤ → ℕ
doubleword z = cast_unsigned w64 z

abbrev pub word : ℤ → ℕ
word z = extended_word (doubleword z)

-- the high 64 bits of a product of 128 bits
abbrev pub high : ℤ → ℕ
high product = cast_unsigned w128 product / 2 ^ 64

-- the quotient, rounded towards zero; -1, which has all bits set, where the divisor is 0
abbrev pub quotient : ℤ → ℤ → ℤ
quotient a (pos zero) = negsuc 0
quotient a b = int_div a b

-- what the quotient leaves of the dividend
abbrev pub remainder : ℤ → ℤ → ℤ
remainder a b = a -ℤ b *ℤ quotient a b

-- the rows: a is the value of rs1, and b that of rs2
abbrev pub multiplied : Name → ℕ → ℕ → ℕ
multiplied Mul a b = a * b % 2 ^ 64
multiplied Mulh a b = high (signed_value a *ℤ signed_value b)
multiplied Mulhsu a b = high (signed_value a *ℤ pos b)
multiplied Mulhu a b = high (pos a *ℤ pos b)
multiplied Div a b = doubleword (quotient (signed_value a) (signed_value b))
multiplied Divu a b = doubleword (quotient (pos a) (pos b))
multiplied Rem a b = doubleword (remainder (signed_value a) (signed_value b))
multiplied Remu a b = doubleword (remainder (pos a) (pos b))
multiplied Mulw a b = extended_word (a * b)
multiplied Divw a b = word (quotient (signed_word a) (signed_word b))
multiplied Divuw a b = word (quotient (pos (low_word a)) (pos (low_word b)))
multiplied Remw a b = word (remainder (signed_word a) (signed_word b))
multiplied Remuw a b = word (remainder (pos (low_word a)) (pos (low_word b)))
-- the names of RV64I have no row in this table
multiplied _ a b = 0
