use Rattle.std.specs.Prelude.{ℕ, ◌+◌, ◌-◌, ◌*◌, ◌/◌, ◌%◌, ◌^◌, Bool, true, false}
use Rattle.std.specs.Int.{w32, w64, cast_signed, cast_unsigned, int_shr}
use Rattle.std.specs.Int.RustNames.{int_lt}

-- Arithmetic of 64 bits (RISC-V Unprivileged ISA, "Integer Computational Instructions" of the chapters "RV32I" and
-- "RV64I"). A value is a number below 2^64; `cast_signed w64` is the signed number that it stands for, and
-- `cast_unsigned w64` goes back.

-- sums and differences, modulo 2^64
abbrev pub plus : ℕ → ℕ → ℕ
plus a b = (a + b) % 2 ^ 64

abbrev pub minus : ℕ → ℕ → ℕ
minus a b = (a + (2 ^ 64 - b)) % 2 ^ 64

-- comparison as signed numbers
abbrev pub is_less_signed : ℕ → ℕ → Bool
is_less_signed a b = int_lt (cast_signed w64 a) (cast_signed w64 b)

-- 1 or 0
abbrev pub flag : Bool → ℕ
flag true = 1
flag false = 0

-- the low 32 bits, and those with their sign extended
abbrev pub low_word : ℕ → ℕ
low_word a = a % 2 ^ 32

abbrev pub extended_word : ℕ → ℕ
extended_word a = cast_unsigned w64 (cast_signed w32 (low_word a))

-- the low bits of a shift's amount: six of a shift of 64 bits, five of a shift of 32
abbrev pub amount : ℕ → ℕ
amount b = b % 64

abbrev pub word_amount : ℕ → ℕ
word_amount b = b % 32

-- shifts to the left, to the right without the sign, and to the right with it
abbrev pub shifted_left : ℕ → ℕ → ℕ
shifted_left a by = a * 2 ^ by % 2 ^ 64

abbrev pub shifted_right : ℕ → ℕ → ℕ
shifted_right a by = a / 2 ^ by

abbrev pub shifted_right_signed : ℕ → ℕ → ℕ
shifted_right_signed a by = cast_unsigned w64 (int_shr (cast_signed w64 a) by)

-- the lowest bit cleared
abbrev pub even : ℕ → ℕ
even a = a / 2 * 2
