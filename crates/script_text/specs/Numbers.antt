use Rattle.std.specs.Prelude.{ℕ, ◌+◌, ◌-◌, ◌*◌, ◌&&◌, ◌||◌, nat_le, nat_eq, Bool, List, take, drop, Option, Some, None, codes, if◌then◌else◌}
use Rattle.std.specs.List.{fold, list_all}
use lib.Pointwise.{pointwise}
use Rattle.script_text.specs.Words.{has_bytes}

-- How numbers are spelled: decimal digits, or `0x` and hexadecimal digits of either case; at least one digit,
-- any count of leading zeros, no sign.

abbrev pub is_decimal : ℕ → Bool
is_decimal b = nat_le 48 b && nat_le b 57

abbrev pub is_hexadecimal : ℕ → Bool
is_hexadecimal b = is_decimal b || nat_le 65 b && nat_le b 70 || nat_le 97 b && nat_le b 102

-- what a digit stands for
abbrev pub digit : ℕ → ℕ
digit b = if nat_le b 57 then b - 48 else if nat_le b 70 then b - 55 else b - 87

-- what digits of a base stand for
abbrev pub number_value : ℕ → List ℕ → ℕ
number_value base digits = fold (λ n b. base * n + digit b) 0 digits

-- the number that bytes are where each is a digit of the base
abbrev pub spelled : ℕ → (ℕ → Bool) → List ℕ → Option ℕ
spelled base is_digit bytes = if has_bytes bytes && list_all is_digit bytes then Some (number_value base bytes) else None

-- whether a word begins as a hexadecimal number does
abbrev pub is_hex_marked : List ℕ → Bool
is_hex_marked word = pointwise nat_eq (take 2 word) (codes "0x")

-- the number that a word is
abbrev pub number_in : List ℕ → Option ℕ
number_in word = if is_hex_marked word then spelled 16 is_hexadecimal (drop 2 word) else spelled 10 is_decimal word

abbrev pub within : ℕ → ℕ → Option ℕ → Option ℕ
within least most None = None
within least most (Some n) = if nat_le least n && nat_le n most then Some n else None

-- the number that a word is, where it lies in a range
abbrev pub number_between : ℕ → ℕ → List ℕ → Option ℕ
number_between least most word = within least most (number_in word)
