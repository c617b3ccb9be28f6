use Rattle.std.specs.Prelude.{ℕ, zero, suc, ◌+◌, ◌/◌, ◌%◌, ◌==◌, nat_lt, ℤ, pos, negsuc, map, List, [], ◌∷◌, ◌++◌, codes, if◌then◌else◌}
use Rattle.std.specs.Int.Digits.{digits_of}

-- Numbers as characters, without leading zeros; zero is the one digit 0. A number's digits in a base are the
-- remainders by it, the highest first.

unfoldable pub in_decimal : ℕ → List ℕ
in_decimal n = if n == 0 then codes "0" else map (λ d. 48 + d) (digits_of 10 n)

-- with its sign
abbrev pub signed_text : ℤ → List ℕ
signed_text (pos n) = in_decimal n
signed_text (negsuc n) = codes "-" ++ in_decimal (n + 1)

-- a hexadecimal digit, in lower case
abbrev pub hex_digit : ℕ → ℕ
hex_digit d = if nat_lt d 10 then 48 + d else 87 + d

-- an address
unfoldable pub address_text : ℕ → List ℕ
address_text at = codes "0x" ++ (if at == 0 then codes "0" else map hex_digit (digits_of 16 at))

-- the last so many hexadecimal digits of a number, with leading zeros; and those of a word of 64 bits
unfoldable pub hex_places : ℕ → ℕ → List ℕ
hex_places zero n = []
hex_places (suc places) n = hex_places places (n / 16) ++ hex_digit (n % 16) ∷ []

abbrev pub word_text : ℕ → List ℕ
word_text n = hex_places 16 n
