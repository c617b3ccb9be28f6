use Rattle.std.specs.Prelude.{ℕ, ◌+◌, ◌-◌, ◌*◌, ◌%◌, ◌^◌, ◌==◌, ◌&&◌, ◌||◌, not, nat_le, nat_eq, Bool, List, [], ◌∷◌, length, take, drop, Option, Some, None, codes, if◌then◌else◌}
use Rattle.std.specs.List.{list_all}
use lib.Pointwise.{pointwise}
use Rattle.ovl_io.specs.declared.perms.Perms.{Perms}
use Rattle.script_text.specs.declared.TheConstants.{MOST_CHECKPOINT_NAME, MOST_DUMPED, MOST_PAGES, MOST_POKED, MOST_TURNS, MOST_WORDS, PC_NUMBER}
use Rattle.sizes.specs.declared.TheConstants.{LAST_SPACE, MOST_FILE_NAME}
use Rattle.script_text.specs.Numbers.{is_decimal, is_hexadecimal, digit, number_between}

-- The kinds of words. A kind is what it makes of a word: what the word says, or nothing where it is none of
-- the kind.
abbrev pub Kind : Type 0 → Type 0
Kind A = List ℕ → Option A

-- FILE: 1 to 255 bytes, each from 21 to 7E
abbrev pub is_file_name : List ℕ → Bool
is_file_name word =
    nat_le 1 (length word) && nat_le (length word) MOST_FILE_NAME && list_all (λ b. nat_le 33 b && nat_le b 126) word

abbrev pub file_word : Kind (List ℕ)
file_word word = if is_file_name word then Some word else None

-- NAME: 1 to 32 bytes, each a letter, a digit, `_` or `-`
abbrev pub is_name_byte : ℕ → Bool
is_name_byte b = is_decimal b || nat_le 65 b && nat_le b 90 || nat_le 97 b && nat_le b 122 || b == 95 || b == 45

abbrev pub is_checkpoint_name : List ℕ → Bool
is_checkpoint_name word =
    nat_le 1 (length word) && nat_le (length word) MOST_CHECKPOINT_NAME && list_all (λ b. is_name_byte b) word

abbrev pub checkpoint_word : Kind (List ℕ)
checkpoint_word word = if is_checkpoint_name word then Some word else None

-- N: a number of turns
abbrev pub turns_word : Kind ℕ
turns_word word = number_between 1 MOST_TURNS word

-- P: a process number
abbrev pub process_word : Kind ℕ
process_word word = number_between 1 LAST_SPACE word

-- ADDR: an address; VALUE: that of a register
abbrev pub address_word : Kind ℕ
address_word word = number_between 0 (2 ^ 64 - 1) word

-- REG: the pc, whose number is behind those of the registers; or `x` and the number of a register, without leading zeros
abbrev pub is_text : List ℕ → List ℕ → Bool
is_text word text = pointwise nat_eq word text

abbrev pub begins_with : List ℕ → List ℕ → Bool
begins_with word text = is_text (take 1 word) text

abbrev pub has_leading_zero : List ℕ → Bool
has_leading_zero digits = begins_with digits (codes "0") && not (length digits == 1)

abbrev pub register_number : Kind ℕ
register_number digits = if has_leading_zero digits then None else number_between 0 31 digits

abbrev pub register_word : Kind ℕ
register_word word =
    if is_text word (codes "pc") then Some PC_NUMBER
    else if begins_with word (codes "x") then register_number (drop 1 word)
    else None

-- K: a number of pages
abbrev pub pages_word : Kind ℕ
pages_word word = number_between 1 MOST_PAGES word

-- LEN: a number of bytes to print
abbrev pub dumped_word : Kind ℕ
dumped_word word = number_between 1 MOST_DUMPED word

-- W: a number of words to print
abbrev pub words_word : Kind ℕ
words_word word = number_between 1 MOST_WORDS word

-- HEX: 1 to 4096 bytes, each as two hexadecimal digits, of which the first is the higher
abbrev pub is_hex : List ℕ → Bool
is_hex word =
    nat_le 2 (length word) && nat_le (length word) (2 * MOST_POKED) && length word % 2 == 0 && list_all is_hexadecimal word

abbrev pub bytes_of_pairs : List ℕ → List ℕ
bytes_of_pairs [] = []
bytes_of_pairs (high ∷ []) = []
bytes_of_pairs (high ∷ low ∷ digits) = (16 * digit high + digit low) ∷ bytes_of_pairs digits

abbrev pub hex_word : Kind (List ℕ)
hex_word word = if is_hex word then Some (bytes_of_pairs word) else None

-- PERM: what may be done with a page
abbrev pub perms_of_bits : ℕ → Perms
perms_of_bits bits = record { 0 = bits }

abbrev pub perms_word : Kind Perms
perms_word word =
    if is_text word (codes "r") then Some (perms_of_bits 4)
    else if is_text word (codes "rw") then Some (perms_of_bits 6)
    else if is_text word (codes "x") then Some (perms_of_bits 1)
    else if is_text word (codes "rx") then Some (perms_of_bits 5)
    else if is_text word (codes "rwx") then Some (perms_of_bits 7)
    else None

-- the word `all`, which says no more than that it stands there
abbrev pub is_all : List ℕ → Bool
is_all word = pointwise nat_eq word (codes "all")

abbrev pub all_word : Kind (Unit {0})
all_word word = if is_all word then Some tt else None
