use Rattle.std.specs.Prelude.{ℕ, ◌-◌, ◌^◌, ◌==◌, ◌&&◌, ◌||◌, nat_le, Bool, false, ℤ, pos, neg_ℤ, ◌*ℤ◌, int_le, int_lt, int_rem, unsigned_abs, List, [], ◌∷◌, length, Option, Some, None, if◌then◌else◌, find}
use Rattle.std.specs.Option.{option_map}
use Rattle.std.specs.List.{filter, list_all}
pub use Rattle.script_text.specs.Kinds.{Kind, is_text}
use Rattle.script_text.specs.Numbers.{is_decimal, spelled, within, number_between}
use Rattle.rv_decode.specs.declared.names.Format.{Format}
use Rattle.rv_decode.specs.declared.names.Format.TheVariants as format
use Rattle.rv_decode.specs.declared.names.Name.{Name}
use Rattle.rv_decode.specs.Table.{all_names, is_base, text_of}

-- The kinds of words.

-- what a value that may be missing is made of
abbrev pub and_then : {A B : Type 0} → Option A → (A → Option B) → Option B
and_then None f = None
and_then (Some a) f = f a

-- the name of a row of RV64I, as it is printed
abbrev pub base_names : List Name
base_names = filter is_base all_names

unfoldable pub name_word : Kind Name
name_word word = find (λ n. is_text word (text_of n)) base_names

-- decimal digits, at least one
abbrev pub natural : Kind ℕ
natural digits = spelled 10 is_decimal digits

-- a number of 32 bits, spelled as in a script
unfoldable pub raw_word : Kind ℕ
raw_word word = number_between 0 (2 ^ 32 - 1) word

-- a register: `x` and a number up to 31 without leading zeros
abbrev pub has_leading_zero : List ℕ → Bool
has_leading_zero [] = false
has_leading_zero (b ∷ []) = false
has_leading_zero (b ∷ c ∷ bs) = b == 48

abbrev pub register_number : Kind ℕ
register_number digits = if has_leading_zero digits then None else within 0 31 (natural digits)

unfoldable pub register_word : Kind ℕ
register_word [] = None
register_word (b ∷ digits) = if b == 120 then register_number digits else None

-- digits, with or without a minus before them
unfoldable pub signed_word : Kind ℤ
signed_word [] = None
signed_word (b ∷ bs) = if b == 45 then option_map (λ n. neg_ℤ (pos n)) (natural bs) else option_map pos (natural (b ∷ bs))

-- such a number, where it has at most 32 bits without its sign
abbrev pub limited : Option ℤ → Option ℤ
limited None = None
limited (Some z) = if nat_le (unsigned_abs z) (2 ^ 32 - 1) then Some z else None

-- The immediate of a row as it is written: within the range of its format, and even in a branch or a jump.
-- That of the format U is written as the upper 20 bits.
abbrev pub is_signed : ℕ → ℤ → Bool
is_signed bits z = int_le (neg_ℤ (pos (2 ^ bits))) z && int_lt z (pos (2 ^ bits))

abbrev pub is_multiple : ℕ → ℤ → Bool
is_multiple k z = unsigned_abs (int_rem z (pos k)) == 0

abbrev pub is_amount : ℕ → ℤ → Bool
is_amount bits z = int_le (pos 0) z && int_lt z (pos (2 ^ bits))

abbrev pub fits : Format → ℤ → Bool
fits format.I z = is_signed 11 z
fits format.S z = is_signed 11 z
fits format.B z = is_signed 12 z && is_multiple 2 z
fits format.U z = is_signed 19 z
fits format.J z = is_signed 20 z && is_multiple 2 z
fits format.H6 z = is_amount 6 z
fits format.H5 z = is_amount 5 z
fits format.R z = false
fits format.N z = false

-- what is written for an immediate, as the immediate
abbrev pub scaled : Format → ℤ → ℤ
scaled format.U z = z *ℤ pos (2 ^ 12)
scaled _ z = z

abbrev pub placed : Format → ℤ → Option ℤ
placed format z = if fits format z then Some (scaled format z) else None

unfoldable pub immediate_word : Format → Kind ℤ
immediate_word format word = and_then (signed_word word) (λ z. placed format z)

-- what stands before the first byte of a value, and behind it
abbrev pub with_front : ℕ → Option (List ℕ × List ℕ) → Option (List ℕ × List ℕ)
with_front b None = None
with_front b (Some p) = Some (b ∷ p.0, p.1)

abbrev pub cut : ℕ → List ℕ → Option (List ℕ × List ℕ)
cut at [] = None
cut at (b ∷ bs) = if b == at then Some ([], bs) else with_front b (cut at bs)

-- I(xA): the immediate before the first `(`, and the register between it and the `)` that ends the word
abbrev pub closed : List ℕ × List ℕ → Option ℕ
closed p = if length p.1 == 0 then register_word p.0 else None

abbrev pub offset_parts : Format → List ℕ × List ℕ → Option (ℤ × ℕ)
offset_parts format p =
    and_then (immediate_word format p.0) (λ n. option_map (λ r. (n, r)) (and_then (cut 41 p.1) closed))

unfoldable pub offset_word : Format → Kind (ℤ × ℕ)
offset_word format word = and_then (cut 40 word) (offset_parts format)

-- a label's name: 1 to 32 letters, digits and `_`, a letter first
abbrev pub is_letter : ℕ → Bool
is_letter b = nat_le 65 b && nat_le b 90 || nat_le 97 b && nat_le b 122

abbrev pub is_name_byte : ℕ → Bool
is_name_byte b = is_letter b || is_decimal b || b == 95

abbrev pub begins_with_letter : List ℕ → Bool
begins_with_letter [] = false
begins_with_letter (b ∷ bs) = is_letter b

unfoldable pub is_label : List ℕ → Bool
is_label word = begins_with_letter word && nat_le (length word) 32 && list_all (λ b. is_name_byte b) word

-- where a branch or a jump goes: so many bytes on, or to a label
pub data Target : Type 0 where
  By : ℤ → Target
  To : List ℕ → Target

unfoldable pub target_word : Format → Kind Target
target_word format word = if is_label word then Some (To word) else option_map By (immediate_word format word)
