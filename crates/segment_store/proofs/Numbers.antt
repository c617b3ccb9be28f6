use Rattle.std.proofs.Common.{◌≡◌, ℕ, zero, suc, ◌+◌, ◌-◌, ◌*◌, ◌/◌, ◌%◌, ◌^◌, ◌<◌, ◌≤◌, List, [], ◌∷◌, length, length-set, get_or, get_or-set_other, set, drop, sym, ap, refl, ◌∙◌, arith}
use Rattle.std.proofs.Math.Nat.{pow-suc, pow-succ', mul_assoc, mul_comm, add-mul, div-div-eq-div-mul}
use Rattle.std.proofs.Math.Pow.{mod-mod-pow}
use Rattle.std.proofs.lemmas.List.{drop_more}
use Rattle.std.proofs.lemmas.Nat.{pow_pos, pow-add, shr-shr, div-mul-add, mod-mul-add, div-add-mod', mod_below, field_of}
use Rattle.segment_store.specs.Pointers.{bytes_number, bits_from, HasWritten}

-- Numbers of bytes, and fields of numbers.

abbrev pub AreBytes : List ℕ → Type 0
AreBytes bytes = (i : ℕ) → get_or bytes i 0 < 256

-- the number behind the first bytes
pub number_behind : (k : ℕ) (bytes : List ℕ) → AreBytes bytes → k ≤ length bytes → bytes_number bytes / 256 ^ k ≡ bytes_number (drop k bytes)
unfolding bytes_number
number_behind zero bytes are h = omega arith
number_behind (suc k) [] are h = absurd (omega (arith, h))
number_behind (suc k) (b ∷ bytes) are h =
    let first : (b + 256 * bytes_number bytes) / 256 ≡ bytes_number bytes = omega (arith, are 0) in
    ap (λ n. (b + 256 * bytes_number bytes) / n) (pow-succ' 256 k)
    ∙ sym (div-div-eq-div-mul (b + 256 * bytes_number bytes) 256 (256 ^ k))
    ∙ ap (λ n. n / 256 ^ k) first
    ∙ number_behind k bytes (λ i. are (suc i)) (omega (arith, h))

-- one byte less there, and another in its place
pub number_set : (k : ℕ) (bytes : List ℕ) (v : ℕ) → k < length bytes → bytes_number (set bytes k v) + get_or bytes k 0 * 256 ^ k ≡ bytes_number bytes + v * 256 ^ k
unfolding bytes_number
number_set k [] v h = absurd (omega (arith, h))
number_set zero (b ∷ bytes) v h = omega arith
number_set (suc k) (b ∷ bytes) v h =
    let g = get_or bytes k 0 in
    omega (arith, number_set k bytes v (omega (arith, h)), further g, further v)
  where
    further : (x : ℕ) → x * 256 ^ suc k ≡ 256 * (x * 256 ^ k)
    further x = ap (λ n. x * n) (pow-suc 256 k) ∙ sym (mul_assoc x (256 ^ k) 256) ∙ mul_comm (x * 256 ^ k) 256

-- a value was put into a field
pub has_written : (low count old value before after : ℕ) → value < 2 ^ count → bits_from low count before ≡ old → after + old * 2 ^ low ≡ before + value * 2 ^ low → HasWritten low count value before after
has_written low count old value before after small was e =
    let p = 2 ^ low in
    let q = before / p in
    let r = before % p in
    let high = q / 2 ^ count in
    let split : q ≡ high * 2 ^ count + old = sym (div-add-mod' q (2 ^ count)) ∙ ap (λ n. high * 2 ^ count + n) was in
    let next = high * 2 ^ count + value in
    let is : after ≡ next * p + r = omega (
      arith,
      e,
      div-add-mod' before p,
      ap (λ n. n * p) split,
      add-mul (high * 2 ^ count) old p,
      add-mul (high * 2 ^ count) value p,
    ) in
    let r_low = mod_below before p (pow_pos low) in
    let quotient : after / p ≡ next = ap (λ n. n / p) is ∙ div-mul-add next p r r_low in
    record {
      below = ap (λ n. n % p) is ∙ mod-mul-add next p r r_low;
      there = ap (λ n. n % 2 ^ count) quotient ∙ mod-mul-add high (2 ^ count) value small;
      above = sym (shr-shr after low count) ∙ ap (λ n. n / 2 ^ count) quotient ∙ div-mul-add high (2 ^ count) value small ∙ shr-shr before low count;
    }

-- a field below what was written
pub field_below : (low count value old new from many : ℕ) → HasWritten low count value old new → from + many ≤ low → bits_from from many new ≡ bits_from from many old
field_below low count value old new from many w h =
    sym (field_of new many from)
    ∙ ap (λ n. n / 2 ^ from) (sym (cut new) ∙ ap (λ n. n % 2 ^ (many + from)) w.below ∙ cut old)
    ∙ field_of old many from
  where
    cut : (n : ℕ) → n % 2 ^ low % 2 ^ (many + from) ≡ n % 2 ^ (many + from)
    cut n = let e : low - (many + from) + (many + from) ≡ low = omega (arith, h) in ap (λ k. n % 2 ^ k % 2 ^ (many + from)) (sym e) ∙ mod-mod-pow n (low - (many + from)) (many + from)

-- what stands from a bit above it on
pub above_it : (low count value old new from : ℕ) → HasWritten low count value old new → low + count ≤ from → new / 2 ^ from ≡ old / 2 ^ from
above_it low count value old new from w h = sym (cut new) ∙ ap (λ n. n / 2 ^ (from - (low + count))) w.above ∙ cut old
  where
    cut : (n : ℕ) → n / 2 ^ (low + count) / 2 ^ (from - (low + count)) ≡ n / 2 ^ from
    cut n = let e : low + count + (from - (low + count)) ≡ from = omega (arith, h) in shr-shr n (low + count) (from - (low + count)) ∙ ap (λ k. n / 2 ^ k) e

-- a field above it
pub field_above : (low count value old new from many : ℕ) → HasWritten low count value old new → low + count ≤ from → bits_from from many new ≡ bits_from from many old
field_above low count value old new from many w h = ap (λ n. n % 2 ^ many) (above_it low count value old new from w h)

-- Reading by bytes.

-- bit 5 i lies in byte 5 i / 8
pub bytes_to_bits : (k : ℕ) → 256 ^ k ≡ 2 ^ (8 * k)
bytes_to_bits zero = refl
bytes_to_bits (suc k) = pow-suc 256 k ∙ ap (λ n. n * 256) (bytes_to_bits k) ∙ sym (pow-add 2 (8 * k) 8) ∙ (let e : 8 * k + 8 ≡ 8 * suc k = omega arith in ap (λ n. 2 ^ n) e)

-- the number from a bit on, by the bytes from its byte on
pub number_from : (bytes : List ℕ) (bit : ℕ) → AreBytes bytes → bit / 8 ≤ length bytes → bytes_number bytes / 2 ^ bit ≡ bytes_number (drop (bit / 8) bytes) / 2 ^ (bit % 8)
number_from bytes bit are h =
    let e : bit ≡ 8 * (bit / 8) + bit % 8 = omega arith in
    ap (λ n. bytes_number bytes / 2 ^ n) e
    ∙ sym (shr-shr (bytes_number bytes) (8 * (bit / 8)) (bit % 8))
    ∙ ap (λ n. n / 2 ^ (bit % 8)) (ap (λ n. bytes_number bytes / n) (sym (bytes_to_bits (bit / 8))) ∙ number_behind (bit / 8) bytes are h)

-- two bytes, and what is behind them
pub two_bytes : (bytes : List ℕ) (k : ℕ) → k + 1 < length bytes → bytes_number (drop k bytes) ≡ get_or bytes k 0 + 256 * (get_or bytes (k + 1) 0 + 256 * bytes_number (drop (k + 2) bytes))
unfolding bytes_number
two_bytes bytes k h =
    let e : k + 1 + 1 ≡ k + 2 = omega arith in
    ap bytes_number (drop_more bytes k 0 (omega (arith, h)))
    ∙ ap (λ bs. get_or bytes k 0 + 256 * bytes_number bs) (drop_more bytes (k + 1) 0 h)
    ∙ ap (λ n. get_or bytes k 0 + 256 * (get_or bytes (k + 1) 0 + 256 * bytes_number (drop n bytes))) e

by_shift : (P : ℕ → Type 0) → P 0 → P 1 → P 2 → P 3 → P 4 → P 5 → P 6 → P 7 → (k : ℕ) → k < 8 → P k
by_shift P a b c d e f g i zero h = a
by_shift P a b c d e f g i (suc zero) h = b
by_shift P a b c d e f g i (suc (suc zero)) h = c
by_shift P a b c d e f g i (suc (suc (suc zero))) h = d
by_shift P a b c d e f g i (suc (suc (suc (suc zero)))) h = e
by_shift P a b c d e f g i (suc (suc (suc (suc (suc zero))))) h = f
by_shift P a b c d e f g i (suc (suc (suc (suc (suc (suc zero)))))) h = g
by_shift P a b c d e f g i (suc (suc (suc (suc (suc (suc (suc zero))))))) h = i
by_shift P a b c d e f g i (suc (suc (suc (suc (suc (suc (suc (suc k)))))))) h = absurd (omega (arith, h))

-- five bits that begin in the first of two bytes lie in them
pub in_pair : (shift pair rest : ℕ) → shift < 8 → pair < 65536 → (pair + 65536 * rest) / 2 ^ shift % 32 ≡ pair / 2 ^ shift % 32
in_pair shift pair rest h small =
    by_shift (λ k. (pair + 65536 * rest) / 2 ^ k % 32 ≡ pair / 2 ^ k % 32)
    (omega (arith, small)) (omega (arith, small)) (omega (arith, small)) (omega (arith, small)) (omega (arith, small)) (omega (arith, small)) (omega (arith, small)) (omega (arith, small)) shift h

-- the five bits from one on, by two bytes
pub slot_read : (bytes : List ℕ) (bit : ℕ) → AreBytes bytes → bit / 8 + 1 < length bytes → bits_from bit 5 (bytes_number bytes) ≡ (get_or bytes (bit / 8) 0 + 256 * get_or bytes (bit / 8 + 1) 0) / 2 ^ (bit % 8) % 32
slot_read bytes bit are h =
    let k = bit / 8 in
    let rest = bytes_number (drop (k + 2) bytes) in
    let pair = get_or bytes k 0 + 256 * get_or bytes (k + 1) 0 in
    let e : bytes_number (drop k bytes) ≡ pair + 65536 * rest = omega (arith, two_bytes bytes k h) in
    ap (λ n. n % 32) (number_from bytes bit are (omega (arith, h)) ∙ ap (λ n. n / 2 ^ (bit % 8)) e)
    ∙ in_pair (bit % 8) pair rest (omega arith) (omega (arith, are k, are (k + 1)))

-- the free word, by its bytes
pub word_read : (bytes : List ℕ) → AreBytes bytes → length bytes ≡ 64 → bits_from 320 32 (bytes_number bytes) ≡ get_or bytes 40 0 + get_or bytes 41 0 * 256 + get_or bytes 42 0 * 65536 + get_or bytes 43 0 * 16777216
word_read bytes are h =
    let low = number_from bytes 320 are (omega (arith, h)) in
    let first = two_bytes bytes 40 (omega (arith, h)) in
    let second = two_bytes bytes 42 (omega (arith, h)) in
    omega (arith, low, first, second, are 40, are 41, are 42, are 43)

-- a field of a pair is taken out, and a value put in
old_part : (shift pair : ℕ) → shift < 8 → pair < 65536 → (pair / 2 ^ shift % 32 * 2 ^ shift % 65536 ≡ pair / 2 ^ shift % 32 * 2 ^ shift) × (pair / 2 ^ shift % 32 * 2 ^ shift ≤ pair)
old_part shift pair h small =
    by_shift (λ k. (pair / 2 ^ k % 32 * 2 ^ k % 65536 ≡ pair / 2 ^ k % 32 * 2 ^ k) × (pair / 2 ^ k % 32 * 2 ^ k ≤ pair))
    (omega arith, omega arith) (omega arith, omega arith) (omega arith, omega arith) (omega arith, omega arith) (omega arith, omega arith) (omega arith, omega arith) (omega arith, omega arith) (omega arith, omega arith) shift h

new_part : (shift value : ℕ) → shift < 8 → value < 32 → value * 2 ^ shift % 65536 ≡ value * 2 ^ shift
new_part shift value h small =
    by_shift (λ k. value * 2 ^ k % 65536 ≡ value * 2 ^ k)
    (omega (arith, small)) (omega (arith, small)) (omega (arith, small)) (omega (arith, small)) (omega (arith, small)) (omega (arith, small)) (omega (arith, small)) (omega (arith, small)) shift h

both_parts : (shift pair value : ℕ) → shift < 8 → pair < 65536 → value < 32 → pair - pair / 2 ^ shift % 32 * 2 ^ shift + value * 2 ^ shift < 65536
both_parts shift pair value h small low =
    by_shift (λ k. pair - pair / 2 ^ k % 32 * 2 ^ k + value * 2 ^ k < 65536)
    (omega (arith, small, low)) (omega (arith, small, low)) (omega (arith, small, low)) (omega (arith, small, low)) (omega (arith, small, low)) (omega (arith, small, low)) (omega (arith, small, low)) (omega (arith, small, low)) shift h

pub pair_fits : (shift pair value : ℕ) → shift < 8 → pair < 65536 → value < 32
    → (pair / 2 ^ shift % 32 * 2 ^ shift % 65536 ≡ pair / 2 ^ shift % 32 * 2 ^ shift) × (value * 2 ^ shift % 65536 ≡ value * 2 ^ shift) × (pair / 2 ^ shift % 32 * 2 ^ shift ≤ pair) × (pair - pair / 2 ^ shift % 32 * 2 ^ shift + value * 2 ^ shift < 65536)
pair_fits shift pair value h small low =
    let old = old_part shift pair h small in
    (old.0, new_part shift value h low, old.1, both_parts shift pair value h small low)

-- a power of 2 by the byte and the bit in it
pub bit_is : (bit : ℕ) → 2 ^ bit ≡ 2 ^ (bit % 8) * 256 ^ (bit / 8)
bit_is bit =
    let e : bit ≡ bit % 8 + 8 * (bit / 8) = omega arith in
    ap (λ n. 2 ^ n) e ∙ pow-add 2 (bit % 8) (8 * (bit / 8)) ∙ ap (λ n. 2 ^ (bit % 8) * n) (sym (bytes_to_bits (bit / 8)))

-- writing five bits by two bytes
pub slot_written : (bytes : List ℕ) (bit value changed : ℕ) → AreBytes bytes → length bytes ≡ 64 → bit ≤ 315 → value < 32
    → changed + (get_or bytes (bit / 8) 0 + 256 * get_or bytes (bit / 8 + 1) 0) / 2 ^ (bit % 8) % 32 * 2 ^ (bit % 8) ≡ get_or bytes (bit / 8) 0 + 256 * get_or bytes (bit / 8 + 1) 0 + value * 2 ^ (bit % 8)
    → HasWritten bit 5 value (bytes_number bytes) (bytes_number (set (set bytes (bit / 8) (changed % 256)) (bit / 8 + 1) (changed / 256)))
slot_written bytes bit value changed are size low small is =
    has_written bit 5 old value (bytes_number bytes) (bytes_number second) small (slot_read bytes bit are (omega (arith, size, low))) sum
  where
    k : ℕ
    k = bit / 8

    t : ℕ
    t = 2 ^ (bit % 8)

    p : ℕ
    p = 256 ^ k

    pair : ℕ
    pair = get_or bytes k 0 + 256 * get_or bytes (k + 1) 0

    old : ℕ
    old = pair / t % 32

    first : List ℕ
    first = set bytes k (changed % 256)

    second : List ℕ
    second = set first (k + 1) (changed / 256)

    sum : bytes_number second + old * 2 ^ bit ≡ bytes_number bytes + value * 2 ^ bit
    sum = omega (
      arith,
      number_set k bytes (changed % 256) (omega (arith, size, low)),
      number_set (k + 1) first (changed / 256) (omega (arith, size, low, length-set bytes k (changed % 256))),
      ap (λ x. x * 256 ^ (k + 1)) other,
      further (get_or bytes (k + 1) 0),
      further (changed / 256),
      add-mul (get_or bytes k 0) (256 * get_or bytes (k + 1) 0) p,
      add-mul (changed % 256) (256 * (changed / 256)) p,
      mul_assoc 256 (get_or bytes (k + 1) 0) p,
      mul_assoc 256 (changed / 256) p,
      ap (λ x. x * p) is,
      add-mul changed (old * t) p,
      add-mul pair (value * t) p,
      mul_assoc old t p,
      mul_assoc value t p,
      ap (λ x. old * x) (bit_is bit),
      ap (λ x. value * x) (bit_is bit),
      ap (λ x. x * p) parts,
    )
      where
        other : get_or first (k + 1) 0 ≡ get_or bytes (k + 1) 0
        other = get_or-set_other bytes k (k + 1) (changed % 256) 0 (λ e. absurd (omega (arith, e)))

        further : (x : ℕ) → x * 256 ^ (k + 1) ≡ 256 * (x * p)
        further x = ap (λ n. x * n) (pow-add 256 k 1) ∙ sym (mul_assoc x p 256) ∙ mul_comm (x * p) 256

        parts : changed ≡ changed % 256 + 256 * (changed / 256)
        parts = omega arith

-- One bit, by its byte.

in_byte : (shift byte rest : ℕ) → shift < 8 → byte < 256 → (byte + 256 * rest) / 2 ^ shift % 2 ≡ byte / 2 ^ shift % 2
in_byte shift byte rest h small =
    by_shift (λ k. (byte + 256 * rest) / 2 ^ k % 2 ≡ byte / 2 ^ k % 2)
    (omega (arith, small)) (omega (arith, small)) (omega (arith, small)) (omega (arith, small)) (omega (arith, small)) (omega (arith, small)) (omega (arith, small)) (omega (arith, small)) shift h

one_byte : (bytes : List ℕ) (k : ℕ) → k < length bytes → bytes_number (drop k bytes) ≡ get_or bytes k 0 + 256 * bytes_number (drop (k + 1) bytes)
unfolding bytes_number
one_byte bytes k h = ap bytes_number (drop_more bytes k 0 h)

pub bit_read : (bytes : List ℕ) (bit : ℕ) → AreBytes bytes → bit / 8 < length bytes → bits_from bit 1 (bytes_number bytes) ≡ get_or bytes (bit / 8) 0 / 2 ^ (bit % 8) % 2
bit_read bytes bit are h =
    let k = bit / 8 in
    ap (λ n. n % 2) (number_from bytes bit are (omega (arith, h)) ∙ ap (λ n. n / 2 ^ (bit % 8)) (one_byte bytes k h))
    ∙ in_byte (bit % 8) (get_or bytes k 0) (bytes_number (drop (k + 1) bytes)) (omega arith) (are k)

-- a bit that is 1 can be taken away from its byte
pub bit_in : (shift byte : ℕ) → shift < 8 → byte / 2 ^ shift % 2 ≡ 1 → (1 * 2 ^ shift % 65536 ≡ 2 ^ shift) × (2 ^ shift ≤ byte)
bit_in shift byte h is =
    by_shift (λ k. byte / 2 ^ k % 2 ≡ 1 → (1 * 2 ^ k % 65536 ≡ 2 ^ k) × (2 ^ k ≤ byte))
    (λ e. (refl, omega (arith, e))) (λ e. (refl, omega (arith, e))) (λ e. (refl, omega (arith, e))) (λ e. (refl, omega (arith, e))) (λ e. (refl, omega (arith, e))) (λ e. (refl, omega (arith, e))) (λ e. (refl, omega (arith, e))) (λ e. (refl, omega (arith, e)))
    shift h is

pub bit_cleared : (bytes : List ℕ) (bit : ℕ) → AreBytes bytes → bit / 8 < length bytes → bits_from bit 1 (bytes_number bytes) ≡ 1
    → HasWritten bit 1 0 (bytes_number bytes) (bytes_number (set bytes (bit / 8) (get_or bytes (bit / 8) 0 - 1 * 2 ^ (bit % 8) % 65536)))
bit_cleared bytes bit are h is = has_written bit 1 1 0 (bytes_number bytes) (bytes_number after) (omega arith) is sum
  where
    k : ℕ
    k = bit / 8

    t : ℕ
    t = 2 ^ (bit % 8)

    p : ℕ
    p = 256 ^ k

    byte : ℕ
    byte = get_or bytes k 0

    there : (1 * t % 65536 ≡ t) × (t ≤ byte)
    there = bit_in (bit % 8) byte (omega arith) (sym (bit_read bytes bit are h) ∙ is)

    less : ℕ
    less = byte - 1 * t % 65536

    after : List ℕ
    after = set bytes k less

    parts : less + t ≡ byte
    parts = omega (arith, there.0, there.1)

    sum : bytes_number after + 1 * 2 ^ bit ≡ bytes_number bytes + 0 * 2 ^ bit
    sum = omega (arith, number_set k bytes less h, bit_is bit, ap (λ x. x * p) parts, add-mul less t p)
