use Rattle.std.proofs.Common.{◌≡◌, ℕ, zero, suc, ◌+◌, ◌-◌, ◌/◌, ◌%◌, ◌<◌, ◌≤◌, ◌⊎◌, inl, inr, List, [], ◌∷◌, length, take, drop, Option, Some, None, sym, ap, ◌∙◌, refl, arith}
use Rattle.std.specs.Option.{option_map_or}
use Rattle.std.specs.Prelude.{slice_index}
use Rattle.std.specs.FinMap.{get, insert}
use Rattle.std.proofs.lemmas.List.{get_or-set_other}
use Rattle.number_maps.specs.Keys.{by_key, get_other, get_same}
use Rattle.sizes.specs.declared.TheConstants.{PAGE_BYTES}
use Rattle.ovl_io.specs.Memory.{Memory, Page, byte_at, bytes_at, with_byte, with_bytes, with_page_byte}

-- Bytes of a memory, beside those that were stored, and some of some.

byte_beside : (memory : Memory) (a value x : ℕ) → (x ≡ a → ⊥) → byte_at (with_byte memory a value) x ≡ byte_at memory x
byte_beside memory a value x other = by_page (get memory (a / PAGE_BYTES)) refl
  where
    at_page : (page : Page) → get memory (a / PAGE_BYTES) ≡ Some page
        → option_map_or (λ (y : Page). slice_index y.bytes (x % PAGE_BYTES)) (get (with_byte memory a value) (x / PAGE_BYTES)) 0 ≡ byte_at memory x
    at_page page there = by_key (x / PAGE_BYTES) (a / PAGE_BYTES)
        (λ same.
        ap (λ (m : Memory). option_map_or (λ (y : Page). slice_index y.bytes (x % PAGE_BYTES)) (get m (x / PAGE_BYTES)) 0)
        (ap (λ (o : Option Page). option_map_or (λ (y : Page). insert memory (a / PAGE_BYTES) (with_page_byte (a % PAGE_BYTES) value y)) o memory) there)
        ∙ ap (λ (o : Option Page). option_map_or (λ (y : Page). slice_index y.bytes (x % PAGE_BYTES)) o 0)
        (get_same memory (a / PAGE_BYTES) (x / PAGE_BYTES) (with_page_byte (a % PAGE_BYTES) value page) same)
        ∙ get_or-set_other page.bytes (a % PAGE_BYTES) (x % PAGE_BYTES) value 0 (λ place. other (omega (arith, same, place)))
        ∙ sym (ap (λ (o : Option Page). option_map_or (λ (y : Page). slice_index y.bytes (x % PAGE_BYTES)) o 0) (ap (get memory) same ∙ there)))
        (λ apart.
        ap (λ (m : Memory). option_map_or (λ (y : Page). slice_index y.bytes (x % PAGE_BYTES)) (get m (x / PAGE_BYTES)) 0)
        (ap (λ (o : Option Page). option_map_or (λ (y : Page). insert memory (a / PAGE_BYTES) (with_page_byte (a % PAGE_BYTES) value y)) o memory) there)
        ∙ ap (λ (o : Option Page). option_map_or (λ (y : Page). slice_index y.bytes (x % PAGE_BYTES)) o 0)
        (get_other memory (a / PAGE_BYTES) (x / PAGE_BYTES) (with_page_byte (a % PAGE_BYTES) value page) apart))

    by_page : (o : Option Page) → get memory (a / PAGE_BYTES) ≡ o → byte_at (with_byte memory a value) x ≡ byte_at memory x
    by_page None none =
        ap (λ (m : Memory). byte_at m x)
        (ap (λ (o : Option Page). option_map_or (λ (y : Page). insert memory (a / PAGE_BYTES) (with_page_byte (a % PAGE_BYTES) value y)) o memory) none)
    by_page (Some page) there = at_page page there

one_beside : (memory : Memory) (a : ℕ) (bytes : List ℕ) (x : ℕ) → (x < a) ⊎ (a + length bytes ≤ x) → byte_at (with_bytes memory a bytes) x ≡ byte_at memory x
one_beside memory a [] x apart = refl
one_beside memory a (b ∷ bytes) x apart =
    one_beside (with_byte memory a b) (a + 1) bytes x (further apart) ∙ byte_beside memory a b x (other apart)
  where
    further : (x < a) ⊎ (a + length (b ∷ bytes) ≤ x) → (x < a + 1) ⊎ (a + 1 + length bytes ≤ x)
    further (inl below) = inl (omega (arith, below))
    further (inr behind) = inr (omega (arith, behind))

    other : (x < a) ⊎ (a + length (b ∷ bytes) ≤ x) → x ≡ a → ⊥
    other (inl below) same = omega (arith, below, same)
    other (inr behind) same = omega (arith, behind, same)

-- bytes that lie before those that were stored, or behind them, stay
pub bytes_beside : (memory : Memory) (a : ℕ) (bytes : List ℕ) (from n : ℕ) → (from + n ≤ a) ⊎ (a + length bytes ≤ from)
    → bytes_at (with_bytes memory a bytes) from n ≡ bytes_at memory from n
bytes_beside memory a bytes from zero apart = refl
bytes_beside memory a bytes from (suc n) apart =
    λ i. one_beside memory a bytes from (first apart) i ∷ bytes_beside memory a bytes (from + 1) n (rest apart) i
  where
    first : (from + suc n ≤ a) ⊎ (a + length bytes ≤ from) → (from < a) ⊎ (a + length bytes ≤ from)
    first (inl below) = inl (omega (arith, below))
    first (inr behind) = inr behind

    rest : (from + suc n ≤ a) ⊎ (a + length bytes ≤ from) → (from + 1 + n ≤ a) ⊎ (a + length bytes ≤ from + 1)
    rest (inl below) = inl (omega (arith, below))
    rest (inr behind) = inr (omega (arith, behind))

-- some of them
drop_bytes : (memory : Memory) (from k n : ℕ) → drop k (bytes_at memory from n) ≡ bytes_at memory (from + k) (n - k)
drop_bytes memory from zero n =
    let start : from ≡ from + 0 = omega arith in
    let count : n ≡ n - 0 = omega arith in
    λ i. bytes_at memory (start i) (count i)
drop_bytes memory from (suc k) zero = let none : 0 ≡ 0 - suc k = omega arith in ap (bytes_at memory (from + suc k)) none
drop_bytes memory from (suc k) (suc n) =
    let start : from + 1 + k ≡ from + suc k = omega arith in
    let count : n - k ≡ suc n - suc k = omega arith in
    drop_bytes memory (from + 1) k n ∙ (λ i. bytes_at memory (start i) (count i))

take_bytes : (memory : Memory) (from k n : ℕ) → k ≤ n → take k (bytes_at memory from n) ≡ bytes_at memory from k
take_bytes memory from zero n few = refl
take_bytes memory from (suc k) zero few = absurd (omega (arith, few))
take_bytes memory from (suc k) (suc n) few = ap (λ l. byte_at memory from ∷ l) (take_bytes memory (from + 1) k n (omega (arith, few)))

pub some_bytes : (memory : Memory) (from at k n : ℕ) → at + k ≤ n → take k (drop at (bytes_at memory from n)) ≡ bytes_at memory (from + at) k
some_bytes memory from at k n fits = ap (take k) (drop_bytes memory from at n) ∙ take_bytes memory (from + at) k (n - at) (omega (arith, fits))
