use Rattle.std.specs.Prelude.{◌≡◌, ℕ, zero, suc, ◌+◌, ◌-◌, ◌*◌, ◌/◌, ◌%◌, ◌^◌, ◌<◌, ◌≤◌, ◌⊎◌, true, false, cond, nat_eq, List, [], ◌∷◌, length}
use Rattle.sizes.specs.declared.TheConstants.{LINE_BYTES, PAGE_LINES, UNIT_LINES}
use Rattle.overlay_bits.specs.Lines.{has_line}

-- The line of pointers, read as one little-endian number.

-- the number of some bytes
unfoldable pub bytes_number : List ℕ → ℕ
bytes_number [] = 0
bytes_number (byte ∷ bytes) = byte + 256 * bytes_number bytes

-- the bits of a number from `low` on, as many as `count`
abbrev pub bits_from : ℕ → ℕ → ℕ → ℕ
bits_from low count n = n / 2 ^ low % 2 ^ count

-- the slot of a line; 0 where the line is absent
abbrev pub slot_of : List ℕ → ℕ → ℕ
slot_of pointers line = bits_from (5 * line) 5 (bytes_number pointers)

-- the word of the free slots, and the bit of one
abbrev pub free_word : List ℕ → ℕ
free_word pointers = bits_from 320 32 (bytes_number pointers)

abbrev pub free_bit : List ℕ → ℕ → ℕ
free_bit pointers slot = bits_from (320 + slot) 1 (bytes_number pointers)

-- how many of the slots from 1 to one are free
abbrev pub free_count : List ℕ → ℕ → ℕ
free_count pointers zero = 0
free_count pointers (suc slot) = free_count pointers slot + free_bit pointers (suc slot)

-- the most lines that a segment of an order has
abbrev pub capacity_of : ℕ → ℕ
capacity_of order = cond (nat_eq order 4) PAGE_LINES (UNIT_LINES * 2 ^ order - 1)

-- The line of pointers of a segment that has these lines and as many slots. Lines that are present have different slots, a slot is
-- free exactly where no line has it, and every other bit is 0.
pub record ArePointers (slots : ℕ) (lines pointers : List ℕ) : Type 0 where
  pub bytes : length pointers ≡ LINE_BYTES
  pub absent : (line : ℕ) → line < PAGE_LINES → has_line lines line ≡ false → slot_of pointers line ≡ 0
  pub present : (line : ℕ) → has_line lines line ≡ true → (1 ≤ slot_of pointers line) × (slot_of pointers line ≤ slots)
  pub differ : (one two : ℕ) → has_line lines one ≡ true → has_line lines two ≡ true → slot_of pointers one ≡ slot_of pointers two → one ≡ two
  pub taken : (line : ℕ) → has_line lines line ≡ true → free_bit pointers (slot_of pointers line) ≡ 0
  pub free : (slot : ℕ) → 1 ≤ slot → slot ≤ slots → ((line : ℕ) → has_line lines line ≡ true → slot_of pointers line ≡ slot → ⊥) → free_bit pointers slot ≡ 1
  pub none : (slot : ℕ) → slot < 32 → (slot ≡ 0) ⊎ (slots < slot) → free_bit pointers slot ≡ 0
  pub above : bytes_number pointers / 2 ^ 352 ≡ 0
  pub left : length lines + free_count pointers slots ≡ slots

-- a value was written into the bits from `low` on, and all others are as they were
pub record HasWritten (low count value old new : ℕ) : Type 0 where
  pub below : new % 2 ^ low ≡ old % 2 ^ low
  pub there : bits_from low count new ≡ value
  pub above : new / 2 ^ (low + count) ≡ old / 2 ^ (low + count)

-- a line got a slot that was free, and nothing else changed
pub record HasTaken (line slot : ℕ) (old new : List ℕ) : Type 0 where
  pub bytes : length new ≡ length old
  pub here : slot_of new line ≡ slot
  pub others : (other : ℕ) → other < PAGE_LINES → (other ≡ line → ⊥) → slot_of new other ≡ slot_of old other
  pub taken : free_bit new slot ≡ 0
  pub free : (other : ℕ) → other < 32 → (other ≡ slot → ⊥) → free_bit new other ≡ free_bit old other
  pub above : bytes_number new / 2 ^ 352 ≡ bytes_number old / 2 ^ 352

-- the lowest free slot
pub record IsLowestFree (pointers : List ℕ) (slot : ℕ) : Type 0 where
  pub below : slot < 32
  pub free : free_bit pointers slot ≡ 1
  pub lowest : (other : ℕ) → other < slot → free_bit pointers other ≡ 0
