use Rattle.std.specs.Prelude.{◌≡◌, ℕ, zero, suc, ◌+◌, ◌*◌, ◌<◌, ◌≤◌, ◌⊎◌, List, length, get_or, Option, Some, None}
use Rattle.std.specs.Int.{bit_at}
use Rattle.std.specs.Int.Bits.{bit_or}
use Rattle.mark_levels.specs.declared.levels.End.{End}
use Rattle.mark_levels.specs.declared.levels.End.TheVariants.{Low, High}

-- A level of bytes, and above it the marks of its sixteens.

-- the bits of n bytes from one on
unfoldable pub or_of : List ℕ → ℕ → ℕ → ℕ
or_of bytes from zero = 0
or_of bytes from (suc n) = bit_or (or_of bytes from n) (get_or bytes (from + n) 0)

-- the mark of each sixteen has the bits that its bytes have
pub record AreMarks (bytes marks : List ℕ) : Type 0 where
  pub enough : length bytes ≤ 16 * length marks
  pub marked : (g : ℕ) → get_or marks g 0 ≡ or_of bytes (16 * g) 16

-- they had, before bytes of one group were written
pub record AreMarksBut (group : ℕ) (bytes marks : List ℕ) : Type 0 where
  pub was : List ℕ
  pub marks_was : AreMarks was marks
  pub size : length bytes ≡ length was
  pub others : (x : ℕ) → (x < 16 * group) ⊎ (16 * group + 16 ≤ x) → get_or bytes x 0 ≡ get_or was x 0

-- some byte has a bit
abbrev pub HasBit : List ℕ → ℕ → Type 0
HasBit bytes k = (x : ℕ) × (bit_at (get_or bytes x 0) k ≡ 1)

-- no byte has it
abbrev pub LackBit : List ℕ → ℕ → Type 0
LackBit bytes k = (x : ℕ) → bit_at (get_or bytes x 0) k ≡ 0

-- none does from one to below another one
abbrev pub LackBitIn : List ℕ → ℕ → ℕ → ℕ → Type 0
LackBitIn bytes k from to = (x : ℕ) → from ≤ x → x < to → bit_at (get_or bytes x 0) k ≡ 0

-- a byte is nearer to an end than another one
abbrev pub IsNearer : End → ℕ → ℕ → Type 0
IsNearer Low x at = x < at
IsNearer High x at = at < x

-- the byte nearest to an end that has a bit, or that none has it
abbrev pub IsEndBit : List ℕ → ℕ → End → Option ℕ → Type 0
IsEndBit bytes k end None = LackBit bytes k
IsEndBit bytes k end (Some at) = (bit_at (get_or bytes at 0) k ≡ 1) × ((x : ℕ) → IsNearer end x at → bit_at (get_or bytes x 0) k ≡ 0)

-- the same among sixteen from one on
abbrev pub IsEndBitIn : List ℕ → ℕ → End → ℕ → Option ℕ → Type 0
IsEndBitIn bytes k end from None = LackBitIn bytes k from (from + 16)
IsEndBitIn bytes k end from (Some at) =
    (from ≤ at) × (at < from + 16) × (bit_at (get_or bytes at 0) k ≡ 1)
    × ((x : ℕ) → from ≤ x → x < from + 16 → IsNearer end x at → bit_at (get_or bytes x 0) k ≡ 0)

-- no byte has any of the bits from one to below another one
abbrev pub LackBits : List ℕ → ℕ → ℕ → Type 0
LackBits bytes from to = (k : ℕ) → from ≤ k → k < to → LackBit bytes k

-- the least bit from one to below another one that some byte has, or that none has any
abbrev pub IsLeastBit : List ℕ → ℕ → ℕ → Option ℕ → Type 0
IsLeastBit bytes from below None = LackBits bytes from below
IsLeastBit bytes from below (Some bit) = (from ≤ bit) × (bit < below) × HasBit bytes bit × LackBits bytes from bit
