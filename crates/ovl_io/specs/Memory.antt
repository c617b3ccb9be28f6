use Rattle.std.specs.Prelude.{ℕ, ◌+◌, ◌/◌, ◌%◌, suc, zero, Bool, false, List, [], ◌∷◌, Option, None, Some, slice_index, slice_set, if◌then◌else◌}
use Rattle.std.specs.Option.{option_map_or}
use Rattle.std.specs.Ordering.{nat_cmp}
use Rattle.std.specs.FinMap.{FinMap, get, insert}
use Rattle.sizes.specs.declared.TheConstants.{PAGE_BYTES}
use Rattle.ovl_io.specs.Permissions.{permits}

-- A page: what may be done with it, and its PAGE_BYTES bytes.
pub record Page : Type 0 where
  pub perms : ℕ
  pub bytes : List ℕ

-- A memory is a finite map from page numbers to pages. The byte at an address stands in the page of the
-- address divided by PAGE_BYTES, at the place of the rest. Addresses are whole numbers and don't wrap.
abbrev pub Memory : Type 0
Memory = FinMap nat_cmp Page

-- the byte at an address; 0 where its page isn't there
abbrev pub byte_at : Memory → ℕ → ℕ
byte_at memory address = option_map_or (λ page. slice_index page.bytes (address % PAGE_BYTES)) (get memory (address / PAGE_BYTES)) 0

-- so many bytes from an address on
abbrev pub bytes_at : Memory → ℕ → ℕ → List ℕ
bytes_at memory address zero = []
bytes_at memory address (suc more) = byte_at memory address ∷ bytes_at memory (address + 1) more

-- An access is a need (a permission), an address and a length in bytes.
pub record Access : Type 0 where
  pub need : ℕ
  pub address : ℕ
  pub length : ℕ

-- whether the byte at an address may be used so: its page is there and has the permission
abbrev pub allows : Memory → ℕ → ℕ → Bool
allows memory need address = option_map_or (λ page. permits page.perms need) (get memory (address / PAGE_BYTES)) false

-- the least of so many addresses from one on that may not be used so
abbrev pub first_denied : Memory → ℕ → ℕ → ℕ → Option ℕ
first_denied memory need address zero = None
first_denied memory need address (suc more) =
    if allows memory need address then first_denied memory need (address + 1) more else Some address

-- Where an access fails: the least of its addresses whose page isn't there or lacks the need.
abbrev pub denied_at : Memory → Access → Option ℕ
denied_at memory access = first_denied memory access.need access.address access.length

-- a page after a byte of it was stored
abbrev pub with_page_byte : ℕ → ℕ → Page → Page
with_page_byte place value page = record { perms = page.perms; bytes = slice_set page.bytes place value }

-- the memory after a byte was stored at an address; as it was where the page isn't there
abbrev pub with_byte : Memory → ℕ → ℕ → Memory
with_byte memory address value =
    option_map_or (λ page. insert memory (address / PAGE_BYTES) (with_page_byte (address % PAGE_BYTES) value page)) (get memory (address / PAGE_BYTES)) memory

-- the memory after bytes were stored from an address on, one by one
abbrev pub with_bytes : Memory → ℕ → List ℕ → Memory
with_bytes memory address [] = memory
with_bytes memory address (b ∷ bytes) = with_bytes (with_byte memory address b) (address + 1) bytes
