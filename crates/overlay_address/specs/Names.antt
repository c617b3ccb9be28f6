use Rattle.std.specs.Prelude.{◌≡◌, ℕ, ◌+◌, ◌-◌, ◌*◌, ◌/◌, ◌%◌, ◌^◌, ◌<◌, nat_lt, cond, Option, Some, None}
use Rattle.sizes.specs.declared.TheConstants.{PAGE_BYTES}

-- The names of overlays, as numbers of 64 bits.

-- the name of the overlay of a page of a space: bit 63 is set, and the address of the page stands below the space
abbrev pub overlay_page : ℕ → ℕ → ℕ
overlay_page space page = 2 ^ 63 + 2 ^ 48 * space + PAGE_BYTES * page

-- the space and the page of a name
abbrev pub space_of : ℕ → ℕ
space_of name = name / 2 ^ 48 % 2 ^ 15

abbrev pub page_of : ℕ → ℕ
page_of name = name / PAGE_BYTES % 2 ^ 36

-- what is true of every name: it is that of its space and its page
abbrev pub IsName : ℕ → Type 0
IsName name = name ≡ overlay_page (space_of name) (page_of name)

-- the name and the offset that an address has, where bit 63 is set
abbrev pub split_address : ℕ → Option (ℕ × ℕ)
split_address address = cond (nat_lt address (2 ^ 63)) None (Some (address - address % PAGE_BYTES, address % PAGE_BYTES))

-- it is the address of a byte at an offset of an overlay
abbrev pub IsAddressOf : ℕ → ℕ × ℕ → Type 0
IsAddressOf address found = (address ≡ found.0 + found.1) × (found.1 < PAGE_BYTES) × IsName found.0
