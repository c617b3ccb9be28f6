use Rattle.std.specs.Prelude.{ℕ, Bool}
use Rattle.std.specs.Option.{option_map_or, unwrap_or}
use Rattle.std.specs.Ordering.{nat_cmp}
use Rattle.std.specs.FinMap.{FinMap, get, insert}
use Rattle.std.specs.FinSet.{FinSet, contains, empty, insert as with_address, remove as without_address}

-- Breakpoints: for each process that ever had one, the addresses of those that it has.
abbrev pub Addresses : Type 0
Addresses = FinSet nat_cmp

abbrev pub Breaks : Type 0
Breaks = FinMap nat_cmp Addresses

-- the addresses of a process; none where it never had one
abbrev pub addresses_of : Breaks → ℕ → Addresses
addresses_of breaks p = unwrap_or (get breaks p) empty

-- whether a process has a breakpoint at an address
abbrev pub has_break : Breaks → ℕ → ℕ → Bool
has_break breaks p address = contains (addresses_of breaks p) address

-- with one more, and without one
abbrev pub with_break : Breaks → ℕ → ℕ → Breaks
with_break breaks p address = insert breaks p (with_address (addresses_of breaks p) address)

abbrev pub without_break : Breaks → ℕ → ℕ → Breaks
without_break breaks p address = option_map_or (λ addresses. insert breaks p (without_address addresses address)) (get breaks p) breaks
