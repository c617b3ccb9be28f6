use Rattle.std.specs.Prelude.{◌≡◌, ℕ, ◌+◌, ◌*◌, ◌%◌, ◌<◌}
use Rattle.overlay_address.specs.Names.{page_of, space_of}

-- Homes of names, and places: place i of n slots is slot i % n, so that places go on beyond the last slot.

-- the number of a name whose rest is its home
unfoldable pub home_number : ℕ → ℕ
home_number name = page_of name + 31 * space_of name

-- a place lies w steps behind the home of a number
pub record IsWay (n k w place : ℕ) : Type 0 where
  pub same : (k + w) % n ≡ place % n
  pub near : w < n
