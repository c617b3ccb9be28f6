use Rattle.std.specs.Prelude.{◌≡◌, ℕ, ◌==◌, Bool, false, Option, Some, None, List, is_some}
use Rattle.std.specs.Option.{option_map, option_map_or}
use Rattle.std.specs.FinMap.{get}
use Rattle.ledger.specs.Ledger.{Holding, Ledger, holding_at}

-- Ledgers that are alike: they differ in the numbers of their origins alone.

abbrev pub own_at : Ledger → ℕ → ℕ → Option (List ℕ)
own_at ledger space page = option_map (λ holding. holding.own) (holding_at ledger space page)

-- whether a page is there and its origin is 0
abbrev pub is_zero_at : Ledger → ℕ → ℕ → Bool
is_zero_at ledger space page = option_map_or (λ holding. holding.origin == 0) (holding_at ledger space page) false

-- whether two pages are there and have one origin
abbrev pub have_one_origin : Option Holding → Option Holding → Bool
have_one_origin None other = false
have_one_origin (Some holding) None = false
have_one_origin (Some holding) (Some other) = holding.origin == other.origin

-- they have the same spaces and pages, equal own lines, origin 0 at the same pages, and one origin at the same pairs of pages
pub record AreAlike (a b : Ledger) : Type 0 where
  pub spaces : (space : ℕ) → is_some (get a space) ≡ is_some (get b space)
  pub own : (space page : ℕ) → own_at a space page ≡ own_at b space page
  pub zero_at : (space page : ℕ) → is_zero_at a space page ≡ is_zero_at b space page
  pub shared : (space page other_space other_page : ℕ)
      → have_one_origin (holding_at a space page) (holding_at a other_space other_page) ≡ have_one_origin (holding_at b space page) (holding_at b other_space other_page)
