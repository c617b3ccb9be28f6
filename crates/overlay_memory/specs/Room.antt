use Rattle.std.specs.Prelude.{◌≡◌, ℕ, ◌<◌, ◌≤◌, length, Option, Some, None}
use Rattle.std.specs.Option.{option_map_or}
use Rattle.ledger.specs.Events.{Event, ledger_after}
use Rattle.ledger.specs.Ledger.{holding_at}
use Rattle.ledger.specs.Units.{class, units}
use Rattle.overlay_pages.specs.State.{State, books}
use Rattle.overlay_pages.specs.Changes.{limit_of}
use Rattle.overlay_memory.specs.View.{TranslatedView, state_of}
use Rattle.overlay_memory.specs.declared.error.Shortage.{Shortage}

-- Whether units fit.

-- the units that are needed exceed the limit
pub record IsShort (needed limit : ℕ) (shortage : Shortage) : Type 0 where
  pub needed_is : shortage.needed ≡ needed
  pub limit_is : shortage.limit ≡ limit
  pub over : shortage.limit < shortage.needed

-- what is short, where they do; none where they are within the limit
abbrev pub FallsShort : ℕ → ℕ → Option Shortage → Type 0
FallsShort needed limit None = needed ≤ limit
FallsShort needed limit (Some shortage) = IsShort needed limit shortage

-- the units that would be needed exceed the limit, and nothing changed of the pages, or of all
pub record IsFullFor {V : Type 0} (state : V → State) (old new : V) (after needed limit : ℕ) : Type 0 where
  pub needed_is : needed ≡ after
  pub limit_is : limit ≡ limit_of (state old)
  pub over : limit < needed
  pub kept : new ≡ old

-- the same, and nothing changed at all
abbrev pub IsFullAt : TranslatedView → TranslatedView → ℕ → ℕ → ℕ → Type 0
IsFullAt old new after needed limit = IsFullFor state_of old new after needed limit

-- the units after an event
abbrev pub event_units : Event → State → ℕ
event_units event state = units (ledger_after event (books state))

-- the units after an event are within the limit
abbrev pub FitsAfter : Event → State → Type 0
FitsAfter event state = event_units event state ≤ limit_of state

-- the units of a page's segment
unfoldable pub class_at : State → ℕ → ℕ → ℕ
class_at state space page = option_map_or (λ holding. class (length holding.own)) (holding_at (books state) space page) 0
