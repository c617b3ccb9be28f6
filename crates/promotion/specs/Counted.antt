use Rattle.std.specs.Prelude.{◌≡◌, ℕ, ◌+◌, ◌&&◌, not, if◌then◌else◌}
use Rattle.sizes.specs.declared.TheConstants.{FRAME_UNITS}
use Rattle.ledger.specs.Changes.{has_own}
use Rattle.ledger.specs.Ledger.{is_alone}
use Rattle.overlay_pages.specs.State.{State, books}
use Rattle.overlay_memory.specs.Room.{class_at}

-- What a page counts in units.

-- the units of the frame that it needs when it is settled
unfoldable pub new_frame_at : State → ℕ → ℕ → ℕ
new_frame_at state space page = if has_own (books state) space page && not (is_alone (books state) space page) then FRAME_UNITS else 0

-- the units before and after it is settled
abbrev pub AreUnitsWith : State → ℕ → ℕ → ℕ → ℕ → Type 0
AreUnitsWith state space page before after = after + class_at state space page ≡ before + new_frame_at state space page
