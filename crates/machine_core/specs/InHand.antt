use Rattle.std.specs.Prelude.{◌≡◌, ℕ, ◌-◌, ◌/◌, ◌%◌, ◌^◌, ◌<◌, ◌⊎◌, ◌&&◌, ◌==◌, nat_le, Bool, not, List, [], slice_index_or, if◌then◌else◌}
use Rattle.sizes.specs.declared.TheConstants.{LINE_BYTES, PAGE_BYTES}
use Rattle.decoded_lines.specs.declared.TheConstants.{KEPT_LINES}
use Rattle.overlay_memory.specs.Code.{IsCodeLine}
use Rattle.overlay_memory.specs.View.{TranslatedView}
use Rattle.translation_cache.specs.declared.TheConstants.{SETS}
use Rattle.machine_core.specs.declared.hand.Hand.{Hand}
use Rattle.machine_core.specs.declared.view.View.{View}

-- The lines in hand, and what a call of the memory leaves of them.

-- A line of a space stands among those that are decoded, with the bytes that the memory has.
pub record IsLineHeld (lines : List (List ℕ)) (memory : TranslatedView) (space start : ℕ) : Type 0 where
  pub whole : start % LINE_BYTES ≡ 0
  pub low : start < 2 ^ 64
  pub code : IsCodeLine memory space start (slice_index_or lines (start / LINE_BYTES % KEPT_LINES) [])

-- each line of a page that was held is held still
abbrev pub KeepsLines : ℕ → View → View → Type 0
KeepsLines page old new =
    (lines : List (List ℕ)) (start : ℕ) → IsLineHeld lines old.memory.now old.space start → start / PAGE_BYTES ≡ page
    → IsLineHeld lines new.memory.now new.space start

-- the page that they are of
abbrev pub page_in : Hand → ℕ
page_in hand = hand.start / PAGE_BYTES

-- the same lines are in hand, and are held
abbrev pub KeepsHand : View → View → Type 0
KeepsHand old new = (new.hand ≡ old.hand) × KeepsLines (page_in old.hand) old new

-- none are
abbrev pub lost : Hand → Hand
lost hand = record { start = hand.start; known = []; owed = hand.owed }

abbrev pub StaysInHand : View → View → Type 0
StaysInHand old new = KeepsHand old new ⊎ (new.hand ≡ lost old.hand)

-- An access in one page, of another list than a page, leaves the lines of that page in hand.
abbrev pub is_apart : ℕ → ℕ → Bool
is_apart address page = not (address / PAGE_BYTES % SETS == page % SETS) && nat_le (address % PAGE_BYTES) (PAGE_BYTES - 8)

-- what any other access leaves
abbrev pub parted : ℕ → Hand → Hand
parted address hand = if is_apart address (page_in hand) then hand else lost hand

-- and a store to a page that stays where it is in its list
abbrev pub without_page : ℕ → Hand → Hand
without_page page hand = if page == page_in hand then lost hand else hand
