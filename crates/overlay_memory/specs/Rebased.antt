use Rattle.std.specs.Prelude.{◌≡◌, ℕ, ◌+◌, ◌≤◌, ◌<◌, ◌⊎◌, ◌||◌, Bool, true, false, not, nat_eq, List, [], ◌∷◌, length, Option, Some, None}
use lib.Pointwise.{pointwise}
use Rattle.std.specs.FinMap.{get}
use Rattle.sizes.specs.declared.TheConstants.{LINE_BYTES, PAGE_LINES}
use Rattle.ovl_io.specs.Memory.{Memory, bytes_at}
use Rattle.overlay_bits.specs.Lines.{has_line, lines_where}
use Rattle.ledger.specs.Changes.{is_origin_here, own_of}
use Rattle.ledger.specs.Events.{Event, Rebase, ledger_after}
use Rattle.ledger.specs.Ledger.{is_alone}
use Rattle.overlay_pages.specs.Changes.{units_of}
use Rattle.overlay_pages.specs.Lines.{line_in_page}
use Rattle.overlay_pages.specs.State.{PageState, State, base_of, books, memory_of}
use Rattle.overlay_memory.specs.Access.{line_address}
use Rattle.overlay_memory.specs.Pieces.{KeepsAllElse}
use Rattle.overlay_memory.specs.View.{NoneAwaits, TranslatedView, state_of, translations_of}
use Rattle.space_maps.specs.Spaces.{space_in}
use Rattle.translation_cache.specs.Translations.{flushed}

-- Pages that are put on other pages.

-- whether two pages have the same bytes in a line
unfoldable pub is_same_line : Memory → ℕ → Memory → ℕ → ℕ → Bool
is_same_line m page n other line =
    pointwise nat_eq (bytes_at m (line_address page line) LINE_BYTES) (bytes_at n (line_address other line) LINE_BYTES)

-- whether a line is one of the other page's own, or has other bytes there
unfoldable pub is_apart : List ℕ → Memory → ℕ → Memory → ℕ → ℕ → Bool
is_apart own m page n other line = has_line own line || not (is_same_line m page n other line)

-- such lines, ascending
unfoldable pub lines_apart : List ℕ → Memory → ℕ → Memory → ℕ → List ℕ
lines_apart own m page n other = lines_where (is_apart own m page n other)

-- those of a page of a space and another page
unfoldable pub apart_in : State → ℕ → ℕ → ℕ → ℕ → List ℕ
apart_in state space page from other = lines_apart (own_of (books state) from other) (memory_of state space) page (memory_of state from) other

-- They are told: all of them, or more than so many where there are more.
abbrev pub TellsApart : List ℕ → ℕ → List ℕ → Type 0
TellsApart all most told = (told ≡ all) ⊎ ((most < length told) × (most < length all))

-- but for some lines two pages are seen alike, and the second one has none of its own
abbrev pub AreAlikeBut : List ℕ → PageState → PageState → Type 0
AreAlikeBut but x theirs =
    (line : ℕ) → line < PAGE_LINES → has_line but line ≡ false → (has_line theirs.own line ≡ false) × (line_in_page x.lines line ≡ line_in_page theirs.lines line)

-- the event by which a page is put on another one
abbrev pub rebase_of : State → ℕ → ℕ → ℕ → ℕ → Event
rebase_of state space page from other = Rebase space from ((page, other, apart_in state space page from other) ∷ [])

-- A page can be put on another one: it is alone, no page of its space is on the frame of that unless it is the zero frame, and at most
-- 31 lines are apart.
pub record CanRebase (state : State) (space page from other : ℕ) : Type 0 where
  pub alone : is_alone (books state) space page ≡ true
  pub away : is_origin_here (books state) space from other ≡ false
  pub few : length (apart_in state space page from other) ≤ 31

-- the first two of these
pub record IsAloneAway (state : State) (space page from other : ℕ) : Type 0 where
  pub alone : is_alone (books state) space page ≡ true
  pub away : is_origin_here (books state) space from other ≡ false

-- What is asked before their lines are compared: neither space is speculating, and no page of the first one awaits.
pub record CanCompare (state : State) (space page from other : ℕ) : Type 0 where
  pub settled : (space_in state space).speculating ≡ false
  pub settled_from : (space_in state from).speculating ≡ false
  pub none_awaits : NoneAwaits state space
  pub apart : IsAloneAway state space page from other

-- It was put there: no memory changed, and the ledger is the one after it. At least 8 units are free that weren't. The base of every
-- other page stays, and so does all else.
pub record HasRebased (old new : State) (space page from other : ℕ) : Type 0 where
  pub memories : (q : ℕ) → memory_of new q ≡ memory_of old q
  pub ledger : books new ≡ ledger_after (rebase_of old space page from other) (books old)
  pub units : units_of new + 8 ≤ units_of old
  pub bases : (q : ℕ) → (q ≡ page → ⊥) → get (base_of new space) q ≡ get (base_of old space) q
  pub beside : KeepsAllElse old new space

-- How it comes out where the pages are compared first: it is put there where at most 31 lines are apart; else nothing changes, and what is
-- told is how many there are, or that there are more than so many.
abbrev pub RebasesAlike : TranslatedView → TranslatedView → ℕ → ℕ → ℕ → ℕ → ℕ → Option ℕ → Type 0
RebasesAlike old new space page from other most None =
    CanRebase (state_of old) space page from other × HasRebased (state_of old) (state_of new) space page from other
    × (translations_of new ≡ flushed space (translations_of old))
RebasesAlike old new space page from other most (Some told) =
    (31 < length (apart_in (state_of old) space page from other))
    × ((told ≡ length (apart_in (state_of old) space page from other)) ⊎ (most < told)) × (told ≤ PAGE_LINES) × (new ≡ old)
