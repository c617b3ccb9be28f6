use Rattle.std.specs.Prelude.{◌≡◌, ℕ, ◌+◌, ◌*◌, ◌≤◌, ◌<◌, ◌⊎◌, ◌==◌, ◌&&◌, Bool, true, false, cond, if◌then◌else◌, not, List, [], Option, Some, None, IfSome, IsTrue, length, slice_set}
use Rattle.std.specs.Option.{option_map, option_map_or}
use Rattle.std.specs.FinMap.{get}
use Rattle.sizes.specs.declared.TheConstants.{FRAME_UNITS, PAGE_LINES}
use Rattle.overlay_bits.specs.Lines.{has_line}
use Rattle.page_table.specs.declared.entry.PageEntry.{PageEntry}
use Rattle.page_table.specs.Table.{is_within}
use Rattle.ledger.specs.Ledger.{is_alone, is_unused}
use Rattle.ledger.specs.Changes.{with_lines}
use Rattle.ledger.specs.Units.{class, units}
use Rattle.overlay_pages.specs.Lines.{line_in_page, zero_page}
use Rattle.overlay_pages.specs.State.{PageState, State, books}
use Rattle.space_maps.specs.Spaces.{page_in, put_page, put_pages, put_shared, space_in, altered_page}

-- What is done to a page.

-- a page whose lines are all in its frame: mapped, or placed
abbrev pub whole_page : PageEntry → List (List ℕ) → PageState
whole_page entry lines = record { entry = entry; own = []; lines = lines; base = lines }

-- a page with further own lines, as its frame has them
abbrev pub brought : List ℕ → PageState → PageState
brought more x = record { entry = x.entry; own = with_lines x.own more; lines = x.lines; base = x.base }

-- a page with another line: in its overlay alone, where the line is there, else in its frame too
abbrev pub written : ℕ → List ℕ → PageState → PageState
written line bytes x = record {
  entry = x.entry;
  own = x.own;
  lines = slice_set x.lines line bytes;
  base = cond (has_line x.own line) x.base (slice_set x.base line bytes);
}

-- its own lines go into its frame
abbrev pub committed : PageState → PageState
committed x = whole_page x.entry x.lines

-- into another frame
abbrev pub copied : ℕ → PageState → PageState
copied frame x = whole_page (record { perms = x.entry.perms; frame = frame }) x.lines

-- a page whose lines are these, in another frame
abbrev pub moved_to : PageState → List (List ℕ) → ℕ → PageState
moved_to x lines frame = whole_page (record { perms = x.entry.perms; frame = frame }) lines

-- they are given up
abbrev pub discarded : PageState → PageState
discarded x = whole_page x.entry x.base

-- a page that shares the lines of another one, and has an overlay of its own
abbrev pub shared_page : PageEntry → PageState → PageState
shared_page entry x = record { entry = entry; own = x.own; lines = x.lines; base = x.base }

-- a page that is seen as before, on the frame of another one and with these own lines
abbrev pub rebased_page : List ℕ → PageState → PageState → PageState
rebased_page own theirs x =
    record { entry = record { perms = x.entry.perms; frame = theirs.entry.frame }; own = own; lines = x.lines; base = theirs.base }

-- but for some lines a page is seen as the frame of another one has them
abbrev pub SeesFrame : List ℕ → PageState → PageState → Type 0
SeesFrame but x theirs = (line : ℕ) → line < PAGE_LINES → has_line but line ≡ false → line_in_page x.lines line ≡ line_in_page theirs.base line

-- What is done to the state.

-- the frame of a page, if that is there
abbrev pub frame_in : State → ℕ → ℕ → Option ℕ
frame_in state space page = option_map (λ (x : PageState). x.entry.frame) (page_in state space page)

-- a page is on the zero frame, or no page of a space is on its frame
abbrev pub IsAway : State → ℕ → ℕ → ℕ → Type 0
IsAway state space from other =
    (frame_in state from other ≡ Some state.zero_frame) ⊎ ((page : ℕ) → frame_in state space page ≡ frame_in state from other → ⊥)

-- a page comes onto the frame of another one, if that is there, and is seen as before
abbrev pub IsRebased : State → State → ℕ → ℕ → ℕ → ℕ → List ℕ → Type 0
IsRebased old new space page from other own =
    IfSome (page_in old from other) (λ theirs. new ≡ altered_page (rebased_page own theirs) old space page)

-- whether stores to a page go into its frame
abbrev pub writes_frame : State → ℕ → ℕ → Bool
writes_frame state space page = not (space_in state space).speculating && is_alone (books state) space page

-- whether a line can be written where it stands
abbrev pub is_writable : State → ℕ → ℕ → ℕ → Bool
is_writable state space page line =
    option_map_or (λ (x : PageState). cond (has_line x.own line) true (writes_frame state space page)) (page_in state space page) false

-- lines of a page that are to be written join its own, unless its frame is written
unfoldable pub with_brought : State → ℕ → ℕ → List ℕ → State
with_brought state space page lines = cond (writes_frame state space page) state (altered_page (brought lines) state space page)

-- a line of a page was written
unfoldable pub with_written : State → ℕ → ℕ → ℕ → List ℕ → State
with_written state space page line bytes = altered_page (written line bytes) state space page

-- pages on the zero frame, one after the other
unfoldable pub with_zeros : State → ℕ → ℕ → ℕ → PageEntry → State
with_zeros state space from count entry = put_pages state space from count (whole_page entry zero_page)

-- a page of an adopted table is shared from another space
unfoldable pub with_shared : State → ℕ → ℕ → ℕ → State
with_shared state from to page =
    option_map_or
    (λ (entry : PageEntry). option_map_or (λ x. put_shared state to page (shared_page entry x)) (page_in state from page) state)
    (get (space_in state to).awaiting page) state

-- a frame, unless it is the zero frame
abbrev pub frame_but_zero : ℕ → ℕ → Option ℕ
frame_but_zero zero_frame frame = if frame == zero_frame then None else Some frame

-- a frame that is in range, and that no page names
pub record IsNewFrame (state : State) (frame : ℕ) : Type 0 where
  pub inside : frame < state.frames
  pub other : frame ≡ state.zero_frame → ⊥
  pub unused : is_unused (books state) (frame + 1) ≡ true

-- a page was placed, or copied, in a new frame
pub record IsPlaced (old new : State) (space page : ℕ) (at : ℕ → PageState) : Type 0 where
  pub frame : ℕ
  pub fresh : IsNewFrame old frame
  pub placed : new ≡ put_page old space page (at frame)

-- how many units there are, how many are needed, and whether those are too many
abbrev pub limit_of : State → ℕ
limit_of state = FRAME_UNITS * state.frames

abbrev pub units_of : State → ℕ
units_of state = units (books state)

abbrev pub Fits : State → Type 0
Fits state = units_of state ≤ limit_of state

-- the units suffice for a copy of a page: a new frame, in place of the segment of its overlay
abbrev pub HasCopyRoom : State → ℕ → ℕ → Type 0
HasCopyRoom state space page =
    (x : PageState) → page_in state space page ≡ Some x → units_of state + FRAME_UNITS ≤ limit_of state + class (length x.own)

-- the units suffice for a copy of a page's overlay
abbrev pub HasShareRoom : State → ℕ → ℕ → Type 0
HasShareRoom state space page = (x : PageState) → page_in state space page ≡ Some x → units_of state + class (length x.own) ≤ limit_of state

-- none of the n pages from `from` on is there
abbrev pub AreAbsent : State → ℕ → ℕ → ℕ → Type 0
AreAbsent state space from n = (page : ℕ) → IsTrue (is_within from n page) → page_in state space page ≡ None
