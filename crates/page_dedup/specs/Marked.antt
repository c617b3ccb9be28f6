use Rattle.std.specs.Prelude.{◌≡◌, ℕ, ◌+◌, ◌<◌, Bool, true, false, List, Option, Some, None, slice_index_or, slice_set}
use Rattle.ledger.specs.Ledger.{Holding, Ledger, holding_at}

-- Marks of the frames that pages of a space are on, by their numbers; the zero frame isn't among them.

abbrev pub is_marked : List Bool → ℕ → Bool
is_marked marks frame = slice_index_or marks frame false

-- a frame, if there is one, is marked or isn't any more
abbrev pub with_mark : List Bool → Option ℕ → Bool → List Bool
with_mark marks None on = marks
with_mark marks (Some frame) on = slice_set marks frame on

-- a page of a space has an origin
pub record IsHere (ledger : Ledger) (space origin : ℕ) : Type 0 where
  pub page : ℕ
  pub holding : Holding
  pub there : holding_at ledger space page ≡ Some holding
  pub same : holding.origin ≡ origin

-- those that are marked are such, and those of pages below one are marked
pub record AreMarksBelow (ledger : Ledger) (space at : ℕ) (marks : List Bool) : Type 0 where
  pub sound : (frame : ℕ) → is_marked marks frame ≡ true → IsHere ledger space (frame + 1)
  pub complete : (page frame : ℕ) (x : Holding) → page < at → holding_at ledger space page ≡ Some x → x.origin ≡ frame + 1 → is_marked marks frame ≡ true

-- of all pages
pub record AreMarks (ledger : Ledger) (space : ℕ) (marks : List Bool) : Type 0 where
  pub sound : (frame : ℕ) → is_marked marks frame ≡ true → IsHere ledger space (frame + 1)
  pub complete : (page frame : ℕ) (x : Holding) → holding_at ledger space page ≡ Some x → x.origin ≡ frame + 1 → is_marked marks frame ≡ true

-- no frame is marked
abbrev pub AreClear : List Bool → Type 0
AreClear marks = (frame : ℕ) → is_marked marks frame ≡ false
