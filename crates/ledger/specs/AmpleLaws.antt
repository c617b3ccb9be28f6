use Rattle.std.specs.Prelude.{ℕ, ◌+◌, ◌*◌, ◌≤◌, Bool, true, false, List, [], ◌∷◌, length}
use Rattle.std.proofs.Common.{arith}
use Rattle.sizes.specs.declared.TheConstants.{FRAME_UNITS}
use Rattle.ledger.specs.Ledger.{Holding, Ledger, all_holdings}
use Rattle.ledger.specs.Units.{units, units_of}
use Rattle.ledger.specs.ClassLaws.{class_most}
use Rattle.ledger.specs.UnitLaws.{frame_for, no_units, units_more, unused_in}

-- Frames that suffice however the pages came about: two for each page of all spaces, its own and one for its overlay, and the zero frame.

-- how many pages all spaces have
unfoldable pub pages_in_all : Ledger → ℕ
pages_in_all ledger = length (all_holdings ledger)

abbrev pub AreAmple : ℕ → Ledger → Type 0
AreAmple frames ledger = 2 * pages_in_all ledger + 1 ≤ frames

-- a page takes at most a frame and a segment of a frame's size
frame_most : (unused : Bool) → frame_for unused ≤ FRAME_UNITS
unfolding frame_for
frame_most true = omega arith
frame_most false = omega arith

pages_most : (pages : List Holding) → units_of pages ≤ FRAME_UNITS + 2 * FRAME_UNITS * length pages
pages_most [] = omega (arith, no_units)
pages_most (page ∷ pages) =
    omega (arith, units_more [] pages page, frame_most (unused_in pages page.origin), class_most (length page.own), pages_most pages)

-- over ample frames the units are at most 16 for each frame
pub ample_suffices : (frames : ℕ) (ledger : Ledger) → AreAmple frames ledger → units ledger ≤ FRAME_UNITS * frames
unfolding units pages_in_all
ample_suffices frames ledger ample = omega (arith, ample, pages_most (all_holdings ledger))
