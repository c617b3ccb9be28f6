-- What the piece of memory ends as, once a `&mut` to its lines has ended.
use Rattle.std.specs.Prelude.{ℕ, List, slice_set}
use Rattle.std.specs.Borrow.{Fml, MutBor, Array, Lends}
use Rattle.std.specs.List.{refill, length_refill}
use mathlib.Core.Path.{sym, ◌∙◌}
use lib.ListN.{length-set}
use Rattle.line_store.specs.Memory.{Line}
use Rattle.line_store.specs.declared.lines.Lines.{Lines}
use Rattle.line_store.specs.contracts.lines.Lines.{the_row}

-- the memory with these lines in place of its own
abbrev pub with_items : Lines → List (List ℕ) → Lines
with_items l ws = record { at = l.at; made = l.made; items = refill l.made l.items ws; room = l.room; fits = (length_refill l.made l.items ws l.fits.0, l.fits.1, l.fits.2) }

abbrev pub lends_items : MutBor Lines → MutBor (List (List ℕ)) → Fml
lends_items l r = Lends the_row (Array Line 0) l r (with_items l.now)

-- the memory with w for its line i
abbrev pub with_item : Lines → ℕ → List ℕ → Lines
with_item l i w = record { at = l.at; made = l.made; items = slice_set l.items i w; room = l.room; fits = (l.fits.0 ∙ sym (length-set l.items i w), l.fits.1, l.fits.2) }

abbrev pub lends_item : MutBor Lines → ℕ → MutBor (List ℕ) → Fml
lends_item l i r = Lends the_row Line l r (with_item l.now i)
