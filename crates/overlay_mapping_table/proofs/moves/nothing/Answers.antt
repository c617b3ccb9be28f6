use Rattle.std.proofs.Common.{ℕ, List, ap}
use Rattle.overlay_mapping_table.specs.Rows.{nothing}
use Rattle.overlay_mapping_table.proofs.moves.nothing.Goals as goal

pub returns : goal.returns
unfolding nothing
returns c = ap (λ (bits : List ℕ). record { bits = bits; block = record { unit = 0; order = 0 } }) c.empty.ensures
