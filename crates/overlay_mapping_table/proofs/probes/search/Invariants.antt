use Rattle.std.proofs.Common.{◌-◌, ◌+◌, length}
use Rattle.overlay_mapping_table.specs.Probes.{IsPast}
use Rattle.overlay_mapping_table.proofs.probes.search.Given as goal

abbrev pub invariant-probing : goal.invariant-probing
invariant-probing l = IsPast (length l.slots) l.slots l.fn.p l.home l.place

abbrev pub decreases-probing : goal.decreases-probing
decreases-probing l = l.home + length l.slots - l.place
