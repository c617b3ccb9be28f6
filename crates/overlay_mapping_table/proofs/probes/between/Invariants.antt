use Rattle.std.proofs.Common.{◌-◌, length}
use Rattle.overlay_mapping_table.proofs.Searching.{IsBetween}
use Rattle.overlay_mapping_table.proofs.probes.between.Given as goal

abbrev pub invariant-halving : goal.invariant-halving
invariant-halving l = IsBetween (length l.slots) l.slots l.from l.low l.high

abbrev pub decreases-halving : goal.decreases-halving
decreases-halving l = l.high - l.low
