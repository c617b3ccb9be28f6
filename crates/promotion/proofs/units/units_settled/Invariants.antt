use Rattle.std.proofs.Common.{◌-◌}
use Rattle.sizes.specs.declared.TheConstants.{PAGE_END}
use Rattle.overlay_memory.specs.View.{state_of}
use Rattle.promotion.proofs.Counts.{IsCounting}
use Rattle.promotion.proofs.units.units_settled.Given as goal

abbrev pub invariant-counting : goal.invariant-counting
invariant-counting l = IsCounting (state_of l.mem) l.space l.units l.from

abbrev pub decreases-counting : goal.decreases-counting
decreases-counting l = PAGE_END - l.from
