use Rattle.std.proofs.Common.{◌-◌}
use Rattle.sizes.specs.declared.TheConstants.{PAGE_END}
use Rattle.overlay_memory.specs.View.{state_of}
use Rattle.fork_checkpoint.proofs.Leaving.{IsLeaving}
use Rattle.fork_checkpoint.proofs.units.units_without.Given as goal

abbrev pub invariant-leaving : goal.invariant-leaving
invariant-leaving l = IsLeaving (state_of l.mem) l.space l.units l.from

abbrev pub decreases-leaving : goal.decreases-leaving
decreases-leaving l = PAGE_END - l.from
