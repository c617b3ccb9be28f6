use Rattle.std.proofs.Common.{◌-◌}
use Rattle.sizes.specs.declared.TheConstants.{PAGE_END}
use Rattle.overlay_memory.specs.View.{state_of}
use Rattle.overlay_pages.specs.State.{books}
use Rattle.memory_calls.proofs.Small.{NoneLargeBelow}
use Rattle.memory_calls.proofs.tests.spaces.is_small.Given as goal

abbrev pub invariant-looking : goal.invariant-looking
invariant-looking l = NoneLargeBelow (books (state_of l.memory)) l.space l.from

abbrev pub decreases-looking : goal.decreases-looking
decreases-looking l = PAGE_END - l.from
