use Rattle.std.proofs.Common.{◌≡◌, ◌+◌, ◌-◌, ◌<◌, ◌≤◌, None}
use Rattle.sizes.specs.declared.TheConstants.{ADDRESS_END}
use Rattle.ovl_io.specs.Memory.{first_denied}
use Rattle.overlay_pages.specs.State.{memory_of}
use Rattle.overlay_memory.specs.View.{state_of}
use Rattle.command_core.proofs.reading.can_read.Given as goal

-- those so far are there
abbrev pub invariant-looking : goal.invariant-looking
invariant-looking l = record {
  none : first_denied (memory_of (state_of l.memory) l.p) 0 l.address l.done ≡ None;
  low : 0 < l.done → l.address + l.done ≤ ADDRESS_END;
  within : l.done ≤ l.n;
}

abbrev pub decreases-looking : goal.decreases-looking
decreases-looking l = l.n - l.done
