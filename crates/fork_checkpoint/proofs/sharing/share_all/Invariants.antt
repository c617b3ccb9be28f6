use Rattle.std.proofs.Common.{◌≡◌, ◌≤◌, ◌-◌}
use Rattle.sizes.specs.declared.TheConstants.{PAGE_END}
use Rattle.overlay_memory.specs.View.{state_of, translations_of}
use Rattle.fork_checkpoint.proofs.Shares.{partly}
use Rattle.fork_checkpoint.proofs.sharing.share_all.Given as goal

abbrev pub invariant-sharing : goal.invariant-sharing
invariant-sharing l = record { shared : state_of l.mem ≡ partly (state_of l.fn.mem) l.from l.to l.at; low : l.at ≤ PAGE_END; lists : translations_of l.mem ≡ translations_of l.fn.mem }

abbrev pub decreases-sharing : goal.decreases-sharing
decreases-sharing l = PAGE_END - l.at
