use Rattle.std.proofs.Common.{◌-◌, ◌≤◌, length}
use Rattle.overlay_top.proofs.commands.count_checkpoints.Given as goal

-- those counted are there
abbrev pub invariant-counting : goal.invariant-counting
invariant-counting l = l.count ≤ length l.session.state.checkpoints

abbrev pub decreases-counting : goal.decreases-counting
decreases-counting l = length l.session.state.checkpoints - l.count
