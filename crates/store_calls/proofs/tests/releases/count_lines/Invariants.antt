use Rattle.std.proofs.Common.{◌≡◌, ◌+◌, length}
use Rattle.segment_store.specs.Changes.{moved_lines}
use Rattle.store_calls.proofs.tests.releases.count_lines.Given as goal

abbrev pub invariant-counting : goal.invariant-counting
invariant-counting g l = l.lines + moved_lines l.moves.items ≡ moved_lines l.fn.moves.items

abbrev pub decreases-counting : goal.decreases-counting
decreases-counting g l = length l.moves.items
