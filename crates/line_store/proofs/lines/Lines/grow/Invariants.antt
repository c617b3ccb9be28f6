use Rattle.std.proofs.Common.{◌≡◌, ◌-◌, ◌≤◌, ◌++◌, length, replicate}
use Rattle.line_store.proofs.lines.Lines.grow.Given as goal

-- zero lines were put behind the old ones, and not too many
abbrev pub invariant-making : goal.invariant-making
invariant-making l =
    record {
      items : l.self.items ≡ l.fn.self.items ++ replicate (length l.self.items - length l.fn.self.items) (replicate 64 0);
      longer : length l.fn.self.items ≤ length l.self.items;
      few : length l.self.items - length l.fn.self.items ≤ l.wanted - length l.fn.self.items;
      piece : (l.self.at ≡ l.fn.self.at) × (l.self.room ≡ l.fn.self.room);
    }

abbrev pub decreases-making : goal.decreases-making
decreases-making l = l.wanted - length l.self.items
