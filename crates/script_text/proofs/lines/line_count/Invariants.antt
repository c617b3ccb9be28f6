use Rattle.std.proofs.Common.{◌≡◌, ◌+◌, ◌≤◌, length}
use Rattle.script_text.specs.Lines.{line_count}
use Rattle.script_text.proofs.lines.line_count.Given as goal

-- those so far, and those of what is left
abbrev pub invariant-counting : goal.invariant-counting
invariant-counting l = record {
  counted : line_count l.bytes ≡ l.count + line_count l.rest;
  few : l.count + length l.rest ≤ length l.bytes;
}

abbrev pub decreases-counting : goal.decreases-counting
decreases-counting l = length l.rest
