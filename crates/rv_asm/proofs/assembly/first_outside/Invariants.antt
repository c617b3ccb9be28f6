use Rattle.std.proofs.Common.{◌≡◌, ◌+◌, ◌≤◌, length}
use Rattle.asm_lines.specs.Lines.{lines_in}
use Rattle.rv_asm.specs.Assembly.{first_outside, outside_from}
use Rattle.rv_asm.proofs.assembly.first_outside.Given as goal

-- none so far
abbrev pub invariant-lines : goal.invariant-lines
invariant-lines l = record {
  inside : first_outside (lines_in l.text) ≡ outside_from l.k (lines_in l.rest);
  few : l.k + length l.rest ≤ length l.text + 1;
}

abbrev pub decreases-lines : goal.decreases-lines
decreases-lines l = length l.rest
