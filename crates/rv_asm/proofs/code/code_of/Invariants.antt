use Rattle.std.proofs.Common.{◌≡◌, ◌+◌, ◌≤◌, length}
use Rattle.asm_lines.specs.Lines.{lines_in}
use Rattle.rv_asm.specs.Outcomes.{outcomes_of, outcomes_from}
use Rattle.rv_asm.specs.Assembly.{first_outside, outside_from}
use Rattle.rv_asm.specs.Given.{said_labels}
use Rattle.rv_asm.proofs.Coding.{AreTaken}
use Rattle.rv_asm.proofs.code.code_of.Given as goal

-- the items so far, and those of the lines that are left
abbrev pub invariant-lines : goal.invariant-lines
invariant-lines l = record {
  inside : first_outside (lines_in l.text) ≡ outside_from l.k (lines_in l.rest);
  taken : AreTaken (outcomes_of (said_labels l.labels.entries) (lines_in l.text)) (outcomes_from (said_labels l.labels.entries) l.k l.coded.items (lines_in l.rest)) l.coded;
  few : l.k + length l.rest ≤ length l.text + 1;
  items : l.coded.items + 1 ≤ l.k;
}

abbrev pub decreases-lines : goal.decreases-lines
decreases-lines l = length l.rest
