use Rattle.std.proofs.Common.{◌≡◌, ◌+◌, ◌≤◌, length}
use Rattle.asm_lines.specs.Lines.{lines_in}
use Rattle.rv_asm.specs.Labels.{labels_of, labels_from}
use Rattle.rv_asm.specs.Given.{said_labels}
use Rattle.rv_asm.proofs.labels.labels_with.Given as goal

-- the labels so far, and those of the lines that are left
abbrev pub invariant-lines : goal.invariant-lines
invariant-lines l = record {
  labels : labels_of (lines_in l.text) ≡ labels_from l.k l.n (said_labels l.labels.entries) (lines_in l.rest);
  few : l.k + length l.rest ≤ length l.text + 1;
  items : l.n + 1 ≤ l.k;
}

abbrev pub decreases-lines : goal.decreases-lines
decreases-lines l = length l.rest
