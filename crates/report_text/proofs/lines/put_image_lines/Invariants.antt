use Rattle.std.proofs.Common.{◌≡◌, ◌+◌, ◌*◌, ◌≤◌, ◌++◌, length}
use Rattle.arrayvec.specs.ArrayVec.{array_vec_len}
use Rattle.image_lines.specs.Lines.{printed}
use Rattle.report_text.proofs.lines.put_image_lines.Given as goal

-- the lines so far, and those of the bytes that are left
abbrev pub invariant-putting : goal.invariant-putting
invariant-putting l = record {
  text : l.line.items ++ printed l.rest ≡ l.fn.line.items ++ printed l.bytes;
  room : array_vec_len l.line + 4 * length l.rest ≤ array_vec_len l.fn.line + 4 * length l.bytes;
}

abbrev pub decreases-putting : goal.decreases-putting
decreases-putting l = length l.rest
