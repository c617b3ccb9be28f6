use Rattle.std.proofs.Common.{arith, eqb-true, sym, length}
use Rattle.script_text.proofs.Cuts.{no_lines, one_line_more}
use Rattle.script_text.proofs.lines.line_count.Goals as goal

pub counting-preserved : goal.counting-preserved
counting-preserved c = record {
  counted = omega (arith, c.counting.invariant.counted, one_line_more c.counting.rest.now c.first_line.result.0.now c.first_line.result.1.now c.first_line.ensures.lines);
  few = omega (arith, c.counting.invariant.few, c.first_line.ensures.shorter);
}

pub returns : goal.returns
returns c =
    omega (arith, c.counting.invariant.counted, no_lines c.counting.rest.now (eqb-true (length c.counting.rest.now) 0 (sym c.counting-test.ensures)))
