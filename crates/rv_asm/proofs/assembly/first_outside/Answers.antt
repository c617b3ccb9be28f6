use Rattle.std.proofs.Common.{ap, sym, arith, ◌∙◌, length, eqb-true}
use Rattle.std.specs.Option.{option_map}
use Rattle.asm_lines.specs.Words.{words}
use Rattle.asm_lines.specs.Lines.{item_on, lines_in}
use Rattle.asm_lines.specs.Said.{said}
use Rattle.rv_asm.specs.Assembly.{first_outside}
use Rattle.rv_asm.proofs.Coding.{none_outside, one_inside, one_outside, all_inside}
use Rattle.rv_asm.proofs.assembly.first_outside.Goals as goal

pub lines-init : goal.lines-init
lines-init c = record { inside = none_outside c.args.text.now; few = omega arith }

pub returns-in-None : goal.returns-in-None
returns-in-None c =
    sym (one_outside (first_outside (lines_in c.args.text.now)) c.lines.k c.lines.rest.now c.first_line.result.0.now c.first_line.result.1.now c.lines.invariant.inside
    c.first_line.ensures.lines (c.in-None.ensures.is ∙ ap (λ bs. item_on (words bs)) c.without_return.ensures))

pub lines-preserved : goal.lines-preserved
lines-preserved c = record {
  inside =
      one_inside (first_outside (lines_in c.args.text.now)) c.lines.k c.lines.rest.now c.first_line.result.0.now c.first_line.result.1.now
      (option_map said c.in-Some.field-0) c.lines.invariant.inside c.first_line.ensures.lines
      (c.in-Some.ensures.is ∙ ap (λ bs. item_on (words bs)) c.without_return.ensures);
  few = omega (arith, c.lines.invariant.few, c.first_line.ensures.shorter);
}

pub returns : goal.returns
returns c =
    sym (all_inside (first_outside (lines_in c.args.text.now)) c.lines.k c.lines.rest.now c.lines.invariant.inside
    (eqb-true (length c.lines.rest.now) 0 (sym c.is_empty.ensures ∙ c.lines-test.false)))
