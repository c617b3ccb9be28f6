use Rattle.std.proofs.Common.{arith, ap, sym, ◌∙◌, refl, eqb-true, length}
use Rattle.std.specs.Option.{option_map}
use Rattle.asm_lines.specs.Words.{words}
use Rattle.asm_lines.specs.Lines.{item_on, lines_in}
use Rattle.asm_lines.specs.Said.{said}
use Rattle.rv_asm.specs.Outcomes.{outcomes_of}
use Rattle.rv_asm.specs.Assembly.{first_outside}
use Rattle.rv_asm.specs.Given.{said_labels}
use Rattle.rv_asm.proofs.Coding.{none_coded, none_taken, none_outside, one_taken, one_inside, one_outside, few_taken, refused_coded, all_inside, all_taken}
use Rattle.rv_asm.proofs.code.code_of.Goals as goal

pub lines-init : goal.lines-init
lines-init c = record {
  inside = none_outside c.args.text.now;
  taken = none_taken (said_labels c.args.labels.now.entries) c.args.text.now _ (none_coded _ refl refl c.new.ensures.items) refl;
  few = omega arith;
  items = omega arith;
}

pub returns-in-Err : goal.returns-in-Err
returns-in-Err c =
    let is = c.in-Some.ensures.is ∙ ap (λ bs. item_on (words bs)) c.without_return.ensures in
    refused_coded (said_labels c.args.labels.now.entries) (lines_in c.args.text.now) c.lines.k c.lines.rest.now c.first_line.result.0.now c.first_line.result.1.now
    (option_map said c.in-Some.item) c.lines.coded c.lines.invariant.taken c.first_line.ensures.lines is c.in-Err.e c.in-Err.ensures

pub returns-in-None : goal.returns-in-None
returns-in-None c =
    let is = c.in-None.ensures.is ∙ ap (λ bs. item_on (words bs)) c.without_return.ensures in
    one_outside (first_outside (lines_in c.args.text.now)) c.lines.k c.lines.rest.now c.first_line.result.0.now c.first_line.result.1.now c.lines.invariant.inside
    c.first_line.ensures.lines is

pub lines-preserved : goal.lines-preserved
lines-preserved c =
    let is = c.in-Some.ensures.is ∙ ap (λ bs. item_on (words bs)) c.without_return.ensures in
    let labels = said_labels c.args.labels.now.entries in
    let item = option_map said c.in-Some.item in
    record {
      inside =
          one_inside (first_outside (lines_in c.args.text.now)) c.lines.k c.lines.rest.now c.first_line.result.0.now c.first_line.result.1.now item
          c.lines.invariant.inside c.first_line.ensures.lines is;
      taken =
          one_taken labels (outcomes_of labels (lines_in c.args.text.now)) c.lines.k c.lines.rest.now c.first_line.result.0.now c.first_line.result.1.now item
          c.lines.coded c.put_item.new.coded c.lines.invariant.taken c.first_line.ensures.lines is c.in-Ok.ensures;
      few = omega (arith, c.lines.invariant.few, c.first_line.ensures.shorter);
      items = omega (arith, c.lines.invariant.items, c.in-Ok.ensures.count, few_taken labels c.lines.k c.lines.coded.items item);
    }

pub returns : goal.returns
returns c =
    let none = eqb-true (length c.lines.rest.now) 0 (sym c.is_empty.ensures ∙ c.lines-test.false) in
    let labels = said_labels c.args.labels.now.entries in (
      all_inside (first_outside (lines_in c.args.text.now)) c.lines.k c.lines.rest.now c.lines.invariant.inside none,
      all_taken labels (outcomes_of labels (lines_in c.args.text.now)) c.lines.k c.lines.rest.now c.lines.coded c.lines.invariant.taken none,
    )
