use Rattle.std.proofs.Common.{arith, ap, sym, ◌∙◌, ◌+◌, ◌≡◌, eqb-true, length}
use Rattle.asm_lines.specs.Words.{words}
use Rattle.asm_lines.specs.Lines.{front_of, lines_in}
use Rattle.asm_lines.specs.Said.{said_front}
use Rattle.rv_asm.specs.Labels.{labels_of, item_count}
use Rattle.rv_asm.specs.Given.{said_labels}
use Rattle.rv_asm.proofs.Labelling.{none_labelled, counted, few_items, line_labelled, refused_labelled, all_labelled}
use Rattle.rv_asm.proofs.labels.labels_with.Goals as goal

pub lines-init : goal.lines-init
lines-init c = record {
  labels = none_labelled c.args.text.now (said_labels c.reserve.new.self.entries) (ap said_labels (c.reserve.ensures.entries ∙ c.new-labels.ensures.empty));
  few = omega arith;
  items = omega arith;
}

pub lines-preserved : goal.lines-preserved
lines-preserved c =
    let front = said_front c.front_of-front.result in
    let count : c.from-n.result ≡ item_count front = c.from-n.ensures ∙ counted front c.has_item.result c.has_item.ensures in
    record {
      labels =
          line_labelled (labels_of (lines_in c.args.text.now)) c.lines.rest.now c.first_line.result.0.now c.first_line.result.1.now c.lines.k c.lines.n
          (c.lines.n + c.from-n.result) (said_labels c.lines.labels.entries) (said_labels c.with_label.new.labels.entries) front
          c.lines.invariant.labels c.first_line.ensures.lines (c.front_of-front.ensures ∙ ap (λ bs. front_of (words bs)) c.without_return.ensures)
          c.in-Ok.ensures (ap (λ m. c.lines.n + m) count);
      few = omega (arith, c.lines.invariant.few, c.first_line.ensures.shorter);
      items = omega (arith, c.lines.invariant.items, c.from-n.ensures, few_items c.has_item.result);
    }

pub returns-in-Err : goal.returns-in-Err
returns-in-Err c =
    refused_labelled (labels_of (lines_in c.args.text.now)) c.lines.rest.now c.first_line.result.0.now c.first_line.result.1.now c.lines.k c.lines.n
    (said_labels c.lines.labels.entries) (said_front c.front_of-front.result)
    c.lines.invariant.labels c.first_line.ensures.lines (c.front_of-front.ensures ∙ ap (λ bs. front_of (words bs)) c.without_return.ensures)
    c.in-Err.e c.in-Err.ensures

pub returns : goal.returns
returns c =
    all_labelled (labels_of (lines_in c.args.text.now)) c.lines.rest.now c.lines.k c.lines.n (said_labels c.lines.labels.entries) c.lines.invariant.labels
    (eqb-true (length c.lines.rest.now) 0 (sym c.is_empty.ensures ∙ c.lines-test.false))
