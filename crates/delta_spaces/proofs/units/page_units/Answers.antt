use Rattle.std.proofs.Common.{ap, ◌∙◌}
use Rattle.ledger.specs.Changes.{with_lines}
use Rattle.overlay_memory.specs.View.{state_of}
use Rattle.delta_image.specs.Line.{numbers_of}
use Rattle.delta_spaces.proofs.Counting.{class_few, joined_class}
use Rattle.delta_spaces.proofs.units.page_units.Goals as goal

pub returns-clause-sum : goal.returns-clause-sum
returns-clause-sum c =
    joined_class (state_of c.args.mem.now) c.args.base c.args.page.now c.base_lines-own.result c.joined_lines.result c.len.result _ c.base_lines-own.ensures
    (c.joined_lines.ensures ∙ ap (λ lines. with_lines c.base_lines-own.result (numbers_of lines)) c.as_slice.ensures) c.len.ensures.count c.class_of.ensures

pub returns-clause-few : goal.returns-clause-few
returns-clause-few c = class_few c.len.result _ c.class_of.ensures
