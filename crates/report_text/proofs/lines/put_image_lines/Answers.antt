use Rattle.std.proofs.Common.{List, ℕ, ◌++◌, ap, sym, ◌∙◌, arith}
use Rattle.image_lines.specs.PrintedLaws.{printed_last}
use Rattle.report_text.proofs.Blocks.{next_line}
use Rattle.report_text.proofs.lines.put_image_lines.Goals as goal

pub putting-preserved : goal.putting-preserved
putting-preserved c = record {
  text = next_line c.putting.rest.now c.split_at.result.0.now c.split_at.result.1.now c.putting.line.items c.put_image.new.line.items _ c.putting-test.true
      c.split_at.ensures.front c.split_at.ensures.back c.put_image.ensures.text c.putting.invariant.text;
  room = omega (arith, c.put_image.ensures.len, c.putting.invariant.room, c.split_at.ensures.back_len, c.putting-test.true);
}

pub returns : goal.returns
returns c =
    c.put_image-2.ensures.text ∙ ap (λ (t : List ℕ). c.putting.line.items ++ t) (sym (printed_last c.putting.rest.now c.putting-test.false)) ∙ c.putting.invariant.text
