use Rattle.std.proofs.Common.{take, drop, length, ap, ◌∙◌, arith}
use Rattle.std.proofs.lemmas.List.{take_rest}
use Rattle.line_store.proofs.Kept.{length-kept_lines, page_kept, page_of_zeros}
use Rattle.line_store.proofs.region.Region.page.Goals as goal

pub returns-then-kept-at : goal.returns-then-kept-at
returns-then-kept-at g c =
    let size = length-kept_lines c.self.inside.lines.items c.self.inside.count c.self.invariant.0.below in
    record {
      value = c.zero_page.ensures
          ∙ page_of_zeros c.self.inside.lines.items c.self.inside.count c.args.at c.self.invariant.0
          (omega (arith, c.if-kept-at.true, ap length c.as_slice-kept.ensures)) (omega (arith, c.requires.there, size, ap length c.self.view_is))
          ∙ ap (λ l. take 64 (drop c.args.at l)) c.self.view_is;
    }

pub returns : goal.returns
returns g c =
    record {
      value = c.in-Some.ensures.cases.same
          ∙ ap (take 64) (take_rest c.as_slice-kept.result.now c.args.at ∙ ap (drop c.args.at) c.as_slice-kept.ensures)
          ∙ page_kept c.self.inside.lines.items c.self.inside.count c.args.at (omega (arith, c.if-kept-at.false, ap length c.as_slice-kept.ensures))
          ∙ ap (λ l. take 64 (drop c.args.at l)) c.self.view_is;
    }
