use Rattle.std.proofs.Common.{◌+◌, ◌*◌, ◌≤◌, length, ap, ◌∙◌, arith}
use Rattle.line_store.specs.Lines.{line_of}
use Rattle.line_store.specs.LineLaws.{copied_in, copied_out}
use Rattle.segment_store.proofs.places.copy_page.Goals as goal

pub returns-then-from-to : goal.returns-then-from-to
returns-then-from-to c =
    let old = c.args.region.now in
    let source : 64 * c.args.from + 64 ≤ length old = omega (arith, c.requires.source) in
    let target : 64 * c.args.to + 64 ≤ length old = omega (arith, c.requires.target) in
    record {
      size = c.copy_lines.ensures.count;
      lines = λ i low. ap (λ l. line_of l (64 * c.args.to + i)) c.copy_lines.ensures.copied ∙ copied_in old (64 * c.args.from) (64 * c.args.to) 64 i source target low;
      outside = λ at out. ap (λ l. line_of l at) c.copy_lines.ensures.copied ∙ copied_out old (64 * c.args.from) (64 * c.args.to) 64 at source target out;
    }
