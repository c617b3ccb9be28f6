use Rattle.std.proofs.Common.{◌<◌, [], length, sym, ap, ◌∙◌, arith}
use Rattle.line_store.specs.Lines.{line_of}
use Rattle.line_store.proofs.Kept.{length-kept_lines, line_kept, line_behind}
use Rattle.line_store.proofs.region.Region.line.Goals as goal

pub returns-then-kept-at-clause-value : goal.returns-then-kept-at-clause-value
returns-then-kept-at-clause-value g c =
    let size = length-kept_lines c.self.inside.lines.items c.self.inside.count c.self.invariant.0.below in
    c.zero_line.ensures
    ∙ sym (line_behind c.self.inside.lines.items c.self.inside.count c.args.at [] (omega (arith, c.if-kept-at.true, ap length c.as_slice-kept.ensures))
    (omega (arith, c.requires.there, size, ap length c.self.view_is)))
    ∙ ap (λ l. line_of l c.args.at) c.self.view_is

pub returns-then-kept-at-clause-bytes : goal.returns-then-kept-at-clause-bytes
returns-then-kept-at-clause-bytes g c = ap length (sym (returns-then-kept-at-clause-value g c) ∙ c.zero_line.ensures)

pub returns-clause-value : goal.returns-clause-value
returns-clause-value g c =
    let items = c.self.inside.lines.items in
    let there : c.args.at < length items = omega (arith, c.if-kept-at.false, ap length c.as_slice-kept.ensures) in
    ap (λ l. line_of l c.args.at) c.as_slice-kept.ensures
    ∙ sym (line_kept items c.self.inside.count c.args.at [] there) ∙ ap (λ l. line_of l c.args.at) c.self.view_is

pub returns-clause-bytes : goal.returns-clause-bytes
returns-clause-bytes g c = ap length (sym (returns-clause-value g c)) ∙ omega arith
