use Rattle.std.proofs.Common.{◌++◌, set, ap, ◌∙◌}
use Rattle.line_store.specs.Lines.{line_of}
use Rattle.line_store.specs.LineLaws.{one_copied}
use Rattle.segment_store.proofs.Behind.{before_at, line_before, set_before}
use Rattle.segment_store.proofs.lines.StoreLines.copy_line.Goals as goal

pub returns : goal.returns
returns c =
    let units = c.self.inside.units in
    let scratch = c.self.inside.scratch in
    let whole = c.args.self.now in
    let at = before_at units scratch whole c.self.view_is c.self.invariant.0 in
    ap (λ l. l ++ scratch) (c.copy_lines.ensures.copied ∙ one_copied units c.args.from c.args.to (at c.args.from c.requires.source) (at c.args.to c.requires.target))
    ∙ set_before units scratch whole c.self.view_is c.self.invariant.0 c.args.to (line_of units c.args.from) c.requires.target
    ∙ ap (set whole c.args.to) (line_before units scratch whole c.self.view_is c.self.invariant.0 c.args.from c.requires.source)
