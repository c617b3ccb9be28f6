use Rattle.std.proofs.Common.{◌++◌, set, ap, ◌∙◌}
use Rattle.line_store.specs.Lines.{line_of}
use Rattle.segment_store.proofs.Behind.{line_behind, set_before}
use Rattle.segment_store.proofs.lines.StoreLines.lay_line.Goals as goal

pub returns : goal.returns
returns c =
    let units = c.self.inside.units in
    let scratch = c.self.inside.scratch in
    let whole = c.args.self.now in
    ap (λ l. l ++ scratch) c.put_line.ensures.put
    ∙ set_before units scratch whole c.self.view_is c.self.invariant.0 c.args.to c.line.result.now c.requires.there
    ∙ ap (set whole c.args.to) (c.line.ensures.value ∙ ap (line_of scratch) c.from.ensures ∙ line_behind units scratch whole c.self.view_is c.self.invariant.0 c.args.line)
