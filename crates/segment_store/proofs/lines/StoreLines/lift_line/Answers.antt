use Rattle.std.proofs.Common.{◌+◌, ◌-◌, ◌++◌, length, set, ap, ◌∙◌}
use Rattle.segment_store.proofs.Behind.{line_before, set_behind}
use Rattle.segment_store.proofs.lines.StoreLines.lift_line.Goals as goal

pub returns : goal.returns
returns c =
    let units = c.self.inside.units in
    let scratch = c.self.inside.scratch in
    let whole = c.args.self.now in
    ap (λ l. units ++ l) (c.put_line.ensures.put ∙ ap (λ n. set scratch n c.line.result.now) c.from.ensures)
    ∙ set_behind units scratch whole c.self.view_is c.self.invariant.0 c.args.line c.line.result.now
    ∙ ap (set whole (length whole - 64 + c.args.line)) (c.line.ensures.value ∙ line_before units scratch whole c.self.view_is c.self.invariant.0 c.args.from c.requires.there)
