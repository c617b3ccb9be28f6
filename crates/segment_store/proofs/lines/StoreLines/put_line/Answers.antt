use Rattle.std.proofs.Common.{◌++◌, ap, ◌∙◌}
use Rattle.segment_store.proofs.Behind.{set_before}
use Rattle.segment_store.proofs.lines.StoreLines.put_line.Goals as goal

pub returns : goal.returns
returns c =
    ap (λ l. l ++ c.self.inside.scratch) c.put_line.ensures.put
    ∙ set_before c.self.inside.units c.self.inside.scratch c.args.self.now c.self.view_is c.self.invariant.0 c.args.at c.args.bytes.now c.requires.there
