use Rattle.std.proofs.Common.{refl, ◌∙◌}
use Rattle.segment_store.proofs.Behind.{line_before, set_before}
use Rattle.segment_store.proofs.lines.StoreLines.line_mut.Goals as goal

pub returns : goal.returns
returns c = (
  (refl, λ w. set_before c.self.inside.units c.self.inside.scratch c.args.self.now c.self.view_is c.self.invariant.0 c.args.at w c.requires.there),
  record {
    writes_back = tt;
    value = c.line_mut.ensures.value ∙ line_before c.self.inside.units c.self.inside.scratch c.args.self.now c.self.view_is c.self.invariant.0 c.args.at c.requires.there;
  },
)
