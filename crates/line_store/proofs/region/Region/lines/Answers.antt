use Rattle.std.proofs.Common.{length, sym, ap, ◌∙◌}
use Rattle.line_store.proofs.Kept.{length-kept_lines}
use Rattle.line_store.proofs.region.Region.lines.Goals as goal

pub returns : goal.returns
returns g c = record { count = sym (length-kept_lines c.self.inside.lines.items c.self.inside.count c.self.invariant.0.below) ∙ ap length c.self.view_is }
