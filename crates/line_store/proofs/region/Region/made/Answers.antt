use Rattle.std.proofs.Common.{◌*◌, length, ap, arith}
use Rattle.line_store.proofs.Kept.{length-kept_lines}
use Rattle.line_store.proofs.region.Region.made.Goals as goal

pub returns-clause-count : goal.returns-clause-count
returns-clause-count g c = length-kept_lines c.in_ok-lines.lines.items (64 * c.args.frames) (omega (arith, ap length c.in_ok-lines.ensures.0))
