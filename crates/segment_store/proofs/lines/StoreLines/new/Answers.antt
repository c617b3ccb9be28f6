use Rattle.segment_store.proofs.Behind.{all_zero}
use Rattle.segment_store.proofs.lines.StoreLines.new.Goals as goal

pub returns-clause-zero : goal.returns-clause-zero
returns-clause-zero c = all_zero c.args.frames c.in_ok-units.units c.in_ok-scratch.scratch c.in_ok-units.ensures.zero c.in_ok-scratch.ensures.zero
