use Rattle.std.proofs.Common.{[], ◌∷◌, ap, arith}
use Rattle.segment_store.specs.Changes.{moved_lines}
use Rattle.segment_store.specs.Runs.{lines_more}
use Rattle.store_calls.proofs.tests.releases.count_lines.Goals as goal

pub counting-preserved : goal.counting-preserved
counting-preserved g c =
    omega (arith, c.add_lines-lines.ensures, c.counting.invariant, lines_more c.pop.new.self.items (c.in-Some.m ∷ []), ap moved_lines c.in-Some.ensures.items)
