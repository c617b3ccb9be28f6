use Rattle.std.proofs.Common.{arith}
use Rattle.machine_core.proofs.Marks.{count_more}
use Rattle.machine_core.proofs.load.stored_in.Goals as goal
use Rattle.machine_core.proofs.load.stored_in.Goals.{then-page, else-page}

pub counting-preserved : goal.counting-preserved
counting-preserved c = elim c.if-page.branch [
  | then-page w ↦
      let more = count_more c.args.pages.now c.counting.page-index _ c.counting-test.true w.if-page.true in
      (omega (arith, w.count-is, c.counting.invariant.0, more), omega (arith, w.count-is, c.counting.invariant.1))
  | else-page w ↦
      let more = count_more c.args.pages.now c.counting.page-index _ c.counting-test.true w.if-page.false in
      (omega (arith, w.count-is, c.counting.invariant.0, more), omega (arith, w.count-is, c.counting.invariant.1))
]
