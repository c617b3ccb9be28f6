use Rattle.overlay_mapping_table.specs.Gaps.{AreFilled}
use Rattle.overlay_mapping_table.proofs.gaps.fill.Given as goal

abbrev pub invariant-filling : goal.invariant-filling
invariant-filling g l = AreFilled l.fn.items l.items l.rest l.from l.k
