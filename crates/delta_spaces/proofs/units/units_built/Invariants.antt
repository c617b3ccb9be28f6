use Rattle.overlay_memory.specs.View.{state_of}
use Rattle.delta_spaces.proofs.Counting.{IsCounting}
use Rattle.delta_spaces.proofs.units.units_built.Given as goal

abbrev pub invariant-counting : goal.invariant-counting
invariant-counting l = IsCounting (state_of l.mem) l.base l.pages l.units l.page-index
