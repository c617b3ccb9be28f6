use Rattle.unit_map.proofs.cells.+clear_in.Given as goal

abbrev pub decreases-clear_in : goal.decreases-clear_in
decreases-clear_in l = l.within.order
