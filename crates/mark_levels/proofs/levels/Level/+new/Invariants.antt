use Rattle.mark_levels.proofs.levels.Level.+new.Given as goal

abbrev pub decreases-new : goal.decreases-new
decreases-new l = l.groups
