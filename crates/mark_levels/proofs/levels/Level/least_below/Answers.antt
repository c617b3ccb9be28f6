use Rattle.mark_levels.proofs.Marks.{least_marked}
use Rattle.mark_levels.proofs.levels.Level.least_below.Goals as goal

pub returns : goal.returns
returns c bytes are = least_marked bytes c.args.self.now c.args.from c.args.below c.least.result are c.least.ensures
