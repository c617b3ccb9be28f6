use Rattle.std.proofs.Common.{arith}
use Rattle.unit_map.proofs.Numbers.{upper_fits, upper_half}
use Rattle.unit_map.proofs.block.Block.buddy.Goals as goal

pub returns-else-self-size-eq0-clause-beside : goal.returns-else-self-size-eq0-clause-beside
returns-else-self-size-eq0-clause-beside c = upper_half c.args.self.unit c.args.self.order c.requires.low c.requires.aligned c.if-self-size-eq0.false

pub overflow_add-unit : goal.overflow_add-unit
overflow_add-unit c = omega (arith, upper_fits c.args.self.unit c.args.self.order c.requires.low (omega arith) c.if-self-size-eq0.true)
