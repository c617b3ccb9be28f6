use Rattle.memory_calls.proofs.Awaiting.{none_awaits_zeroed}
use Rattle.memory_calls.proofs.tests.ledgers.map_zeros.Goals as goal

pub returns : goal.returns
returns g c = none_awaits_zeroed c.args.ledger.now c.map_zero.new.self 1 100 16 _ c.in_ok-map_zero.ensures.mapped c.requires
