use Rattle.memory_calls.proofs.Awaiting.{none_awaits_begun}
use Rattle.memory_calls.proofs.tests.ledgers.what_takes_memory_is_done_where_there_is_memory.Goals as goal

pub map_zeros-requires : goal.map_zeros-requires
map_zeros-requires g c = none_awaits_begun c.in_ok-ledger.ledger c.add_space.new.self 1 c.in_ok-ledger.ensures.spaces c.in_ok-add_space.ensures.added
