use Rattle.process_runs.specs.PlaceLaws.{space_there}
use Rattle.process_runs.proofs.taking.next_turn.Goals as goal

pub take_event-turn-requires-clause-there : goal.take_event-turn-requires-clause-there
take_event-turn-requires-clause-there c = space_there c.args.machine.now c.in-Some-next.p c.requires.spaces c.in-Some-next.ensures.runs

pub take_event-turn-requires-clause-none_awaits : goal.take_event-turn-requires-clause-none_awaits
take_event-turn-requires-clause-none_awaits c = c.requires.awaits c.in-Some-next.p

pub take_event-turn-requires-clause-pairs : goal.take_event-turn-requires-clause-pairs
take_event-turn-requires-clause-pairs c = c.requires.pairs c.in-Some-next.p
