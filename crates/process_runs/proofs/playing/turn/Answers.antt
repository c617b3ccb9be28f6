use Rattle.std.proofs.Common.{sym, ◌∙◌}
use Rattle.process_runs.specs.PlaceLaws.{space_there}
use Rattle.process_runs.proofs.playing.turn.Goals as goal

pub take_event-requires-clause-there : goal.take_event-requires-clause-there
take_event-requires-clause-there c = space_there c.args.machine.now c.args.p c.requires.spaces (sym c.is_running.ensures.running ∙ c.if-is_running.true)
