use Rattle.std.specs.Prelude.{string_bytes}
use Rattle.workload.proofs.Rounds.{HasRounds}
use Rattle.workload.proofs.script.made_script.Given as goal

abbrev pub invariant-rounds : goal.invariant-rounds
invariant-rounds l = HasRounds l.seed l._round (string_bytes l.script) l.draws.state
