use Rattle.std.proofs.Common.{ap, ◌∙◌, ◌+◌}
use Rattle.round_robin.proofs.Turning.{turns_are}
use Rattle.round_robin.proofs.turns.RoundRobin.took_turns.Goals as goal

pub returns : goal.returns
returns c =
    c.add.ensures
    ∙ turns_are c.args.n c.args.p c.args.self.now (c.had_before-before.result + c.args.n) c.requires.some c.requires.left
    (ap (λ k. k + c.args.n) c.had_before-before.ensures.had)
