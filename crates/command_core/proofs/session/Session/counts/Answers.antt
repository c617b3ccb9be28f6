use Rattle.std.proofs.Common.{ap, ◌∙◌}
use Rattle.command_core.specs.LikeLaws.{counts_same}
use Rattle.command_core.specs.Looks.{counts_of}
use Rattle.command_core.specs.Sessions.{InSession}
use Rattle.command_core.proofs.Looking.{counts_are}
use Rattle.command_core.proofs.session.Session.counts.Goals as goal

pub returns-clause-counts : goal.returns-clause-counts
returns-clause-counts c =
    counts_are c.self.inside.machine c.memory-memory.result.now c.units.result c.limit.result c.lines.result c.hits.result c.misses.result
    c.memory-memory.ensures c.units.ensures.sum c.limit.ensures.limit c.lines.ensures c.hits.ensures.hits c.misses.ensures.misses
    ∙ ap (λ (s : InSession). counts_of s.state.wholes) c.self.view_is

pub returns-clause-stands : goal.returns-clause-stands
returns-clause-stands c state stands = returns-clause-counts c ∙ counts_same c.args.self.now.state.wholes state.wholes stands.wholes
