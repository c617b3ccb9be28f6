use Rattle.std.proofs.Common.{ℕ, List, subst}
use Rattle.overlay_top.specs.Sending.{SendsText}
use Rattle.overlay_top.proofs.Listing.{counts_line_is}
use Rattle.overlay_top.proofs.commands.stats.Goals as goal

pub returns-clause-sends : goal.returns-clause-sends
returns-clause-sends g c =
    subst (λ (text : List ℕ). SendsText g.K.Sink c.args.report.now.sink.now text c.send.new.self.sink.now c.send.result)
    (counts_line_is c.args.session.now.state c.counts-counts.result c.stats_line.new.out.items c.counts-counts.ensures.counts c.stats_line.ensures)
    c.send.ensures.sends
