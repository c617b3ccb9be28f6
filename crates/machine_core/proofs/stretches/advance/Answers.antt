use Rattle.std.proofs.Common.{arith}
use Rattle.machine_core.specs.Executions.{stops_in}
use Rattle.machine_core.proofs.Constants.{truth}
use Rattle.machine_core.proofs.Runs.{run_reached}
use Rattle.machine_core.proofs.stretches.advance.Goals as goal

pub run-requires : goal.run-requires
run-requires g c = (
  omega arith,
  (c.requires.runs, (c.have_line.ensures.ready, (c.have_line.ensures.taken c.if-have_line.true, (c.requires.some, (omega (arith, c.requires.few, c.have_line.ensures.owed), c.requires.unstopped))))),
)

pub returns-then-have_line : goal.returns-then-have_line
returns-then-have_line g c =
    let at = c.have_line.ensures in
    run_reached (truth g.row.EXTENSION) (stops_in c.args.stops) c.args.most c.have_line.new.lines c.args.process.now c.run.new.process c.args.view.now c.have_line.new.view c.run.new.view _ _
    at.loan at.space at.spaces at.owed at.from c.requires.some c.run.ensures

pub returns : goal.returns
returns g c =
    let at = c.have_line.ensures in
    run_reached (truth g.row.EXTENSION) (stops_in c.args.stops) c.args.most c.have_line.new.lines c.args.process.now c.apart.new.process c.args.view.now c.have_line.new.view c.apart.new.view _ _
    at.loan at.space at.spaces at.owed at.from c.requires.some c.apart.ensures
