use Rattle.std.proofs.Common.{sym, ◌∙◌}
use Rattle.machine_core.specs.Kept.{machine_of}
use Rattle.machine_core.proofs.Listed.{changed_but, still_listed}
use Rattle.machine_core.proofs.Constants.{truth}
use Rattle.machine_core.proofs.keeping.execute_turns.Goals as goal

pub relist-requires : goal.relist-requires
relist-requires g c =
    let done = c.execute_in-runs in
    changed_but (machine_of (truth g.row.EXTENSION) c.args.memory.now c.args.processes.now) (machine_of (truth g.row.EXTENSION) done.new.memory done.new.processes) c.args.running.now c.args.p
    c.requires.kept c.requires.runs done.ensures.changed.others

pub returns-then-runs-clause-kept : goal.returns-then-runs-clause-kept
returns-then-runs-clause-kept g c =
    let done = c.execute_in-runs in
    still_listed (machine_of (truth g.row.EXTENSION) c.args.memory.now c.args.processes.now) (machine_of (truth g.row.EXTENSION) done.new.memory done.new.processes) c.args.running.now c.args.p
    c.requires.kept c.requires.runs done.ensures.changed.others (sym done.ensures.runs ∙ c.if-runs.true)
