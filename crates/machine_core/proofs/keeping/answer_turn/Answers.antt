use Rattle.std.proofs.Common.{false, sym, ◌∙◌}
use Rattle.machine_core.specs.Kept.{machine_of}
use Rattle.machine_core.specs.Laws.{runs_shown}
use Rattle.machine_core.proofs.Listed.{changed_but, still_listed}
use Rattle.machine_core.proofs.keeping.answer_turn.Goals as goal

pub relist-requires : goal.relist-requires
relist-requires c =
    let done = c.answer_in-turn in
    let old = machine_of false c.args.memory.now c.args.processes.now in
    changed_but old (machine_of false done.new.memory done.new.processes) c.args.running.now c.args.p
    c.requires.kept (runs_shown old c.args.p ∙ c.requires.runs) (done.ensures.changed false).others

pub returns-then-runs-clause-kept : goal.returns-then-runs-clause-kept
returns-then-runs-clause-kept c =
    let done = c.answer_in-turn in
    let old = machine_of false c.args.memory.now c.args.processes.now in
    still_listed old (machine_of false done.new.memory done.new.processes) c.args.running.now c.args.p
    c.requires.kept (runs_shown old c.args.p ∙ c.requires.runs) (done.ensures.changed false).others (sym done.ensures.runs ∙ c.if-runs.true)
