use Rattle.std.proofs.Common.{◌∙◌, sym, Some}
use Rattle.machine_core.specs.Machine.{wholes}
use Rattle.process_runs.proofs.Rans.{limit_is, next_is}
use Rattle.process_runs.proofs.taking.ending_unbroken.Goals as goal

pub returns-else-has_left : goal.returns-else-has_left
returns-else-has_left c =
    let run = c.args.running.now.run in
    limit_is (wholes c.args.machine.now) run c.in-Some.field-0
    (next_is (wholes c.args.machine.now) c.order.result.now run.order (Some c.in-Some.field-0) c.in-Some.ensures.number c.order.ensures.order)
    (sym c.has_left.ensures.left ∙ c.if-has_left.false) c.has_left.ensures.within
