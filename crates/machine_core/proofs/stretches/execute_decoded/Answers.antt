use Rattle.std.proofs.Common.{sym, ◌∙◌}
use Rattle.machine_core.proofs.Executing.{done_known, made_known, on_known}
use Rattle.machine_core.proofs.Constants.{truth}
use Rattle.machine_core.proofs.stretches.execute_decoded.Goals as goal

pub returns : goal.returns
returns g c =
    let came = c.perform-outcome in
    record {
      ready = came.ensures.ready;
      done = done_known (truth g.row.EXTENSION) c.args.regs.now c.args.view.now c.args.word.now c.requires.word c.action_on-action.result c.action_on-action.ensures
          came.new.mem came.new.regs came.result came.ensures.done came.ensures.made;
      made = made_known (truth g.row.EXTENSION) c.args.regs.now c.args.view.now c.args.word.now c.requires.word c.action_on-action.result c.action_on-action.ensures
          came.new.mem came.new.regs came.result came.ensures.done came.ensures.made;
      on = λ is.
          on_known (truth g.row.EXTENSION) c.args.regs.now c.args.view.now c.args.word.now c.requires.word c.action_on-action.result c.action_on-action.ensures
          came.new.mem came.new.regs came.result came.ensures.done came.ensures.made (sym c.goes_behind-on.ensures ∙ is);
    }
