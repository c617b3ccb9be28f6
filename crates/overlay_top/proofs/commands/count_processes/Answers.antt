use Rattle.std.proofs.Common.{◌∙◌, ap, length, arith, zero-add}
use Rattle.command_core.specs.Looks.{from_number}
use Rattle.overlay_top.proofs.Listing.{count_next, from_first}
use Rattle.overlay_top.proofs.commands.count_processes.Goals as goal

pub counting-init : goal.counting-init
counting-init c = record {
  all = zero-add (length (from_number 0 c.args.session.now.state.wholes.processes)) ∙ ap (λ es. length es) (from_first c.args.session.now.state.wholes.processes);
  few = omega arith;
  low = omega arith;
}

pub counting-preserved : goal.counting-preserved
counting-preserved c = record {
  all = count_next c.args.session.now.state.wholes.processes c.counting.from c.in-Some.p c.counting.count _ c.in-Some.ensures.next c.counting.invariant.all;
  few = omega (arith, c.counting.invariant.few, c.in-Some.ensures.within.0);
  low = omega (arith, c.in-Some.ensures.within.1);
}
