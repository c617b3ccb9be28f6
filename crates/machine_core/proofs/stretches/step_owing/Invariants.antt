use Rattle.std.proofs.Common.{◌≡◌, ◌-◌, ◌≤◌}
use Rattle.ovl_io.specs.declared.process_state.ProcessState.TheVariants.{Running}
use Rattle.machine_core.specs.Access.{IsReadyView, spaces_lent}
use Rattle.machine_core.specs.Ahead.{guest_ahead}
use Rattle.machine_core.specs.Executions.{AreLikeExecutions, after_steps, executions, stops_in}
use Rattle.machine_core.specs.Held.{IsInHand}
use Rattle.machine_core.specs.Kept.{IsBeside, guest_lent}
use Rattle.machine_core.proofs.Constants.{truth}
use Rattle.machine_core.proofs.stretches.step_owing.Given as goal

-- those so far were steps, in the space that was lent
abbrev pub invariant-stepping : goal.invariant-stepping
invariant-stepping g l = record {
  loan : l.view.memory.ghost_name ≡ l.fn.view.memory.ghost_name;
  space : l.view.space ≡ l.fn.view.space;
  ready : IsReadyView l.view;
  all : AreLikeExecutions
      (after_steps (l.most - l.left) (executions (stops_in l.stops) l.fn.view.space (l.most - (l.most - l.left)) (guest_ahead l.view.hand.owed (guest_lent (truth g.row.EXTENSION) l.view l.process))))
      (executions (stops_in l.stops) l.fn.view.space l.most (guest_lent (truth g.row.EXTENSION) l.fn.view l.fn.process));
  running : l.process.state ≡ Running;
  saved : l.process.saved ≡ l.fn.process.saved;
  few : l.view.hand.owed ≤ l.most - l.left;
  hand : IsInHand l.lines l.view.memory.now l.view.space l.view.hand;
  beside : IsBeside l.fn.view.space (spaces_lent l.fn.view) (spaces_lent l.view);
  within : l.left ≤ l.most;
}

abbrev pub decreases-stepping : goal.decreases-stepping
decreases-stepping g l = l.left
