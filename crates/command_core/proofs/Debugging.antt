use Rattle.std.proofs.Common.{◌≡◌, ℕ, cond, false, List, ap, refl, subst, sym, Some}
use Rattle.std.specs.FinMap.{get}
use Rattle.breakpoints.specs.Breakpoints.{Breaks, has_break, with_break, without_break}
use Rattle.machine_core.specs.declared.process.Process as declared
use Rattle.machine_core.specs.Process.{Process}
use Rattle.machine_core.specs.Machine.{Machine, spaces_of, whole_in}
use Rattle.report_text.specs.declared.answer.Answer.TheVariants.{Done, Memory}
use Rattle.command_core.specs.declared.checkpoints.Kept.{Kept}
use Rattle.command_core.specs.State.{Checkpoint, State, registry_of}
use Rattle.command_core.specs.Kept.{checkpoints_in, shown_state}
use Rattle.command_core.specs.Rows.{TakesLast, TakesNone, ledger_by}
use Rattle.command_core.specs.Giving.{GivesChange}
use Rattle.command_core.specs.Debugging.{break_row, unbreak_row}
use Rattle.command_core.specs.Changes.{on_process}
use Rattle.command_core.specs.LikeLaws.{states_itself}
use Rattle.command_core.proofs.Rows.{NeverNone, gives_found, row_accepted, row_wants}

-- Breakpoints of a process that is there, added and taken away.

module _ (old : Machine) (xs : List Kept) (breaks : Breaks) (p address : ℕ) (process : declared.Process) (there : get old.processes p ≡ Some process) where
  abbrev before : State
  before = shown_state old xs breaks

  abbrev kept : List Checkpoint
  kept = checkpoints_in (spaces_of old) xs

  abbrev whole : Process
  whole = whole_in (spaces_of old) p process

  pub break_added : GivesChange (on_process p (break_row p address) (registry_of before)) before Done (shown_state old xs (with_break breaks p address))
  unfolding ledger_by
  break_added =
      let after = shown_state old xs (with_break breaks p address) in
      gives_found old kept breaks p (break_row p address) process Done after there
      (row_accepted (break_row p address whole (registry_of before)) before after refl refl (states_itself after))

  pub break_wants : has_break breaks p address ≡ false → GivesChange (on_process p (break_row p address) (registry_of before)) before Memory before
  break_wants absent =
      gives_found old kept breaks p (break_row p address) process Memory before there
      (row_wants (break_row p address whole (registry_of before)) before before (subst NeverNone (sym (ap (λ there. cond there TakesNone TakesLast) absent)) tt) refl refl, refl)

  pub break_removed : GivesChange (on_process p (unbreak_row p address) (registry_of before)) before Done (shown_state old xs (without_break breaks p address))
  unfolding ledger_by
  break_removed =
      let after = shown_state old xs (without_break breaks p address) in
      gives_found old kept breaks p (unbreak_row p address) process Done after there
      (row_accepted (unbreak_row p address whole (registry_of before)) before after refl refl (states_itself after))
