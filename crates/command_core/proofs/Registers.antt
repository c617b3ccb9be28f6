use Rattle.std.proofs.Common.{◌≡◌, ℕ, ap, ◌∙◌, refl, Some, None}
use Rattle.std.specs.FinMap.{get}
use Rattle.ledger.specs.AlikeLaws.{alike_itself}
use Rattle.ledger.specs.Events as event
use Rattle.overlay_pages.specs.State.{books}
use Rattle.rv_execute.specs.Registers.{Registers}
use Rattle.machine_core.specs.Process.{Process}
use Rattle.machine_core.specs.declared.process.Process as declared
use Rattle.machine_core.specs.Machine.{Machine, spaces_of, whole_in, with_process_at}
use Rattle.report_text.specs.declared.answer.Answer.TheVariants.{Done}
use Rattle.command_core.specs.declared.process_changes.ProcessChange.TheVariants.{Set}
use Rattle.command_core.specs.ProcessChanges.{ChangesProcess, after_set, process_row, set_register}
use Rattle.command_core.proofs.Rows.{machine_done}
use Rattle.command_core.proofs.Speculating.{saved_here, stays, wholes_are}

-- A process of which a register was set: its memory stays, and what is kept of it.

module _ (p register value : ℕ) (process : declared.Process) (old : Machine) (regs : Registers) (there : get old.processes p ≡ Some process)
    (same : regs ≡ set_register register value process.regs) where
  abbrev before : Process
  before = whole_in (spaces_of old) p process

  abbrev put : declared.Process
  put = record { regs = regs; state = process.state; saved = process.saved }

  put_is : whole_in (spaces_of old) p put ≡ after_set register value before
  put_is = ap (λ (r : Registers). record { registers = r; state = process.state; memory = before.memory; kept = before.kept }) same

  pub register_set : ChangesProcess p (Set register value) process old Done (with_process_at old p put)
  register_set =
      machine_done (process_row p (Set register value) before) old (with_process_at old p put) (λ r. refl) (λ kept breaks. refl) (λ r. refl)
      (λ kept breaks. wholes_are p process old old.memory there event.Other put (after_set register value before) put_is (λ q other. refl) None (alike_itself (books (spaces_of old))) refl refl)
      (λ r. refl) (λ r. refl)
      (stays p process old old.memory there event.Other put (after_set register value before) put_is (λ q other. refl) None refl (λ q. refl) refl
      (λ h. h ∙ saved_here p process old old.memory there) (λ fit. fit p))
