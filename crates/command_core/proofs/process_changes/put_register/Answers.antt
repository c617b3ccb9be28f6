use Rattle.std.proofs.Common.{subst, sym}
use Rattle.report_text.specs.declared.answer.Answer.TheVariants.{Done}
use Rattle.command_core.specs.declared.process_changes.ProcessChange.TheVariants.{Set}
use Rattle.command_core.specs.ProcessChanges.{ChangesProcess}
use Rattle.command_core.proofs.Registers.{register_set}
use Rattle.command_core.proofs.process_changes.put_register.Goals as goal

pub returns-clause-done : goal.returns-clause-done
returns-clause-done c =
    subst (ChangesProcess c.args.p (Set c.args.register c.args.value) c.args.process c.args.machine.now Done) (sym c.set_process.ensures)
    (register_set c.args.p c.args.register c.args.value c.args.process c.args.machine.now c.with_value.result c.requires.there c.with_value.ensures)
