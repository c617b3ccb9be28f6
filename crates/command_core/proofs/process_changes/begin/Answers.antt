use Rattle.std.proofs.Common.{ap, subst, sym, ◌∙◌}
use Rattle.std.specs.Prelude.{Ok, Err}
use Rattle.overlay_memory.specs.View.{TranslatedView, translations_of}
use Rattle.speculation.specs.Speculated.{Starts}
use Rattle.machine_core.specs.Machine.{with_memory}
use Rattle.machine_core.specs.Process.{runs}
use Rattle.report_text.specs.declared.answer.Answer.TheVariants.{Done}
use Rattle.translation_cache.specs.Translations.{flushed}
use Rattle.command_core.specs.declared.process_changes.ProcessChange.TheVariants.{Speculate}
use Rattle.command_core.specs.ProcessChanges.{ChangesProcess}
use Rattle.command_core.proofs.Speculating.{not_started, started}
use Rattle.command_core.proofs.process_changes.begin.Goals as goal

pub returns-in-Ok-clause-done : goal.returns-in-Ok-clause-done
returns-in-Ok-clause-done c =
    subst (ChangesProcess c.args.p Speculate c.args.process c.args.machine.now Done) (sym c.set_process.ensures)
    (started c.args.p c.args.process c.args.machine.now c.start.new.mem c.requires.there
    (subst (λ (m : TranslatedView). Starts m c.start.new.mem c.args.p (Ok tt)) c.memory_mut.ensures.value c.in-Ok.ensures.starts)
    (c.in-Ok.ensures.translations ∙ ap (λ (m : TranslatedView). flushed c.args.p (translations_of m)) c.memory_mut.ensures.value) (ap runs c.requires.runs))

pub returns-in-Err-clause-done : goal.returns-in-Err-clause-done
returns-in-Err-clause-done c =
    subst (λ a. ChangesProcess c.args.p Speculate c.args.process c.args.machine.now a (with_memory c.args.machine.now c.start.new.mem)) (sym c.not_speculated.ensures.answer)
    (not_started c.args.p c.args.process c.args.machine.now c.start.new.mem c.requires.there c.in-Err.error
    (subst (λ (m : TranslatedView). Starts m c.start.new.mem c.args.p (Err c.in-Err.error)) c.memory_mut.ensures.value c.in-Err.ensures.starts) (ap runs c.requires.runs))
