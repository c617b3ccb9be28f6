use Rattle.std.proofs.Common.{subst, sym, ap, ◌∙◌}
use Rattle.std.specs.Prelude.{Ok, Err}
use Rattle.overlay_memory.specs.View.{TranslatedView, translations_of}
use Rattle.speculation.specs.Speculated.{Discards}
use Rattle.machine_core.specs.Machine.{with_memory}
use Rattle.report_text.specs.declared.answer.Answer.TheVariants.{Done}
use Rattle.translation_cache.specs.Translations.{flushed}
use Rattle.command_core.specs.declared.process_changes.ProcessChange.TheVariants.{Discard}
use Rattle.command_core.specs.ProcessChanges.{ChangesProcess}
use Rattle.command_core.proofs.Speculating.{has_discarded, not_discarded}
use Rattle.command_core.proofs.process_changes.go_back.Goals as goal

pub returns-in-Ok-clause-done : goal.returns-in-Ok-clause-done
returns-in-Ok-clause-done c =
    subst (ChangesProcess c.args.p Discard c.args.process c.args.machine.now Done) (sym c.set_process.ensures)
    (has_discarded c.args.p c.args.process c.args.machine.now c.discard.new.mem c.requires.there c.args.saved c.requires.saved
    (subst (λ (m : TranslatedView). Discards m c.discard.new.mem c.args.p (Ok tt)) c.memory_mut.ensures.value c.in-Ok.ensures.discards)
    (c.in-Ok.ensures.translations ∙ ap (λ (m : TranslatedView). flushed c.args.p (translations_of m)) c.memory_mut.ensures.value))

pub returns-in-Err-clause-done : goal.returns-in-Err-clause-done
returns-in-Err-clause-done c =
    subst (λ a. ChangesProcess c.args.p Discard c.args.process c.args.machine.now a (with_memory c.args.machine.now c.discard.new.mem)) (sym c.not_speculated.ensures.answer)
    (not_discarded c.args.p c.args.process c.args.machine.now c.discard.new.mem c.requires.there c.in-Err.error
    (subst (λ (m : TranslatedView). Discards m c.discard.new.mem c.args.p (Err c.in-Err.error)) c.memory_mut.ensures.value c.in-Err.ensures.discards))
