use Rattle.std.proofs.Common.{subst, sym, ap, ◌∙◌}
use Rattle.std.specs.Prelude.{Ok, Err}
use Rattle.overlay_memory.specs.View.{TranslatedView, translations_of}
use Rattle.speculation.specs.Speculated.{Commits}
use Rattle.machine_core.specs.Machine.{with_memory}
use Rattle.report_text.specs.declared.answer.Answer.TheVariants.{Done}
use Rattle.translation_cache.specs.Translations.{flushed}
use Rattle.command_core.specs.declared.process_changes.ProcessChange.TheVariants.{Commit}
use Rattle.command_core.specs.ProcessChanges.{ChangesProcess}
use Rattle.command_core.proofs.Speculating.{has_committed, not_committed}
use Rattle.command_core.proofs.process_changes.commit_process.Goals as goal

pub returns-in-Ok-clause-done : goal.returns-in-Ok-clause-done
returns-in-Ok-clause-done c =
    subst (ChangesProcess c.args.p Commit c.args.process c.args.machine.now Done) (sym c.set_process.ensures)
    (has_committed c.args.p c.args.process c.args.machine.now c.commit.new.mem c.requires.there
    (subst (λ (m : TranslatedView). Commits m c.commit.new.mem c.args.p (Ok tt)) c.memory_mut.ensures.value c.in-Ok.ensures.commits)
    (c.in-Ok.ensures.translations ∙ ap (λ (m : TranslatedView). flushed c.args.p (translations_of m)) c.memory_mut.ensures.value))

pub returns-in-Err-clause-done : goal.returns-in-Err-clause-done
returns-in-Err-clause-done c =
    subst (λ a. ChangesProcess c.args.p Commit c.args.process c.args.machine.now a (with_memory c.args.machine.now c.commit.new.mem)) (sym c.not_speculated.ensures.answer)
    (not_committed c.args.p c.args.process c.args.machine.now c.commit.new.mem c.requires.there c.in-Err.error
    (subst (λ (m : TranslatedView). Commits m c.commit.new.mem c.args.p (Err c.in-Err.error)) c.memory_mut.ensures.value c.in-Err.ensures.commits))
