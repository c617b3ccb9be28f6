use Rattle.std.proofs.Common.{subst, sym, ap, ◌∙◌}
use Rattle.std.specs.Prelude.{Ok, Err}
use Rattle.overlay_memory.specs.View.{TranslatedView, translations_of}
use Rattle.promotion.specs.Promoted.{PromotesAll}
use Rattle.machine_core.specs.Machine.{with_memory}
use Rattle.translation_cache.specs.Translations.{flushed}
use Rattle.command_core.specs.declared.process_changes.ProcessChange.TheVariants.{PromoteAll}
use Rattle.command_core.specs.ProcessChanges.{ChangesProcess}
use Rattle.command_core.proofs.Speculating.{all_promoted, none_promoted}
use Rattle.command_core.proofs.process_changes.promote_pages.Goals as goal

pub returns-in-Ok-clause-done : goal.returns-in-Ok-clause-done
returns-in-Ok-clause-done c =
    all_promoted c.args.p c.args.process c.args.machine.now c.promote_all.new.mem c.requires.there
    (subst (λ (m : TranslatedView). PromotesAll m c.promote_all.new.mem c.args.p (Ok tt)) c.memory_mut.ensures.value c.in-Ok.ensures.promotes)
    (c.in-Ok.ensures.translations ∙ ap (λ (m : TranslatedView). flushed c.args.p (translations_of m)) c.memory_mut.ensures.value)

pub returns-in-Err-clause-done : goal.returns-in-Err-clause-done
returns-in-Err-clause-done c =
    subst (λ a. ChangesProcess c.args.p PromoteAll c.args.process c.args.machine.now a (with_memory c.args.machine.now c.promote_all.new.mem)) (sym c.not_promoted.ensures.answer)
    (none_promoted c.args.p c.args.process c.args.machine.now c.promote_all.new.mem c.requires.there c.in-Err.error 0
    (subst (λ (m : TranslatedView). PromotesAll m c.promote_all.new.mem c.args.p (Err c.in-Err.error)) c.memory_mut.ensures.value c.in-Err.ensures.promotes))
