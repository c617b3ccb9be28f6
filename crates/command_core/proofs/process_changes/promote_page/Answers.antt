use Rattle.std.proofs.Common.{◌/◌, subst, sym, ap, ◌∙◌}
use Rattle.std.specs.Prelude.{Ok, Err}
use Rattle.sizes.specs.declared.TheConstants.{PAGE_BYTES}
use Rattle.overlay_memory.specs.View.{TranslatedView, translations_of}
use Rattle.promotion.specs.Promoted.{Promotes}
use Rattle.machine_core.specs.Machine.{with_memory}
use Rattle.translation_cache.specs.Translations.{flushed}
use Rattle.command_core.specs.declared.process_changes.ProcessChange.TheVariants.{Promote}
use Rattle.command_core.specs.ProcessChanges.{ChangesProcess}
use Rattle.command_core.proofs.Speculating.{not_promoted, page_promoted}
use Rattle.command_core.proofs.process_changes.promote_page.Goals as goal

pub returns-in-Ok-clause-done : goal.returns-in-Ok-clause-done
returns-in-Ok-clause-done c =
    page_promoted c.args.p c.args.process c.args.machine.now c.promote.new.mem c.requires.there c.args.address
    (subst (λ (m : TranslatedView). Promotes m c.promote.new.mem c.args.p (c.args.address / PAGE_BYTES) (Ok tt)) c.memory_mut.ensures.value c.in-Ok.ensures.promotes)
    (c.in-Ok.ensures.translations ∙ ap (λ (m : TranslatedView). flushed c.args.p (translations_of m)) c.memory_mut.ensures.value)

pub returns-in-Err-clause-done : goal.returns-in-Err-clause-done
returns-in-Err-clause-done c =
    subst (λ a. ChangesProcess c.args.p (Promote c.args.address) c.args.process c.args.machine.now a (with_memory c.args.machine.now c.promote.new.mem)) (sym c.not_promoted.ensures.answer)
    (not_promoted c.args.p c.args.process c.args.machine.now c.promote.new.mem c.requires.there c.args.address c.in-Err.error
    (subst (λ (m : TranslatedView). Promotes m c.promote.new.mem c.args.p (c.args.address / PAGE_BYTES) (Err c.in-Err.error)) c.memory_mut.ensures.value c.in-Err.ensures.promotes))
