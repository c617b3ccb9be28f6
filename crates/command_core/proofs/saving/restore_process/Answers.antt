use Rattle.std.proofs.Common.{ap, subst, ◌∙◌}
use Rattle.std.specs.Prelude.{Ok, Err}
use Rattle.overlay_memory.specs.View.{TranslatedView, translations_of}
use Rattle.fork_checkpoint.specs.Copied.{Copies}
use Rattle.translation_cache.specs.Translations.{flushed}
use Rattle.command_core.proofs.Copies.{copies_not, restores_made}
use Rattle.command_core.proofs.saving.restore_process.Goals as goal

pub returns-in-Ok : goal.returns-in-Ok
returns-in-Ok c =
    restores_made c.args.q c.args.p c.args.machine.now c.set_process.new.self c.restore_space.new.mem c.args.process
    (subst (λ (m : TranslatedView). Copies m c.restore_space.new.mem c.args.q c.args.p (Ok tt)) c.memory_mut.ensures.value c.in-Ok.ensures.copies)
    (c.in-Ok.ensures.translations ∙ ap (λ (m : TranslatedView). flushed c.args.p (translations_of m)) c.memory_mut.ensures.value)
    c.requires.unmarked c.set_process.ensures

pub returns-in-Err : goal.returns-in-Err
returns-in-Err c =
    copies_not c.args.q c.args.p c.args.machine.now c.restore_space.new.mem c.in-Err.unmade
    (subst (λ (m : TranslatedView). Copies m c.restore_space.new.mem c.args.q c.args.p (Err c.in-Err.unmade)) c.memory_mut.ensures.value c.in-Err.ensures.copies)
    (c.in-Err.ensures.kept ∙ ap translations_of c.memory_mut.ensures.value)
