use Rattle.std.proofs.Common.{◌≡◌, ap, subst, ◌∙◌}
use Rattle.std.specs.Prelude.{Ok, Err}
use Rattle.overlay_memory.specs.View.{TranslatedView, translations_of}
use Rattle.fork_checkpoint.specs.Copied.{Copies}
use Rattle.translation_cache.specs.Translations.{flushed}
use Rattle.command_core.proofs.Copies.{copies_not, forks_made}
use Rattle.command_core.proofs.forking.fork_process.Goals as goal

pub returns-in-Ok : goal.returns-in-Ok
returns-in-Ok c =
    forks_made c.args.p c.args.q c.args.machine.now c.adopt_or_drop.new.machine c.fork_space.new.mem c.args.process c.adopt_or_drop.result
    (subst (λ (m : TranslatedView). Copies m c.fork_space.new.mem c.args.p c.args.q (Ok tt)) c.memory_mut.ensures.value c.in-Ok.ensures.copies)
    (c.in-Ok.ensures.translations ∙ ap translations_of c.memory_mut.ensures.value)
    (subst (λ (m : TranslatedView). flushed c.args.q (translations_of m) ≡ translations_of m) c.memory_mut.ensures.value c.in-Ok.ensures.unseen)
    c.requires.unmarked c.requires.no_space c.adopt_or_drop.ensures

pub returns-in-Err : goal.returns-in-Err
returns-in-Err c =
    copies_not c.args.p c.args.q c.args.machine.now c.fork_space.new.mem c.in-Err.error
    (subst (λ (m : TranslatedView). Copies m c.fork_space.new.mem c.args.p c.args.q (Err c.in-Err.error)) c.memory_mut.ensures.value c.in-Err.ensures.copies)
    (c.in-Err.ensures.translations ∙ ap translations_of c.memory_mut.ensures.value)
