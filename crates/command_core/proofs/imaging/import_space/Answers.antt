use Rattle.std.proofs.Common.{◌≡◌, ap, subst, ◌∙◌}
use Rattle.std.specs.Prelude.{Ok, Err}
use Rattle.overlay_memory.specs.View.{TranslatedView, translations_of}
use Rattle.delta_spaces.specs.Built.{Builds}
use Rattle.translation_cache.specs.Translations.{flushed}
use Rattle.command_core.proofs.Importing.{imports_made, imports_not}
use Rattle.command_core.proofs.imaging.import_space.Goals as goal

pub returns-in-Ok-clause-imports : goal.returns-in-Ok-clause-imports
returns-in-Ok-clause-imports c =
    imports_made c.args.base c.args.q c.args.delta.now c.args.machine.now c.enter_or_drop.new.machine c.build.new.mem c.enter_or_drop.result
    (subst (λ (m : TranslatedView). Builds m c.build.new.mem c.args.base c.args.q c.args.delta.now (Ok tt)) c.memory_mut.ensures.value c.in-Ok.ensures.builds)
    (c.in-Ok.ensures.translations ∙ ap translations_of c.memory_mut.ensures.value)
    (subst (λ (m : TranslatedView). flushed c.args.q (translations_of m) ≡ translations_of m) c.memory_mut.ensures.value c.in-Ok.ensures.unseen)
    c.requires.no_space c.requires.no_process c.enter_or_drop.ensures.enters

pub returns-in-Err-clause-imports : goal.returns-in-Err-clause-imports
returns-in-Err-clause-imports c =
    imports_not c.args.base c.args.q c.args.delta.now c.args.machine.now c.build.new.mem c.in-Err.error
    (subst (λ (m : TranslatedView). Builds m c.build.new.mem c.args.base c.args.q c.args.delta.now (Err c.in-Err.error)) c.memory_mut.ensures.value c.in-Err.ensures.builds)
    (c.in-Err.ensures.translations ∙ ap translations_of c.memory_mut.ensures.value)
