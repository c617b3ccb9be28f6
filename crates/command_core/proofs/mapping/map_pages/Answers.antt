use Rattle.std.proofs.Common.{◌/◌, ap, subst, ◌∙◌, Some, None}
use Rattle.sizes.specs.declared.TheConstants.{PAGE_BYTES}
use Rattle.overlay_pages.specs.Changes.{with_zeros}
use Rattle.overlay_memory.specs.View.{TranslatedView, state_of, translations_of}
use Rattle.translation_cache.specs.Translations.{flushed}
use Rattle.command_core.specs.Mapping.{RefusesMap}
use Rattle.command_core.proofs.Pages.{map_refused, mapped}
use Rattle.command_core.proofs.mapping.map_pages.Goals as goal

pub returns-in-Some-clause-done : goal.returns-in-Some-clause-done
returns-in-Some-clause-done c =
    map_refused c.args.p c.args.process c.args.machine.now c.args.machine.now.memory c.requires.there c.args.address c.args.n c.args.perms c.in-Some.code
    (subst (λ (m : TranslatedView). RefusesMap (state_of m) c.args.p c.args.address c.args.n (Some c.in-Some.code)) c.memory.ensures c.in-Some.ensures)

pub returns-in-Ok-clause-done : goal.returns-in-Ok-clause-done
returns-in-Ok-clause-done c =
    mapped c.args.p c.args.process c.args.machine.now c.map_zero.new.self c.requires.there c.args.address c.args.n c.args.perms c.requires.space
    (subst (λ (m : TranslatedView). RefusesMap (state_of m) c.args.p c.args.address c.args.n None) c.memory.ensures c.in-None.ensures)
    (c.in-Ok.ensures.mapped
    ∙ ap (λ (m : TranslatedView). with_zeros (state_of m) c.args.p (c.args.address / PAGE_BYTES) c.args.n (record { perms = c.args.perms; frame = (state_of m).zero_frame })) c.memory_mut.ensures.value)
    (c.in-Ok.ensures.translations ∙ ap (λ (m : TranslatedView). flushed c.args.p (translations_of m)) c.memory_mut.ensures.value)
    c.requires.fine
