use Rattle.std.proofs.Common.{◌/◌, ap, subst, ◌∙◌, Some, None}
use Rattle.sizes.specs.declared.TheConstants.{PAGE_BYTES}
use Rattle.overlay_memory.specs.View.{TranslatedView, state_of, translations_of}
use Rattle.space_maps.specs.Spaces.{cut_pages}
use Rattle.translation_cache.specs.Translations.{flushed}
use Rattle.command_core.specs.Mapping.{RefusesUnmap}
use Rattle.command_core.proofs.Pages.{unmap_refused, unmapped}
use Rattle.command_core.proofs.mapping.unmap_pages.Goals as goal

pub returns-in-Some-clause-done : goal.returns-in-Some-clause-done
returns-in-Some-clause-done c =
    unmap_refused c.args.p c.args.process c.args.machine.now c.args.machine.now.memory c.requires.there c.args.address c.args.n c.in-Some.code
    (subst (λ (m : TranslatedView). RefusesUnmap (state_of m) c.args.p c.args.address c.args.n (Some c.in-Some.code)) c.memory.ensures c.in-Some.ensures)

pub returns-clause-done : goal.returns-clause-done
returns-clause-done c =
    unmapped c.args.p c.args.process c.args.machine.now c.unmap.new.self c.requires.there c.args.address c.args.n c.requires.space
    (subst (λ (m : TranslatedView). RefusesUnmap (state_of m) c.args.p c.args.address c.args.n None) c.memory.ensures c.in-None.ensures)
    (c.unmap.ensures.state ∙ ap (λ (m : TranslatedView). cut_pages (state_of m) c.args.p (c.args.address / PAGE_BYTES) c.args.n) c.memory_mut.ensures.value)
    (c.unmap.ensures.translations ∙ ap (λ (m : TranslatedView). flushed c.args.p (translations_of m)) c.memory_mut.ensures.value)
