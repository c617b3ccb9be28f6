use Rattle.std.proofs.Common.{◌/◌, false, true, ap, sym, subst, ◌∙◌, refl}
use Rattle.std.specs.Prelude.{Ok, Err}
use Rattle.sizes.specs.declared.TheConstants.{PAGE_BYTES}
use Rattle.overlay_memory.specs.View.{TranslatedView, state_of, translations_of}
use Rattle.page_dedup.specs.Deduplicated.{Deduplicates}
use Rattle.space_maps.specs.Spaces.{space_in}
use Rattle.translation_cache.specs.Translations.{flushed}
use Rattle.machine_core.specs.Machine.{with_memory}
use Rattle.command_core.specs.Deduplication.{MachineComesTo, dedup_row}
use Rattle.command_core.proofs.Deduplicating.{is_pair, lacks_other, lacks_page, not_put, page_told, pair_refused, was_put}
use Rattle.command_core.proofs.dedup.dedup_page.Goals as goal

pub returns-in-Some-clause-done : goal.returns-in-Some-clause-done
returns-in-Some-clause-done c =
    pair_refused c.args.machine.now c.args.p c.args.q c.in-Some.code (sym c.in-Some.ensures.first) c.args.address c.args.other

pub returns-then-not-has_page-clause-done : goal.returns-then-not-has_page-clause-done
returns-then-not-has_page-clause-done c =
    let old = c.args.machine.now in
    lacks_page old old.memory c.args.p c.args.q (is_pair old c.args.p c.args.q (sym c.in-None.ensures.first)) c.args.address c.args.other refl
    (page_told old c.args.p c.memory.result.now c.has_page.result false c.memory.ensures (c.args.address / PAGE_BYTES) c.has_page.ensures.there c.if-not-has_page.true)

pub returns-then-not-has_page-2-clause-done : goal.returns-then-not-has_page-2-clause-done
returns-then-not-has_page-2-clause-done c =
    let old = c.args.machine.now in
    lacks_other old old.memory c.args.p c.args.q (is_pair old c.args.p c.args.q (sym c.in-None.ensures.first)) c.args.address c.args.other refl
    (page_told old c.args.p c.memory.result.now c.has_page.result true c.memory.ensures (c.args.address / PAGE_BYTES) c.has_page.ensures.there c.if-not-has_page.false)
    (page_told old c.args.q c.memory-2.result.now c.has_page-2.result false c.memory-2.ensures (c.args.other / PAGE_BYTES) c.has_page-2.ensures.there c.if-not-has_page-2.true)

pub deduplicate-requires-clause-settled : goal.deduplicate-requires-clause-settled
deduplicate-requires-clause-settled c =
    ap (λ (m : TranslatedView). (space_in (state_of m) c.args.p).speculating) c.memory_mut.ensures.value
    ∙ (is_pair c.args.machine.now c.args.p c.args.q (sym c.in-None.ensures.first)).unmarked

pub deduplicate-requires-clause-settled_from : goal.deduplicate-requires-clause-settled_from
deduplicate-requires-clause-settled_from c =
    ap (λ (m : TranslatedView). (space_in (state_of m) c.args.q).speculating) c.memory_mut.ensures.value
    ∙ (is_pair c.args.machine.now c.args.p c.args.q (sym c.in-None.ensures.first)).unmarked_too

pub returns-in-Ok-clause-done : goal.returns-in-Ok-clause-done
returns-in-Ok-clause-done c =
    let old = c.args.machine.now in
    was_put old c.deduplicate.new.mem c.args.p c.args.q (is_pair old c.args.p c.args.q (sym c.in-None.ensures.first)) c.args.address c.args.other
    (page_told old c.args.p c.memory.result.now c.has_page.result true c.memory.ensures (c.args.address / PAGE_BYTES) c.has_page.ensures.there c.if-not-has_page.false)
    (page_told old c.args.q c.memory-2.result.now c.has_page-2.result true c.memory-2.ensures (c.args.other / PAGE_BYTES) c.has_page-2.ensures.there c.if-not-has_page-2.false)
    (subst (λ (m : TranslatedView). Deduplicates m c.deduplicate.new.mem c.args.p (c.args.address / PAGE_BYTES) c.args.q (c.args.other / PAGE_BYTES) (Ok tt))
    c.memory_mut.ensures.value c.in-Ok.ensures.deduplicates)
    (c.in-Ok.ensures.translations ∙ ap (λ (m : TranslatedView). flushed c.args.p (translations_of m)) c.memory_mut.ensures.value)

pub returns-in-Err-clause-done : goal.returns-in-Err-clause-done
returns-in-Err-clause-done c =
    let old = c.args.machine.now in
    subst (λ a. MachineComesTo (dedup_row c.args.p c.args.address c.args.q c.args.other) c.args.machine.now a (with_memory c.args.machine.now c.deduplicate.new.mem))
    (sym c.not_shared.ensures.answer)
    (not_put old c.deduplicate.new.mem c.args.p c.args.q (is_pair old c.args.p c.args.q (sym c.in-None.ensures.first)) c.args.address c.args.other
    (page_told old c.args.p c.memory.result.now c.has_page.result true c.memory.ensures (c.args.address / PAGE_BYTES) c.has_page.ensures.there c.if-not-has_page.false)
    (page_told old c.args.q c.memory-2.result.now c.has_page-2.result true c.memory-2.ensures (c.args.other / PAGE_BYTES) c.has_page-2.ensures.there c.if-not-has_page-2.false)
    c.in-Err.error
    (subst (λ (m : TranslatedView). Deduplicates m c.deduplicate.new.mem c.args.p (c.args.address / PAGE_BYTES) c.args.q (c.args.other / PAGE_BYTES) (Err c.in-Err.error))
    c.memory_mut.ensures.value c.in-Err.ensures.deduplicates))
