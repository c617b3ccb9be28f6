use Rattle.std.proofs.Common.{ap, sym, subst, ◌∙◌}
use Rattle.overlay_memory.specs.View.{TranslatedView, state_of, translations_of}
use Rattle.page_dedup.specs.Deduplicated.{HasShared}
use Rattle.space_maps.specs.Spaces.{holds_space, space_in}
use Rattle.std.specs.Option.{is_some}
use Rattle.translation_cache.specs.Translations.{flushed}
use Rattle.command_core.proofs.Deduplicating.{is_pair, pair_refused_all, were_put}
use Rattle.command_core.proofs.dedup.dedup_pages.Goals as goal

pub returns-in-Some-clause-done : goal.returns-in-Some-clause-done
returns-in-Some-clause-done c = pair_refused_all c.args.machine.now c.args.p c.args.q c.in-Some.code (sym c.in-Some.ensures.first)

pub deduplicate_all-requires-clause-there : goal.deduplicate_all-requires-clause-there
deduplicate_all-requires-clause-there c =
    ap (λ (m : TranslatedView). holds_space (state_of m) c.args.p) c.memory_mut.ensures.value
    ∙ c.requires.own c.args.p (ap is_some (is_pair c.args.machine.now c.args.p c.args.q (sym c.in-None.ensures.first)).there)

pub deduplicate_all-requires-clause-theirs : goal.deduplicate_all-requires-clause-theirs
deduplicate_all-requires-clause-theirs c =
    ap (λ (m : TranslatedView). holds_space (state_of m) c.args.q) c.memory_mut.ensures.value
    ∙ c.requires.own c.args.q (ap is_some (is_pair c.args.machine.now c.args.p c.args.q (sym c.in-None.ensures.first)).there_too)

pub deduplicate_all-requires-clause-settled : goal.deduplicate_all-requires-clause-settled
deduplicate_all-requires-clause-settled c =
    ap (λ (m : TranslatedView). (space_in (state_of m) c.args.p).speculating) c.memory_mut.ensures.value
    ∙ (is_pair c.args.machine.now c.args.p c.args.q (sym c.in-None.ensures.first)).unmarked

pub deduplicate_all-requires-clause-settled_from : goal.deduplicate_all-requires-clause-settled_from
deduplicate_all-requires-clause-settled_from c =
    ap (λ (m : TranslatedView). (space_in (state_of m) c.args.q).speculating) c.memory_mut.ensures.value
    ∙ (is_pair c.args.machine.now c.args.p c.args.q (sym c.in-None.ensures.first)).unmarked_too

pub returns-clause-done : goal.returns-clause-done
returns-clause-done c =
    let old = c.args.machine.now in
    were_put old c.deduplicate_all.new.mem c.args.p c.args.q (is_pair old c.args.p c.args.q (sym c.in-None.ensures.first)) c.deduplicate_all.result
    (subst (λ (m : TranslatedView). HasShared (state_of m) (state_of c.deduplicate_all.new.mem) c.args.p c.args.q c.deduplicate_all.result) c.memory_mut.ensures.value c.deduplicate_all.ensures.shared)
    (c.deduplicate_all.ensures.translations ∙ ap (λ (m : TranslatedView). flushed c.args.p (translations_of m)) c.memory_mut.ensures.value)
