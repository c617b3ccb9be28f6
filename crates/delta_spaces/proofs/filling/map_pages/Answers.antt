use Rattle.std.proofs.Common.{sym, ap, ◌∙◌}
use Rattle.overlay_memory.specs.View.{state_of, translations_of}
use Rattle.translation_cache.specs.Translations.{flushed}
use Rattle.delta_spaces.proofs.Mapped.{few_pages, is_absent, low_page, mapping_as, mapping_at, mapping_end, mapping_more, mapping_next, mapping_past}
use Rattle.delta_spaces.proofs.Put.{none_held}
use Rattle.delta_spaces.proofs.filling.map_pages.Goals as goal
use Rattle.delta_spaces.proofs.filling.map_pages.Goals.{then-not-has_page+in_ok-map_zero, else-not-has_page}

pub map_zero-requires-clause-absent : goal.map_zero-requires-clause-absent
map_zero-requires-clause-absent c =
    let r = c.requires.ready in
    let so = mapping_at r.before (state_of c.mapping.mem) c.args.base c.args.to c.args.pages.now c.mapping.page-index c.page-item.result c.page-item.result
    c.mapping-test.true c.page-item.is (c.mapping.invariant.so r) in
    is_absent r.before (state_of c.mapping.mem) c.args.base c.args.to c.args.pages.now _ _ c.page-item.result r.differ (none_held r.before c.args.to r.bare) r.ascend so
    (sym c.has_page.ensures.there ∙ c.if-not-has_page.true)

pub map_zero-requires-clause-low : goal.map_zero-requires-clause-low
map_zero-requires-clause-low c =
    let r = c.requires.ready in
    let so = mapping_at r.before (state_of c.mapping.mem) c.args.base c.args.to c.args.pages.now c.mapping.page-index c.page-item.result c.page-item.result
    c.mapping-test.true c.page-item.is (c.mapping.invariant.so r) in
    low_page r.before (state_of c.mapping.mem) c.args.base c.args.to c.args.pages.now _ _ c.page-item.result r.differ (none_held r.before c.args.to r.bare) r.ascend so
    (sym c.has_page.ensures.there ∙ c.if-not-has_page.true)

pub map_zero-requires-clause-few : goal.map_zero-requires-clause-few
map_zero-requires-clause-few c =
    let r = c.requires.ready in
    let so = mapping_at r.before (state_of c.mapping.mem) c.args.base c.args.to c.args.pages.now c.mapping.page-index c.page-item.result c.page-item.result
    c.mapping-test.true c.page-item.is (c.mapping.invariant.so r) in
    few_pages r.before (state_of c.mapping.mem) c.args.base c.args.to c.args.pages.now _ _ c.page-item.result r.differ (none_held r.before c.args.to r.bare) r.ascend so
    (sym c.has_page.ensures.there ∙ c.if-not-has_page.true) r.few

pub mapping-preserved : goal.mapping-preserved
mapping-preserved c = elim c.if-not-has_page.branch [
  | then-not-has_page+in_ok-map_zero w ↦ record {
    so = λ r.
        let so = mapping_at r.before (state_of c.mapping.mem) c.args.base c.args.to c.args.pages.now c.mapping.page-index c.page-item.result c.page-item.result
        c.mapping-test.true c.page-item.is (c.mapping.invariant.so r) in
        mapping_next r.before (state_of c.if-not-has_page.mem) c.args.base c.args.to c.args.pages.now c.mapping.page-index c.page-item.result c.page-item.result
        c.mapping-test.true c.page-item.is
        (mapping_more r.before (state_of c.mapping.mem) c.args.base c.args.to c.args.pages.now _ _ c.page-item.result r.differ (none_held r.before c.args.to r.bare) r.ascend so
        (sym c.has_page.ensures.there ∙ w.if-not-has_page.true) (state_of c.if-not-has_page.mem) (ap state_of w.mem-is ∙ w.in_ok-map_zero.ensures.mapped));
    lists = ap translations_of w.mem-is ∙ w.in_ok-map_zero.ensures.translations ∙ ap (flushed c.args.to) c.mapping.invariant.lists ∙ c.requires.unseen;
  }
  | else-not-has_page w ↦ record {
    so = λ r.
        let so = mapping_at r.before (state_of c.mapping.mem) c.args.base c.args.to c.args.pages.now c.mapping.page-index c.page-item.result c.page-item.result
        c.mapping-test.true c.page-item.is (c.mapping.invariant.so r) in
        mapping_next r.before (state_of c.if-not-has_page.mem) c.args.base c.args.to c.args.pages.now c.mapping.page-index c.page-item.result c.page-item.result
        c.mapping-test.true c.page-item.is
        (mapping_as r.before (state_of c.mapping.mem) (state_of c.if-not-has_page.mem) c.args.base c.args.to c.args.pages.now _ _ (ap state_of w.mem-is)
        (mapping_past r.before (state_of c.mapping.mem) c.args.base c.args.to c.args.pages.now _ _ c.page-item.result r.differ (none_held r.before c.args.to r.bare) r.ascend so
        (sym c.has_page.ensures.there ∙ w.if-not-has_page.false)));
    lists = ap translations_of w.mem-is ∙ c.mapping.invariant.lists;
  }
]

pub returns-clause-begun : goal.returns-clause-begun
returns-clause-begun c = λ r.
    mapping_end r.before (state_of c.mapping.mem) c.args.base c.args.to c.args.pages.now c.mapping.page-index c.mapping-test.false (c.mapping.invariant.so r)
