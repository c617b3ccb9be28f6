use Rattle.std.proofs.Common.{refl, sym, ap, ◌∙◌}
use Rattle.overlay_memory.specs.View.{state_of, translations_of}
use Rattle.delta_spaces.proofs.Begun.{has_room, is_least, is_like, sharing_as, sharing_at, sharing_end, sharing_more, sharing_next, sharing_none, sharing_past}
use Rattle.delta_spaces.proofs.filling.share_pages.Goals as goal
use Rattle.delta_spaces.proofs.filling.share_pages.Goals.{then-has_page, else-has_page}

pub sharing-init : goal.sharing-init
sharing-init c = record { so = sharing_none (state_of c.args.mem.now) c.args.base c.args.to c.args.pages.now c.requires.ready; lists = refl }

pub share_page-requires-clause-least : goal.share_page-requires-clause-least
share_page-requires-clause-least c =
    let so = sharing_at (state_of c.args.mem.now) (state_of c.sharing.mem) c.args.base c.args.to c.args.pages.now c.sharing.page-index c.page-item.result c.page-item.result
    c.sharing-test.true c.page-item.is c.sharing.invariant.so in
    is_least (state_of c.args.mem.now) (state_of c.sharing.mem) c.args.base c.args.to c.args.pages.now _ _ c.page-item.result c.requires.ready so (sym c.has_page.ensures.there ∙ c.if-has_page.true)

pub share_page-requires-clause-frame : goal.share_page-requires-clause-frame
share_page-requires-clause-frame c =
    let so = sharing_at (state_of c.args.mem.now) (state_of c.sharing.mem) c.args.base c.args.to c.args.pages.now c.sharing.page-index c.page-item.result c.page-item.result
    c.sharing-test.true c.page-item.is c.sharing.invariant.so in
    is_like (state_of c.args.mem.now) (state_of c.sharing.mem) c.args.base c.args.to c.args.pages.now _ _ c.page-item.result c.requires.ready so (sym c.has_page.ensures.there ∙ c.if-has_page.true)

pub share_page-requires-clause-room : goal.share_page-requires-clause-room
share_page-requires-clause-room c =
    let so = sharing_at (state_of c.args.mem.now) (state_of c.sharing.mem) c.args.base c.args.to c.args.pages.now c.sharing.page-index c.page-item.result c.page-item.result
    c.sharing-test.true c.page-item.is c.sharing.invariant.so in
    has_room (state_of c.args.mem.now) (state_of c.sharing.mem) c.args.base c.args.to c.args.pages.now _ _ c.page-item.result c.requires.ready so (sym c.has_page.ensures.there ∙ c.if-has_page.true)

pub returns-clause-begun : goal.returns-clause-begun
returns-clause-begun c =
    (sharing_end (state_of c.args.mem.now) (state_of c.sharing.mem) c.args.base c.args.to c.args.pages.now c.sharing.page-index c.sharing-test.false c.sharing.invariant.so).0

pub returns-clause-awaiting : goal.returns-clause-awaiting
returns-clause-awaiting c =
    (sharing_end (state_of c.args.mem.now) (state_of c.sharing.mem) c.args.base c.args.to c.args.pages.now c.sharing.page-index c.sharing-test.false c.sharing.invariant.so).1

pub sharing-preserved : goal.sharing-preserved
sharing-preserved c =
    let v = state_of c.args.mem.now in
    let so = sharing_at v (state_of c.sharing.mem) c.args.base c.args.to c.args.pages.now c.sharing.page-index c.page-item.result c.page-item.result
    c.sharing-test.true c.page-item.is c.sharing.invariant.so in
    elim c.if-has_page.branch [
      | then-has_page w ↦ record {
        so = sharing_next v (state_of c.if-has_page.mem) c.args.base c.args.to c.args.pages.now c.sharing.page-index c.page-item.result c.page-item.result c.sharing-test.true c.page-item.is
            (sharing_more v (state_of c.sharing.mem) c.args.base c.args.to c.args.pages.now _ _ c.page-item.result c.requires.ready so (sym c.has_page.ensures.there ∙ w.if-has_page.true)
            (state_of c.if-has_page.mem) (ap state_of w.mem-is ∙ w.share_page.ensures.state));
        lists = ap translations_of w.mem-is ∙ w.share_page.ensures.translations ∙ c.sharing.invariant.lists;
      }
      | else-has_page w ↦ record {
        so = sharing_next v (state_of c.if-has_page.mem) c.args.base c.args.to c.args.pages.now c.sharing.page-index c.page-item.result c.page-item.result c.sharing-test.true c.page-item.is
            (sharing_as v (state_of c.sharing.mem) (state_of c.if-has_page.mem) c.args.base c.args.to c.args.pages.now _ _ (ap state_of w.mem-is)
            (sharing_past v (state_of c.sharing.mem) c.args.base c.args.to c.args.pages.now _ _ c.page-item.result c.requires.ready so (sym c.has_page.ensures.there ∙ w.if-has_page.false)));
        lists = ap translations_of w.mem-is ∙ c.sharing.invariant.lists;
      }
    ]
