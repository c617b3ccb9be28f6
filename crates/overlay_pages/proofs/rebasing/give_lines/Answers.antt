use Rattle.overlay_pages.proofs.Common.{◌^◌, length, None, arith, ap, subst, sym, ◌∙◌}
use Rattle.std.proofs.lemmas.List.{nil_from_length}
use Rattle.overlay_pages.proofs.Books.{altered_page, class}
use Rattle.overlay_pages.proofs.Views.{IsLaid, by_rank, given_page, state_of, view_of}
use Rattle.overlay_pages.proofs.GivenLines.{given_room, lines_given, none_given}
use Rattle.overlay_pages.proofs.Joining.{page_with}
use Rattle.overlay_pages.proofs.rebasing.give_lines.Goals as goal

pub returns-then-count-eq0-clause-state : goal.returns-then-count-eq0-clause-state
returns-then-count-eq0-clause-state c =
    let none = nil_from_length c.args.bits (sym c.len-count.ensures.count ∙ c.if-count-eq0.true) in
    none_given (view_of c.args.store.now c.args.ledger.now) c.args.space c.args.page (by_rank c.args.bits c.args.kept.now) (page_with c.args.ledger.now c.args.space c.args.page c.requires.there None c.requires.bare)
    ∙ ap (λ l. altered_page (given_page l (by_rank c.args.bits c.args.kept.now)) (state_of (view_of c.args.store.now c.args.ledger.now)) c.args.space c.args.page) (sym none)

pub begin_filled-block-requires-clause-room : goal.begin_filled-block-requires-clause-room
begin_filled-block-requires-clause-room c =
    given_room (view_of c.args.store.now c.args.ledger.now) (length c.args.bits) c.order_for-order.result c.requires.joined c.order_for-order.ensures.order
    (c.order_for-order.ensures.size ∙ ap class c.len-count.ensures.count) c.requires.fits

pub returns-clause-joined : goal.returns-clause-joined
returns-clause-joined c =
    (lines_given (view_of c.args.store.now c.args.ledger.now) c.begin_filled-block.new.store c.replace_overlay.new.self c.args.space c.args.page c.begin_filled-block.result c.args.bits (by_rank c.args.bits c.args.kept.now)
    c.requires.joined (page_with c.args.ledger.now c.args.space c.args.page c.requires.there None c.requires.bare) (omega (arith, c.if-count-eq0.false, c.len-count.ensures.count))
    (ap (λ k. 2 ^ k) c.begin_filled-block.ensures.order ∙ c.order_for-order.ensures.size ∙ ap class c.len-count.ensures.count)
    (subst (λ o. IsLaid c.args.store.now c.begin_filled-block.new.store o c.begin_filled-block.result c.args.bits (by_rank c.args.bits c.args.kept.now)) c.of.ensures.name
    c.begin_filled-block.ensures.laid) c.replace_overlay.ensures).0

pub returns-clause-state : goal.returns-clause-state
returns-clause-state c =
    (lines_given (view_of c.args.store.now c.args.ledger.now) c.begin_filled-block.new.store c.replace_overlay.new.self c.args.space c.args.page c.begin_filled-block.result c.args.bits (by_rank c.args.bits c.args.kept.now)
    c.requires.joined (page_with c.args.ledger.now c.args.space c.args.page c.requires.there None c.requires.bare) (omega (arith, c.if-count-eq0.false, c.len-count.ensures.count))
    (ap (λ k. 2 ^ k) c.begin_filled-block.ensures.order ∙ c.order_for-order.ensures.size ∙ ap class c.len-count.ensures.count)
    (subst (λ o. IsLaid c.args.store.now c.begin_filled-block.new.store o c.begin_filled-block.result c.args.bits (by_rank c.args.bits c.args.kept.now)) c.of.ensures.name
    c.begin_filled-block.ensures.laid) c.replace_overlay.ensures).1
