use Rattle.std.proofs.Common.{get_or, sym, ap, ◌∙◌, arith}
use Rattle.overlay_memory.specs.Epochs.{Seen, known_at, known_pages, nothing_known}
use Rattle.overlay_memory.proofs.Forgetting.{page_known, same_known}
use Rattle.overlay_memory.proofs.epochs.SeenPages.page.Goals as goal

pub returns : goal.returns
returns c =
    let s = c.args.space in
    let p = c.args.page in
    let places = c.self.inside.places.items in
    let epoch = c.self.inside.epoch in
    let known = c.index-known.result.now in
    let inside = c.place_of.ensures.inside in
    same_known c.args.self.now known.page s p c.if_same.result
    (sym
    (sym (page_known epoch places c.place_of.result known (omega (arith, inside, c.self.invariant.count)) (sym c.index-known.ensures) c.if-known-self.false)
    ∙ ap (λ n. get_or (known_pages epoch places) n nothing_known) c.place_of.ensures.place
    ∙ ap (λ (l : Seen). known_at l s p) c.self.view_is))
    c.if_same.ensures
