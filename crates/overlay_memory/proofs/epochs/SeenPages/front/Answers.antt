use Rattle.std.proofs.Common.{◌≡◌, length, get_or, refl, ap, sym, ◌∙◌, arith, rules}
use Rattle.std.specs.Vec.{vec_len}
use Rattle.overlay_memory.specs.Epochs.{Seen, known_first, known_pages, nothing_known}
use Rattle.overlay_memory.specs.declared.epochs.TheConstants.{SEEN_PAGES}
use Rattle.overlay_memory.proofs.Forgetting.{head_inside, head_known, same_front, same_inside}
use Rattle.overlay_memory.proofs.epochs.SeenPages.front.Goals as goal

pub index-requires : goal.index-requires
index-requires c =
    let count : vec_len c.self.inside.places ≡ length c.self.inside.places.items = search rules in
    let inside = head_inside c.self.inside.epoch c.self.inside.places.items c.self.inside.heads c.set_of.result _ c.self.invariant c.set_of.ensures.inside refl in
    omega (arith, count, inside)

pub returns : goal.returns
returns c =
    let p = c.args.page in
    let places = c.self.inside.places.items in
    let heads = c.self.inside.heads in
    let epoch = c.self.inside.epoch in
    let known = c.index.result.now in
    let set = c.set_of.ensures.inside in
    same_front c.args.self.now known.page c.args.space p c.if_same.result
    (sym (ap (λ (l : Seen). known_first l p) c.self.view_is)
    ∙ ap (λ n. get_or (known_pages epoch places) (get_or heads n SEEN_PAGES) nothing_known) (sym c.set_of.ensures.set)
    ∙ ap (λ n. get_or (known_pages epoch places) n nothing_known) (same_inside heads c.set_of.result SEEN_PAGES 0 (omega (arith, set, c.self.invariant.count_heads)))
    ∙ head_known epoch places heads c.set_of.result _ known c.self.invariant set refl c.index.ensures)
    c.if_same.ensures
