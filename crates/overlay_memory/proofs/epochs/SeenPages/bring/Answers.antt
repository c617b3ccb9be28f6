use Rattle.std.proofs.Common.{◌<◌, get_or, sym, subst, arith}
use Rattle.overlay_memory.specs.Epochs.{Seen, known_at, known_pages, nothing_known, nothing_put}
use Rattle.overlay_memory.proofs.Forgetting.{kept_front, known_now}
use Rattle.overlay_memory.proofs.epochs.SeenPages.bring.Goals as goal
use Rattle.overlay_pages.specs.declared.spots.TheConstants.{NO_PAGE}

pub invariant_of-self : goal.invariant_of-self
invariant_of-self c =
    let epoch = c.self.inside.epoch in
    let places = c.self.inside.places.items in
    let inside = c.place_of.ensures.inside in
    kept_front epoch places c.self.inside.heads c.set_of.result c.place_of.result c.self.invariant c.set_of.ensures.inside inside
    (known_now epoch places c.place_of.result nothing_put (omega (arith, inside, c.self.invariant.count))
    (subst (λ n. (get_or (known_pages epoch places) n nothing_known).found.page < NO_PAGE) (sym c.place_of.ensures.place)
    (subst (λ (s : Seen). (known_at s c.args.space c.args.page).found.page < NO_PAGE) (sym c.self.view_is) c.requires)))
