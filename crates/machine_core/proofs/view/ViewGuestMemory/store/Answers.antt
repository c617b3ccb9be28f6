use Rattle.std.proofs.Common.{refl, ap, ◌∙◌}
use Rattle.machine_core.specs.InHand.{without_page}
use Rattle.machine_core.proofs.Viewing.{stored_front}
use Rattle.machine_core.proofs.view.ViewGuestMemory.store.Goals as goal

pub returns-then-store_front-clause-made : goal.returns-then-store_front-clause-made
returns-then-store_front-clause-made c =
    let view = c.args.self.now in
    let fits = c.is_aligned.ensures c.if-is_aligned.true in
    let done = c.if-store_front.true in
    stored_front view _ refl refl c.args.address c.args.bytes.now fits.0 fits.1 (c.store_front.ensures.front done)
    (c.lose_page.ensures ∙ ap (λ page. without_page page view.hand) c.page_of.ensures) (c.store_front.ensures.stores done) c.units.ensures.fits (c.store_front.ensures.translations done)
