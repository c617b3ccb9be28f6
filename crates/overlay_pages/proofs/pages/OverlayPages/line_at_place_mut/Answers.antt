use Rattle.overlay_pages.proofs.Common.{refl, sym, ap, subst, ◌∙◌}
use Rattle.overlay_pages.proofs.Stores.{line_of}
use Rattle.overlay_pages.proofs.Views.{IsJoined, IsPutPlace, MemoryView, view_of, with_line_at_place}
use Rattle.overlay_pages.proofs.Places.{keeps_places, place_held, place_value, place_written}
use Rattle.overlay_pages.proofs.pages.OverlayPages.line_at_place_mut.Goals as goal

pub line_mut-requires : goal.line_mut-requires
line_mut-requires c =
    let is = subst (λ (m : MemoryView). IsPutPlace m c.args.at) (sym c.self.view_is) c.requires.place in
    record { holds = place_held (view_of c.self.inside.store c.self.inside.ledger) c.args.at c.self.invariant is.is }

pub invariant_of-self-lent : goal.invariant_of-self-lent
invariant_of-self-lent c bytes =
    (place_written (view_of c.self.inside.store c.self.inside.ledger) c.args.at c.self.invariant (subst (λ (m : MemoryView). IsPutPlace m c.args.at) (sym c.self.view_is) c.requires.place) bytes).0

pub returns : goal.returns
returns c =
    let joined = subst IsJoined c.self.view_is c.self.invariant in (
      (refl, λ bytes. ap (λ (m : MemoryView). with_line_at_place m c.args.at bytes) c.self.view_is),
      record {
        writes_back = tt;
        value = λ is. place_value c.args.self.now c.args.at joined is.is _ (c.line_mut.ensures.value ∙ ap (λ (m : MemoryView). line_of m.store.lines c.args.at) c.self.view_is);
        state = λ is bytes. (place_written c.args.self.now c.args.at joined is bytes).1;
        places = keeps_places c.args.self.now joined c.args.at (place_held c.args.self.now c.args.at joined c.requires.place.is);
        joined = joined;
      },
    )
