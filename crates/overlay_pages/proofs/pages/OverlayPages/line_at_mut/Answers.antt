use Rattle.overlay_pages.proofs.Common.{refl, subst}
use Rattle.overlay_pages.proofs.Views.{IsJoined, view_of}
use Rattle.overlay_pages.proofs.Lending.{lent_back, lent_value, outside_back, outside_joined, lent_joined, lent_outside, lent_frame}
use Rattle.overlay_pages.proofs.Places.{found_places}
use Rattle.overlay_pages.proofs.pages.OverlayPages.line_at_mut.Goals as goal

pub invariant_of-self-lent : goal.invariant_of-self-lent
invariant_of-self-lent c = lent_joined c.self.inside.store c.self.inside.ledger c.args.self.now c.args.found c.self.invariant c.self.view_is c.requires.found c.in-Segment.block c.in-Segment.is

pub frame_line_mut-requires-clause-frame : goal.frame_line_mut-requires-clause-frame
frame_line_mut-requires-clause-frame c = lent_frame c.self.inside.store c.self.inside.ledger c.args.self.now c.args.found c.self.invariant c.self.view_is c.requires.found c.in-Frame.frame c.in-Frame.is

pub invariant_of-self-lent-in-Frame : goal.invariant_of-self-lent-in-Frame
invariant_of-self-lent-in-Frame c = outside_joined c.self.inside.store c.self.inside.ledger c.args.self.now c.args.found c.self.invariant c.self.view_is c.requires.found c.in-Frame.frame c.in-Frame.is c.requires.writable

pub returns-in-Segment : goal.returns-in-Segment
returns-in-Segment c =
    let back = lent_back c.self.inside.store c.self.inside.ledger c.args.self.now c.args.found c.self.invariant c.self.view_is c.requires.found c.in-Segment.block c.in-Segment.is in (
      (refl, back.lent),
      record {
        writes_back = tt;
        value = lent_value c.self.inside.store c.self.inside.ledger c.args.self.now c.args.found c.self.invariant c.self.view_is c.requires.found c.in-Segment.block c.in-Segment.is _ c.get_mut.ensures.value;
        state = back.state;
        places = found_places (view_of c.self.inside.store c.self.inside.ledger) c.args.self.now c.self.invariant c.self.view_is c.args.found c.requires.found;
        joined = subst IsJoined c.self.view_is c.self.invariant;
      },
    )

pub returns-in-Frame : goal.returns-in-Frame
returns-in-Frame c =
    let back = outside_back c.self.inside.store c.self.inside.ledger c.args.self.now c.args.found c.self.invariant c.self.view_is c.requires.found c.in-Frame.frame c.in-Frame.is c.requires.writable in (
      (refl, back.lent),
      record {
        writes_back = tt;
        value = lent_outside c.self.inside.store c.self.inside.ledger c.args.self.now c.args.found c.self.invariant c.self.view_is c.requires.found c.in-Frame.frame c.in-Frame.is _ c.frame_line_mut.ensures.value;
        state = back.state;
        places = found_places (view_of c.self.inside.store c.self.inside.ledger) c.args.self.now c.self.invariant c.self.view_is c.args.found c.requires.found;
        joined = subst IsJoined c.self.view_is c.self.invariant;
      },
    )
