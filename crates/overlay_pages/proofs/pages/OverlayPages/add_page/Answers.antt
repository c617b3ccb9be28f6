use Rattle.overlay_pages.proofs.Common.{◌≤◌, ◌+◌, refl, sym, subst, arith}
use Rattle.overlay_pages.proofs.Views.{lines_of_bytes, limit_of, units_of, MemoryView, state_of, view_of}
use Rattle.overlay_pages.proofs.Growing.{free_is, has_room}
use Rattle.overlay_pages.proofs.Adding.{IsReady, added, ready}
use Rattle.overlay_pages.proofs.pages.OverlayPages.add_page.Goals as goal
use Rattle.overlay_pages.proofs.pages.OverlayPages.add_page.Goals.{In-Ok}

mapped : (c : In-Ok) → IsReady (view_of c.self.inside.store c.self.inside.ledger) c.map_zero.new.self c.args.space c.args.page (record { perms = c.args.perms; frame = c.self.inside.ledger.zero_frame })
mapped c =
    ready (view_of c.self.inside.store c.self.inside.ledger) c.args.self.now c.map_zero.new.self c.args.space c.args.page (record { perms = c.args.perms; frame = c.self.inside.ledger.zero_frame })
    c.self.view_is c.self.invariant c.requires.there c.requires.none_awaits c.requires.low c.requires.absent refl c.in-Ok.ensures.mapped

pub place_bytes-requires : goal.place_bytes-requires
place_bytes-requires c =
    let v = view_of c.self.inside.store c.self.inside.ledger in
    let m = mapped (goal.at.place_bytes-requires c).In-Ok in
    record {
      joined = m.joined;
      there = m.there;
      bare = m.bare;
      shared = m.shared;
      none_awaits = m.none_awaits;
      room = has_room v c.self.invariant 4 (omega arith) (let fits = subst (λ (m : MemoryView). units_of (state_of m) + 16 ≤ limit_of (state_of m)) (sym c.self.view_is) c.requires.fits in omega (arith, free_is v c.self.invariant, fits));
    }

pub returns-in-Ok : goal.returns-in-Ok
returns-in-Ok c =
    let all = added (view_of c.self.inside.store c.self.inside.ledger) c.args.self.now (view_of c.place_bytes.new.store c.place_bytes.new.ledger) c.map_zero.new.self c.args.space c.args.page
    (record { perms = c.args.perms; frame = c.self.inside.ledger.zero_frame }) (lines_of_bytes c.args.bytes.now) c.self.view_is (mapped (goal.at.returns-in-Ok c).In-Ok) c.place_bytes.ensures.placed in
    record { placed = all.0; units = all.1; kept = tt }
