use Rattle.overlay_pages.proofs.Common.{◌∙◌}
use Rattle.overlay_pages.proofs.Views.{view_of}
use Rattle.overlay_pages.proofs.Bringing.{next_fits, next_low, none_brought, one_brought}
use Rattle.overlay_pages.proofs.overlays.bring_lines.Goals as goal

pub bringing-init : goal.bringing-init
bringing-init c =
    none_brought (view_of c.args.store.now c.args.ledger.now) c.args.space c.args.page c.args.frame c.args.lines _ c.requires.joined c.requires.there c.requires.frame
    c.iter-line-items.ensures.are (c.into_iter-line-iterator.ensures.into_iter_gives ∙ c.iter-line-items.ensures.lines)

pub bring_line-requires-clause-line : goal.bring_line-requires-clause-line
bring_line-requires-clause-line c = next_low (view_of c.args.store.now c.args.ledger.now) (view_of c.bringing.store c.bringing.ledger) c.args.space c.args.page c.args.frame c.args.lines _ c.bringing.invariant c.in-Some.line c.next.new.self c.in-Some.ensures.steps

pub bring_line-requires-clause-fits : goal.bring_line-requires-clause-fits
bring_line-requires-clause-fits c = next_fits (view_of c.args.store.now c.args.ledger.now) (view_of c.bringing.store c.bringing.ledger) c.args.space c.args.page c.args.frame c.args.lines _ c.bringing.invariant c.in-Some.line c.next.new.self c.in-Some.ensures.steps c.requires.fits

pub bringing-preserved : goal.bringing-preserved
bringing-preserved c =
    one_brought (view_of c.args.store.now c.args.ledger.now) (view_of c.bringing.store c.bringing.ledger) c.args.space c.args.page c.args.frame c.args.lines _ c.bringing.invariant c.in-Some.line c.next.new.self c.in-Some.ensures.steps
    (view_of c.bring_line.new.store c.bring_line.new.ledger) c.bring_line.ensures.joined c.bring_line.ensures.state
