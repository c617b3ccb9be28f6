use Rattle.overlay_pages.proofs.Shifts.{settled_moved}
use Rattle.overlay_pages.proofs.moving.settle_counted.Goals as goal

pub returns-clause-moved : goal.returns-clause-moved
returns-clause-moved g c =
    settled_moved c.args.store.now c.settle.new.self c.args.ledger.now c.follow_all.new.ledger c.settle.new.moves.items c.requires.joined c.settle.ensures.moves c.follow_all.ensures c.settle.ensures.kept c.settle.ensures.settled
