use Rattle.overlay_pages.proofs.SharedRuns.{bare_below, shared_all}
use Rattle.overlay_pages.proofs.sharing.share_below.Goals as goal

pub share_bare-requires-clause-bare : goal.share_bare-requires-clause-bare
share_bare-requires-clause-bare c =
    bare_below c.args.store.now c.args.from c.args.to c.args.until c.requires.differ c.args.ledger.now c.requires.joined c.requires.bare

pub returns-clause-joined : goal.returns-clause-joined
returns-clause-joined c =
    (shared_all c.args.store.now c.args.from c.args.to c.args.until c.requires.differ c.args.ledger.now c.share_bare.new.self c.share_bare.ensures.shared
    c.requires.joined c.requires.space c.requires.bare).0

pub returns-clause-shared : goal.returns-clause-shared
returns-clause-shared c =
    (shared_all c.args.store.now c.args.from c.args.to c.args.until c.requires.differ c.args.ledger.now c.share_bare.new.self c.share_bare.ensures.shared
    c.requires.joined c.requires.space c.requires.bare).1
