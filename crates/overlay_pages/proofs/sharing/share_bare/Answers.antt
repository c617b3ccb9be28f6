use Rattle.overlay_pages.proofs.SharedRuns.{bare_step}
use Rattle.overlay_pages.proofs.sharing.share_bare.Goals as goal

pub returns : goal.returns
returns c =
    let all = bare_step c.args.store.now c.args.ledger.now c.share_found.new.self c.args.from c.args.to c.args.page c.requires.joined c.requires.there c.requires.bare c.requires.frame c.requires.space
    c.share_found.ensures.absent c.share_found.ensures.shared in
    record { joined = all.0; state = all.1 }
