use Rattle.space_ledger.proofs.Common.{◌<◌, sym, subst, len}
use Rattle.space_ledger.proofs.Pages.{IsRunFrom}
use Rattle.space_ledger.proofs.Views.{space_in, LedgerView, Still}
use Rattle.space_ledger.proofs.Sharing.{IsSharing, fewer, one_more}
use Rattle.space_ledger.proofs.spaces.SpaceLedger.share_bare.Goals as goal

pub sharing-init : goal.sharing-init
sharing-init c = record { space = c.requires.space; bare = c.requires.bare; run = Still _ }

pub sharing-smaller : goal.sharing-smaller
sharing-smaller c =
    subst (λ (v : LedgerView). len (space_in v c.args.to).awaiting < len (space_in c.sharing.self c.args.to).awaiting) (sym c.share_run.ensures.shared)
    (fewer c.args.self.now c.sharing.self c.args.from c.args.to c.args.until c.in-Some.found c.requires.differ c.sharing.invariant
    (subst (λ (v : LedgerView). IsRunFrom (space_in v c.args.to).awaiting 0 c.in-Some.found) c.self.view_is c.in-Some.ensures.0) c.in-Some.ensures.1)

pub sharing-preserved : goal.sharing-preserved
sharing-preserved c =
    subst (λ (v : LedgerView). IsSharing c.args.self.now v c.args.from c.args.to c.args.until) (sym c.share_run.ensures.shared)
    (one_more c.args.self.now c.sharing.self c.args.from c.args.to c.args.until c.in-Some.found c.requires.differ c.sharing.invariant
    (subst (λ (v : LedgerView). IsRunFrom (space_in v c.args.to).awaiting 0 c.in-Some.found) c.self.view_is c.in-Some.ensures.0) c.in-Some.ensures.1
    c.share_run.ensures.apart)
