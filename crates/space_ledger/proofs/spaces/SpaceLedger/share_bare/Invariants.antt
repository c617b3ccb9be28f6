use Rattle.space_ledger.proofs.Common.{len}
use Rattle.space_ledger.proofs.Views.{space_in}
use Rattle.space_ledger.proofs.Sharing.{IsSharing}
use Rattle.space_ledger.proofs.spaces.SpaceLedger.share_bare.Given as goal

abbrev pub invariant-sharing : goal.invariant-sharing
invariant-sharing l = IsSharing l.fn.self l.self l.from l.to l.until

abbrev pub decreases-sharing : goal.decreases-sharing
decreases-sharing l = len (space_in l.self l.to).awaiting
