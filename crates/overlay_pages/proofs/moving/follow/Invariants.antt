use Rattle.overlay_pages.proofs.Common.{ℕ, ◌+◌}
use Rattle.overlay_pages.proofs.Stores.{Store}
use Rattle.overlay_pages.proofs.Books.{LedgerView}
use Rattle.overlay_pages.proofs.Views.{IsBehind, Tells}
use Rattle.overlay_pages.proofs.moving.follow.Given as goal

abbrev pub invariant-following : goal.invariant-following
invariant-following l =
    (was : Store) (old : LedgerView) (by : ℕ → ℕ) → IsBehind was l.fn.store old l.fn.ledger by → Tells was l.fn.store old l.fn.ledger l.ledger by l.m.to (l.m.to + l.i)
