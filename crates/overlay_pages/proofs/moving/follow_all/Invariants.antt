use Rattle.overlay_pages.proofs.Common.{ℕ, ◌⊎◌, length}
use Rattle.overlay_pages.proofs.Stores.{Store, AreLow, IsTarget}
use Rattle.overlay_pages.proofs.Books.{LedgerView}
use Rattle.overlay_pages.proofs.Views.{IsBehind, FollowsAt}
use Rattle.overlay_pages.proofs.moving.follow_all.Given as goal

abbrev pub invariant-following : goal.invariant-following
invariant-following l =
    AreLow l.moves.items
    × ((was : Store) (old : LedgerView) (by : ℕ → ℕ) → IsBehind was l.fn.store old l.fn.ledger by
    → IsBehind was l.fn.store old l.ledger by × ((unit : ℕ) → IsTarget l.fn.moves.items unit → IsTarget l.moves.items unit ⊎ FollowsAt by old l.ledger unit))

abbrev pub decreases-following : goal.decreases-following
decreases-following l = length l.moves.items
