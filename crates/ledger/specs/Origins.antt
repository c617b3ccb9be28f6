use Rattle.std.specs.Prelude.{ℕ, zero, suc, ◌+◌, if◌then◌else◌, length}
use Rattle.ledger.specs.Ledger.{Ledger, all_holdings, has_origin}

-- A new origin.

-- the least number from `from` on that no page has, of the next `count` numbers; the one behind them where each is had
abbrev pub least_from : Ledger → ℕ → ℕ → ℕ
least_from ledger from zero = from
least_from ledger from (suc count) = if has_origin ledger from then least_from ledger (from + 1) count else from

-- the least number above 0 that no page has: one of the first, as many as there are pages, or the next
unfoldable pub new_origin : Ledger → ℕ
new_origin ledger = least_from ledger 1 (length (all_holdings ledger))
