use Rattle.std.proofs.Common.{ℕ, ◌-◌, [], ◌∷◌}
use Rattle.unit_map.specs.Pieces.{free_at}
use Rattle.unit_map.specs.Changes.{split}
use Rattle.unit_map.specs.Counted.{GoAlong}
use Rattle.unit_map.proofs.orders.split.Given as goal

abbrev pub invariant-splitting : goal.invariant-splitting
invariant-splitting l = (unit : ℕ) → GoAlong l.fn.counts (free_at unit l.from ∷ []) l.counts (split unit l.order (l.below - l.order))
