use Rattle.std.specs.Prelude.{ℕ, Option}
use Rattle.std.specs.Ordering.{nat_cmp}
use Rattle.std.specs.FinMap.{FinMap, insert}
use Rattle.std.specs.Borrow.{Lends, LendsIf, Fml, RattleType, MutBor}
use Rattle.by_number.specs.contracts.values.ByNumber.{the_row}

-- What is left where the value of a number was lent: the number has what was last written.

module _ (T : RattleType) (s : MutBor (FinMap nat_cmp T.Denot)) (number : ℕ) where
  abbrev pub lends_value : MutBor T.Denot → Fml
  lends_value r = Lends (the_row T) T s r (insert s.now number)

  -- where it has none, nothing changes
  abbrev pub lends_number : Option (MutBor T.Denot) → Fml
  lends_number r = LendsIf (the_row T) T s r (insert s.now number) s.now
