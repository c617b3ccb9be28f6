use Rattle.std.proofs.Common.{◌≡◌, true, All, refl, rules}
use Rattle.std.specs.List.{list_all}
use Rattle.std.proofs.lemmas.Bool.{eqb-false, not-true}
use Rattle.std.proofs.lemmas.List.Elements.{All-weaker}
use Rattle.std.proofs.lemmas.List.Sums.{AllPass-from_list_all}
use Rattle.rv_decode.specs.Fits.{AreApart}
use Rattle.rv_decode.specs.Table.{rv64i_rows}
use Rattle.rv_decode.specs.TableLaws.{IsCaseTable-from_test, are_apart, one_place}
use Rattle.rv_mul.specs.Tables.{rv64m_rows}
use Rattle.rv_mul.proofs.table.rv64m.Goals as goal

pub returns-clause-rows : goal.returns-clause-rows
unfolding rv64m_rows
returns-clause-rows c = search rules

pub returns-clause-one : goal.returns-clause-one
unfolding rv64m_rows
returns-clause-one c = one_place rv64m_rows (IsCaseTable-from_test rv64m_rows refl).apart

pub returns-clause-apart : goal.returns-clause-apart
unfolding rv64m_rows rv64i_rows
returns-clause-apart c =
    All-weaker (λ m. list_all (are_apart m) rv64i_rows ≡ true) (λ m. All (AreApart m) rv64i_rows)
    (λ m test. All-weaker (λ b. are_apart m b ≡ true) (AreApart m) (λ b h. eqb-false _ _ (not-true _ h)) rv64i_rows (AllPass-from_list_all (are_apart m) rv64i_rows test))
    rv64m_rows (AllPass-from_list_all (λ m. list_all (are_apart m) rv64i_rows) rv64m_rows refl)
