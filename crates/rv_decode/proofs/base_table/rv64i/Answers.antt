use Rattle.std.proofs.Common.{lit<, refl}
use Rattle.rv_decode.specs.Fits.{IsCaseTable}
use Rattle.rv_decode.specs.Table.{rv64i_rows}
use Rattle.rv_decode.specs.TableLaws.{IsCaseTable-from_test, one_place}
use Rattle.rv_decode.proofs.base_table.rv64i.Goals as goal

is_table : IsCaseTable rv64i_rows
unfolding rv64i_rows
is_table = IsCaseTable-from_test rv64i_rows refl

pub new-requires : goal.new-requires
unfolding rv64i_rows
new-requires c = (lit< tt, (lit< tt, (is_table.within, is_table.apart)))

pub returns-clause-rows : goal.returns-clause-rows
unfolding rv64i_rows
returns-clause-rows c = c.new.ensures

pub returns-clause-one : goal.returns-clause-one
returns-clause-one c = one_place rv64i_rows is_table.apart
