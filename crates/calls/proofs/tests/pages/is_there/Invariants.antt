use Rattle.page_table.specs.Table.{AreThere}
use Rattle.calls.proofs.tests.pages.is_there.Given as goal

-- the first pages are there
abbrev pub invariant-asking : goal.invariant-asking
invariant-asking l = AreThere l.table.pages l.from l.i
