use Rattle.std.proofs.Common.{◌≤◌}
use Rattle.calls.proofs.tests.names.a_table_answers_as_an_ordered_map_does.Given as goal

abbrev pub invariant-calling : goal.invariant-calling
invariant-calling g l = 16 ≤ l.table.room
