use Rattle.std.proofs.Common.{◌≤◌}
use Rattle.calls.proofs.tests.names.pages_of_spaces_come_and_go_in_order.Given as goal

abbrev pub invariant-calling : goal.invariant-calling
invariant-calling g l = 1024 ≤ l.table.room

abbrev pub invariant-paging : goal.invariant-paging
invariant-paging g l = 1024 ≤ l.table.room
