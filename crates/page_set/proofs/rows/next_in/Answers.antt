use Rattle.std.proofs.Common.{arith}
use Rattle.number_maps.specs.Rows.{map_of}
use Rattle.page_set.proofs.Chunks.{some_least}
use Rattle.page_set.proofs.rows.next_in.Goals as goal

pub overflow_mul-result-in-Some-least_from : goal.overflow_mul-result-in-Some-least_from
overflow_mul-result-in-Some-least_from c =
    omega (arith, (c.requires.are c.in-Some-next_row.row.0 c.in-Some-next_row.row.1 c.in-Some-next_row.ensures.1).low)

pub overflow_add-result-in-Some-least_from : goal.overflow_add-result-in-Some-least_from
overflow_add-result-in-Some-least_from c =
    omega (
      arith,
      (c.requires.are c.in-Some-next_row.row.0 c.in-Some-next_row.row.1 c.in-Some-next_row.ensures.1).low,
      c.in-Some-least_from.ensures.1,
      c.from-in-Some-least_from.ensures,
    )

pub unreachable-requires : goal.unreachable-requires
unreachable-requires c =
    some_least (map_of c.args.rows.now) c.in-Some-next_row.row.0 c.in-Some-next_row.row.1 c.requires.are c.in-Some-next_row.ensures.1 c.in-None-least_from.ensures
