use Rattle.std.proofs.Common.{refl, arith}
use Rattle.number_maps.specs.Rows.{map_of}
use Rattle.number_maps.specs.RowLaws.{next_at, next_behind, next_none}
use Rattle.page_set.proofs.rows.next_row.Goals as goal

pub returns-in-Ok : goal.returns-in-Ok
returns-in-Ok c = next_at (map_of c.args.rows.now) c.args.rows.now c.args.chunk c.in-Ok.at c.index-rows-at.result refl c.requires c.in-Ok.ensures.there c.index-rows-at.is

pub returns-then-at-rows : goal.returns-then-at-rows
returns-then-at-rows c =
    next_behind (map_of c.args.rows.now) c.args.rows.now c.args.chunk c.in-Err.at c.index-rows-at-then-at-rows.result refl c.requires c.in-Err.ensures.gap
    c.if-at-rows.true c.index-rows-at-then-at-rows.is

pub returns-else-at-rows : goal.returns-else-at-rows
returns-else-at-rows c =
    next_none (map_of c.args.rows.now) c.args.rows.now c.args.chunk c.in-Err.at refl c.requires c.in-Err.ensures.gap
    (λ there. omega (arith, there, c.if-at-rows.false))
