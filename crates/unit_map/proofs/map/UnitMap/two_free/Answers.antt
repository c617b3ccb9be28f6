use Rattle.std.proofs.Common.{◌<◌, ◌≤◌, inl, inr, refl, arith}
use Rattle.std.proofs.lemmas.Bool.{cases_lt}
use Rattle.unit_map.specs.Pieces.{count}
use Rattle.unit_map.specs.Cells.{pieces_of}
use Rattle.unit_map.proofs.Counts.{free_there, two_none, two_one}
use Rattle.unit_map.proofs.Tables.{table_pieces}
use Rattle.unit_map.proofs.map.UnitMap.two_free.Goals as goal

pub returns-in_err-lower-clause-two : goal.returns-in_err-lower-clause-two
returns-in_err-lower-clause-two c = rw (← c.self.view_is, c.from_residual.ensures) (two_none c.self.inside.cells c.args.order c.self.invariant.table c.in_err-lower.ensures)

pub returns-in_err-lower-clause-pieces : goal.returns-in_err-lower-clause-pieces
returns-in_err-lower-clause-pieces c = rw (← c.self.view_is) (table_pieces c.self.inside.cells c.self.invariant.table)

pub returns-in_err-upper : goal.returns-in_err-upper
returns-in_err-upper c =
    rw (← c.self.view_is, c.from_residual-in_err-upper.ensures) (record {
      two = two_none c.self.inside.cells c.args.order c.self.invariant.table c.in_err-upper.ensures;
      pieces = table_pieces c.self.inside.cells c.self.invariant.table;
    })

pub returns-then-self-order-lt2 : goal.returns-then-self-order-lt2
returns-then-self-order-lt2 c =
    rw (← c.self.view_is) (record {
      two = omega (arith, c.self.invariant.counts_are.each c.args.order c.requires, c.if-self-order-lt2.true);
      pieces = table_pieces c.self.inside.cells c.self.invariant.table;
    })

pub returns : goal.returns
returns c =
    let cells = c.self.inside.cells in
    let k = c.args.order in
    let x = c.in_ok-lower.lower in
    let y = c.in_ok-upper.upper in
    let is = c.self.invariant.table in
    let two : 2 ≤ count k (pieces_of cells) = omega (arith, c.self.invariant.counts_are.each k c.requires, c.if-self-order-lt2.false) in
    let lt : x < y = elim (cases_lt x y) [ inl lt ↦ lt | inr le ↦ absurd (omega (arith, two, two_one cells k x y is c.requires c.in_ok-lower.ensures c.in_ok-upper.ensures le)) ] in
    rw (← c.self.view_is) (record {
      two = (two, lt, refl, refl, free_there cells k x is c.requires c.in_ok-lower.ensures.0, free_there cells k y is c.requires c.in_ok-upper.ensures.0);
      pieces = table_pieces cells is;
    })
