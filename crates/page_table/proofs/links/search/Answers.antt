use Rattle.std.proofs.Common.{◌<◌, length, arith}
use Rattle.number_maps.specs.RowLaws.{key_of}
use Rattle.page_table.proofs.Both.{above_here, below_here, gap_here}
use Rattle.page_table.proofs.links.search.Goals as goal
use Rattle.page_table.proofs.links.search.Goals.{then-key-slot-2, else-key-slot-2}

pub looking-preserved : goal.looking-preserved
looking-preserved c =
    let links = c.args.links.now in
    let at = c.place_in-at.result in
    let there : at < length links = omega (arith, c.place_in-at.ensures.high, c.looking.invariant.1) in
    let key = key_of links at (0, 0) there in
    elim c.if-key-slot-2.branch [
      | then-key-slot-2 w ↦ (
        omega (arith, w.low-is, w.high-is, c.place_in-at.ensures.high),
        omega (arith, w.high-is, c.looking.invariant.1),
        λ j lt. below_here links c.args.slot at c.requires there (omega (arith, key, w.if-key-slot-2.true)) j (omega (arith, lt, w.low-is)),
        λ j le lt. c.looking.invariant.3 j (omega (arith, le, w.high-is)) lt,
      )
      | else-key-slot-2 w ↦ (
        omega (arith, w.low-is, w.high-is, c.place_in-at.ensures.low),
        omega (arith, w.high-is, there),
        λ j lt. c.looking.invariant.2 j (omega (arith, lt, w.low-is)),
        λ j le lt. above_here links c.args.slot at c.requires (omega (arith, key, w.if-key-slot-2.false, c.if-key-slot.false)) j (omega (arith, le, w.high-is)) lt,
      )
    ]

pub returns-clause-gap : goal.returns-clause-gap
returns-clause-gap c =
    gap_here c.args.links.now c.args.slot c.looking.low c.looking.high (omega (arith, c.looking-test.false, c.looking.invariant.0)) c.looking.invariant.1
    c.looking.invariant.2 c.looking.invariant.3
