use Rattle.std.proofs.Common.{◌+◌, ◌^◌, ◌≤◌, length, sym, arith}
use Rattle.unit_map.specs.Cells.{pieces_of, with_free}
use Rattle.unit_map.proofs.Counting.{can_go, goes_both, goes_same}
use Rattle.unit_map.proofs.Joining.{cleared_more, cleared_whole, half_clears, halves_join, wiped_now}
use Rattle.unit_map.proofs.Tiles.{ends_in}
use Rattle.unit_map.proofs.cells.+clear_in.Goals as goal

pub wipe-requires : goal.wipe-requires
wipe-requires t c = record {
  low = c.requires.can.held.low;
  fits = omega (arith, ends_in c.args.block.unit c.args.block.order c.args.within.unit c.args.within.order c.requires.can.place, c.requires.can.fits);
  few = c.requires.can.few;
}

pub returns-then-within-block : goal.returns-then-within-block
returns-then-within-block t c =
    let cells = c.args.cells.now in
    let new = c.wipe.new.cells in
    let v = c.args.block.unit in
    let j = c.args.block.order in
    let u = c.args.within.unit in
    let n = c.args.within.order in
    let fits : v + 2 ^ j ≤ length cells = omega (arith, ends_in v j u n c.requires.can.place, c.requires.can.fits) in
    record {
      cleared = cleared_whole cells new v j u n c.if-within-block.true c.requires.can c.wipe.ensures;
      counts = goes_same c.args.counts.now (with_free cells v j) (pieces_of new) (sym (wiped_now cells new v j fits c.requires.can.held.low c.wipe.ensures));
    }

pub clear_in-requires : goal.clear_in-requires
clear_in-requires t c =
    let half = c.half_with-half.result in
    let is = c.half_with-half.ensures in (
      omega (arith, is.order, c.decreases),
      (half_clears c.args.cells.now c.args.block.unit c.args.block.order c.args.within.unit c.args.within.order half.unit half.order is.order c.if-within-block.false is.place is.half c.requires.can, c.requires.counts),
    )

pub join-requires : goal.join-requires
join-requires t c =
    let half = c.half_with-half.result in
    let is = c.half_with-half.ensures in
    record {
      halves = halves_join c.args.cells.now c.clear_in.new.cells c.args.block.unit c.args.block.order c.args.within.unit c.args.within.order half.unit half.order is.order c.if-within-block.false is.half c.requires.can c.clear_in.ensures.cleared;
      counts = can_go c.args.counts.now c.clear_in.new.counts (with_free c.args.cells.now c.args.block.unit c.args.block.order) (pieces_of c.clear_in.new.cells) c.requires.counts c.clear_in.ensures.counts;
    }

pub returns : goal.returns
returns t c =
    let half = c.half_with-half.result in
    let is = c.half_with-half.ensures in
    record {
      cleared = cleared_more c.args.cells.now c.clear_in.new.cells c.join.new.cells c.args.block.unit c.args.block.order c.args.within.unit c.args.within.order half.unit half.order is.order is.place is.half c.requires.can c.clear_in.ensures.cleared c.join.ensures.joined;
      counts = goes_both c.args.counts.now c.clear_in.new.counts c.join.new.counts (with_free c.args.cells.now c.args.block.unit c.args.block.order) (pieces_of c.clear_in.new.cells) (pieces_of c.join.new.cells) c.clear_in.ensures.counts c.join.ensures.counts;
    }
