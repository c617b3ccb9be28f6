use Rattle.std.proofs.Common.{◌+◌, ◌*◌, ◌/◌, ◌^◌, ◌<◌, ◌≤◌, get_or, set, arith}
use Rattle.unit_map.specs.Cells.{behind, pieces_in, pieces_of, with_free}
use Rattle.unit_map.specs.Pieces.{free_at}
use Rattle.unit_map.proofs.Counting.{can_clear_counts, can_go, counts_carried, counts_few, some_there}
use Rattle.unit_map.proofs.Moving.{can_move, carried, move_fits, move_now, move_was}
use Rattle.unit_map.proofs.Tables.{frame_fits, piece_block}
use Rattle.unit_map.proofs.Writes.{marks_but, same_wider}
use Rattle.unit_map.proofs.cells.carry.Goals as goal

pub lift-part-requires : goal.lift-part-requires
lift-part-requires c =
    let move = can_move c.args.cells.now c.args.from c.args.to c.args.order c.requires.table c.requires.can in
    record { low = move.low; range = record { low = move.held.low; fits = move.fits; few = c.requires.table.few } }

pub overflow_add-counts : goal.overflow_add-counts
overflow_add-counts c = omega (arith, counts_few c.args.counts.now c.args.cells.now c.requires.table c.requires.counts c.args.order (omega (arith, c.requires.can.low)))

pub clear-requires : goal.clear-requires
clear-requires c =
    let move = can_move c.args.cells.now c.args.from c.args.to c.args.order c.requires.table c.requires.can in
    record {
      table = c.requires.table;
      held = move.held;
      counts = can_clear_counts c.args.counts.now c.args.cells.now c.args.from c.args.order (omega (arith, move.low)) move.fits c.requires.table c.requires.counts;
    }

pub lay-requires : goal.lay-requires
lay-requires c =
    let move = can_move c.args.cells.now c.args.from c.args.to c.args.order c.requires.table c.requires.can in
    record {
      low = move.low;
      range = record { low = move.held.low; fits = move_fits c.args.cells.now c.clear.new.cells c.args.from c.args.to c.args.order move c.clear.ensures.table c.clear.ensures.cleared; few = c.clear.ensures.table.few };
    }

pub mark-requires-clause-there : goal.mark-requires-clause-there
mark-requires-clause-there c =
    let move = can_move c.args.cells.now c.args.from c.args.to c.args.order c.requires.table c.requires.can in
    omega (arith, frame_fits c.args.cells.now c.args.from c.requires.table move.held.there, c.clear.ensures.cleared.same.units)

pub mark-requires-2-clause-there : goal.mark-requires-2-clause-there
mark-requires-2-clause-there c =
    let at = piece_block c.args.cells.now (free_at c.args.to c.args.order) c.requires.table c.requires.can.there in
    omega (arith, frame_fits c.args.cells.now c.args.to c.requires.table at.there, c.clear.ensures.cleared.same.units, c.lay.ensures.same.units)

pub mark-requires-2-clause-but : goal.mark-requires-2-clause-but
mark-requires-2-clause-but c =
    let to = c.args.to in
    let at = piece_block c.args.cells.now (free_at to c.args.order) c.requires.table c.requires.can.there in
    marks_but c.clear.new.cells c.lay.new.cells c.mark.new.self (to / 16) c.mark.ensures (same_wider to (2 ^ c.args.order) (16 * (to / 16)) (2 ^ 4) c.clear.new.cells c.lay.new.cells (omega arith) at.fits c.lay.ensures.same)

left : (c : goal.After-counts-2-1) → 0 < get_or c.clear.new.counts c.args.order 0
left c =
    let old = c.args.cells.now in
    let mid = c.clear.new.cells in
    let from = c.args.from in
    let to = c.args.to in
    let k = c.args.order in
    let move = can_move old from to k c.requires.table c.requires.can in
    let low : k ≤ 4 = omega (arith, move.low) in
    some_there c.clear.new.counts (pieces_of mid) (pieces_in mid 0 to) (behind mid to (2 ^ k)) k to low (move_was old mid from to k move c.clear.ensures.table c.clear.ensures.cleared)
    (can_go (set c.args.counts.now k (get_or c.args.counts.now k 0 + 1)) c.clear.new.counts (with_free old from k) (pieces_of mid)
    (can_clear_counts c.args.counts.now old from k low move.fits c.requires.table c.requires.counts) c.clear.ensures.counts)

pub overflow_sub-counts : goal.overflow_sub-counts
overflow_sub-counts c = left c

pub returns : goal.returns
returns c =
    let old = c.args.cells.now in
    let mid = c.clear.new.cells in
    let new = c.lay.new.cells in
    let from = c.args.from in
    let to = c.args.to in
    let k = c.args.order in
    let part = c.lift-part.result in
    let lifts = c.lift-part.ensures in
    let table = c.clear.ensures.table in
    let gone = c.clear.ensures.cleared in
    let move = can_move old from to k c.requires.table c.requires.can in
    record {
      carried = carried old mid new part from to k move lifts table gone c.lay.ensures.same c.lay.ensures.part c.requires.table;
      marks = c.mark-2.ensures;
      counts = counts_carried c.args.counts.now c.clear.new.counts old (pieces_of mid) (pieces_of new) (pieces_in mid 0 to) (behind mid to (2 ^ k)) from to k (omega (arith, move.low)) move.fits c.requires.counts c.clear.ensures.counts
          (move_was old mid from to k move table gone) (move_now old mid new part from to k move lifts table gone c.lay.ensures.same c.lay.ensures.part) (left c);
    }
