use Rattle.std.proofs.Common.{◌*◌, ◌/◌, ◌^◌, ◌≤◌, true, refl, arith}
use Rattle.unit_map.specs.Cells.{pieces_of}
use Rattle.unit_map.specs.Settled.{count_some, takes_settled}
use Rattle.unit_map.proofs.Calls.{IsTaken, taking}
use Rattle.unit_map.proofs.Counting.{counts_few, counts_taken}
use Rattle.unit_map.proofs.Counts.{free_there, least_none}
use Rattle.unit_map.proofs.Numbers.{size_is}
use Rattle.unit_map.proofs.Tables.{bit_there, block_there, frame_fits, table_pieces, there_fits}
use Rattle.unit_map.proofs.Writes.{marks_but, same_wider}
use Rattle.unit_map.proofs.map.UnitMap.take.Goals as goal

pub split-requires : goal.split-requires
split-requires c =
    let from = c.in_ok-from.from in
    let unit = c.in_ok-unit.unit in
    let is = c.self.invariant.table in
    let low : from ≤ 4 = omega (arith, (c.in_ok-from.ensures _ c.self.invariant.marked).1) in
    let at = block_there c.self.inside.cells unit from true is low (bit_there c.self.inside.cells unit from is low c.in_ok-unit.ensures.0) in
    record { low = (c.in_ok-from.ensures _ c.self.invariant.marked).0; range = record { low = low; fits = there_fits c.self.inside.cells unit from is at; few = is.few }; inside = at.inside }

pub split-requires-2 : goal.split-requires-2
split-requires-2 c =
    let cells = c.self.inside.cells in
    let from = c.in_ok-from.from in
    let is = c.self.invariant.table in
    let counted = c.self.invariant.counts_are in
    let low : from ≤ 4 = omega (arith, (c.in_ok-from.ensures _ c.self.invariant.marked).1) in
    record {
      orders = ((c.in_ok-from.ensures _ c.self.invariant.marked).0, low);
      some = omega (arith, counted.each from low, count_some from (pieces_of cells) c.in_ok-unit.unit (free_there cells from c.in_ok-unit.unit is low c.in_ok-unit.ensures.0));
      few = λ k less. omega (arith, counts_few c.self.inside.counts cells is counted k less);
    }

taken : (c : goal.After-split-2) → IsTaken c.self.inside.cells c.args.order c.in_ok-from.from c.in_ok-unit.unit c.split.new.cells
taken c =
    let least = c.in_ok-from.ensures _ c.self.invariant.marked in
    taking c.self.inside.cells c.split.new.cells c.args.order c.in_ok-from.from c.in_ok-unit.unit c.self.invariant.table least.0 (omega (arith, least.1)) c.in_ok-unit.ensures.0 least.3 c.split.ensures

pub overflow_sub-self : goal.overflow_sub-self
overflow_sub-self c = omega (arith, size_is c.args.order c.requires, (taken c).free, c.self.invariant.kept)

pub invariant_of-self : goal.invariant_of-self
invariant_of-self c = let is = taken c.before in record {
  table = is.table;
  marked = c.mark.ensures;
  counts_are = counts_taken c.self.inside.counts c.split-2.new.counts (pieces_of c.self.inside.cells) (pieces_of c.split.new.cells) c.args.order c.in_ok-from.from c.in_ok-unit.unit is.takes c.self.invariant.counts_are (c.split-2.ensures c.in_ok-unit.unit);
  kept = omega (arith, size_is c.args.order c.requires, is.free, c.self.invariant.kept);
}

pub returns : goal.returns
returns c =
    let is = taken c.before in
    rw (← c.self.view_is) (record {
      none = λ e. cc;
      pieces = table_pieces c.split.new.cells is.table;
      some = (refl, is.block);
      taken = is.taken;
      others = is.others;
      only = is.only;
      units = is.units;
      free = is.free;
      within = is.within;
      apart = is.apart;
      settled = takes_settled _ _ _ _ is.block;
    })

pub returns-in_err-from-clause-none : goal.returns-in_err-from-clause-none
returns-in_err-from-clause-none c e = (rw (← c.self.view_is) (least_none c.self.inside.cells c.args.order c.self.invariant.table (c.in_err-from.ensures _ c.self.invariant.marked)), refl)

pub returns-in_err-from-clause-pieces : goal.returns-in_err-from-clause-pieces
returns-in_err-from-clause-pieces c = rw (← c.self.view_is) (table_pieces c.self.inside.cells c.self.invariant.table)

pub mark-requires : goal.mark-requires
mark-requires c =
    let cells = c.self.inside.cells in
    let unit = c.in_ok-unit.unit in
    let is = c.self.invariant.table in
    let low : c.in_ok-from.from ≤ 4 = omega (arith, (c.in_ok-from.ensures _ c.self.invariant.marked).1) in
    let at = block_there cells unit c.in_ok-from.from true is low (bit_there cells unit c.in_ok-from.from is low c.in_ok-unit.ensures.0) in
    let same = c.split.ensures.same in
    record {
      there = omega (arith, frame_fits cells unit is at.there, same.units);
      but = marks_but cells c.split.new.cells c.self.inside.marks (unit / 16) c.self.invariant.marked (same_wider unit (2 ^ c.in_ok-from.from) (16 * (unit / 16)) (2 ^ 4) cells c.split.new.cells (omega arith) at.fits same);
    }
