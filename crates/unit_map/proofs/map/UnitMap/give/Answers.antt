use Rattle.std.proofs.Common.{◌≡◌, ℕ, ◌+◌, ◌/◌, ◌^◌, ◌≤◌, List, get_or, set, arith}
use Rattle.unit_map.specs.Cells.{behind, pieces_in, pieces_of, with_free, IsTable}
use Rattle.unit_map.specs.Counted.{AreCounts}
use Rattle.unit_map.specs.Laws.{free_le}
use Rattle.unit_map.specs.Pieces.{Piece, IsPiece, taken_at}
use Rattle.unit_map.specs.Settled.{gives_settled}
use Rattle.unit_map.proofs.Calls.{IsGiven, giving, taken_held, taken_was}
use Rattle.unit_map.proofs.Counting.{are_go, can_are, counts_few, counts_given}
use Rattle.unit_map.proofs.Numbers.{pow_mono, size_is}
use Rattle.unit_map.proofs.Tables.{frame_fits, piece_there, table_fills, table_pieces}
use Rattle.unit_map.proofs.Writes.{marks_but}
use Rattle.unit_map.proofs.map.UnitMap.give.Goals as goal

order_low : (cells : List ℕ) (ps : List Piece) (unit order : ℕ) → IsTable cells → pieces_of cells ≡ ps → IsPiece ps (taken_at unit order) → order ≤ 4
order_low cells ps unit order is view there = (piece_there cells (taken_at unit order) is (rw view there)).0

-- its block counted as a free one
counted : (cells counts : List ℕ) (ps : List Piece) (unit order : ℕ) → IsTable cells → AreCounts counts (pieces_of cells) → pieces_of cells ≡ ps → IsPiece ps (taken_at unit order)
    → AreCounts (set counts order (get_or counts order 0 + 1)) (with_free cells unit order)
counted cells counts ps unit order is are view there =
    counts_given counts (pieces_of cells) (pieces_in cells 0 unit) (behind cells unit (2 ^ order)) order unit (order_low cells ps unit order is view there) (taken_was cells order unit is (rw view there)) are

pub bounds-self-inside-block : goal.bounds-self-inside-block
bounds-self-inside-block c = omega (arith, order_low c.self.inside.cells c.args.self.now c.args.block.unit c.args.block.order c.self.invariant.table c.self.view_is c.requires)

pub bounds-self-inside-block-2 : goal.bounds-self-inside-block-2
bounds-self-inside-block-2 c = omega (arith, order_low c.self.inside.cells c.args.self.now c.args.block.unit c.args.block.order c.self.invariant.table c.self.view_is c.requires)

pub overflow_add-self : goal.overflow_add-self
overflow_add-self c =
    let low = order_low c.self.inside.cells c.args.self.now c.args.block.unit c.args.block.order c.self.invariant.table c.self.view_is c.requires in
    omega (arith, counts_few c.self.inside.counts c.self.inside.cells c.self.invariant.table c.self.invariant.counts_are c.args.block.order low)

pub clear-requires : goal.clear-requires
clear-requires c = record {
  table = c.self.invariant.table;
  held = taken_held c.self.inside.cells c.args.block.order c.args.block.unit c.self.invariant.table (rw c.self.view_is c.requires);
  counts = can_are _ _ (counted c.self.inside.cells c.self.inside.counts c.args.self.now c.args.block.unit c.args.block.order c.self.invariant.table c.self.invariant.counts_are c.self.view_is c.requires);
}

given : (c : goal.After-struct_known-3-1) → IsGiven c.self.inside.cells c.args.block.order c.args.block.unit c.clear.new.cells
given c = giving c.self.inside.cells c.clear.new.cells c.args.block.order c.args.block.unit c.self.invariant.table (rw c.self.view_is c.requires) c.clear.ensures.table c.clear.ensures.cleared

pub overflow_shl-self : goal.overflow_shl-self
overflow_shl-self c = omega (arith, (given c).low)

pub overflow_add-self-2 : goal.overflow_add-self-2
overflow_add-self-2 c =
    let low = (given c).low in
    omega (arith, size_is c.args.block.order low, pow_mono low, c.self.invariant.kept, free_le (pieces_of c.self.inside.cells), table_fills c.self.inside.cells c.self.invariant.table, c.self.invariant.table.few)

pub invariant_of-self : goal.invariant_of-self
invariant_of-self c =
    let is = given c.before in
    record {
      table = c.clear.ensures.table;
      marked = c.mark.ensures;
      counts_are = are_go _ c.clear.new.counts (with_free c.self.inside.cells c.args.block.unit c.args.block.order) (pieces_of c.clear.new.cells)
          (counted c.self.inside.cells c.self.inside.counts c.args.self.now c.args.block.unit c.args.block.order c.self.invariant.table c.self.invariant.counts_are c.self.view_is c.requires) c.clear.ensures.counts;
      kept = omega (arith, size_is c.args.block.order is.low, is.free, c.self.invariant.kept);
    }

pub returns : goal.returns
returns c =
    let is = given c.before in
    rw (← c.self.view_is) (record { gives = is.gives; others = is.others; only = is.only; units = is.units; free = is.free; pieces = table_pieces c.clear.new.cells c.clear.ensures.table; settled = gives_settled _ _ _ _ is.gives })

pub mark-requires : goal.mark-requires
mark-requires c =
    let cells = c.self.inside.cells in
    let unit = c.args.block.unit in
    let is = c.self.invariant.table in
    let same = c.clear.ensures.cleared.same in
    record {
      there = omega (arith, frame_fits cells unit is (taken_held cells c.args.block.order unit is (rw c.self.view_is c.requires)).there, same.units);
      but = marks_but cells c.clear.new.cells c.self.inside.marks (unit / 16) c.self.invariant.marked same;
    }
