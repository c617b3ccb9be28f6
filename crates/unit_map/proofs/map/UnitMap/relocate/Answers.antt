use Rattle.std.proofs.Common.{sym, ◌∙◌, arith}
use Rattle.unit_map.specs.Cells.{pieces_of}
use Rattle.unit_map.specs.Laws.{fewer_moves, free_moves}
use Rattle.unit_map.proofs.Calls.{same_units}
use Rattle.unit_map.proofs.Tables.{table_fills, table_pieces}
use Rattle.unit_map.proofs.map.UnitMap.relocate.Goals as goal

pub carry-requires : goal.carry-requires
carry-requires c = record { table = c.self.invariant.table; marks = c.self.invariant.marked; can = rw c.self.view_is c.requires; counts = c.self.invariant.counts_are }

pub invariant_of-self : goal.invariant_of-self
invariant_of-self c = record { table = c.carry.ensures.carried.table; marked = c.carry.ensures.marks; counts_are = c.carry.ensures.counts; kept = c.self.invariant.kept ∙ sym (free_moves _ _ _ _ _ c.carry.ensures.carried.relocates) }

pub returns : goal.returns
returns c =
    let is = c.carry.ensures.carried in
    let old = pieces_of c.self.inside.cells in
    let new = pieces_of c.carry.new.cells in
    rw (← c.self.view_is) (record {
      relocates = is.relocates;
      inside = is.inside;
      outside = is.outside;
      only = is.only;
      pieces = table_pieces c.carry.new.cells is.table;
      free = free_moves old new c.args.from c.args.to c.args.order is.relocates;
      fewer = fewer_moves old new c.args.from c.args.to c.args.order (rw c.self.view_is c.requires) is.relocates;
      units = same_units c.self.inside.cells c.carry.new.cells c.self.invariant.table is.table is.units;
      within = omega (arith, is.within, table_fills c.self.inside.cells c.self.invariant.table);
      apart = is.apart;
    })
