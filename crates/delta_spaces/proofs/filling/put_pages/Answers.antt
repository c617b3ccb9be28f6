use Rattle.std.proofs.Common.{◌∙◌}
use Rattle.overlay_memory.specs.View.{state_of}
use Rattle.delta_spaces.proofs.Put.{can_put, filling_at, filling_end, filling_more, filling_next}
use Rattle.delta_spaces.proofs.filling.put_pages.Goals as goal

pub put_lines-requires : goal.put_lines-requires
put_lines-requires c = record {
  ready = can_put (state_of c.args.mem.now) (state_of c.filling.mem) c.args.to c.args.pages.now _ _ c.page-item.result
      (filling_at (state_of c.args.mem.now) (state_of c.filling.mem) c.args.to c.args.pages.now c.filling.page-index c.page-item.result c.page-item.result c.filling-test.true c.page-item.is
      c.filling.invariant.so) c.requires.ready;
}

pub filling-preserved : goal.filling-preserved
filling-preserved c = record {
  so = filling_next (state_of c.args.mem.now) (state_of c.put_lines.new.mem) c.args.to c.args.pages.now c.filling.page-index c.page-item.result c.page-item.result c.filling-test.true c.page-item.is
      (filling_more (state_of c.args.mem.now) (state_of c.filling.mem) (state_of c.put_lines.new.mem) c.args.to c.args.pages.now _ _ c.page-item.result
      (filling_at (state_of c.args.mem.now) (state_of c.filling.mem) c.args.to c.args.pages.now c.filling.page-index c.page-item.result c.page-item.result c.filling-test.true c.page-item.is
      c.filling.invariant.so) c.put_lines.ensures.put);
  lists = c.put_lines.ensures.translations ∙ c.filling.invariant.lists;
}

pub returns-clause-put : goal.returns-clause-put
returns-clause-put c =
    filling_end (state_of c.args.mem.now) (state_of c.filling.mem) c.args.to c.args.pages.now c.filling.page-index c.filling-test.false c.filling.invariant.so
