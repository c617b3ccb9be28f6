use Rattle.std.proofs.Common.{◌∙◌}
use Rattle.overlay_memory.specs.View.{state_of}
use Rattle.delta_spaces.proofs.Added.{can_fill, can_map, cut_same, space_there}
use Rattle.delta_spaces.proofs.building.fill_space.Goals as goal

pub map_pages-requires-clause-ready : goal.map_pages-requires-clause-ready
map_pages-requires-clause-ready c =
    can_map (state_of c.args.mem.now) (state_of c.begin_space.new.mem) c.args.base c.args.to c.args.pages.now c.requires.differ c.requires.bare c.in-Ok.ensures.begins c.requires.pages c.requires.few

pub put_pages-requires : goal.put_pages-requires
put_pages-requires c = record {
  ready = can_fill (state_of c.args.mem.now) (state_of c.map_pages.new.mem) c.args.base c.args.to c.args.pages.now c.requires.differ c.requires.bare c.requires.small
      (c.in-Ok-map_pages.ensures.begun
      (can_map (state_of c.args.mem.now) (state_of c.begin_space.new.mem) c.args.base c.args.to c.args.pages.now c.requires.differ c.requires.bare c.in-Ok.ensures.begins c.requires.pages
      c.requires.few)) c.map_pages.ensures.awaiting c.requires.pages c.requires.fits;
}

pub drop_space-requires-clause-there : goal.drop_space-requires-clause-there
drop_space-requires-clause-there c =
    space_there (state_of c.args.mem.now) (state_of c.map_pages.new.mem) c.args.to
    (c.map_pages.ensures.beside
    (can_map (state_of c.args.mem.now) (state_of c.begin_space.new.mem) c.args.base c.args.to c.args.pages.now c.requires.differ c.requires.bare c.in-Ok.ensures.begins c.requires.pages
    c.requires.few))

pub returns-in-Ok-map_pages-clause-fills : goal.returns-in-Ok-map_pages-clause-fills
returns-in-Ok-map_pages-clause-fills c =
    c.put_pages.ensures.put
    (can_fill (state_of c.args.mem.now) (state_of c.map_pages.new.mem) c.args.base c.args.to c.args.pages.now c.requires.differ c.requires.bare c.requires.small
    (c.in-Ok-map_pages.ensures.begun
    (can_map (state_of c.args.mem.now) (state_of c.begin_space.new.mem) c.args.base c.args.to c.args.pages.now c.requires.differ c.requires.bare c.in-Ok.ensures.begins c.requires.pages
    c.requires.few)) c.map_pages.ensures.awaiting c.requires.pages c.requires.fits)

pub returns-in-Err-map_pages-clause-fills : goal.returns-in-Err-map_pages-clause-fills
returns-in-Err-map_pages-clause-fills c =
    c.drop_space.ensures.state
    ∙ cut_same (state_of c.args.mem.now) (state_of c.map_pages.new.mem) c.args.to
    (c.map_pages.ensures.beside
    (can_map (state_of c.args.mem.now) (state_of c.begin_space.new.mem) c.args.base c.args.to c.args.pages.now c.requires.differ c.requires.bare c.in-Ok.ensures.begins c.requires.pages
    c.requires.few))
