use Rattle.std.proofs.Common.{refl, ap, ◌∙◌}
use Rattle.overlay_pages.specs.State.{State}
use Rattle.overlay_memory.specs.View.{state_of}
use Rattle.space_maps.specs.Spaces.{cut_space}
use Rattle.delta_spaces.proofs.Added.{added_awaits, added_bare, added_beside, added_room, added_small, added_there, added_unmarked, cut_put, found_built, found_fits, found_needed, there_too, two_spaces}
use Rattle.delta_spaces.proofs.building.build.Goals as goal

pub returns-in-Some-clause-builds : goal.returns-in-Some-clause-builds
returns-in-Some-clause-builds c = record {
  needed_is =
      c.in-Some.ensures.needed_is
      ∙ found_needed (state_of c.args.mem.now) c.args.base c.args.to c.args.d.now c.as_slice-pages.result.now c.units_built-needed.result c.requires.there c.requires.absent c.requires.pages
      c.as_slice-pages.ensures c.units_built-needed.ensures;
  limit_is = c.in-Some.ensures.limit_is;
  over = c.in-Some.ensures.over;
  kept = refl;
}

pub fill_space-requires-clause-there : goal.fill_space-requires-clause-there
fill_space-requires-clause-there c =
    there_too (state_of c.args.mem.now) (state_of c.add_space.new.self) c.args.base c.args.to
    (two_spaces (state_of c.args.mem.now) c.args.base c.args.to c.requires.there c.requires.absent)
    (added_beside (state_of c.args.mem.now) (state_of c.add_space.new.self) c.args.base c.args.to c.requires.there c.requires.absent c.in-Ok.ensures.added) c.requires.there

pub fill_space-requires-clause-none_awaits : goal.fill_space-requires-clause-none_awaits
fill_space-requires-clause-none_awaits c =
    added_awaits (state_of c.args.mem.now) (state_of c.add_space.new.self) c.args.base c.args.to c.requires.there c.requires.absent c.in-Ok.ensures.added c.requires.none_awaits

pub fill_space-requires-clause-unmarked : goal.fill_space-requires-clause-unmarked
fill_space-requires-clause-unmarked c =
    added_unmarked (state_of c.args.mem.now) (state_of c.add_space.new.self) c.args.base c.args.to c.requires.there c.requires.absent c.in-Ok.ensures.added c.requires.unmarked

pub fill_space-requires-clause-small : goal.fill_space-requires-clause-small
fill_space-requires-clause-small c =
    added_small (state_of c.args.mem.now) (state_of c.add_space.new.self) c.args.base c.args.to c.requires.there c.requires.absent c.in-Ok.ensures.added
    (c.is_speculating-small.ensures.small (c.is_speculating-small.ensures.mark ∙ c.requires.unmarked))

pub fill_space-requires-clause-space : goal.fill_space-requires-clause-space
fill_space-requires-clause-space c =
    added_there (state_of c.args.mem.now) (state_of c.add_space.new.self) c.args.base c.args.to c.requires.there c.requires.absent c.in-Ok.ensures.added

pub fill_space-requires-clause-bare : goal.fill_space-requires-clause-bare
fill_space-requires-clause-bare c =
    added_bare (state_of c.args.mem.now) (state_of c.add_space.new.self) c.args.base c.args.to c.requires.there c.requires.absent c.in-Ok.ensures.added

pub fill_space-requires-clause-fits : goal.fill_space-requires-clause-fits
fill_space-requires-clause-fits c =
    added_room (state_of c.args.mem.now) c.args.base c.args.to c.args.d.now c.as_slice-pages.result.now c.units_built-needed.result c.requires.there c.requires.absent c.requires.pages
    c.as_slice-pages.ensures c.units_built-needed.ensures (state_of c.add_space.new.self) c.in-Ok.ensures.added c.in_default.ensures

pub returns-in-Ok-fill_space-clause-builds : goal.returns-in-Ok-fill_space-clause-builds
returns-in-Ok-fill_space-clause-builds c = (
  found_fits (state_of c.args.mem.now) c.args.base c.args.to c.args.d.now c.as_slice-pages.result.now c.units_built-needed.result c.requires.there c.requires.absent c.requires.pages
      c.as_slice-pages.ensures c.units_built-needed.ensures c.in_default.ensures,
  found_built (state_of c.args.mem.now) c.args.base c.args.to c.args.d.now c.as_slice-pages.result.now c.units_built-needed.result c.requires.there c.requires.absent c.requires.pages
      c.as_slice-pages.ensures c.units_built-needed.ensures (state_of c.add_space.new.self) (state_of c.fill_space.new.mem) c.in-Ok.ensures.added c.in-Ok-fill_space.ensures.fills,
)

pub returns-in-Err-fill_space-clause-builds : goal.returns-in-Err-fill_space-clause-builds
returns-in-Err-fill_space-clause-builds c = (
  found_fits (state_of c.args.mem.now) c.args.base c.args.to c.args.d.now c.as_slice-pages.result.now c.units_built-needed.result c.requires.there c.requires.absent c.requires.pages
      c.as_slice-pages.ensures c.units_built-needed.ensures c.in_default.ensures,
  c.in-Err-fill_space.ensures.fills ∙ ap (λ (v : State). cut_space v c.args.to) c.in-Ok.ensures.added ∙ cut_put (state_of c.args.mem.now) c.args.to c.requires.absent,
)

pub returns-in-Err-clause-builds : goal.returns-in-Err-clause-builds
returns-in-Err-clause-builds c = (
  found_fits (state_of c.args.mem.now) c.args.base c.args.to c.args.d.now c.as_slice-pages.result.now c.units_built-needed.result c.requires.there c.requires.absent c.requires.pages
      c.as_slice-pages.ensures c.units_built-needed.ensures c.in_default.ensures,
  ap state_of c.in-Err.ensures.kept,
)
