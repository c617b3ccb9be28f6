use Rattle.std.proofs.Common.{◌≤◌, sym, subst, ◌∙◌, ap, refl}
use Rattle.overlay_pages.specs.State.{State}
use Rattle.overlay_pages.specs.Changes.{limit_of}
use Rattle.overlay_memory.specs.View.{state_of}
use Rattle.space_maps.specs.Spaces.{bare_space, cut_space}
use Rattle.fork_checkpoint.specs.Copied.{with_copy}
use Rattle.fork_checkpoint.proofs.Shares.{HasAdded, cut_put, fits_before, has_added, has_forked, needed_is, two_spaces}
use Rattle.fork_checkpoint.proofs.forking.fork_space.Goals as goal

pub units_copied-needed-requires-clause-few : goal.units_copied-needed-requires-clause-few
units_copied-needed-requires-clause-few c = subst (λ n. n ≤ limit_of (state_of c.args.mem.now)) (sym c.units-units.ensures.sum) c.units-units.ensures.fits

pub returns-in-Some-clause-copies : goal.returns-in-Some-clause-copies
returns-in-Some-clause-copies c = record {
  needed_is =
      c.in-Some.ensures.needed_is
      ∙ needed_is (state_of c.args.mem.now) c.args.from c.args.to c.units_copied-needed.result c.units-units.result c.requires.there c.requires.absent
      c.units-units.ensures.sum c.units_copied-needed.ensures.sum;
  limit_is = c.in-Some.ensures.limit_is;
  over = c.in-Some.ensures.over;
  kept = refl;
}

abbrev added : (c : goal.After-fill_space-arg-1) → HasAdded (state_of c.args.mem.now) (state_of c.add_space.new.self) c.args.from c.args.to
added c =
    has_added (state_of c.args.mem.now) (state_of c.add_space.new.self) c.args.from c.args.to
    (two_spaces (state_of c.args.mem.now) c.args.from c.args.to c.requires.there c.requires.absent) c.in-Ok.ensures.added

pub fill_space-requires-clause-differ : goal.fill_space-requires-clause-differ
fill_space-requires-clause-differ c = two_spaces (state_of c.args.mem.now) c.args.from c.args.to c.requires.there c.requires.absent

pub fill_space-requires-clause-there : goal.fill_space-requires-clause-there
fill_space-requires-clause-there c = (added c).beside.there c.requires.there

pub fill_space-requires-clause-unmarked : goal.fill_space-requires-clause-unmarked
fill_space-requires-clause-unmarked c = (added c).beside.unmarked c.requires.unmarked

pub fill_space-requires-clause-none_awaits : goal.fill_space-requires-clause-none_awaits
fill_space-requires-clause-none_awaits c = (added c).beside.none_awaits c.requires.none_awaits

pub fill_space-requires-clause-space : goal.fill_space-requires-clause-space
fill_space-requires-clause-space c = (added c).beside.space

pub fill_space-requires-clause-bare : goal.fill_space-requires-clause-bare
fill_space-requires-clause-bare c = (added c).bare

pub fill_space-requires-clause-low : goal.fill_space-requires-clause-low
fill_space-requires-clause-low c = (added c).beside.low c.units_copied-needed.ensures.low

pub fill_space-requires-clause-fits : goal.fill_space-requires-clause-fits
fill_space-requires-clause-fits c =
    (added c).beside.fits
    (fits_before (state_of c.args.mem.now) c.args.from c.args.to c.units_copied-needed.result c.units-units.result c.requires.there c.requires.absent
    c.units-units.ensures.sum c.units_copied-needed.ensures.sum c.in_default.ensures)

pub returns-in-Ok-fill_space-clause-copies : goal.returns-in-Ok-fill_space-clause-copies
returns-in-Ok-fill_space-clause-copies c = (
  fits_before (state_of c.args.mem.now) c.args.from c.args.to c.units_copied-needed.result c.units-units.result c.requires.there c.requires.absent
      c.units-units.ensures.sum c.units_copied-needed.ensures.sum c.in_default.ensures,
  has_forked (state_of c.args.mem.now) (state_of c.fill_space.new.mem) c.args.from c.args.to
      (two_spaces (state_of c.args.mem.now) c.args.from c.args.to c.requires.there c.requires.absent)
      (c.in-Ok-fill_space.ensures.fills ∙ ap (λ (v : State). with_copy v c.args.from c.args.to) c.in-Ok.ensures.added),
)

pub returns-in-Err-fill_space-clause-copies : goal.returns-in-Err-fill_space-clause-copies
returns-in-Err-fill_space-clause-copies c = (
  fits_before (state_of c.args.mem.now) c.args.from c.args.to c.units_copied-needed.result c.units-units.result c.requires.there c.requires.absent
      c.units-units.ensures.sum c.units_copied-needed.ensures.sum c.in_default.ensures,
  c.in-Err-fill_space.ensures.fills ∙ ap (λ (v : State). cut_space v c.args.to) c.in-Ok.ensures.added
      ∙ cut_put (state_of c.args.mem.now) c.args.to bare_space c.requires.absent,
)

pub returns-in-Err-clause-copies : goal.returns-in-Err-clause-copies
returns-in-Err-clause-copies c = (
  fits_before (state_of c.args.mem.now) c.args.from c.args.to c.units_copied-needed.result c.units-units.result c.requires.there c.requires.absent
      c.units-units.ensures.sum c.units_copied-needed.ensures.sum c.in_default.ensures,
  ap state_of c.in-Err.ensures.kept,
)
