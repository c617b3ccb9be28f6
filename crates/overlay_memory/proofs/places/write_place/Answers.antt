use Rattle.std.proofs.Common.{refl, ◌∙◌, arith}
use Rattle.overlay_memory.proofs.Placing.{write_known}
use Rattle.overlay_memory.proofs.places.write_place.Goals as goal

pub returns-then-at-clause-place : goal.returns-then-at-clause-place
returns-then-at-clause-place c =
    write_known c.args.pages.now c.args.space c.args.address c.in-Some.known.now c.args.fronts.now c.requires.fronts.t c.requires.fronts.are c.in-Some.ensures
    (omega (arith, c.ranges.address.fits)) c.from.result _ (c.from.ensures ∙ c.line_of.ensures.line) refl
