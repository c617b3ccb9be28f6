use Rattle.std.proofs.Common.{◌/◌, sym, subst, ◌∙◌, arith}
use Rattle.overlay_memory.specs.Fronts.{AreFronts}
use Rattle.overlay_memory.proofs.Fronting.{known_found}
use Rattle.overlay_memory.proofs.Placing.{write_fronts, write_learned}
use Rattle.overlay_memory.proofs.places.learn_write.Goals as goal
use Rattle.overlay_memory.proofs.places.learn_write.Goals.{After-line}
use Rattle.overlay_pages.specs.Spots.{IsFoundAt}

-- the line, found
it : (c : After-line) → IsFoundAt c.args.pages.now c.in-Some.known.now.found.space c.in-Some.known.now.found.page c.line_of-line.result c.line.result
it c =
    c.line.ensures c.args.pages.now
    (known_found c.args.pages.now c.args.space (c.args.address / 4096) c.in-Some.known.now c.requires.fronts.t c.args.fronts.now c.requires.fronts.are c.in-Some.ensures
    (omega (arith, c.ranges.address.fits))).is

pub place_of-at-requires : goal.place_of-at-requires
place_of-at-requires c = record { found = (it (goal.at.place_of-at-requires c).After-line).is }

pub returns-else-not-is_writable-clause-place : goal.returns-else-not-is_writable-clause-place
returns-else-not-is_writable-clause-place c = λ less.
    write_learned c.args.pages.now c.args.space c.args.address c.in-Some.known.now c.args.fronts.now c.requires.fronts.t c.requires.fronts.are c.in-Some.ensures
    (omega (arith, c.ranges.address.fits)) c.line_of-line.result c.place_of-at.result c.line.result c.line_of-line.ensures.line
    (it (goal.at.returns-else-not-is_writable-clause-place c).After-line) c.place_of-at.ensures.place
    (sym (c.contains.ensures tt) ∙ c.if-not-contains.false) (λ v there. sym (c.is_writable.ensures v there) ∙ c.if-not-is_writable.false)

pub returns-else-not-is_writable-clause-fronts : goal.returns-else-not-is_writable-clause-fronts
returns-else-not-is_writable-clause-fronts c = λ t are.
    subst (AreFronts c.args.pages.now t) (sym c.put_write.ensures)
    (write_fronts c.args.pages.now c.args.space c.args.address c.in-Some.known.now c.args.fronts.now c.requires.fronts.t c.requires.fronts.are c.in-Some.ensures
    (omega (arith, c.ranges.address.fits)) c.line_of-line.result c.place_of-at.result c.line.result c.line_of-line.ensures.line
    (it (goal.at.returns-else-not-is_writable-clause-fronts c).After-line) c.place_of-at.ensures.place
    (sym (c.contains.ensures tt) ∙ c.if-not-contains.false) (λ v there. sym (c.is_writable.ensures v there) ∙ c.if-not-is_writable.false) t are)
