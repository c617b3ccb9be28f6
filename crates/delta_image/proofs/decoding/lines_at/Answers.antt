use Rattle.std.proofs.Common.{◌<◌, ap, length, refl, arith}
use Rattle.std.specs.Int.{trailing_zeros, w64}
use Rattle.overlay_bits.specs.Kept.{lines_of_word}
use Rattle.delta_image.proofs.Lines.{all_lines, first_bit, read_line, no_line, rest_of, too_short}
use Rattle.delta_image.proofs.decoding.lines_at.Goals as goal

pub lines-init : goal.lines-init
lines-init c = no_line c.args.bytes.now c.args.given _ c.in_ok-lines.ensures.items

pub overflow_cast-line : goal.overflow_cast-line
overflow_cast-line c =
    let some : 0 < c.lines.left = omega (arith, c.lines-test.true) in
    let inside = (first_bit c.lines.left (trailing_zeros w64 c.lines.left) some (omega (arith, c.lines.auto)) refl).0 in
    omega (arith, inside)

pub returns-in-None : goal.returns-in-None
returns-in-None c =
    let line = trailing_zeros w64 c.lines.left in
    let first = first_bit c.lines.left line (omega (arith, c.lines-test.true)) (omega (arith, c.lines.auto)) refl in
    too_short c.args.bytes.now c.args.given c.lines.left line c.lines.lines.items c.lines.rest.now c.lines.invariant first.1 c.in-None.ensures.cases

pub lines-preserved : goal.lines-preserved
lines-preserved c =
    let line = trailing_zeros w64 c.lines.left in
    let first = first_bit c.lines.left line (omega (arith, c.lines-test.true)) (omega (arith, c.lines.auto)) refl in
    let cut = c.in-Some.ensures.cases in
    rw c.in_ok-push-in-Some.ensures.items
    (read_line c.args.bytes.now c.args.given c.lines.left line c.lines.lines.items c.lines.rest.now c.in-Some.text.now c.in-Some.after.now c.lines.invariant first.1
    cut.0 cut.1 (omega (arith, cut.2)))

pub lines-smaller : goal.lines-smaller
lines-smaller c =
    let line = trailing_zeros w64 c.lines.left in
    let first = first_bit c.lines.left line (omega (arith, c.lines-test.true)) (omega (arith, c.lines.auto)) refl in
    let less : length (lines_of_word (rest_of c.lines.left line)) < length (lines_of_word c.lines.left) = omega (arith, ap length first.1) in
    less

pub returns : goal.returns
returns c = rw c.new.ensures (all_lines c.args.bytes.now c.args.given c.lines.left c.lines.lines.items c.lines.rest.now c.lines-test.false c.lines.invariant)
