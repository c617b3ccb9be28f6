use Rattle.std.proofs.Common.{◌≡◌, ◌<◌, length, sym, ap, ◌∙◌, rules, arith, length-append}
use Rattle.std.proofs.lemmas.Bool.{eqb-false, eqb-true}
use Rattle.std.proofs.lemmas.List.{nil_from_length}
use Rattle.image_lines.proofs.LineRuns.{all_lines, bad_short, gets_shorter, more_lines, no_lines, number_fits}
use Rattle.image_lines.proofs.lines.lines_of.Goals as goal

pub lines-init : goal.lines-init
lines-init c = no_lines c.args.file.now _ c.in_ok-out.ensures.items

pub returns-then-is_empty : goal.returns-then-is_empty
returns-then-is_empty c =
    let found = rw c.in-Some.is at c.in_ok-read_line.ensures in
    all_lines c.args.file.now c.lines.out.items c.read_line.new.out.items c.lines.rest.now c.in-Some.after.now c.lines.line c.lines.invariant found.0 found.1 found.2 found.3
    (nil_from_length c.in-Some.after.now (eqb-true (length c.in-Some.after.now) 0 (sym c.is_empty.ensures ∙ c.if-is_empty.true)))

pub returns-then-len-start-lt-LINE_BYTES : goal.returns-then-len-start-lt-LINE_BYTES
returns-then-len-start-lt-LINE_BYTES c =
    let found = rw c.in-Some.is at c.in_ok-read_line.ensures in
    let some = eqb-false (length c.in-Some.after.now) 0 (sym c.is_empty.ensures ∙ c.if-is_empty.false) in
    let before : c.len-start.result ≡ length c.lines.out.items = search rules in
    let now : c.len.result ≡ length c.read_line.new.out.items = search rules in
    bad_short c.args.file.now c.lines.out.items c.lines.rest.now c.in-Some.after.now c.lines.line c.lines.invariant found.0 found.1 found.3 (omega (arith, some))
    (omega (arith, before, now, ap length found.2, length-append c.lines.out.items found.0, c.if-len-start-lt-LINE_BYTES.true))

pub overflow_add-line : goal.overflow_add-line
overflow_add-line c = omega (arith, number_fits c.args.file.now c.lines.out.items c.lines.rest.now c.lines.line c.lines.invariant, c.requires)

pub lines-preserved : goal.lines-preserved
lines-preserved c =
    let found = rw c.in-Some.is at c.in_ok-read_line.ensures in
    let some = eqb-false (length c.in-Some.after.now) 0 (sym c.is_empty.ensures ∙ c.if-is_empty.false) in
    let before : c.len-start.result ≡ length c.lines.out.items = search rules in
    let now : c.len.result ≡ length c.read_line.new.out.items = search rules in
    more_lines c.args.file.now c.lines.out.items c.read_line.new.out.items c.lines.rest.now c.in-Some.after.now c.lines.line c.lines.invariant found.0 found.1 found.2 found.3
    (omega (arith, some))
    (omega (arith, before, now, ap length found.2, length-append c.lines.out.items found.0, c.if-len-start-lt-LINE_BYTES.false, found.1.few))

pub lines-smaller : goal.lines-smaller
lines-smaller c =
    let found = rw c.in-Some.is at c.in_ok-read_line.ensures in
    let less : length c.in-Some.after.now < length c.lines.rest.now = gets_shorter c.lines.rest.now found.0 c.in-Some.after.now found.3 in
    less
