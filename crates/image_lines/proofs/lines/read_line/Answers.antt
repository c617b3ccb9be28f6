use Rattle.std.proofs.Common.{◌≡◌, length, inl, inr, rules, arith}
use Rattle.image_lines.proofs.DigitPairs.{line_found, no_end, no_word, wrong_count}
use Rattle.image_lines.proofs.lines.read_line.Goals as goal

pub returns-in-None : goal.returns-in-None
returns-in-None c = no_word c.args.out.now.items c.args.out.now.items c.args.text.now c.in-None.ensures

pub returns-in-None-behind_end : goal.returns-in-None-behind_end
returns-in-None-behind_end c =
    no_end c.args.out.now.items c.read_bytes.new.out.items c.args.text.now c.in-Some.digits.now c.in_ok-rest-in-Some.rest.now c.in-Some.ensures
    c.in_ok-rest-in-Some.ensures c.in-None-behind_end.ensures

pub returns-then-len-start : goal.returns-then-len-start
returns-then-len-start c =
    let before : c.len-start.result ≡ length c.args.out.now.items = search rules in
    let now : c.len.result ≡ length c.read_bytes.new.out.items = search rules in
    wrong_count c.args.out.now.items c.read_bytes.new.out.items c.args.text.now c.in-Some.digits.now c.in_ok-rest-in-Some.rest.now c.in-Some.ensures
    c.in_ok-rest-in-Some.ensures (inl (omega (arith, before, now, c.if-len-start.true)))

pub returns-then-len-start-gt-LINE_BYTES : goal.returns-then-len-start-gt-LINE_BYTES
returns-then-len-start-gt-LINE_BYTES c =
    let before : c.len-start.result ≡ length c.args.out.now.items = search rules in
    let now : c.len-in-Some-behind_end.result ≡ length c.read_bytes.new.out.items = search rules in
    wrong_count c.args.out.now.items c.read_bytes.new.out.items c.args.text.now c.in-Some.digits.now c.in_ok-rest-in-Some.rest.now c.in-Some.ensures
    c.in_ok-rest-in-Some.ensures (inr (omega (arith, before, now, c.if-len-start-gt-LINE_BYTES.true)))

pub returns-else-len-start-gt-LINE_BYTES : goal.returns-else-len-start-gt-LINE_BYTES
returns-else-len-start-gt-LINE_BYTES c =
    let before : c.len-start.result ≡ length c.args.out.now.items = search rules in
    let first : c.len.result ≡ length c.read_bytes.new.out.items = search rules in
    let now : c.len-in-Some-behind_end.result ≡ length c.read_bytes.new.out.items = search rules in
    line_found c.args.out.now.items c.read_bytes.new.out.items c.args.text.now c.in-Some.digits.now c.in_ok-rest-in-Some.rest.now c.in-Some-behind_end.after.now
    c.in-Some.ensures c.in_ok-rest-in-Some.ensures c.in-Some-behind_end.ensures (λ e. omega (arith, before, first, e, c.if-len-start.false))
    (omega (arith, before, now, c.if-len-start-gt-LINE_BYTES.false))
