use Rattle.std.proofs.Common.{arith}
use Rattle.report_text.proofs.Places.{fewer, one_digit_more}
use Rattle.report_text.proofs.push.+push_digits.Goals as goal

pub push_digits-requires : goal.push_digits-requires
push_digits-requires t c =
    let f = fewer c.args.n c.args.places c.requires.small c.if-n-gt0.true in
    (omega arith, (f.1, omega (arith, f.0, c.requires.room)))

pub returns-then-n-gt0-clause-text : goal.returns-then-n-gt0-clause-text
returns-then-n-gt0-clause-text t c =
    one_digit_more c.args.line.now.items c.push_digits.new.line.items c.push.new.self.items c.args.n c.hex_digit.result c.if-n-gt0.true
    c.push_digits.ensures.text c.hex_digit.ensures c.push.ensures.items
