use Rattle.std.proofs.Common.{ℕ, ◌≤◌, ◌*◌, arith}
use Rattle.script_text.specs.Numbers.{is_decimal}
use Rattle.script_text.proofs.Values.{too_high}
use Rattle.asm_lines.proofs.numbers.natural.Goals as goal

pub returns-then-n-d : goal.returns-then-n-d
returns-then-n-d c =
    let grows : (m : ℕ) → m ≤ 10 * m = λ m. omega arith in
    too_high 10 4294967295 is_decimal c.args.digits.now c.loop-b.b-index c.loop-b.n grows c.loop-b-test.true c.loop-b.invariant.value
    (omega (arith, c.if-n-d.true, c.from-d.ensures, c.decimal_digit.ensures.value, c.decimal_digit.ensures.small))
