use Rattle.std.proofs.Common.{◌<◌, ◌≤◌, ◌^◌, arith}
use Rattle.std.specs.Str.Parse.{digits_value, without_leading_plus}
use Rattle.overlay_top.proofs.Numbers.{in_range, out_of_range}
use Rattle.overlay_top.proofs.words.number.Goals as goal

pub returns-in-Ok-clause-value : goal.returns-in-Ok-clause-value
returns-in-Ok-clause-value c =
    let text = c.in-Some.text.now in
    let parsed = c.in-Ok.ensures.value.0 in
    let wide : digits_value 10 (without_leading_plus text) < 2 ^ 64 = omega (arith, parsed.0.1) in
    let some : 1 ≤ digits_value 10 (without_leading_plus text) = omega (arith, parsed.1, c.if-number-ge1.true) in
    let few : digits_value 10 (without_leading_plus text) ≤ c.args.most = omega (arith, parsed.1, c.if-number-most.true) in
    rw c.in-Some.is (in_range 1 c.args.most c.in-Ok.number text (parsed.0.0, wide, some, few) parsed.1)

pub returns-in_default-3-clause-value : goal.returns-in_default-3-clause-value
returns-in_default-3-clause-value c =
    let text = c.in-Some.text.now in
    rw c.in-Some.is (out_of_range 1 c.args.most text (λ passes.
    let small : digits_value 10 (without_leading_plus text) < 2 ^ 32 = omega (arith, passes.3, c.ranges.most.fits) in
    c.in_default.ensures.value.0 (passes.0, small)))
