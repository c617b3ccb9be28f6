use Rattle.std.proofs.Common.{◌<◌, ◌≤◌, ◌-◌, ◌^◌, ap, option_map, Some, arith}
use Rattle.std.specs.Str.Parse.{digits_value, without_leading_plus}
use Rattle.overlay_top.proofs.Numbers.{in_range, out_of_range}
use Rattle.overlay_top.proofs.words.seed_from.Goals as goal

pub returns-in-Ok : goal.returns-in-Ok
returns-in-Ok c =
    let text = c.in-Some.text.now in
    let parsed = c.in-Ok.ensures.value.0 in
    let wide : digits_value 10 (without_leading_plus text) < 2 ^ 64 = omega (arith, parsed.0.1) in
    let some : 0 ≤ digits_value 10 (without_leading_plus text) = omega arith in
    let few : digits_value 10 (without_leading_plus text) ≤ 2 ^ 64 - 1 = omega (arith, parsed.0.1) in
    rw c.in-Some.is (ap (option_map Some) (in_range 0 (2 ^ 64 - 1) c.in-Ok.seed text (parsed.0.0, wide, some, few) parsed.1))

pub returns-in-Err : goal.returns-in-Err
returns-in-Err c =
    let text = c.in-Some.text.now in
    rw c.in-Some.is (ap (option_map Some) (out_of_range 0 (2 ^ 64 - 1) text (λ passes. c.in-Err.ensures.value.0 (passes.0, passes.1))))
