use Rattle.std.proofs.Common.{arith, length, ◌-◌, eqb-true, get_or, ◌==◌}
use Rattle.std.proofs.lemmas.Bool.{false_from_ne_true}
use Rattle.script_text.proofs.Cuts.{return_dropped, line_kept}
use Rattle.asm_lines.proofs.lines.without_return.Goals as goal

pub returns-then-line-n-eq13 : goal.returns-then-line-n-eq13
returns-then-line-n-eq13 c = return_dropped c.args.line.now (length c.args.line.now - 1) (omega (arith, c.if-n-eq0.false)) c.if-line-n-eq13.true

pub returns-else-line-n-eq13 : goal.returns-else-line-n-eq13
returns-else-line-n-eq13 c =
    let last = get_or c.args.line.now (length c.args.line.now - 1) 0 in
    line_kept c.args.line.now (length c.args.line.now - 1) (omega (arith, c.if-n-eq0.false)) (false_from_ne_true (last == 13) (λ h. c.if-line-n-eq13.false (eqb-true last 13 h)))
