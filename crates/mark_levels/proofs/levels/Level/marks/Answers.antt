use Rattle.std.proofs.Common.{◌+◌, ◌*◌, ◌/◌, replicate, sym, subst, arith}
use Rattle.std.proofs.lemmas.Result.{IfOk-weaker}
use Rattle.mark_levels.specs.Levels.{AreMarks}
use Rattle.mark_levels.proofs.Marks.{zero_marks}
use Rattle.mark_levels.proofs.levels.Level.marks.Goals as goal

pub returns : goal.returns
returns c =
    let n = 16 * c.args.groups in
    IfOk-weaker c.new.result _ _ (λ level is. subst (AreMarks (replicate n 0)) (sym is) (zero_marks n (16 * ((c.args.groups + 15) / 16)) (omega arith))) c.new.ensures
