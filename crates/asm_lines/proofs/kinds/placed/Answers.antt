use Rattle.std.proofs.Common.{ap, subst, sym, ◌∙◌, w64, rules}
use Rattle.std.specs.Prelude.{IfSome}
use Rattle.std.proofs.lemmas.Int.{to_z-of_z}
use Rattle.rv_decode.specs.Encodable.{HasImmediate}
use Rattle.asm_lines.specs.Kinds.{placed}
use Rattle.asm_lines.proofs.Soundness.{placed_has}
use Rattle.asm_lines.proofs.kinds.placed.Goals as goal

pub returns-clause-fits : goal.returns-clause-fits
returns-clause-fits c =
    let same = ap (placed c.args.format) (to_z-of_z w64 c.args.n (search rules)) in
    subst (λ o. IfSome o (HasImmediate c.args.format)) (sym (c.scaled.ensures ∙ same)) (placed_has c.args.format c.args.n)
