use Rattle.std.proofs.lemmas.List.Elements.{same_from_all_zip}
use Rattle.std.proofs.lemmas.Result.{IfOk-weaker}
use Rattle.decoded_lines.proofs.lines.lines_alike.Goals as goal

-- a clone of a line is that line
pub returns : goal.returns
returns c =
    IfOk-weaker c.vec.result _ _ (λ lines all. all (λ y clone. same_from_all_zip _ c.args.line y clone.whole (λ a b same. same)))
    c.vec.ensures.items_if_clones_equal
