use Rattle.space_ledger.proofs.Common.{ℕ, List, ap, arith, length, ◌∙◌}
use Rattle.space_ledger.proofs.Views.{class}
use Rattle.space_ledger.proofs.Rises.{rises_by}
use Rattle.space_ledger.proofs.spaces.rise_of.Goals as goal

pub overflow_sub-result : goal.overflow_sub-result
overflow_sub-result c =
    let grows = rises_by c.args.own c.args.lines c.union-joined.ensures.before.0 c.union-joined.ensures.before.1 in
    let before = c.class_of-before.ensures ∙ ap class c.len.ensures.count in
    let after = c.class_of-after.ensures ∙ ap class c.len-2.ensures.count ∙ ap (λ (l : List ℕ). class (length l)) c.union-joined.ensures.lines in
    omega (arith, grows, before, after)
