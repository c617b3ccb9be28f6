use Rattle.std.proofs.Common.{ℕ, ◌+◌, ◌*◌, ap, ◌∙◌}
use Rattle.std.specs.FinMap.{get}
use Rattle.page_table.proofs.tree.child_in.Goals as goal

pub returns : goal.returns
returns c = c.get.ensures ∙ ap (λ (n : ℕ). get c.args.links.now.children (512 * n + c.args.digit)) c.from.ensures
