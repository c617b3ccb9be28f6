use Rattle.std.proofs.Common.{arith, ℕ, ◌≡◌, ◌+◌, ◌*◌, None, ap, sym, ◌∙◌}
use Rattle.std.specs.FinMap.{get, insert}
use Rattle.page_table.specs.Nodes.{slot}
use Rattle.page_table.proofs.Few.{tree_few}
use Rattle.page_table.proofs.Trees.{child_made, child_there}
use Rattle.page_table.proofs.tree.make_child.Goals as goal
use Rattle.page_table.proofs.tree.make_child.Goals.{In-None}

pub returns-in-Some-clause-made : goal.returns-in-Some-clause-made
returns-in-Some-clause-made c =
    child_there c.args.links.now.children c.args.node c.args.digit c.in-Some.child c.requires.tree
    (ap (λ (n : ℕ). get c.args.links.now.children (512 * n + c.args.digit)) (sym c.from.ensures) ∙ sym c.get.ensures ∙ c.in-Some.is)

free : (c : In-None) → get c.args.links.now.children (slot c.args.node c.args.digit) ≡ None
free c = ap (λ (n : ℕ). get c.args.links.now.children (512 * n + c.args.digit)) (sym c.from.ensures) ∙ sym c.get.ensures ∙ c.in-None.is

pub returns-in-None-clause-made : goal.returns-in-None-clause-made
returns-in-None-clause-made c =
    let here = (goal.at.returns-in-None-clause-made c).In-None in
    child_made c.args.links.now.children c.insert.new.self.children c.args.node c.args.digit (c.len.result + 1) c.requires.tree c.requires.upper
    c.requires.node c.requires.digit (free here) (ap (λ (n : ℕ). n + 1) c.len.ensures)
    (c.insert.ensures.children ∙ ap (λ (n : ℕ). insert c.args.links.now.children (512 * n + c.args.digit) (c.len.result + 1)) c.from.ensures)

pub insert-requires-clause-free : goal.insert-requires-clause-free
insert-requires-clause-free c = sym c.get.ensures ∙ c.in-None.is

pub overflow_cast-child : goal.overflow_cast-child
overflow_cast-child c = omega (arith, c.len.ensures, tree_few c.args.links.now.children c.requires.tree)

pub overflow_add-child : goal.overflow_add-child
overflow_add-child c = omega (arith, c.len.ensures, tree_few c.args.links.now.children c.requires.tree)
