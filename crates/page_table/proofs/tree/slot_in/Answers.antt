use Rattle.std.proofs.Common.{ℕ, ◌+◌, ◌*◌, ◌%◌, Some, ap, arith, sym, ◌∙◌}
use Rattle.page_table.proofs.Trees.{slot_has, slot_low, slot_none}
use Rattle.page_table.specs.Nodes.{slot_in}
use Rattle.page_table.proofs.tree.slot_in.Goals as goal

pub returns-then-page-ge-TABLE_END : goal.returns-then-page-ge-TABLE_END
returns-then-page-ge-TABLE_END c = sym (slot_none c.args.links.now.children c.args.page (omega (arith, c.if-page-ge-TABLE_END.true)))

pub returns-in-Some : goal.returns-in-Some
returns-in-Some c =
    ap (λ (n : ℕ). Some (512 * n + c.args.page % 512)) c.from.ensures
    ∙ sym (slot_has c.args.links.now.children c.args.page c.in-Some.leaf c.if-page-ge-TABLE_END.false (sym c.leaf_in.ensures ∙ c.in-Some.is))

pub returns-in-None : goal.returns-in-None
returns-in-None c =
    sym (slot_low c.args.links.now.children c.args.page c.if-page-ge-TABLE_END.false
    ∙ ap (λ o. slot_in o (c.args.page % 512)) (sym c.leaf_in.ensures ∙ c.in-None.is))
