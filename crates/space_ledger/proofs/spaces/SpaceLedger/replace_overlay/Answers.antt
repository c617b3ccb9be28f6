use Rattle.space_ledger.proofs.Common.{sym, ap, subst, subst₂, ◌∙◌, arith, ◌+◌, ◌-◌, is_some}
use Rattle.space_ledger.proofs.Views.{page_in, LedgerView, overlay_at, with_overlay, IsBooked}
use Rattle.space_ledger.proofs.LedgerCalls.{Overlaid, overlaid_call}
use Rattle.space_ledger.proofs.spaces.SpaceLedger.replace_overlay.Goals as goal
use Rattle.space_ledger.proofs.spaces.SpaceLedger.replace_overlay.Goals.{After-set_overlay}

-- what is kept beside the tables with the other overlay
overlaid : (c : After-set_overlay) → Overlaid c.self.inside.tables c.self.inside.pool c.self.inside.units c.self.inside.lines c.args.space c.args.page c.lines_in-before.result c.lines_in-after.result c.args.entry
overlaid c =
    overlaid_call c.self.inside.tables c.self.inside.pool c.self.inside.units c.self.inside.lines c.self.invariant c.args.space c.args.page c.lines_in-before.result c.lines_in-after.result
    c.args.overlay c.args.entry (ap (λ (v : LedgerView). is_some (page_in v c.args.space c.args.page)) c.self.view_is ∙ c.requires.there)
    (sym (ap (λ (v : LedgerView). overlay_at v c.args.space c.args.page) c.self.view_is ∙ c.requires.overlay))
    c.lines_in-before.ensures.count c.lines_in-after.ensures.count

pub overflow_sub-self : goal.overflow_sub-self
overflow_sub-self c = omega (arith, (overlaid (goal.at.overflow_sub-self c).After-set_overlay).fits, c.class_of.ensures)

pub overflow_sub-self-2 : goal.overflow_sub-self-2
overflow_sub-self-2 c = (overlaid (goal.at.overflow_sub-self-2 c).After-set_overlay).lines_fit

pub invariant_of-self : goal.invariant_of-self
invariant_of-self c =
    subst (λ v. IsBooked v c.self.inside.pool (c.self.inside.units - c.class_of.result + c.class_of-2.result) (c.self.inside.lines - c.lines_in-before.result + c.lines_in-after.result)) (sym c.set_overlay.ensures.overlay)
    (subst₂ (λ j k. IsBooked (with_overlay c.self.inside.tables c.args.space c.args.page c.args.entry) c.self.inside.pool (c.self.inside.units - j + k) (c.self.inside.lines - c.lines_in-before.result + c.lines_in-after.result))
    (sym c.class_of.ensures) (sym c.class_of-2.ensures) (overlaid (goal.at.invariant_of-self c).After-set_overlay).books)
