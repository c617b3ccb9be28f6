use Rattle.space_ledger.proofs.Common.{ℕ, ◌<◌, ◌-◌, ◌+◌, ◌==◌, cond, Some, None, option_and_then, sym, ap, subst, ◌∙◌}
use Rattle.space_ledger.proofs.Views.{page_in, space_in, LedgerView, IsBooked, IsFreeFor, given_up}
use Rattle.space_ledger.proofs.LedgerCalls.{Framed, entry_is_frame, entry_known, framed_call}
use Rattle.space_ledger.proofs.spaces.SpaceLedger.replace_frame.Goals as goal
use Rattle.space_ledger.proofs.spaces.SpaceLedger.replace_frame.Goals.{After-hold-added}

-- what is kept beside the tables once the other frame is held
framed : (c : After-hold-added) → Framed c.self.inside.tables c.hold-added.new.pool c.self.inside.units c.self.inside.lines c.args.space c.args.page c.args.frame c.release-freed.result c.hold-added.result c.args.old.frame
framed c =
    framed_call c.self.invariant c.args.space c.args.page c.zero-zero.result c.release-freed.result c.args.old c.zero-zero.ensures.zero (entry_known c.self.inside.tables _ c.args.space c.args.page c.args.old c.self.view_is c.requires.there)
    c.release-freed.ensures.released c.release-freed.ensures.units c.zero-zero.ensures.sound c.args.frame
    (subst (λ (v : LedgerView). c.args.frame < v.frames) (sym c.self.view_is) c.requires.inside)
    c.hold-added.ensures.held c.hold-added.ensures.units
    (ap (λ (v : LedgerView). (space_in v c.args.space).awaiting) c.self.view_is ∙ c.requires.none_awaits) (subst (λ (v : LedgerView). IsFreeFor v c.args.space c.args.page c.args.frame) (sym c.self.view_is) c.requires.free)

pub overflow_sub-self : goal.overflow_sub-self
overflow_sub-self c = (framed (goal.at.overflow_sub-self c).After-hold-added).fits

pub invariant_of-self : goal.invariant_of-self
invariant_of-self c =
    subst (λ v. IsBooked v c.hold-added.new.pool (c.self.inside.units - c.release-freed.result + c.hold-added.result) c.self.inside.lines)
    (sym (c.set_entry.ensures ∙ entry_is_frame c.self.inside.tables c.args.space c.args.page c.args.frame c.args.old (entry_known c.self.inside.tables _ c.args.space c.args.page c.args.old c.self.view_is c.requires.there))) (framed (goal.at.invariant_of-self c).After-hold-added).books

pub returns-clause-freed : goal.returns-clause-freed
returns-clause-freed c =
    c.other_frame.ensures ∙ ap (option_and_then (λ (k : ℕ). cond (c.args.frame == k) None (Some k))) c.freed_frame.ensures ∙ (framed (goal.at.returns-clause-freed c).After-hold-added).answer
    ∙ ap (λ v. given_up v (page_in c.self.inside.tables c.args.space c.args.page))
    (sym (c.set_entry.ensures ∙ entry_is_frame c.self.inside.tables c.args.space c.args.page c.args.frame c.args.old (entry_known c.self.inside.tables _ c.args.space c.args.page c.args.old c.self.view_is c.requires.there)))
    ∙ ap (λ (v : LedgerView). given_up c.set_entry.new.self (page_in v c.args.space c.args.page)) c.self.view_is
