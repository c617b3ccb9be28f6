use Rattle.space_ledger.proofs.Common.{◌≡◌, sym, ap, subst, ◌∙◌, ◌-◌}
use Rattle.space_ledger.proofs.Views.{cut_one, cut_page, page_in, LedgerView, overlay_at, AreBare, IsBooked, given_up}
use Rattle.space_ledger.proofs.LedgerCalls.{Released, removed_call}
use Rattle.space_ledger.proofs.Removing.{bare_one}
use Rattle.space_ledger.proofs.spaces.SpaceLedger.remove_page.Goals as goal
use Rattle.space_ledger.proofs.spaces.SpaceLedger.remove_page.Goals.{After-release-freed}

pub remove_pages-requires-clause-bare : goal.remove_pages-requires-clause-bare
remove_pages-requires-clause-bare c = subst (λ (v : LedgerView). AreBare v c.args.space c.args.page 1) (sym c.self.view_is) (bare_one c.args.self.now c.args.space c.args.page c.requires.there c.requires.bare)

-- the view without the page, and what is kept beside the tables
gone : (c : After-release-freed) → c.remove_pages.new.self ≡ cut_page c.self.inside.tables c.args.space c.args.page
gone c = c.remove_pages.ensures ∙ sym (cut_one c.self.inside.tables c.args.space c.args.page)

released : (c : After-release-freed) → Released c.self.inside.tables c.release-freed.new.pool c.self.inside.units c.self.inside.lines c.args.space c.args.page c.release-freed.result c.in-Some.old.frame
released c =
    removed_call c.self.invariant c.args.space c.args.page c.zero-zero.result c.release-freed.result c.in-Some.old c.zero-zero.ensures.zero c.in-Some.ensures
    c.release-freed.ensures.released c.release-freed.ensures.units (ap (λ (v : LedgerView). overlay_at v c.args.space c.args.page) c.self.view_is ∙ c.requires.bare)

pub overflow_sub-self : goal.overflow_sub-self
overflow_sub-self c = (released c).fits

pub invariant_of-self : goal.invariant_of-self
invariant_of-self c =
    subst (λ v. IsBooked v c.release-freed.new.pool (c.self.inside.units - c.release-freed.result) c.self.inside.lines) (sym (gone (goal.at.invariant_of-self c).After-release-freed)) (released (goal.at.invariant_of-self c).After-release-freed).books

pub returns-clause-freed : goal.returns-clause-freed
returns-clause-freed c =
    c.freed_frame.ensures ∙ (released (goal.at.returns-clause-freed c).After-release-freed).answer
    ∙ ap (λ v. given_up v (page_in c.self.inside.tables c.args.space c.args.page)) (sym (gone (goal.at.returns-clause-freed c).After-release-freed))
    ∙ ap (λ (v : LedgerView). given_up c.remove_pages.new.self (page_in v c.args.space c.args.page)) c.self.view_is
