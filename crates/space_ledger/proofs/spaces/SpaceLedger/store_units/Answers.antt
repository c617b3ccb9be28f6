use Rattle.space_ledger.proofs.Common.{sym, ap, subst, ◌∙◌, ◌≡◌, ◌+◌, ◌-◌, ◌&&◌, not, cond, length, [], ◌∷◌, is_some}
use Rattle.space_ledger.proofs.Views.{is_alone, class, units, Store, ledger_after, page_in, space_in, LedgerView, ledger_of, lines_of, RisesBeside}
use Rattle.overlay_bits.specs.Lines.{with_lines}
use Rattle.space_ledger.proofs.Rises.{Rises, rises}
use Rattle.space_ledger.proofs.spaces.SpaceLedger.store_units.Goals as goal
use Rattle.space_ledger.proofs.spaces.SpaceLedger.store_units.Goals.{After-rise_of}

rising : (c : After-rise_of) → Rises c.self.inside.tables c.args.space c.args.page c.args.lines (space_in c.self.inside.tables c.args.space).speculating c.rise_of.result
rising c =
    rises c.self.inside.tables c.args.space c.args.page c.args.lines c.bits_of-own.result (space_in c.self.inside.tables c.args.space).speculating c.is_alone-is_alone.result c.rise_of.result
    (c.self.invariant.apart c.args.space)
    (ap (λ (v : LedgerView). is_some (page_in v c.args.space c.args.page)) c.self.view_is ∙ c.requires)
    (c.bits_of-own.ensures ∙ ap lines_of c.overlay.ensures.overlay)
    (c.is_alone-is_alone.ensures ∙ ap (λ (v : LedgerView). is_alone (ledger_of v) c.args.space c.args.page) (sym c.self.view_is))
    c.rise_of.ensures.are.0 c.rise_of.ensures.are.1
    (c.rise_of.ensures.rise
    ∙ ap (λ b. cond (not b && c.is_alone-is_alone.result) 0 (class (length (with_lines c.bits_of-own.result c.args.lines)) - class (length c.bits_of-own.result)))
    (c.is_speculating-is_speculating.ensures ∙ ap (λ (v : LedgerView). (space_in v c.args.space).speculating) (sym c.self.view_is)))

pub returns-clause-rise : goal.returns-clause-rise
returns-clause-rise c =
    subst (λ (v : LedgerView). units (ledger_after (Store (space_in v c.args.space).speculating c.args.space ((c.args.page, c.args.lines) ∷ [])) (ledger_of v)) ≡ units (ledger_of v) + c.rise_of.result) c.self.view_is
    (rising (goal.at.returns-clause-rise c).After-rise_of).one

pub returns-clause-both : goal.returns-clause-both
returns-clause-both c =
    subst (λ (v : LedgerView). RisesBeside v c.args.space c.args.page c.args.lines c.rise_of.result) c.self.view_is (rising (goal.at.returns-clause-both c).After-rise_of).both
