use Rattle.space_ledger.proofs.Common.{◌+◌, ◌-◌, sym, ap, subst, ◌∙◌}
use Rattle.space_ledger.proofs.Views.{holds_space, units, LedgerView, ledger_of, GivesNothingUp, GivesUpAtLast, IsBareRun, IsBooked}
use Rattle.space_ledger.proofs.RunRemoved.{AreFreed, run_removed}
use Rattle.space_ledger.proofs.spaces.SpaceLedger.remove_run.Goals as goal
use Rattle.space_ledger.proofs.spaces.SpaceLedger.remove_run.Goals.{After-release_run-freed}

-- what is kept beside the tables once the pages of the run went
freed : (c : After-release_run-freed)
    → AreFreed c.self.inside.tables c.self.inside.units c.self.inside.lines c.args.space c.args.run.now c.release_run-freed.new.pool c.release_run-freed.result
freed c =
    run_removed c.self.inside.tables c.self.inside.pool c.self.inside.units c.self.inside.lines c.self.invariant c.args.space c.args.run.now
    (ap (λ (v : LedgerView). holds_space v c.args.space) c.self.view_is ∙ c.requires.there)
    (subst (λ (v : LedgerView). IsBareRun v c.args.space c.args.run.now) (sym c.self.view_is) c.requires.bare)
    c.zero-zero.result c.release_run-freed.new.pool c.release_run-freed.result c.zero-zero.ensures.zero c.release_run-freed.ensures.released c.release_run-freed.ensures.units

pub overflow_sub-self : goal.overflow_sub-self
overflow_sub-self c = (freed c).fits

pub invariant_of-self : goal.invariant_of-self
invariant_of-self c =
    subst (λ (v : LedgerView). IsBooked v c.release_run-freed.new.pool (c.self.inside.units - c.release_run-freed.result) c.self.inside.lines) (sym c.remove_pages.ensures) (freed (goal.at.invariant_of-self c).After-release_run-freed).booked

pub returns-clause-given : goal.returns-clause-given
returns-clause-given c =
    subst (λ (v : LedgerView). GivesUpAtLast v c.remove_pages.new.self c.args.space c.args.run.now) c.self.view_is
    (subst (λ (v : LedgerView). GivesUpAtLast c.self.inside.tables v c.args.space c.args.run.now) (sym c.remove_pages.ensures) (freed (goal.at.returns-clause-given c).After-release_run-freed).given)

pub returns-clause-none : goal.returns-clause-none
returns-clause-none c none =
    subst (λ (v : LedgerView). GivesNothingUp v c.remove_pages.new.self c.args.space c.args.run.now) c.self.view_is
    (subst (λ (v : LedgerView). GivesNothingUp c.self.inside.tables v c.args.space c.args.run.now) (sym c.remove_pages.ensures) ((freed (goal.at.returns-clause-none c).After-release_run-freed).nothing none))

pub returns-clause-freed : goal.returns-clause-freed
returns-clause-freed c =
    ap (λ (v : LedgerView). units (ledger_of v)) (sym c.self.view_is) ∙ (freed (goal.at.returns-clause-freed c).After-release_run-freed).count
    ∙ ap (λ (v : LedgerView). units (ledger_of v) + c.release_run-freed.result) (sym c.remove_pages.ensures)
