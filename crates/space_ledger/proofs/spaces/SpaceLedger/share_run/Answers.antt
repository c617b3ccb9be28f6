use Rattle.space_ledger.proofs.Common.{◌+◌, sym, ap, subst, ◌∙◌, arith}
use Rattle.space_ledger.proofs.Pages.{IsRunFrom}
use Rattle.space_ledger.proofs.Views.{AreBareBelow, IsBooked, LedgerView, holds_space, space_in}
use Rattle.space_ledger.proofs.Sharing.{SharesRun, few_at, run_books, run_fits}
use Rattle.space_ledger.proofs.spaces.SpaceLedger.share_run.Goals as goal
use Rattle.space_ledger.proofs.spaces.SpaceLedger.share_run.Goals.{After-zero-zero}

known : (c : After-zero-zero) → SharesRun c.self.inside.tables c.self.inside.pool c.self.inside.units c.self.inside.lines c.args.from c.args.to c.args.run.now
known c = record {
  kept = c.self.invariant;
  sound = c.zero-zero.ensures.sound;
  has = ap (λ (v : LedgerView). holds_space v c.args.to) c.self.view_is ∙ c.requires.space;
  first = subst (λ (v : LedgerView). IsRunFrom (space_in v c.args.to).awaiting 0 c.args.run.now) (sym c.self.view_is) c.requires.first;
  bare = subst (λ (v : LedgerView). AreBareBelow v c.args.from c.args.to (c.args.run.now.page + c.args.run.now.n)) (sym c.self.view_is) c.requires.bare;
}

pub hold_run-requires-clause-few : goal.hold_run-requires-clause-few
hold_run-requires-clause-few c = few_at (known (goal.at.hold_run-requires-clause-few c).After-zero-zero) c.share_run.ensures.apart c.zero-zero.result c.zero-zero.ensures.zero

pub overflow_add-self : goal.overflow_add-self
overflow_add-self c =
    let fits = run_fits (known (goal.at.overflow_add-self c).After-zero-zero) c.share_run.ensures.apart c.zero-zero.result c.zero-zero.ensures.zero c.hold_run.result c.hold_run.ensures.units in omega (arith, fits)

pub invariant_of-self : goal.invariant_of-self
invariant_of-self c =
    subst (λ (v : LedgerView). IsBooked v c.hold_run.new.pool (c.self.inside.units + c.hold_run.result) c.self.inside.lines) (sym c.share_run.ensures.shared)
    (run_books (known (goal.at.invariant_of-self c).After-zero-zero) c.share_run.ensures.apart c.zero-zero.result c.zero-zero.ensures.zero c.hold_run.new.pool c.hold_run.result c.hold_run.ensures.held c.hold_run.ensures.units)
