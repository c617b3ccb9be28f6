use Rattle.std.proofs.Common.{◌≡◌, ◌+◌, ◌-◌, sym, ap, subst, refl, ◌∙◌, arith}
use Rattle.std.specs.FinSet.{contains}
use Rattle.machine_core.specs.Access.{spaces_lent}
use Rattle.machine_core.specs.Ahead.{guest_ahead}
use Rattle.rv_execute.specs.declared.outcome.Outcome.TheVariants as outcome
use Rattle.machine_core.specs.Executions.{AreLikeExecutions, Comes, EndsWith, after_steps, executions, stops_in}
use Rattle.machine_core.specs.Kept.{IsBeside, guest_lent}
use Rattle.machine_core.proofs.Ahead.{begun}
use Rattle.machine_core.proofs.Runs.{both_beside}
use Rattle.machine_core.proofs.Stepping.{came_on, comes_last, ended_on, ends_full, goes_on}
use Rattle.machine_core.proofs.Constants.{truth}
use Rattle.machine_core.proofs.stretches.step_owing.Goals as goal

pub stepping-init : goal.stepping-init
stepping-init g c = record {
  loan = refl;
  space = refl;
  ready = c.requires.ready;
  all = let none : 0 ≡ c.args.most - c.args.most = omega arith in
      subst (λ k. AreLikeExecutions
      (after_steps k (executions (stops_in c.args.stops) c.args.view.now.space (c.args.most - k) (guest_ahead c.args.view.now.hand.owed (guest_lent (truth g.row.EXTENSION) c.args.view.now c.args.process.now))))
      (executions (stops_in c.args.stops) c.args.view.now.space c.args.most (guest_lent (truth g.row.EXTENSION) c.args.view.now c.args.process.now))) none
      (begun (stops_in c.args.stops) c.args.view.now.space c.args.most c.args.view.now.hand.owed (guest_lent (truth g.row.EXTENSION) c.args.view.now c.args.process.now) c.requires.none);
  running = c.requires.runs;
  saved = refl;
  few = let none = c.requires.none in omega (arith, none);
  hand = c.requires.hand;
  beside = record { spaces = λ q other. refl; there = λ q. refl; awaiting = refl; mark = refl };
  within = omega arith;
}

pub advance-n-requires : goal.advance-n-requires
advance-n-requires g c =
    let so = c.stepping.invariant in (
      omega arith,
      (so.running, (so.ready, (so.hand, (omega (arith, c.stepping-test.true), (omega (arith, so.few, c.stepping-test.true, c.ranges.most.fits), c.requires.unstopped))))),
    )

pub stepping-preserved : goal.stepping-preserved
stepping-preserved g c =
    let S = stops_in c.args.stops in
    let p = c.args.view.now.space in
    let so = c.stepping.invariant in
    let came = c.advance-n in
    let k = c.args.most - c.stepping.left in
    let within = so.within in
    let left_is : c.stepping.left ≡ c.args.most - k = omega (arith, within) in
    let n = came.result.0 in
    let now = guest_ahead c.stepping.view.hand.owed (guest_lent (truth g.row.EXTENSION) c.stepping.view c.stepping.process) in
    let next = guest_ahead came.new.view.hand.owed (guest_lent (truth g.row.EXTENSION) came.new.view came.new.process) in
    let goes = came.ensures.goes c.in-Stepped.is in
    let steps = subst (λ m. Comes S p m now n outcome.Stepped next) left_is (subst (λ o. Comes S p c.stepping.left now n o next) c.in-Stepped.is (subst (λ q. Comes S q c.stepping.left now n came.result.1 next) so.space came.ensures.came)) in
    let few = steps.0 in
    let owes = goes.owes in
    let owed = so.few in
    let left = left_is in
    let more : k + n ≡ c.args.most - (c.stepping.left - n) = omega (arith, within, few, left) in
    record {
      loan = came.ensures.loan ∙ so.loan;
      space = came.ensures.space ∙ so.space;
      ready = goes.ready;
      all = let whole = executions S p c.args.most (guest_lent (truth g.row.EXTENSION) c.args.view.now c.args.process.now) in
          subst (λ m. AreLikeExecutions (after_steps m (executions S p (c.args.most - m) next)) whole) more
          (subst (λ e. AreLikeExecutions (after_steps (k + n) e) whole)
          (goes_on S p (c.args.most - (k + n)) next (ap (contains S) (sym c.pc.ensures) ∙ sym c.is_stop.ensures ∙ c.if-is_stop.false))
          (came_on S p whole c.args.most k n now next so.all steps.1));
      running = came.ensures.running c.in-Stepped.is;
      saved = came.ensures.saved ∙ so.saved;
      few = omega (arith, owes, owed, more);
      hand = goes.hand_is;
      beside = both_beside p (spaces_lent c.args.view.now) (spaces_lent c.stepping.view) (spaces_lent came.new.view) so.beside
          (subst (λ q. IsBeside q (spaces_lent c.stepping.view) (spaces_lent came.new.view)) so.space came.ensures.beside);
      within = omega (arith, within);
    }

-- there are as many as there may be
pub returns-clause-ends : goal.returns-clause-ends
returns-clause-ends g c =
    let p = c.args.view.now.space in
    let now = guest_ahead c.stepping.view.hand.owed (guest_lent (truth g.row.EXTENSION) c.stepping.view c.stepping.process) in
    let whole = executions (stops_in c.args.stops) p c.args.most (guest_lent (truth g.row.EXTENSION) c.args.view.now c.args.process.now) in
    let all : c.args.most - c.stepping.left ≡ c.args.most = omega (arith, c.stepping-test.false) in
    subst (λ k. EndsWith whole k outcome.Stepped now) all
    (ends_full (stops_in c.args.stops) p whole c.args.most (c.args.most - c.stepping.left) now (omega (arith, c.stepping-test.false)) c.stepping.invariant.all)

-- the last one was no step
pub returns-in_default : goal.returns-in_default
returns-in_default g c =
    let S = stops_in c.args.stops in
    let p = c.args.view.now.space in
    let so = c.stepping.invariant in
    let came = c.advance-n in
    let k = c.args.most - c.stepping.left in
    let n = came.result.0 in
    let within = so.within in
    let left_is : c.stepping.left ≡ c.args.most - k = omega (arith, within) in
    let now = guest_ahead c.stepping.view.hand.owed (guest_lent (truth g.row.EXTENSION) c.stepping.view c.stepping.process) in
    let next = guest_ahead came.new.view.hand.owed (guest_lent (truth g.row.EXTENSION) came.new.view came.new.process) in
    let whole = executions S p c.args.most (guest_lent (truth g.row.EXTENSION) c.args.view.now c.args.process.now) in
    let comes = subst (λ m. Comes S p m now n came.result.1 next) left_is (subst (λ q. Comes S q c.stepping.left now n came.result.1 next) so.space came.ensures.came) in
    record {
      loan = came.ensures.loan ∙ so.loan;
      space = came.ensures.space ∙ so.space;
      ends = ended_on S p whole c.args.most k n now next so.all came.result.1 (comes_last S p whole (c.args.most - k) n next now came.result.1 c.in_default.not-Stepped comes);
      saved = came.ensures.saved ∙ so.saved;
      beside = both_beside p (spaces_lent c.args.view.now) (spaces_lent c.stepping.view) (spaces_lent came.new.view) so.beside
          (subst (λ q. IsBeside q (spaces_lent c.stepping.view) (spaces_lent came.new.view)) so.space came.ensures.beside);
    }
