use Rattle.std.proofs.Common.{◌≡◌, ℕ, zero, suc, ◌+◌, ◌-◌, ◌<◌, ◌≤◌, Bool, true, false, cond, sym, ap, subst, ◌∙◌, refl, arith, Option, Some, None}
use Rattle.std.specs.Option.{option_map_or}
use Rattle.ovl_io.specs.declared.process_state.ProcessState.{ProcessState}
use Rattle.ovl_io.specs.declared.process_state.ProcessState.TheVariants as state
use Rattle.rv_execute.specs.declared.outcome.Outcome.{Outcome}
use Rattle.rv_execute.specs.declared.outcome.Outcome.TheVariants as outcome
use Rattle.rv_execute.specs.Execution.{Upshot, Steps, Asks, Faults, outcome_by}
use Rattle.machine_core.specs.Process.{Process, runs}
use Rattle.machine_core.specs.Machine.{Wholes, unit_limit}
use Rattle.machine_core.specs.Laws.{executions_chain, guests_chain, guests_itself, like_behind, like_resumed}
use Rattle.machine_core.specs.Turns.{AreLikeGuests, Guest, after_execution, executed, execution_of, guest_at, guest_executed, guest_refused, is_full, outcome_found, outcome_of, state_executed, units_needed, with_guest}
use Rattle.breakpoints.specs.Breakpoints.{Addresses}
use Rattle.machine_core.specs.Executions.{AreLikeExecutions, Executions, after_executions, all_executed, Comes, EndsWith, after_steps, executions, first_execution, is_at_stop, last_execution, last_outcome, more_executions, no_execution, resumed, steps_in, stopped_execution}

-- Executions so far, and those that are left.

-- one step is the same whether it leaves the pc at a stop or not
step_alone : (t : Bool) (next : Guest) → cond t (stopped_execution next) (more_executions (no_execution next)) ≡ stopped_execution next
step_alone true next = refl
step_alone false next = refl

module _ (stops : Addresses) where
  single : (o : Outcome) (now next : Guest) → (first_execution stops o now next (no_execution next)).outcome ≡ o
  single outcome.Stepped now next = ap (λ (e : Executions). e.outcome) (step_alone (is_at_stop stops next) next)
  single outcome.Asked now next = refl
  single (outcome.Fault kind address) now next = refl
  single (outcome.Full units limit) now next = refl

  single_after : (o : Outcome) (now next : Guest) → (first_execution stops o now next (no_execution next)).after ≡ next
  single_after outcome.Stepped now next = ap (λ (e : Executions). e.after) (step_alone (is_at_stop stops next) next)
  single_after outcome.Asked now next = refl
  single_after (outcome.Fault kind address) now next = refl
  single_after (outcome.Full units limit) now next = refl

module _ (stops : Addresses) (p : ℕ) where
  left_more : (most k : ℕ) → k < most → most - k ≡ suc (most - (k + 1))
  left_more most k below = omega arith

  unrolled : (most k : ℕ) (now : Guest) (o : Outcome) → k < most → outcome_of p now ≡ o
      → after_steps k (executions stops p (most - k) now) ≡ after_steps k (first_execution stops o now (executed p now) (executions stops p (most - (k + 1)) (executed p now)))
  unrolled most k now o below came =
      ap (λ n. after_steps k (executions stops p n now)) (left_more most k below)
      ∙ ap (λ v. after_steps k (first_execution stops v now (executed p now) (executions stops p (most - (k + 1)) (executed p now)))) came

  pub from_first : (most : ℕ) (now : Guest) → AreLikeExecutions (after_steps 0 (executions stops p (most - 0) now)) (executions stops p most now)
  from_first most now =
      let all : most - 0 ≡ most = omega arith in
      subst (λ n. AreLikeExecutions (after_steps 0 (executions stops p n now)) (executions stops p most now)) (sym all) (none_before (executions stops p most now))
    where
      none_before : (e : Executions) → AreLikeExecutions (after_steps 0 e) e
      none_before e = record { steps = omega arith; before = guests_itself e.before; outcome_is = refl; after = guests_itself e.after }

  -- a step: it isn't known yet whether it leaves the pc at a stop
  step_by : (t : Bool) (k : ℕ) (others : Executions) (next : Guest)
      → after_steps k (cond t (stopped_execution next) (more_executions others)) ≡ after_steps (k + 1) (cond t (no_execution next) others)
  step_by true k others next = let one : k + 1 ≡ k + 1 + 0 = omega arith in λ i. record { steps = one i; before = next; outcome = outcome.Stepped; after = next }
  step_by false k others next =
      let more : k + (others.steps + 1) ≡ k + 1 + others.steps = omega arith in
      λ i. record { steps = more i; before = others.before; outcome = others.outcome; after = others.after }

  -- one more, of those that come to the executions of all
  module _ (all : Executions) (most k : ℕ) (now next : Guest) (below : k < most) (is : AreLikeExecutions (after_steps k (executions stops p (most - k) now)) all)
      (moved : AreLikeGuests next (executed p now)) where
    first_is : (o : Outcome) → o ≡ outcome_of p now
        → AreLikeExecutions (after_steps k (first_execution stops o now (executed p now) (executions stops p (most - (k + 1)) (executed p now)))) all
    first_is o came = subst (λ e. AreLikeExecutions e all) (unrolled most k now o below (sym came)) is

    pub one_step : outcome.Stepped ≡ outcome_of p now → AreLikeExecutions (after_steps (k + 1) (resumed stops p (most - (k + 1)) next)) all
    one_step stepped =
        executions_chain _ (after_steps (k + 1) (resumed stops p (most - (k + 1)) (executed p now))) all
        (like_behind (k + 1) _ _ (like_resumed stops p (most - (k + 1)) next (executed p now) moved))
        (subst (λ e. AreLikeExecutions e all) (step_by (is_at_stop stops (executed p now)) k (executions stops p (most - (k + 1)) (executed p now)) (executed p now))
        (first_is outcome.Stepped stepped))

    last_is : (o : Outcome) → AreLikeExecutions (after_steps k (last_execution o now (executed p now))) all → EndsWith all k o next
    last_is o last = record {
      steps = omega (arith, last.steps);
      outcome_is = last.outcome_is;
      after_is = guests_chain next (executed p now) all.after moved last.after;
    }

    pub no_step : (o : Outcome) → o ≡ outcome_of p now → (o ≡ outcome.Stepped → ⊥) → EndsWith all k o next
    no_step outcome.Stepped came other = absurd (other refl)
    no_step outcome.Asked came other = last_is outcome.Asked (first_is outcome.Asked came)
    no_step (outcome.Fault kind address) came other = last_is (outcome.Fault kind address) (first_is (outcome.Fault kind address) came)
    no_step (outcome.Full units limit) came other = last_is (outcome.Full units limit) (first_is (outcome.Full units limit) came)

    -- so what came of them
    ended : (first : Guest) → all ≡ executions stops p most first → (o : Outcome) → EndsWith all k o next
        → (k + 0 ≤ most) × EndsWith (executions stops p most first) (k + 0) o next
    ended first whole o last =
        let none : k ≡ k + 0 = omega arith in
        (omega (arith, below), subst (λ n. EndsWith (executions stops p most first) n o next) none (subst (λ e. EndsWith e k o next) whole last))

    pub comes : (first : Guest) → all ≡ executions stops p most first → (o : Outcome) → o ≡ outcome_of p now → Comes stops p most first (k + steps_in o) o next
    comes first whole outcome.Stepped came =
        (omega (arith, below), subst (AreLikeExecutions (after_steps (k + 1) (resumed stops p (most - (k + 1)) next))) whole (one_step came))
    comes first whole outcome.Asked came = ended first whole outcome.Asked (no_step outcome.Asked came (λ same. cc))
    comes first whole (outcome.Fault kind address) came = ended first whole (outcome.Fault kind address) (no_step (outcome.Fault kind address) came (λ same. cc))
    comes first whole (outcome.Full units limit) came = ended first whole (outcome.Full units limit) (no_step (outcome.Full units limit) came (λ same. cc))

  -- the first of some
  pub first_comes : (o : Outcome) (most : ℕ) (now next : Guest) → 0 < most → o ≡ outcome_of p now → AreLikeGuests next (executed p now)
      → Comes stops p most now (steps_in o) o next
  first_comes o most now next some came moved =
      let none : 0 + steps_in o ≡ steps_in o = omega arith in
      subst (λ n. Comes stops p most now n o next) none (comes (executions stops p most now) most 0 now next some (from_first most now) moved now refl o came)

  -- a single one
  pub single_outcome : (found : Option Guest) → last_outcome stops p 1 found ≡ outcome_found p found
  single_outcome None = refl
  single_outcome (Some guest) = single stops (outcome_of p guest) guest (executed p guest)

  pub single_executed : (guest : Guest) → all_executed stops p 1 guest ≡ executed p guest
  single_executed guest = single_after stops (outcome_of p guest) guest (executed p guest)

  of_found : (found : Option Guest) (state : Wholes)
      → option_map_or (λ (guest : Guest). with_guest state p (all_executed stops p 1 guest)) found state
      ≡ option_map_or (λ (guest : Guest). with_guest state p (executed p guest)) found state
  of_found None state = refl
  of_found (Some guest) state = ap (with_guest state p) (single_executed guest)

  pub single_after_all : (state : Wholes) → after_executions stops 1 state p ≡ after_execution state p
  single_after_all state = of_found (guest_at state p) state

-- The first step of some may start at a stop; behind the others it isn't known yet whether they left the pc at one.
abbrev pub so_far : ℕ → Addresses → ℕ → ℕ → Guest → Executions
so_far zero stops p most guest = executions stops p most guest
so_far (suc k) stops p most guest = resumed stops p most guest

module _ (stops : Addresses) (p : ℕ) where
  pub goes_on : (most : ℕ) (guest : Guest) → is_at_stop stops guest ≡ false → resumed stops p most guest ≡ executions stops p most guest
  goes_on most guest apart = ap (λ b. cond b (no_execution guest) (executions stops p most guest)) apart

  pub on_so_far : (k most : ℕ) (guest : Guest) → (0 < k → is_at_stop stops guest ≡ false) → so_far k stops p most guest ≡ executions stops p most guest
  on_so_far zero most guest apart = refl
  on_so_far (suc k) most guest apart = goes_on most guest (apart (omega arith))

  pub is_so_far : (k most : ℕ) (guest : Guest) → 0 < k → resumed stops p most guest ≡ so_far k stops p most guest
  is_so_far zero most guest some = absurd (omega (arith, some))
  is_so_far (suc k) most guest some = refl

  -- some behind others
  together : (k n : ℕ) (others : Executions) → after_steps k (after_steps n others) ≡ after_steps (k + n) others
  together k n others =
      let both : k + (n + others.steps) ≡ k + n + others.steps = omega arith in
      λ i. record { steps = both i; before = others.before; outcome = others.outcome; after = others.after }

  module _ (all : Executions) (most k n : ℕ) (now next : Guest) (is : AreLikeExecutions (after_steps k (executions stops p (most - k) now)) all) where
    pub came_on : AreLikeExecutions (after_steps n (resumed stops p (most - k - n) next)) (executions stops p (most - k) now)
        → AreLikeExecutions (after_steps (k + n) (resumed stops p (most - (k + n)) next)) all
    came_on came =
        let left : most - k - n ≡ most - (k + n) = omega arith in
        subst (λ e. AreLikeExecutions e all) (together k n (resumed stops p (most - k - n) next) ∙ ap (λ m. after_steps (k + n) (resumed stops p m next)) left)
        (executions_chain _ _ _ (like_behind k _ _ came) is)

    -- they end with the last of these
    pub ended_on : (o : Outcome) → EndsWith (executions stops p (most - k) now) n o next → EndsWith all (k + n) o next
    ended_on o last = record {
      steps = ap (λ m. k + m) last.steps ∙ is.steps;
      outcome_is = last.outcome_is ∙ is.outcome_is;
      after_is = guests_chain next _ all.after last.after_is is.after;
    }

  -- How some end: at the most that there may be, at a stop, or with what is no step.
  module _ (all : Executions) (most k : ℕ) (next : Guest) where
    pub ends_full : most ≤ k → AreLikeExecutions (after_steps k (executions stops p (most - k) next)) all → EndsWith all k outcome.Stepped next
    ends_full full is =
        let none : most - k ≡ 0 = omega (arith, full) in
        by_last (subst (λ n. AreLikeExecutions (after_steps k (executions stops p n next)) all) none is)
      where
        by_last : AreLikeExecutions (after_steps k (no_execution next)) all → EndsWith all k outcome.Stepped next
        by_last last = record { steps = omega (arith, last.steps); outcome_is = last.outcome_is; after_is = last.after }

    pub ends_stopped : is_at_stop stops next ≡ true → AreLikeExecutions (after_steps k (resumed stops p most next)) all → EndsWith all k outcome.Stepped next
    ends_stopped stop is =
        by_last (subst (λ b. AreLikeExecutions (after_steps k (cond b (no_execution next) (executions stops p most next))) all) stop is)
      where
        by_last : AreLikeExecutions (after_steps k (no_execution next)) all → EndsWith all k outcome.Stepped next
        by_last last = record { steps = omega (arith, last.steps); outcome_is = last.outcome_is; after_is = last.after }

    pub comes_last : (now : Guest) (o : Outcome) → (o ≡ outcome.Stepped → ⊥) → Comes stops p most now k o next → EndsWith (executions stops p most now) k o next
    comes_last now outcome.Stepped other came = absurd (other refl)
    comes_last now outcome.Asked other came = came.1
    comes_last now (outcome.Fault kind address) other came = came.1
    comes_last now (outcome.Full units limit) other came = came.1

-- Whether it runs then.

abbrev pub runs_on : Outcome → Bool
runs_on outcome.Stepped = true
runs_on outcome.Asked = true
runs_on (outcome.Fault kind address) = false
runs_on (outcome.Full units limit) = true

pub of_running : (s : ProcessState) → runs s ≡ true → s ≡ state.Running
of_running state.Running is = refl
of_running (state.Exited code) is = cc
of_running (state.Faulted kind address) is = cc

runs_by : (u : Upshot) → runs (state_executed u) ≡ runs_on (outcome_by u)
runs_by Steps = refl
runs_by Asks = refl
runs_by (Faults kind address) = refl

module _ (p : ℕ) where
  runs_after_one : (guest : Guest) → guest.process.state ≡ state.Running → runs (executed p guest).process.state ≡ runs_on (outcome_of p guest)
  runs_after_one guest running = by_test (is_full p guest)
    where
      by_test : (b : Bool) → runs (cond b (guest_refused p guest) (guest_executed p guest)).process.state
          ≡ runs_on (cond b (outcome.Full (units_needed p guest) (unit_limit guest.frames)) (outcome_by (execution_of guest.extension guest.process).upshot))
      by_test true = ap runs running
      by_test false = runs_by (execution_of guest.extension guest.process).upshot

  -- one that took a step runs
  pub still_runs : (now next : Guest) → now.process.state ≡ state.Running → outcome.Stepped ≡ outcome_of p now → AreLikeGuests next (executed p now)
      → next.process.state ≡ state.Running
  still_runs now next running stepped moved =
      of_running next.process.state (ap (λ (process : Process). runs process.state) moved.process ∙ runs_after_one now running ∙ sym (ap runs_on stepped))
