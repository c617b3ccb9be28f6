use Rattle.std.proofs.Common.{◌≡◌, ℕ, zero, suc, ◌+◌, ◌-◌, ◌<◌, ◌≤◌, Bool, true, false, cond, sym, ap, subst, ◌∙◌, refl, arith, Option, Some, None, []}
use Rattle.std.specs.FinMap.{get}
use Rattle.std.specs.Option.{option_map, option_map_or}
use Rattle.number_maps.specs.Keys.{get_same, insert_kept, insert_over}
use Rattle.rv_execute.specs.declared.outcome.Outcome.{Outcome}
use Rattle.rv_execute.specs.declared.outcome.Outcome.TheVariants as outcome
use Rattle.rv_execute.specs.Execution.{Upshot, Steps, Asks, Faults, outcome_by}
use Rattle.machine_core.specs.Process.{Process, runs}
use Rattle.machine_core.specs.Machine.{AreLike, Processes, Wholes, is_running, unit_limit, running_numbers}
use Rattle.machine_core.specs.Turns.{Guest, after_execution, came_to, executed, execution_of, guest_at, guest_executed, guest_of, guest_refused, is_full, outcome_found, outcome_of, state_executed, units_needed, with_guest}
use Rattle.breakpoints.specs.Breakpoints.{Breaks, addresses_of}
use Rattle.machine_core.specs.Executions.{Executions, executions, first_execution, is_at_stop, last_execution, more_executions, no_execution, stopped_execution}
use Rattle.self_speculation.specs.Taken.{after_taken}
use Rattle.self_speculation.specs.TakenLaws.{taken_law}
use Rattle.machine_core.specs.NumberLaws.{numbers_are}
use Rattle.round_robin.specs.Turns.{after_turns_of}
use Rattle.round_robin.specs.Laws.{goes_on_next, left_after}
use Rattle.ovl_io.specs.declared.turn.Turn.TheVariants as turn
use Rattle.process_runs.specs.declared.turns.Order.{Order}
use Rattle.process_runs.specs.declared.turns.Order.TheVariants.{ByTurns, Alone}
use Rattle.process_runs.specs.Turns.{Progress, SaysThen, last_break, last_took, next_of, order_after, order_left, order_took, ran_from, run_after, run_took, stretch}
use Rattle.process_runs.specs.LikeLaws.{like_left}
use Rattle.process_runs.proofs.Breaks.{unbroken_after}
use Rattle.process_runs.proofs.Rans.{said_like, said_then, same_like, turn_said}

-- Turns of one process, one after the other.

order_none : (p : ℕ) (order : Order) → order_took 0 p order ≡ order
order_none p (ByTurns turns) = refl
order_none p (Alone q) = refl

pub took_none : (p : ℕ) (run : Progress) → run_took 0 p run ≡ run
took_none p run =
    let same : run.taken + 0 ≡ run.taken = omega arith in
    λ i. record { order = order_none p run.order i; calls = run.calls; turns = run.turns; taken = same i; last = run.last }

order_first : (n p : ℕ) (order : Order) → order_took (n + 1) p order ≡ order_took n p (order_after p order)
order_first n p (ByTurns turns) =
    let next : n + 1 ≡ suc n = omega arith in ap (λ k. ByTurns (after_turns_of k p turns)) next
order_first n p (Alone q) = refl

-- whose turn was the last
last_more : (n p : ℕ) (last : Option ℕ) → last_took (n + 1) p last ≡ Some p
last_more n p last =
    let next : n + 1 ≡ suc n = omega arith in ap (λ k. last_took k p last) next

last_over : (n p : ℕ) → last_took n p (Some p) ≡ Some p
last_over zero p = refl
last_over (suc n) p = refl

last_first : (n p : ℕ) (last : Option ℕ) → last_took (n + 1) p last ≡ last_took n p (Some p)
last_first n p last = last_more n p last ∙ sym (last_over n p)

pub took_first : (n p : ℕ) (run : Progress) → run_took (n + 1) p run ≡ run_took n p (run_after p run)
took_first n p run =
    let same : run.taken + (n + 1) ≡ run.taken + 1 + n = omega arith in
    λ i. record { order = order_first n p run.order i; calls = run.calls; turns = run.turns; taken = same i; last = last_first n p run.last i }

-- what is left after one of them
left_by : (n p : ℕ) (order : Order) (turns taken : ℕ) → n + 1 ≤ order_left p order (turns - taken) → n ≤ order_left p (order_after p order) (turns - (taken + 1))
left_by n p (ByTurns rounds) turns taken left =
    let more = left_after n p rounds (omega (arith, left)) in omega (arith, left, more)
left_by n p (Alone q) turns taken left = omega (arith, left)

left_goes : (n p : ℕ) (run : Progress) → n + 1 ≤ stretch p run → n ≤ stretch p (run_after p run)
left_goes n p run left = left_by n p run.order run.turns run.taken left

alone_is : (b c : Bool) (p q : ℕ) → cond b (Some q) None ≡ Some p → (q ≡ p → c ≡ true) → cond c (Some q) None ≡ Some p
alone_is true c p q is runs =
    let same : q ≡ p = cc in ap (λ b. cond b (Some q) None) (runs same) ∙ ap Some same
alone_is false c p q is runs = cc

next_by : (p : ℕ) (order : Order) (turns taken : ℕ) (ps after : Wholes) → next_of ps order ≡ Some p → 2 ≤ order_left p order (turns - taken)
    → is_running after p ≡ true → next_of after (order_after p order) ≡ Some p
next_by p (ByTurns rounds) turns taken ps after next left runs =
    goes_on_next p rounds (running_numbers after) (omega (arith, left)) (numbers_are after p ∙ runs)
next_by p (Alone q) turns taken ps after next left runs =
    alone_is (is_running ps q) (is_running after q) p q next (λ same. ap (is_running after) same ∙ runs)

some_left : (p : ℕ) (order : Order) (turns taken : ℕ) → 1 ≤ order_left p order (turns - taken) → taken < turns
some_left p (ByTurns rounds) turns taken left = omega (arith, left)
some_left p (Alone q) turns taken left = omega (arith, left)

-- a process that is there, in its place
pub record IsAt (ps : Wholes) (p : ℕ) (guest : Guest) : Type 0 where
  pub there : guest_at ps p ≡ Some guest
  pub same : with_guest ps p guest ≡ ps

pub is_at : (ps : Wholes) (p : ℕ) (process : Process) → get ps.processes p ≡ Some process → IsAt ps p (guest_of ps process)
is_at ps p process there = record {
  there = ap (option_map (guest_of ps)) there;
  same = ap (λ (m : Processes). record { processes = m; ledger = ps.ledger; frames = ps.frames; extension = ps.extension; translations = ps.translations }) (insert_kept ps.processes p process there);
}

put_over : (ps : Wholes) (p : ℕ) (a b : Guest) → with_guest (with_guest ps p a) p b ≡ with_guest ps p b
put_over ps p a b = ap (λ (m : Processes). record { processes = m; ledger = b.ledger; frames = b.frames; extension = b.extension; translations = b.translations }) (insert_over ps.processes p a.process b.process)

put_at : (ps : Wholes) (p : ℕ) (guest : Guest) → IsAt (with_guest ps p guest) p guest
put_at ps p guest = record {
  there = ap (option_map (guest_of (with_guest ps p guest))) (get_same ps.processes p p guest.process refl);
  same = put_over ps p guest guest;
}

process_at : (ps : Wholes) (p : ℕ) (guest : Guest) → IsAt ps p guest → get ps.processes p ≡ Some guest.process
process_at ps p guest at =
    sym (ap (λ (w : Wholes). get w.processes p) at.same) ∙ get_same ps.processes p p guest.process refl

is_there : (ps : Wholes) (p : ℕ) (guest : Guest) → IsAt ps p guest → runs guest.process.state ≡ true → is_running ps p ≡ true
is_there ps p guest at running = ap (λ (o : Option Process). option_map_or (λ (q : Process). runs q.state) o false) (process_at ps p guest at) ∙ running

came_there : (ps : Wholes) (p : ℕ) (guest : Guest) → IsAt ps p guest → came_to ps p ≡ outcome_of p guest
came_there ps p guest at = ap (outcome_found p) at.there

executed_there : (ps : Wholes) (p : ℕ) (guest : Guest) → IsAt ps p guest → after_execution ps p ≡ with_guest ps p (executed p guest)
executed_there ps p guest at = ap (λ (o : Option Guest). option_map_or (λ g. with_guest ps p (executed p g)) o ps) at.there

-- one that took a step runs
steps_by : (b : Bool) (u : Upshot) (needed limit : ℕ) → cond b (outcome.Full needed limit) (outcome_by u) ≡ outcome.Stepped → (b ≡ false) × (u ≡ Steps)
steps_by true u needed limit is = cc
steps_by false Steps needed limit is = (refl, refl)
steps_by false Asks needed limit is = cc
steps_by false (Faults kind address) needed limit is = cc

still_runs : (p : ℕ) (guest : Guest) → outcome_of p guest ≡ outcome.Stepped → runs (executed p guest).process.state ≡ true
still_runs p guest is =
    let parts = steps_by (is_full p guest) (execution_of guest.extension guest.process).upshot (units_needed p guest) (unit_limit guest.frames) is in
    ap (λ b. runs (cond b (guest_refused p guest) (guest_executed p guest)).process.state) parts.0 ∙ ap (λ u. runs (state_executed u)) parts.1

-- turns without a line: what is left comes to what all came to
abbrev pub GoesOn : Breaks → Wholes → Progress → Wholes → Progress → Type 0
GoesOn breaks old run new after = SaysThen [] (ran_from breaks old run) (ran_from breaks new after)

pub goes_then : (breaks : Breaks) (a b c : Wholes) (r s t : Progress) → GoesOn breaks a r b s → GoesOn breaks b s c t → GoesOn breaks a r c t
goes_then breaks a b c r s t h k = said_then [] (ran_from breaks a r) (ran_from breaks b s) (ran_from breaks c t) h k

pub goes_like : (breaks : Breaks) (a b : Wholes) (r s : Progress) → AreLike a b → r ≡ s → GoesOn breaks a r b s
goes_like breaks a b r s like same =
    subst (λ (t : Progress). GoesOn breaks a r b t) same
    (said_like (ran_from breaks a r) (ran_from breaks b r) (like_left breaks a b (record { run = r; stop = None }) like))

-- The steps of some executions are turns without a line; the last one, where it is no step, is the next turn's.
pub record IsStretch (breaks : Breaks) (ps : Wholes) (p most : ℕ) (run : Progress) (e : Executions) : Type 0 where
  pub quiet : GoesOn breaks ps run (with_guest ps p e.before) (run_took e.steps p run)
  pub fits : e.steps ≤ most
  pub all : e.outcome ≡ outcome.Stepped → e.before ≡ e.after
  pub some : e.outcome ≡ outcome.Stepped → 0 < most → 0 < e.steps
  pub fewer : (e.outcome ≡ outcome.Stepped → ⊥) → e.steps < most
  pub runs : (e.outcome ≡ outcome.Stepped → ⊥) → is_running (with_guest ps p e.before) p ≡ true
  pub next : (e.outcome ≡ outcome.Stepped → ⊥) → next_of (with_guest ps p e.before) (run_took e.steps p run).order ≡ Some p
  pub unbroken : (e.outcome ≡ outcome.Stepped → ⊥) → last_break breaks (with_guest ps p e.before) (run_took e.steps p run) ≡ None
  pub came : (e.outcome ≡ outcome.Stepped → ⊥) → came_to (with_guest ps p e.before) p ≡ e.outcome
  pub after : (e.outcome ≡ outcome.Stepped → ⊥) → after_execution (with_guest ps p e.before) p ≡ with_guest ps p e.after

none_quiet : (breaks : Breaks) (ps : Wholes) (p : ℕ) (guest : Guest) (run : Progress) → IsAt ps p guest → GoesOn breaks ps run (with_guest ps p guest) (run_took 0 p run)
none_quiet breaks ps p guest run at = goes_like breaks ps (with_guest ps p guest) run (run_took 0 p run) (same_like _ _ (sym at.same)) (sym (took_none p run))

-- no execution
none_done : (breaks : Breaks) (ps : Wholes) (p : ℕ) (guest : Guest) (run : Progress) → IsAt ps p guest → IsStretch breaks ps p 0 run (no_execution guest)
none_done breaks ps p guest run at = record {
  quiet = none_quiet breaks ps p guest run at;
  fits = omega arith;
  all = λ is. refl;
  some = λ is more. more;
  fewer = λ other. absurd (other refl);
  runs = λ other. absurd (other refl);
  next = λ other. absurd (other refl);
  unbroken = λ other. absurd (other refl);
  came = λ other. absurd (other refl);
  after = λ other. absurd (other refl);
}

-- an execution that is no step
last_done : (breaks : Breaks) (ps : Wholes) (p most : ℕ) (guest : Guest) (run : Progress) (o : Outcome) → IsAt ps p guest → runs guest.process.state ≡ true
    → next_of ps run.order ≡ Some p → last_break breaks ps run ≡ None → outcome_of p guest ≡ o → (o ≡ outcome.Stepped → ⊥)
    → IsStretch breaks ps p (most + 1) run (last_execution o guest (executed p guest))
last_done breaks ps p most guest run o at running next unbroken is other =
    record {
      quiet = none_quiet breaks ps p guest run at;
      fits = omega arith;
      all = λ steps. absurd (other steps);
      some = λ steps. absurd (other steps);
      fewer = λ _. omega arith;
      runs = λ _. ap (λ (q : Wholes). is_running q p) at.same ∙ is_there ps p guest at running;
      next = λ _. ap (λ (q : Wholes). next_of q (run_took 0 p run).order) at.same ∙ ap (λ (r : Progress). next_of ps r.order) (took_none p run) ∙ next;
      unbroken = λ _. ap (λ (q : Wholes). last_break breaks q (run_took 0 p run)) at.same ∙ ap (last_break breaks ps) (took_none p run) ∙ unbroken;
      came = λ _. ap (λ (q : Wholes). came_to q p) at.same ∙ came_there ps p guest at ∙ is;
      after = λ _. ap (λ (q : Wholes). after_execution q p) at.same ∙ executed_there ps p guest at;
    }

-- a step, and then the others
first_done : (breaks : Breaks) (ps : Wholes) (p most : ℕ) (guest : Guest) (run : Progress) (e : Executions) → IsAt ps p guest → runs guest.process.state ≡ true
    → next_of ps run.order ≡ Some p → last_break breaks ps run ≡ None → run.taken < run.turns → outcome_of p guest ≡ outcome.Stepped
    → IsStretch breaks (with_guest ps p (executed p guest)) p most (run_after p run) e → IsStretch breaks ps p (most + 1) run (more_executions e)
first_done breaks ps p most guest run e at running next unbroken below is rest =
    let law = taken_law run.calls outcome.Stepped ps p (is_there ps p guest at running) (came_there ps p guest at ∙ is) in
    let altered : with_guest ps p (executed p guest) ≡ after_taken run.calls ps p = sym (executed_there ps p guest at) ∙ sym law.after_is in
    let over = put_over ps p (executed p guest) e.before in
    let took = sym (took_first e.steps p run) in
    record {
      quiet = goes_then breaks ps (with_guest ps p (executed p guest)) (with_guest ps p e.before) run (run_after p run) (run_took (e.steps + 1) p run)
          (turn_said breaks ps (with_guest ps p (executed p guest)) run p turn.Stepped unbroken below next (sym law.turn_is) (same_like _ _ altered))
          (goes_then breaks (with_guest ps p (executed p guest)) (with_guest (with_guest ps p (executed p guest)) p e.before) (with_guest ps p e.before) (run_after p run)
          (run_took e.steps p (run_after p run)) (run_took (e.steps + 1) p run) rest.quiet
          (goes_like breaks _ _ (run_took e.steps p (run_after p run)) (run_took (e.steps + 1) p run) (same_like _ _ over) took));
      fits = omega (arith, rest.fits);
      all = rest.all;
      some = λ steps more. omega arith;
      fewer = λ other. omega (arith, rest.fewer other);
      runs = λ other. sym (ap (λ (q : Wholes). is_running q p) over) ∙ rest.runs other;
      next = λ other. ap (λ (r : Progress). next_of (with_guest ps p e.before) r.order) (sym took)
          ∙ sym (ap (λ (q : Wholes). next_of q (run_took e.steps p (run_after p run)).order) over) ∙ rest.next other;
      unbroken = λ other. ap (last_break breaks (with_guest ps p e.before)) (sym took)
          ∙ sym (ap (λ (q : Wholes). last_break breaks q (run_took e.steps p (run_after p run))) over) ∙ rest.unbroken other;
      came = λ other. sym (ap (λ (q : Wholes). came_to q p) over) ∙ rest.came other;
      after = λ other. sym (ap (λ (q : Wholes). after_execution q p) over) ∙ rest.after other ∙ put_over ps p (executed p guest) e.after;
    }

-- a step that reaches a breakpoint, of as many as there may be
stop_done : (breaks : Breaks) (ps : Wholes) (p most : ℕ) (run : Progress) (next : Guest) → IsStretch breaks ps p 1 run (stopped_execution next)
    → IsStretch breaks ps p (most + 1) run (stopped_execution next)
stop_done breaks ps p most run next one = record {
  quiet = one.quiet;
  fits = omega arith;
  all = one.all;
  some = λ steps more. omega arith;
  fewer = λ other. absurd (other refl);
  runs = one.runs;
  next = one.next;
  unbroken = one.unbroken;
  came = one.came;
  after = one.after;
}

module _ (breaks : Breaks) (ps : Wholes) (p most : ℕ) (guest : Guest) (run : Progress) (at : IsAt ps p guest) (running : runs guest.process.state ≡ true)
    (next : next_of ps run.order ≡ Some p) (unbroken : last_break breaks ps run ≡ None) (below : run.taken < run.turns) (others : Executions) where
  abbrev after_one : Wholes
  after_one = with_guest ps p (executed p guest)

  by_stop : (t : Bool) → is_at_stop (addresses_of breaks p) (executed p guest) ≡ t → outcome_of p guest ≡ outcome.Stepped
      → (last_break breaks after_one (run_after p run) ≡ None → IsStretch breaks after_one p most (run_after p run) others)
      → IsStretch breaks ps p (most + 1) run (cond t (stopped_execution (executed p guest)) (more_executions others))
  by_stop true stop is rest =
      stop_done breaks ps p most run (executed p guest)
      (first_done breaks ps p 0 guest run (no_execution (executed p guest)) at running next unbroken below is
      (none_done breaks after_one p (executed p guest) (run_after p run) (put_at ps p (executed p guest))))
  by_stop false stop is rest =
      first_done breaks ps p most guest run others at running next unbroken below is (rest (unbroken_after breaks ps p (executed p guest) run stop))

  by_outcome : (o : Outcome) → outcome_of p guest ≡ o
      → (o ≡ outcome.Stepped → last_break breaks after_one (run_after p run) ≡ None → IsStretch breaks after_one p most (run_after p run) others)
      → IsStretch breaks ps p (most + 1) run (first_execution (addresses_of breaks p) o guest (executed p guest) others)
  by_outcome outcome.Stepped is rest = by_stop (is_at_stop (addresses_of breaks p) (executed p guest)) refl is (rest refl)
  by_outcome outcome.Asked is rest = last_done breaks ps p most guest run outcome.Asked at running next unbroken is (λ same. cc)
  by_outcome (outcome.Fault kind address) is rest = last_done breaks ps p most guest run (outcome.Fault kind address) at running next unbroken is (λ same. cc)
  by_outcome (outcome.Full units limit) is rest = last_done breaks ps p most guest run (outcome.Full units limit) at running next unbroken is (λ same. cc)

pub is_stretch : (breaks : Breaks) (most : ℕ) (ps : Wholes) (p : ℕ) (guest : Guest) (run : Progress) → IsAt ps p guest → runs guest.process.state ≡ true
    → (0 < most → next_of ps run.order ≡ Some p) → last_break breaks ps run ≡ None → most ≤ stretch p run
    → IsStretch breaks ps p most run (executions (addresses_of breaks p) p most guest)
is_stretch breaks zero ps p guest run at running next unbroken left = none_done breaks ps p guest run at
is_stretch breaks (suc most) ps p guest run at running next unbroken left =
    let more : most + 1 ≡ suc most = omega arith in
    let enough : most + 1 ≤ stretch p run = omega (arith, left) in
    let first : next_of ps run.order ≡ Some p = next (omega arith) in
    let after = with_guest ps p (executed p guest) in
    let now = put_at ps p (executed p guest) in
    ap_stretch more
    (by_outcome breaks ps p most guest run at running first unbroken (some_left p run.order run.turns run.taken (omega (arith, left)))
    (executions (addresses_of breaks p) p most (executed p guest)) (outcome_of p guest) refl
    (λ steps goes_on.
    let goes = still_runs p guest steps in
    is_stretch breaks most after p (executed p guest) (run_after p run) now goes
    (λ some. next_by p run.order run.turns run.taken ps after first (omega (arith, left, some)) (is_there after p (executed p guest) now goes))
    goes_on (left_goes most p run enough)))
  where
    ap_stretch : most + 1 ≡ suc most → IsStretch breaks ps p (most + 1) run (executions (addresses_of breaks p) p (suc most) guest)
        → IsStretch breaks ps p (suc most) run (executions (addresses_of breaks p) p (suc most) guest)
    ap_stretch same h = subst (λ n. IsStretch breaks ps p n run (executions (addresses_of breaks p) p (suc most) guest)) same h
