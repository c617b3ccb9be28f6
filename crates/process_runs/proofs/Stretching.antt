use Rattle.std.proofs.Common.{◌≡◌, ℕ, ◌+◌, ◌-◌, ◌<◌, ◌≤◌, Bool, true, false, [], sym, ap, subst, ◌∙◌, refl, arith, Option, Some, None}
use Rattle.std.specs.FinMap.{get}
use Rattle.breakpoints.specs.Breakpoints.{Addresses, Breaks, addresses_of}
use Rattle.std.specs.Option.{option_map_or}
use Rattle.ovl_io.specs.declared.turn.Turn.{Turn}
use Rattle.ovl_io.specs.declared.turn.Turn.TheVariants as turn
use Rattle.rv_execute.specs.declared.outcome.Outcome.{Outcome}
use Rattle.rv_execute.specs.declared.outcome.Outcome.TheVariants as outcome
use Rattle.machine_core.specs.Process.{Process, runs}
use Rattle.machine_core.specs.Machine.{AreLike, Wholes, is_running}
use Rattle.machine_core.specs.Turns.{Guest, after_execution, came_to, guest_of, with_guest}
use Rattle.machine_core.specs.Executions.{after_executions, all_executed, came_to_last, executions, last_outcome, steps_of, steps_to}
use Rattle.machine_core.specs.Laws.{like_back, like_running}
use Rattle.self_speculation.specs.Taken.{AnswersRequest}
use Rattle.self_speculation.specs.TakenLaws.{IsTaken, IsTakenOf, taken_law}
use Rattle.report_text.specs.Answers.{has_turn_line, turn_text}
use Rattle.process_runs.specs.declared.turns.Order.{Order}
use Rattle.process_runs.specs.declared.turns.Order.TheVariants.{ByTurns, Alone}
use Rattle.process_runs.specs.Turns.{FinishesTurn, Progress, SaysThen, last_break, left_of, next_of, order_left, ran_from, run_counted, run_took, stretch}
use Rattle.process_runs.proofs.Rans.{said_then, turn_said}
use Rattle.process_runs.proofs.Stretches.{GoesOn, IsAt, IsStretch, goes_like, goes_then, is_at, is_stretch}

-- What a stretch of turns came to.

-- a process that runs is there
pub there_is : (ps : Wholes) (p : ℕ) → is_running ps p ≡ true → (process : Process) × (get ps.processes p ≡ Some process) × (runs process.state ≡ true)
there_is ps p running = by_found (get ps.processes p) refl
  where
    by_found : (found : Option Process) → get ps.processes p ≡ found → (process : Process) × (get ps.processes p ≡ Some process) × (runs process.state ≡ true)
    by_found None none = let no : false ≡ true = sym (ap (λ (o : Option Process). option_map_or (λ (q : Process). runs q.state) o false) none) ∙ running in cc
    by_found (Some process) there = (process, there, sym (ap (λ (o : Option Process). option_map_or (λ (q : Process). runs q.state) o false) there) ∙ running)

within_by : (p : ℕ) (order : Order) (turns taken : ℕ) → order_left p order (turns - taken) ≤ turns - taken
within_by p (ByTurns rounds) turns taken = omega arith
within_by p (Alone q) turns taken = omega arith

-- The last turn of a stretch, where its execution is no step: the state before it, and the run.
pub record IsLastTurn (breaks : Breaks) (ps : Wholes) (p steps : ℕ) (run : Progress) (o : Outcome) (now : Wholes) : Type 0 where
  pub before : Wholes
  pub quiet : GoesOn breaks ps run before (run_took steps p run)
  pub unbroken : last_break breaks before (run_took steps p run) ≡ None
  pub below : run.taken + steps < run.turns
  pub next : next_of before (run_took steps p run).order ≡ Some p
  pub runs : is_running before p ≡ true
  pub came : came_to before p ≡ o
  pub executed : AreLike now (after_execution before p)

module _ (breaks : Breaks) (ps : Wholes) (p most steps : ℕ) (run : Progress) (running : is_running ps p ≡ true) (next : next_of ps run.order ≡ Some p)
    (unbroken : last_break breaks ps run ≡ None) (is : most ≡ stretch p run) (counted : steps ≡ steps_to (addresses_of breaks p) most ps p) where
  abbrev stops : Addresses
  stops = addresses_of breaks p

  abbrev process : Process
  process = (there_is ps p running).0

  at_p : get ps.processes p ≡ Some process
  at_p = (there_is ps p running).1

  abbrev guest : Guest
  guest = guest_of ps process

  at : IsAt ps p guest
  at = is_at ps p process at_p

  whole : IsStretch breaks ps p most run (executions stops p most guest)
  whole = is_stretch breaks most ps p guest run at (there_is ps p running).2 (λ some. next) unbroken (omega (arith, is))

  steps_are : steps ≡ (executions stops p most guest).steps
  steps_are = counted ∙ ap (steps_of stops p most) at.there

  outcome_is : came_to_last stops most ps p ≡ (executions stops p most guest).outcome
  outcome_is = ap (last_outcome stops p most) at.there

  after_is : after_executions stops most ps p ≡ with_guest ps p (executions stops p most guest).after
  after_is = ap (λ (o : Option Guest). option_map_or (λ g. with_guest ps p (all_executed stops p most g)) o ps) at.there

  all_steps : outcome.Stepped ≡ came_to_last stops most ps p → (executions stops p most guest).outcome ≡ outcome.Stepped
  all_steps came = sym (came ∙ outcome_is)

  pub fits_left : steps ≤ most
  fits_left = omega (arith, steps_are, whole.fits)

  pub all_taken : outcome.Stepped ≡ came_to_last stops most ps p → 0 < most → 0 < steps
  all_taken came more = omega (arith, steps_are, whole.some (all_steps came) more)

  pub goes_on : (now : Wholes) → outcome.Stepped ≡ came_to_last stops most ps p → AreLike now (after_executions stops most ps p) → GoesOn breaks ps run now (run_took steps p run)
  goes_on now came moved =
      let e = executions stops p most guest in
      goes_then breaks ps (with_guest ps p e.before) now run (run_took e.steps p run) (run_took steps p run) whole.quiet
      (goes_like breaks (with_guest ps p e.before) now (run_took e.steps p run) (run_took steps p run)
      (like_back now (with_guest ps p e.before) (subst (AreLike now) (after_is ∙ ap (with_guest ps p) (sym (whole.all (all_steps came)))) moved))
      (ap (λ n. run_took n p run) (sym steps_are)))

  not_steps : (o : Outcome) → o ≡ came_to_last stops most ps p → (o ≡ outcome.Stepped → ⊥) → (executions stops p most guest).outcome ≡ outcome.Stepped → ⊥
  not_steps o came other steps = other (came ∙ outcome_is ∙ steps)

  pub one_more : (o : Outcome) → o ≡ came_to_last stops most ps p → (o ≡ outcome.Stepped → ⊥) → steps + 1 ≤ most
  one_more o came other = omega (arith, steps_are, whole.fewer (not_steps o came other))

  pub last_turn : (o : Outcome) (now : Wholes) → o ≡ came_to_last stops most ps p → (o ≡ outcome.Stepped → ⊥) → AreLike now (after_executions stops most ps p)
      → IsLastTurn breaks ps p steps run o now
  last_turn o now came other moved =
      let no = not_steps o came other in
      let before = with_guest ps p (executions stops p most guest).before in
      let same = ap (λ n. run_took n p run) (sym steps_are) in
      record {
        before = before;
        quiet = subst (λ r. GoesOn breaks ps run before r) same whole.quiet;
        below = omega (arith, one_more o came other, is, within_by p run.order run.turns run.taken);
        next = ap (λ (r : Progress). next_of before r.order) (sym same) ∙ whole.next no;
        unbroken = ap (last_break breaks before) (sym same) ∙ whole.unbroken no;
        runs = whole.runs no;
        came = whole.came no ∙ sym outcome_is ∙ sym came;
        executed = subst (AreLike now) (after_is ∙ sym (whole.after no)) moved;
      }

-- where it asked for something, the process runs
pub asked_runs : (breaks : Breaks) (ps : Wholes) (p steps : ℕ) (run : Progress) (o : Outcome) (now : Wholes) → IsLastTurn breaks ps p steps run o now
    → o ≡ outcome.Asked → is_running now p ≡ true
asked_runs breaks ps p steps run o now t asks =
    like_running p now (after_execution t.before p) t.executed ∙ taken_law run.calls outcome.Asked t.before p t.runs (t.came ∙ asks)

-- what it says, and what follows it
pub says_last : (breaks : Breaks) (ps : Wholes) (p steps : ℕ) (run : Progress) (o : Outcome) (now new : Wholes) (came : Turn)
    → IsLastTurn breaks ps p steps run o now → FinishesTurn run.calls p o now came new
    → SaysThen (turn_text p came) (ran_from breaks ps run) (left_of breaks new (run_counted came p (run_took steps p run)))
says_last breaks ps p steps run o now new came t finishes =
    let r = run_took steps p run in
    let is = finishes t.before t.runs t.came t.executed in
    said_then (turn_text p came) (ran_from breaks ps run) (ran_from breaks t.before r) (left_of breaks new (run_counted came p r)) t.quiet
    (turn_said breaks t.before new r p came t.unbroken t.below t.next is.0 is.1)

-- The rest of a turn, by what came of its execution: nothing, or what was asked for.

pub rest_none : (calls : Bool) (o came : Outcome) (t : Turn) (p : ℕ) (now : Wholes) → came ≡ o → ((old : Wholes) → IsTakenOf calls old p o → IsTaken calls old p t)
    → FinishesTurn calls p came now t now
rest_none calls o came t p now is whole old runs executed like =
    let law = whole old (taken_law calls o old p runs (executed ∙ is)) in
    (sym law.turn_is, subst (AreLike now) (sym law.after_is) like)

pub rest_asked : (calls : Bool) (came : Outcome) (t : Turn) (p : ℕ) (now new : Wholes) → came ≡ outcome.Asked → AnswersRequest calls p now t new → FinishesTurn calls p came now t new
rest_asked calls came t p now new is answers old runs executed like = answers old runs (executed ∙ is) like

-- one without a line says nothing
pub no_line : (p : ℕ) (t : Turn) → has_turn_line t ≡ false → [] ≡ turn_text p t
no_line p turn.Stepped none = refl
no_line p (turn.Wrote written) none = cc
no_line p (turn.Exited code) none = cc
no_line p (turn.Faulted kind at) none = cc
no_line p (turn.Full units limit) none = cc
