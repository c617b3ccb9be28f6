use Rattle.std.proofs.Common.{◌≡◌, ℕ, suc, ◌+◌, ◌-◌, ◌<◌, ◌≤◌, ◌==◌, Bool, true, false, cond, List, [], ◌++◌, sym, ap, subst, ◌∙◌, refl, arith, append_assoc, Option, Some, None, nat_lt, ◌⊎◌, inl, inr}
use Rattle.std.specs.Option.{option_map_or, option_or}
use Rattle.std.proofs.lemmas.Bool.Decides.{nat_tests}
use Rattle.std.specs.Prelude.{flat_map}
use Rattle.ovl_io.specs.declared.turn.Turn.{Turn}
use Rattle.breakpoints.specs.Breakpoints.{Breaks}
use Rattle.machine_core.specs.Machine.{AreLike, Wholes}
use Rattle.machine_core.specs.Laws.{like_back, like_chain, like_itself}
use Rattle.self_speculation.specs.Taken.{after_taken, taken_turn}
use Rattle.machine_core.specs.Ample.{is_full_turn}
use Rattle.process_runs.specs.declared.turns.Order.{Order}
use Rattle.report_text.specs.declared.answer.Stop.{Stop}
use Rattle.report_text.specs.declared.answer.Stop.TheVariants.{Full, Limit}
use Rattle.report_text.specs.Answers.{turn_text, stop_text}
use Rattle.process_runs.specs.LikeLaws.{AreLikeRans, like_left, like_text, ran_ended, ran_more}
use Rattle.process_runs.specs.Turns.{EndsRun, InRun, Progress, Ran, SaysThen, Speaks, ending, ending_by, event_then, first_event, last_break, left_by, left_of, lines_left, next_of, ran, ran_from, rest_of, run_after, run_counted, run_took, stopped, turns_by}

-- Turns, one after the other.

-- a turn is left
pub is_left : (b : Bool) (taken turns : ℕ) → b ≡ nat_lt taken turns → b ≡ true → taken < turns
is_left b taken turns is left = below taken turns (sym is ∙ left)
  where
    below : (m n : ℕ) → nat_lt m n ≡ true → m < n
    below m n h = grind (arith, nat_tests)

-- the next number, by the order that a run has
pub next_is : (processes : Wholes) (order other : Order) (next : Option ℕ) → next ≡ next_of processes order → order ≡ other → next_of processes other ≡ next
next_is processes order other next is same = ap (next_of processes) (sym same) ∙ sym is

left_more : (turns taken : ℕ) → taken < turns → turns - taken ≡ suc (turns - (taken + 1))
left_more turns taken h = omega arith

-- the first of some turns
pub ran_first : (breaks : Breaks) (processes : Wholes) (run : Progress) (p : ℕ) → last_break breaks processes run ≡ None → run.taken < run.turns
    → next_of processes run.order ≡ Some p
    → ran_from breaks processes run ≡ event_then p (taken_turn run.calls processes p) (ran_from breaks (after_taken run.calls processes p) (run_after p run)) (after_taken run.calls processes p) run
ran_first breaks processes run p unbroken below next =
    ap (λ left. ran breaks left processes run) (left_more run.turns run.taken below)
    ∙ ran_more breaks processes run unbroken (run.turns - (run.taken + 1))
    ∙ ap (λ n. turns_by (taken_turn run.calls processes) (after_taken run.calls processes) n (λ q. ran breaks (run.turns - (run.taken + 1)) (after_taken run.calls processes q) (run_after q run)) processes run) next

pub same_like : (a b : Wholes) → a ≡ b → AreLike a b
same_like a b same = subst (AreLike a) same (like_itself a)

-- What is said first, and then what others say.

pub said_none : (r : Ran Wholes) → SaysThen [] r r
said_none r = (refl, like_itself r.after)

pub said_like : (r s : Ran Wholes) → AreLikeRans r s → SaysThen [] r s
said_like r s like = (like_text r s like, like.after)

pub said_then : (line : List ℕ) (r s t : Ran Wholes) → SaysThen [] r s → SaysThen line s t → SaysThen line r t
said_then line r s t h k = (h.0 ∙ k.0, like_chain r.after s.after t.after h.1 k.1)

said_first : (p : ℕ) (turn : Turn) (r s : Ran Wholes) → AreLikeRans r s → SaysThen (turn_text p turn) (first_event p turn r) s
said_first p turn r s like = (
  append_assoc (turn_text p turn) (flat_map (λ event. turn_text event.0 event.1) r.events) (stop_text r.taken r.stop)
      ∙ ap (λ bs. turn_text p turn ++ bs) (like_text r s like),
  like.after,
)

-- A turn, and what is left behind it.
pub turn_said : (breaks : Breaks) (old new : Wholes) (run : Progress) (p : ℕ) (t : Turn) → last_break breaks old run ≡ None → run.taken < run.turns → next_of old run.order ≡ Some p
    → t ≡ taken_turn run.calls old p → AreLike new (after_taken run.calls old p) → SaysThen (turn_text p t) (ran_from breaks old run) (left_of breaks new (run_counted t p run))
turn_said breaks old new run p t unbroken below next is like =
    let left = after_taken run.calls old p in
    let first = ran_first breaks old run p unbroken below next ∙ ap (λ t. event_then p t (ran_from breaks left (run_after p run)) left run) (sym is) in
    subst (λ (r : Ran Wholes). SaysThen (turn_text p t) r (left_of breaks new (run_counted t p run))) (sym first)
    (said_first p t _ _ (by_full (is_full_turn t)))
  where
    back : AreLike (after_taken run.calls old p) new
    back = like_back new (after_taken run.calls old p) like

    by_full : (b : Bool) → AreLikeRans (cond b (stopped Full (after_taken run.calls old p) run) (ran_from breaks (after_taken run.calls old p) (run_after p run)))
        (left_of breaks new (cond b (record { run = run; stop = Some Full }) (record { run = run_after p run; stop = None })))
    by_full true = like_left breaks (after_taken run.calls old p) new (record { run = run; stop = Some Full }) back
    by_full false = like_left breaks (after_taken run.calls old p) new (record { run = run_after p run; stop = None }) back

-- an ending holds where no process has the next turn, or none is left to be taken
pub has_ending : (next : Option ℕ) (run : Progress) → (next ≡ None) ⊎ (nat_lt run.taken run.turns ≡ false) → run.taken ≤ run.turns
    → (stop : Stop) × (ending_by next run ≡ Some stop)
has_ending None run why below = (rest_of run.order, refl)
has_ending (Some p) run (inl none) below = cc
has_ending (Some p) run (inr none) below =
    let all : (run.taken == run.turns) ≡ true = grind (arith, nat_tests, none, below) in
    (Limit, ap (λ (b : Bool). cond b (Some Limit) None) all)

-- why a run has ended: the last turn led to a breakpoint, or to none and one of those two holds
abbrev pub WhyEnded : Breaks → Wholes → Progress → Type 0
WhyEnded breaks processes run =
    ((stop : Stop) × (last_break breaks processes run ≡ Some stop))
    ⊎ ((last_break breaks processes run ≡ None) × ((next_of processes run.order ≡ None) ⊎ (nat_lt run.taken run.turns ≡ false)))

pub none_left : (breaks : Breaks) (processes : Wholes) (run : Progress) → nat_lt run.taken run.turns ≡ false → WhyEnded breaks processes run
none_left breaks processes run all = by_break (last_break breaks processes run) refl
  where
    by_break : (o : Option Stop) → last_break breaks processes run ≡ o → WhyEnded breaks processes run
    by_break None is = inr (is, inr all)
    by_break (Some stop) is = inl (stop, is)

has_ended : (breaks : Breaks) (processes : Wholes) (run : Progress) → WhyEnded breaks processes run → run.taken ≤ run.turns
    → (stop : Stop) × (ending breaks processes run ≡ Some stop)
has_ended breaks processes run (inl (stop, broken)) below =
    (stop, ap (λ o. option_or o (ending_by (next_of processes run.order) run)) broken)
has_ended breaks processes run (inr (unbroken, why)) below =
    let ends = has_ending (next_of processes run.order) run why below in
    (ends.0, ap (λ o. option_or o (ending_by (next_of processes run.order) run)) unbroken ∙ ends.1)

-- what is left of a run of which no ending was found
pub left_all : (breaks : Breaks) (processes : Wholes) (running : InRun) → running.stop ≡ None → left_of breaks processes running ≡ ran_from breaks processes running.run
left_all breaks processes running none = ap (λ (o : Option Stop). left_by o breaks processes running.run) none

-- a run of which no ending was found, with the state and the run that it came to
pub speaks_by : (breaks : Breaks) (old new : Wholes) (running after counted : InRun) (line said : List ℕ) → running.stop ≡ None → after ≡ counted → line ≡ said
    → SaysThen said (ran_from breaks old running.run) (left_of breaks new counted) → Speaks breaks old running line new after
speaks_by breaks old new running after counted line said none is says h =
    subst (λ bs. SaysThen bs (left_of breaks old running) (left_of breaks new after)) (sym says)
    (subst (λ (x : InRun). SaysThen said (left_of breaks old running) (left_of breaks new x)) (sym is)
    (subst (λ (r : Ran Wholes). SaysThen said r (left_of breaks new counted)) (sym (left_all breaks old running none)) h))

pub none_stopped : (after : InRun) (run : Progress) (stop : Option Stop) → after ≡ record { run = run; stop = stop } → stop ≡ None → after ≡ record { run = run; stop = None }
none_stopped after run stop is none = is ∙ ap (λ (o : Option Stop). record { run = run; stop = o }) none

-- fewer lines are left
pub fewer_left : (old new : InRun) → old.stop ≡ None → new.stop ≡ None → new.run.turns ≡ old.run.turns → old.run.taken < new.run.taken → new.run.taken ≤ new.run.turns
    → lines_left new < lines_left old
fewer_left old new none still turns more within =
    let before : lines_left old ≡ old.run.turns - old.run.taken + 1 = ap (λ (o : Option Stop). option_map_or (λ s. 0) o (old.run.turns - old.run.taken + 1)) none in
    let after : lines_left new ≡ new.run.turns - new.run.taken + 1 = ap (λ (o : Option Stop). option_map_or (λ s. 0) o (new.run.turns - new.run.taken + 1)) still in
    omega (arith, before, after, turns, more, within)

-- as behind a turn that is counted, or that isn't
abbrev pub HasFewer : InRun → InRun → Type 0
HasFewer old new = (lines_left new < lines_left old) × (new.run.turns ≡ old.run.turns)

pub fewer_counted : (p n : ℕ) (t : Turn) (old new : InRun) → old.stop ≡ None → old.run.taken + n < old.run.turns → new ≡ run_counted t p (run_took n p old.run) → HasFewer old new
fewer_counted p n t old new none below is = subst (HasFewer old) (sym is) (by_full (is_full_turn t))
  where
    some_left : 0 < lines_left old
    some_left =
        let before : lines_left old ≡ old.run.turns - old.run.taken + 1 = ap (λ (o : Option Stop). option_map_or (λ s. 0) o (old.run.turns - old.run.taken + 1)) none in
        omega (arith, before)

    by_full : (b : Bool) → HasFewer old (cond b (record { run = run_took n p old.run; stop = Some Full }) (record { run = run_after p (run_took n p old.run); stop = None }))
    by_full true = (some_left, refl)
    by_full false = (fewer_left old (record { run = run_after p (run_took n p old.run); stop = None }) none refl refl (omega arith) (omega (arith, below)), refl)

-- what is found at the end of a run
pub run_ended : (breaks : Breaks) (start processes : Wholes) (first now : InRun) (found : Option Stop) → now.stop ≡ None → found ≡ ending breaks processes now.run
    → Speaks breaks start first [] processes now → WhyEnded breaks processes now.run → now.run.taken ≤ now.run.turns
    → EndsRun breaks start first processes (record { run = now.run; stop = found })
run_ended breaks start processes first now found none is said why below =
    let ends = has_ended breaks processes now.run why below in
    let all = left_all breaks processes now none ∙ ran_ended breaks processes now.run ends.0 below ends.1 in
    (ends.0, is ∙ ends.1, subst (λ (r : Ran Wholes). SaysThen [] (left_of breaks start first) r) all said)

pub limit_is : (processes : Wholes) (run : Progress) (p : ℕ) → next_of processes run.order ≡ Some p → nat_lt run.taken run.turns ≡ false
    → run.taken ≤ run.turns → Some Limit ≡ ending_by (next_of processes run.order) run
limit_is processes run p next none below =
    let all : (run.taken == run.turns) ≡ true = grind (arith, nat_tests, none, below) in
    sym (ap (λ n. ending_by n run) next ∙ ap (λ (b : Bool). cond b (Some Limit) None) all)
