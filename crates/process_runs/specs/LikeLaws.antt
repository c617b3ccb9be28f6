use Rattle.std.specs.Prelude.{◌≡◌, ℕ, zero, suc, ◌-◌, ◌==◌, Bool, true, false, cond, List, ◌∷◌, ◌++◌, flat_map, Option, Some, None, refl, ◌≤◌}
use Rattle.std.proofs.Common.{sym, ap, subst, ◌∙◌, arith, eqb-true}
use Rattle.std.specs.Option.{option_and_then, option_map_or, option_or}
use Rattle.std.specs.FinMap.{get}
use Rattle.breakpoints.specs.Breakpoints.{Breaks}
use Rattle.ovl_io.specs.declared.turn.Turn.{Turn}
use Rattle.ovl_io.specs.declared.turn.Turn.TheVariants as turn
use Rattle.machine_core.specs.Machine.{AreLike, Processes, Wholes, running_among}
use Rattle.machine_core.specs.Laws.{like_running}
use Rattle.round_robin.specs.Turns.{next_number}
use Rattle.report_text.specs.declared.answer.Stop.{Stop}
use Rattle.report_text.specs.declared.answer.Stop.TheVariants as stop
use Rattle.report_text.specs.Answers.{stop_text, turn_text}
use Rattle.self_speculation.specs.Taken.{after_taken, taken_turn}
use Rattle.self_speculation.specs.TakenLaws.{like_after_taken, like_taken}
use Rattle.process_runs.specs.declared.turns.Order.{Order}
use Rattle.process_runs.specs.declared.turns.Order.TheVariants.{ByTurns, Alone}
use Rattle.process_runs.specs.Turns.{InRun, Progress, Ran, break_at, ending, ending_by, event_then, first_event, last_break, left_by, left_of, next_of, ran, ran_from, ran_text, rest_of, run_after, run_found, stopped, turns_by, unless_broken}

-- Laws: turns of states that differ in the numbers of origins alone come to the same texts, and leave alike states.

module _ (a b : Wholes) (like : AreLike a b) where
  pub like_next : (order : Order) → next_of a order ≡ next_of b order
  like_next (ByTurns turns) = ap (λ (ps : Processes). next_number turns (running_among ps)) like.processes
  like_next (Alone p) = ap (λ c. cond c (Some p) None) (like_running p a b like)

  pub like_break : (breaks : Breaks) (run : Progress) → last_break breaks a run ≡ last_break breaks b run
  like_break breaks run = ap (λ (ps : Processes). option_and_then (λ p. option_and_then (break_at breaks p) (get ps p)) run.last) like.processes

  pub like_ending : (breaks : Breaks) (run : Progress) → ending breaks a run ≡ ending breaks b run
  like_ending breaks run =
      ap (λ o. option_or o (ending_by (next_of a run.order) run)) (like_break breaks run)
      ∙ ap (λ n. option_or (last_break breaks b run) (ending_by n run)) (like_next run.order)

  pub like_found : (breaks : Breaks) (run : Progress) → run_found breaks a run ≡ run_found breaks b run
  like_found breaks run = ap (λ s. record { run = run; stop = s }) (like_ending breaks run)

pub record AreLikeRans (r s : Ran Wholes) : Type 0 where
  pub events : r.events ≡ s.events
  pub stop_is : r.stop ≡ s.stop
  pub taken : r.taken ≡ s.taken
  pub after : AreLike r.after s.after

pub like_text : (r s : Ran Wholes) → AreLikeRans r s → ran_text r ≡ ran_text s
like_text r s like =
    ap (λ (es : List (ℕ × Turn)). flat_map (λ event. turn_text event.0 event.1) es ++ stop_text r.taken r.stop) like.events
    ∙ ap (λ n. flat_map (λ event. turn_text event.0 event.1) s.events ++ stop_text n r.stop) like.taken
    ∙ ap (λ x. flat_map (λ event. turn_text event.0 event.1) s.events ++ stop_text s.taken x) like.stop_is

like_stopped : (why : Stop) (a b : Wholes) (run : Progress) → AreLike a b → AreLikeRans (stopped why a run) (stopped why b run)
like_stopped why a b run like = record { events = refl; stop_is = refl; taken = refl; after = like }

like_first : (p : ℕ) (t : Turn) (r s : Ran Wholes) → AreLikeRans r s → AreLikeRans (first_event p t r) (first_event p t s)
like_first p t r s like = record { events = ap (λ (es : List (ℕ × Turn)). (p, t) ∷ es) like.events; stop_is = like.stop_is; taken = like.taken; after = like.after }

like_then : (p : ℕ) (t : Turn) (r s : Ran Wholes) (a b : Wholes) (run : Progress) → AreLikeRans r s → AreLike a b → AreLikeRans (event_then p t r a run) (event_then p t s b run)
like_then p turn.Stepped r s a b run h like = like_first p turn.Stepped r s h
like_then p (turn.Wrote written) r s a b run h like = like_first p (turn.Wrote written) r s h
like_then p (turn.Exited code) r s a b run h like = like_first p (turn.Exited code) r s h
like_then p (turn.Faulted kind at) r s a b run h like = like_first p (turn.Faulted kind at) r s h
like_then p (turn.Full units limit) r s a b run h like = like_first p (turn.Full units limit) _ _ (like_stopped stop.Full a b run like)

like_by : (calls : Bool) (next : Option ℕ) (f g : ℕ → Ran Wholes) (a b : Wholes) (run : Progress) → AreLike a b → ((p : ℕ) → AreLikeRans (f p) (g p))
    → AreLikeRans (turns_by (taken_turn calls a) (after_taken calls a) next f a run) (turns_by (taken_turn calls b) (after_taken calls b) next g b run)
like_by calls None f g a b run like h = like_stopped (rest_of run.order) a b run like
like_by calls (Some p) f g a b run like h =
    subst (λ t. AreLikeRans (event_then p (taken_turn calls a p) (f p) (after_taken calls a p) run) (event_then p t (g p) (after_taken calls b p) run)) (like_taken p a b like calls)
    (like_then p (taken_turn calls a p) (f p) (g p) (after_taken calls a p) (after_taken calls b p) run (h p) (like_after_taken p a b like calls))

like_unless : (o : Option Stop) (r s : Ran Wholes) (a b : Wholes) (run : Progress) → AreLikeRans r s → AreLike a b → AreLikeRans (unless_broken o r a run) (unless_broken o s b run)
like_unless None r s a b run h like = h
like_unless (Some why) r s a b run h like = like_stopped why a b run like

module _ (breaks : Breaks) where
  like_broken : (r s : Ran Wholes) (a b : Wholes) (run : Progress) → AreLike a b → AreLikeRans r s
      → AreLikeRans (unless_broken (last_break breaks a run) r a run) (unless_broken (last_break breaks b run) s b run)
  like_broken r s a b run like h =
      subst (λ o. AreLikeRans (unless_broken (last_break breaks a run) r a run) (unless_broken o s b run)) (like_break a b like breaks run)
      (like_unless (last_break breaks a run) r s a b run h like)

  pub like_ran : (left : ℕ) (a b : Wholes) (run : Progress) → AreLike a b → AreLikeRans (ran breaks left a run) (ran breaks left b run)
  like_ran zero a b run like =
      like_broken _ _ a b run like
      (subst (λ (n : Option ℕ). AreLikeRans (stopped (option_map_or (λ p. stop.Limit) (next_of a run.order) (rest_of run.order)) a run)
      (stopped (option_map_or (λ p. stop.Limit) n (rest_of run.order)) b run)) (like_next a b like run.order)
      (like_stopped (option_map_or (λ p. stop.Limit) (next_of a run.order) (rest_of run.order)) a b run like))
  like_ran (suc left) a b run like =
      like_broken _ _ a b run like
      (subst (λ (n : Option ℕ). AreLikeRans (turns_by (taken_turn run.calls a) (after_taken run.calls a) (next_of a run.order) (λ p. ran breaks left (after_taken run.calls a p) (run_after p run)) a run)
      (turns_by (taken_turn run.calls b) (after_taken run.calls b) n (λ p. ran breaks left (after_taken run.calls b p) (run_after p run)) b run)) (like_next a b like run.order)
      (like_by run.calls (next_of a run.order) (λ p. ran breaks left (after_taken run.calls a p) (run_after p run)) (λ p. ran breaks left (after_taken run.calls b p) (run_after p run)) a b run like
      (λ p. like_ran left (after_taken run.calls a p) (after_taken run.calls b p) (run_after p run) (like_after_taken p a b like run.calls))))

  pub like_left : (a b : Wholes) (running : InRun) → AreLike a b → AreLikeRans (left_of breaks a running) (left_of breaks b running)
  like_left a b running like = by_stop running.stop
    where
      by_stop : (found : Option Stop) → AreLikeRans (left_by found breaks a running.run) (left_by found breaks b running.run)
      by_stop None = like_ran _ a b running.run like
      by_stop (Some why) = like_stopped why a b running.run like

-- turns that have ended
limit_stop : (b : Bool) (why : Stop) → cond b (Some stop.Limit) None ≡ Some why → (b ≡ true) × (stop.Limit ≡ why)
limit_stop true why is = (refl, cc)
limit_stop false why is = cc

module _ (breaks : Breaks) (state : Wholes) (run : Progress) where
  -- the last turn led to a breakpoint
  pub ran_broken : (why : Stop) (left : ℕ) → last_break breaks state run ≡ Some why → ran breaks left state run ≡ stopped why state run
  ran_broken why zero is =
      ap (λ o. unless_broken o (stopped (option_map_or (λ p. stop.Limit) (next_of state run.order) (rest_of run.order)) state run) state run) is
  ran_broken why (suc left) is =
      ap (λ o. unless_broken o (turns_by (taken_turn run.calls state) (after_taken run.calls state) (next_of state run.order) (λ p. ran breaks left (after_taken run.calls state p) (run_after p run)) state run) state run) is

  -- or to none
  module _ (none : last_break breaks state run ≡ None) where
    ran_none : ran breaks zero state run ≡ stopped (option_map_or (λ p. stop.Limit) (next_of state run.order) (rest_of run.order)) state run
    ran_none = ap (λ o. unless_broken o (stopped (option_map_or (λ p. stop.Limit) (next_of state run.order) (rest_of run.order)) state run) state run) none

    pub ran_more : (left : ℕ) → ran breaks (suc left) state run
        ≡ turns_by (taken_turn run.calls state) (after_taken run.calls state) (next_of state run.order) (λ p. ran breaks left (after_taken run.calls state p) (run_after p run)) state run
    ran_more left = ap (λ o. unless_broken o (turns_by (taken_turn run.calls state) (after_taken run.calls state) (next_of state run.order) (λ p. ran breaks left (after_taken run.calls state p) (run_after p run)) state run) state run) none

    ran_by_next : (next : Option ℕ) (why : Stop) (left : ℕ) → next_of state run.order ≡ next
        → left ≡ run.turns - run.taken → run.taken ≤ run.turns → ending_by next run ≡ Some why → ran breaks left state run ≡ stopped why state run
    ran_by_next None why zero is many below ends =
        let same : rest_of run.order ≡ why = cc in
        ran_none ∙ ap (λ n. stopped (option_map_or (λ p. stop.Limit) n (rest_of run.order)) state run) is ∙ ap (λ s. stopped s state run) same
    ran_by_next None why (suc left) is many below ends =
        let same : rest_of run.order ≡ why = cc in
        ran_more left ∙ ap (λ n. turns_by (taken_turn run.calls state) (after_taken run.calls state) n (λ p. ran breaks left (after_taken run.calls state p) (run_after p run)) state run) is ∙ ap (λ s. stopped s state run) same
    ran_by_next (Some p) why left is many below ends =
        let parts = limit_stop (run.taken == run.turns) why ends in
        let none_left : left ≡ 0 = omega (arith, many, eqb-true run.taken run.turns parts.0) in
        ap (λ n. ran breaks n state run) none_left ∙ ran_none
        ∙ ap (λ n. stopped (option_map_or (λ q. stop.Limit) n (rest_of run.order)) state run) is ∙ ap (λ s. stopped s state run) parts.1

  ended_by_break : (o : Option Stop) (why : Stop) → last_break breaks state run ≡ o → run.taken ≤ run.turns
      → option_or o (ending_by (next_of state run.order) run) ≡ Some why → ran_from breaks state run ≡ stopped why state run
  ended_by_break None why is below ends = ran_by_next is (next_of state run.order) why (run.turns - run.taken) refl refl below ends
  ended_by_break (Some found) why is below ends =
      let same : found ≡ why = cc in ran_broken found (run.turns - run.taken) is ∙ ap (λ s. stopped s state run) same

  pub ran_ended : (why : Stop) → run.taken ≤ run.turns → ending breaks state run ≡ Some why → ran_from breaks state run ≡ stopped why state run
  ran_ended why below ends = ended_by_break (last_break breaks state run) why refl below ends

  -- what is left of a run of which the ending was found that holds
  pub left_found : run.taken ≤ run.turns → left_by (ending breaks state run) breaks state run ≡ ran_from breaks state run
  left_found below = by_stop (ending breaks state run) refl
    where
      by_stop : (found : Option Stop) → ending breaks state run ≡ found → left_by found breaks state run ≡ ran_from breaks state run
      by_stop None is = refl
      by_stop (Some why) is = sym (ran_ended why below is)
