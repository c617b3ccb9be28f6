use Rattle.std.specs.Prelude.{◌≡◌, ℕ, zero, suc, Bool, true, false, cond, List, ◌∷◌, ◌++◌, flat_map, Option, Some, None, refl}
use Rattle.std.proofs.Common.{sym, ap, subst, ◌∙◌, append_assoc}
use Rattle.std.specs.Option.{option_map, option_map_or}
use Rattle.std.specs.FinMap.{get, insert}
use Rattle.breakpoints.specs.Breakpoints.{Breaks}
use Rattle.ovl_io.specs.declared.turn.Turn.{Turn}
use Rattle.ovl_io.specs.declared.turn.Turn.TheVariants as turn
use Rattle.process_calls.specs.declared.calls.ProcessCall.{ProcessCall}
use Rattle.machine_core.specs.Process.{Process}
use Rattle.machine_core.specs.Machine.{Processes, Wholes, unit_limit}
use Rattle.machine_core.specs.Ample.{is_full_turn, step_fits}
use Rattle.machine_core.specs.Turns.{guest_after, guest_of, guest_refused, guest_stepped, is_full, step_of, turn_in, units_needed, with_guest}
use Rattle.report_text.specs.declared.answer.Stop.{Stop}
use Rattle.report_text.specs.declared.answer.Stop.TheVariants as stop
use Rattle.report_text.specs.Answers.{stop_text, turn_text}
use Rattle.report_text.specs.FullLines.{behind_lines, has_full_line, turn_lines, turn_shows}
use Rattle.self_speculation.specs.Called.{after_by, call_of, called_in, guest_called, row_does, row_is_full, row_needs, row_of, step_after_by, step_turn_by, turn_by}
use Rattle.self_speculation.specs.Taken.{after_taken, taken_step, taken_step_turn, taken_turn}
use Rattle.self_speculation.specs.TakenLaws.{taken_extension}
use Rattle.process_runs.specs.Turns.{Progress, Ran, event_then, first_event, last_break, next_of, ran, ran_by, ran_text, rest_of, run_after, stopped, turns_by, unless_broken}
use Rattle.process_runs.specs.Unbounded.{after_step_of, step_among, unbounded_turns}

-- Laws: as long as no line says `full`, turns of the copying machine come to those of the unbounded one.

-- A turn: it is full, or it is the step.
pub data ComesOut (calls : Bool) (state : Wholes) (p : ℕ) : Type 0 where
  IsFullTurn : (units limit : ℕ) → taken_turn calls state p ≡ turn.Full units limit → ComesOut calls state p
  IsStep : taken_turn calls state p ≡ step_among calls state.extension state.processes p → is_full_turn (step_among calls state.extension state.processes p) ≡ false
      → (after_taken calls state p).processes ≡ after_step_of calls state.extension state.processes p → ComesOut calls state p

-- the same of a process that may be there, where it is known whether there aren't units enough
abbrev turn_found : Bool → Wholes → ℕ → Option Process → Turn
turn_found false state p o = option_map_or (turn_in p) (option_map (guest_of state) o) turn.Stepped
turn_found true state p o = option_map_or (called_in p) (option_map (guest_of state) o) turn.Stepped

abbrev step_found : Bool → Bool → ℕ → Option Process → Turn
step_found calls extension p o = option_map_or (λ process. taken_step_turn calls extension p process) o turn.Stepped

abbrev after_found : Bool → Wholes → ℕ → Option Process → Wholes
after_found false state p o = option_map_or (λ guest. with_guest state p (guest_after p guest)) (option_map (guest_of state) o) state
after_found true state p o = option_map_or (λ guest. with_guest state p (guest_called p guest)) (option_map (guest_of state) o) state

abbrev step_left : Bool → Wholes → ℕ → Option Process → Processes
step_left calls state p o = option_map_or (λ process. insert state.processes p (taken_step calls state.extension p process)) o state.processes

data Found (calls : Bool) (state : Wholes) (p : ℕ) (o : Option Process) : Type 0 where
  FullThere : (units limit : ℕ) → turn_found calls state p o ≡ turn.Full units limit → Found calls state p o
  StepThere : turn_found calls state p o ≡ step_found calls state.extension p o → is_full_turn (step_found calls state.extension p o) ≡ false
      → (after_found calls state p o).processes ≡ step_left calls state p o → Found calls state p o

module _ (state : Wholes) (p : ℕ) where
  by_full : (process : Process) (full : Bool) → is_full p (guest_of state process) ≡ full → Found false state p (Some process)
  by_full process true is =
      FullThere (units_needed p (guest_of state process)) (unit_limit state.frames)
      (ap (λ b. cond b (turn.Full (units_needed p (guest_of state process)) (unit_limit state.frames)) (step_of state.extension p process).turn) is)
  by_full process false is =
      let guest = guest_of state process in
      StepThere
      (ap (λ b. cond b (turn.Full (units_needed p guest) (unit_limit state.frames)) (step_of state.extension p process).turn) is)
      (step_fits state.extension p process)
      (ap (λ b. (with_guest state p (cond b (guest_refused p guest) (guest_stepped p guest))).processes) is)

  -- one that makes a request of its own
  by_units : (process : Process) (call : ProcessCall) → call_of state.extension process ≡ Some call
      → (full : Bool) → row_is_full (row_of p call process) (guest_refused p (guest_of state process)) ≡ full → Found true state p (Some process)
  by_units process call is true full =
      let fetched = guest_refused p (guest_of state process) in
      let row = row_of p call process in
      FullThere (row_needs row fetched) (unit_limit state.frames)
      (ap (λ (o : Option ProcessCall). turn_by p o (guest_of state process)) is
      ∙ ap (λ b. cond b (turn.Full (row_needs row fetched) (unit_limit state.frames)) turn.Stepped) full)
  by_units process call is false enough =
      let fetched = guest_refused p (guest_of state process) in
      let row = row_of p call process in
      StepThere
      (ap (λ (o : Option ProcessCall). turn_by p o (guest_of state process)) is
      ∙ ap (λ b. cond b (turn.Full (row_needs row fetched) (unit_limit state.frames)) turn.Stepped) enough
      ∙ sym (ap (step_turn_by state.extension p process) is))
      (ap is_full_turn (ap (step_turn_by state.extension p process) is))
      (ap (λ (o : Option ProcessCall). (with_guest state p (after_by p o (guest_of state process))).processes) is
      ∙ ap (λ b. insert state.processes p (cond b fetched (row_does p row fetched)).process) enough
      ∙ sym (ap (λ (o : Option ProcessCall). insert state.processes p (step_after_by state.extension p process o)) is))

  -- one that may make one, or makes none
  by_call : (process : Process) (o : Option ProcessCall) → call_of state.extension process ≡ o → Found true state p (Some process)
  by_call process None is = plain (by_full process (is_full p (guest_of state process)) refl)
    where
      plain : Found false state p (Some process) → Found true state p (Some process)
      plain (FullThere units limit full) = FullThere units limit (ap (λ (o : Option ProcessCall). turn_by p o (guest_of state process)) is ∙ full)
      plain (StepThere same fits after) = StepThere
          (ap (λ (o : Option ProcessCall). turn_by p o (guest_of state process)) is ∙ same ∙ sym (ap (step_turn_by state.extension p process) is))
          (ap is_full_turn (ap (step_turn_by state.extension p process) is) ∙ fits)
          (ap (λ (o : Option ProcessCall). (with_guest state p (after_by p o (guest_of state process))).processes) is ∙ after
          ∙ sym (ap (λ (o : Option ProcessCall). insert state.processes p (step_after_by state.extension p process o)) is))
  by_call process (Some call) is = by_units process call is (row_is_full (row_of p call process) (guest_refused p (guest_of state process))) refl

  by_process : (calls : Bool) (o : Option Process) → Found calls state p o
  by_process false None = StepThere refl refl refl
  by_process true None = StepThere refl refl refl
  by_process false (Some process) = by_full process (is_full p (guest_of state process)) refl
  by_process true (Some process) = by_call process (call_of state.extension process) refl

  out : (calls : Bool) → Found calls state p (get state.processes p) → ComesOut calls state p
  out false (FullThere units limit is) = IsFullTurn units limit is
  out false (StepThere is fits after) = IsStep is fits after
  out true (FullThere units limit is) = IsFullTurn units limit is
  out true (StepThere is fits after) = IsStep is fits after

  pub comes_out : (calls : Bool) → ComesOut calls state p
  comes_out calls = out calls (by_process calls (get state.processes p))

-- Turns, one after the other.
pub record RanSame (extension : Bool) (r : Ran Wholes) (s : Ran Processes) : Type 0 where
  pub events : r.events ≡ s.events
  pub stop_is : r.stop ≡ s.stop
  pub taken : r.taken ≡ s.taken
  pub after : r.after.processes ≡ s.after
  pub extension_is : r.after.extension ≡ extension

abbrev SaysNoFull : Ran Wholes → List ℕ → Type 0
SaysNoFull r behind = has_full_line (ran_text r ++ behind) ≡ false

same_stopped : (why : Stop) (state : Wholes) (run : Progress) → RanSame state.extension (stopped why state run) (stopped why state.processes run)
same_stopped why state run = record { events = refl; stop_is = refl; taken = refl; after = refl; extension_is = refl }

same_first : (extension : Bool) (p : ℕ) (came : Turn) (r : Ran Wholes) (s : Ran Processes) → RanSame extension r s → RanSame extension (first_event p came r) (first_event p came s)
same_first extension p came r s same = record {
  events = ap (λ (es : List (ℕ × Turn)). (p, came) ∷ es) same.events;
  stop_is = same.stop_is;
  taken = same.taken;
  after = same.after;
  extension_is = same.extension_is;
}

-- the text of an event, and then that of the others
text_first : (p : ℕ) (came : Turn) (r : Ran Wholes) (behind : List ℕ) → ran_text (first_event p came r) ++ behind ≡ turn_text p came ++ (ran_text r ++ behind)
text_first p came r behind =
    ap (λ bs. bs ++ behind) (append_assoc (turn_text p came) (flat_map (λ event. turn_text event.0 event.1) r.events) (stop_text r.taken r.stop))
    ∙ append_assoc (turn_text p came) (ran_text r) behind

behind_first : (p : ℕ) (came : Turn) (r : Ran Wholes) (behind : List ℕ) → SaysNoFull (first_event p came r) behind → SaysNoFull r behind
behind_first p came r behind none =
    behind_lines (turn_text p came) (ran_text r ++ behind) (turn_lines p came) (sym (ap has_full_line (text_first p came r behind)) ∙ none)

-- an event that is full has its line
full_shows : (p units limit : ℕ) (others : Ran Wholes) (state : Wholes) (run : Progress) (behind : List ℕ)
    → SaysNoFull (event_then p (turn.Full units limit) others state run) behind → ⊥
full_shows p units limit others state run behind none =
    let all = stopped stop.Full state run in
    let shown : has_full_line (ran_text (first_event p (turn.Full units limit) all) ++ behind) ≡ true =
    ap has_full_line (text_first p (turn.Full units limit) all behind) ∙ turn_shows p units limit (ran_text all ++ behind) in
    let both : true ≡ false = sym shown ∙ none in
    cc

-- one that isn't is the first of them
same_then : (extension : Bool) (p : ℕ) (came : Turn) (r : Ran Wholes) (s : Ran Processes) (state : Wholes) (processes : Processes) (run : Progress) (behind : List ℕ)
    → is_full_turn came ≡ false → (SaysNoFull r behind → RanSame extension r s)
    → SaysNoFull (event_then p came r state run) behind → RanSame extension (event_then p came r state run) (event_then p came s processes run)
same_then extension p turn.Stepped r s state processes run behind fits rest none =
    same_first extension p turn.Stepped r s (rest (behind_first p turn.Stepped r behind none))
same_then extension p (turn.Wrote written) r s state processes run behind fits rest none =
    same_first extension p (turn.Wrote written) r s (rest (behind_first p (turn.Wrote written) r behind none))
same_then extension p (turn.Exited code) r s state processes run behind fits rest none =
    same_first extension p (turn.Exited code) r s (rest (behind_first p (turn.Exited code) r behind none))
same_then extension p (turn.Faulted kind at) r s state processes run behind fits rest none =
    same_first extension p (turn.Faulted kind at) r s (rest (behind_first p (turn.Faulted kind at) r behind none))
same_then extension p (turn.Full units limit) r s state processes run behind fits rest none = cc

module _ (breaks : Breaks) (behind : List ℕ) where
  -- whose turn comes out so
  same_turn : (p : ℕ) (state : Wholes) (run : Progress) (others : Ran Wholes) (each : Processes → Ran Processes) → ComesOut run.calls state p
      → (SaysNoFull others behind → RanSame state.extension others (each (after_taken run.calls state p).processes))
      → SaysNoFull (event_then p (taken_turn run.calls state p) others (after_taken run.calls state p) run) behind
      → RanSame state.extension (event_then p (taken_turn run.calls state p) others (after_taken run.calls state p) run) (event_then p (step_among run.calls state.extension state.processes p) (each (after_step_of run.calls state.extension state.processes p)) (after_step_of run.calls state.extension state.processes p) run)
  same_turn p state run others each (IsFullTurn units limit is) rest none =
      absurd (full_shows p units limit others (after_taken run.calls state p) run behind (subst (λ t. SaysNoFull (event_then p t others (after_taken run.calls state p) run) behind) is none))
  same_turn p state run others each (IsStep is fits after) rest none =
      let there = subst (λ t. SaysNoFull (event_then p t others (after_taken run.calls state p) run) behind) is none in
      subst (λ t. RanSame state.extension (event_then p t others (after_taken run.calls state p) run) (event_then p (step_among run.calls state.extension state.processes p) (each (after_step_of run.calls state.extension state.processes p)) (after_step_of run.calls state.extension state.processes p) run)) (sym is)
      (same_then state.extension p (step_among run.calls state.extension state.processes p) others (each (after_step_of run.calls state.extension state.processes p)) (after_taken run.calls state p) (after_step_of run.calls state.extension state.processes p) run behind fits
      (λ quiet. subst (λ ps. RanSame state.extension others (each ps)) after (rest quiet)) there)

  same_next : (next : Option ℕ) (state : Wholes) (run : Progress) (r : ℕ → Ran Wholes) (s : ℕ → Processes → Ran Processes)
      → ((p : ℕ) → SaysNoFull (r p) behind → RanSame state.extension (r p) (s p (after_taken run.calls state p).processes))
      → SaysNoFull (turns_by (taken_turn run.calls state) (after_taken run.calls state) next r state run) behind
      → RanSame state.extension (turns_by (taken_turn run.calls state) (after_taken run.calls state) next r state run) (turns_by (step_among run.calls state.extension state.processes) (after_step_of run.calls state.extension state.processes) next (λ p. s p (after_step_of run.calls state.extension state.processes p)) state.processes run)
  same_next None state run r s rest none = same_stopped (rest_of run.order) state run
  same_next (Some p) state run r s rest none = same_turn p state run (r p) (s p) (comes_out state p run.calls) (rest p) none

  same_unless : (broken : Option Stop) (state : Wholes) (run : Progress) (r : Ran Wholes) (s : Ran Processes) → (SaysNoFull r behind → RanSame state.extension r s)
      → SaysNoFull (unless_broken broken r state run) behind → RanSame state.extension (unless_broken broken r state run) (unless_broken broken s state.processes run)
  same_unless None state run r s rest none = rest none
  same_unless (Some why) state run r s rest none = same_stopped why state run

  pub same_ran : (left : ℕ) (state : Wholes) (run : Progress) → SaysNoFull (ran breaks left state run) behind
      → RanSame state.extension (ran breaks left state run) (ran_by (unbounded_turns run.calls state.extension breaks) left state.processes run)
  same_ran zero state run none =
      let why = option_map_or (λ p. stop.Limit) (next_of state run.order) (rest_of run.order) in
      same_unless (last_break breaks state run) state run (stopped why state run) (stopped why state.processes run) (λ quiet. same_stopped why state run) none
  same_ran (suc left) state run none =
      let next = next_of state run.order in
      same_unless (last_break breaks state run) state run
      (turns_by (taken_turn run.calls state) (after_taken run.calls state) next (λ p. ran breaks left (after_taken run.calls state p) (run_after p run)) state run)
      (turns_by (step_among run.calls state.extension state.processes) (after_step_of run.calls state.extension state.processes) next (λ p. ran_by (unbounded_turns run.calls state.extension breaks) left (after_step_of run.calls state.extension state.processes p) (run_after p run)) state.processes run)
      (same_next next state run (λ p. ran breaks left (after_taken run.calls state p) (run_after p run)) (λ p ps. ran_by (unbounded_turns run.calls state.extension breaks) left ps (run_after p run))
      (λ p quiet. subst (λ x. RanSame x (ran breaks left (after_taken run.calls state p) (run_after p run)) (ran_by (unbounded_turns run.calls x breaks) left (after_taken run.calls state p).processes (run_after p run)))
      (taken_extension run.calls state p) (same_ran left (after_taken run.calls state p) (run_after p run) quiet)))
      none

pub same_text : (extension : Bool) (r : Ran Wholes) (s : Ran Processes) → RanSame extension r s → ran_text r ≡ ran_text s
same_text extension r s same =
    ap (λ (es : List (ℕ × Turn)). flat_map (λ event. turn_text event.0 event.1) es ++ stop_text r.taken r.stop) same.events
    ∙ ap (λ n. flat_map (λ event. turn_text event.0 event.1) s.events ++ stop_text n r.stop) same.taken
    ∙ ap (λ x. flat_map (λ event. turn_text event.0 event.1) s.events ++ stop_text s.taken x) same.stop_is
