use Rattle.std.specs.Prelude.{◌≡◌, ℕ, zero, suc, ◌+◌, Bool, true, false, cond, List, [], ◌∷◌, ◌++◌, Option, Some, None, refl, map}
use Rattle.std.proofs.Common.{sym, ap, subst, ◌∙◌}
use Rattle.std.specs.Option.{option_map, option_map_or, unwrap_or}
use Rattle.std.specs.FinMap.{FinMap, get, insert, remove}
use Rattle.std.specs.Ordering.{nat_cmp}
use Rattle.number_maps.specs.Keys.{alike, by_key, get_same, insert_over}
use Rattle.number_maps.specs.Views.{get_viewed, viewed, viewed_gone}
use Rattle.ledger.specs.Ledger.{Ledger}
use Rattle.ledger.specs.Alike.{AreAlike}
use Rattle.ledger.specs.AlikeLaws.{alike_itself, alike_chain, alike_altered}
use Rattle.ledger.specs.AlikeUnits.{alike_dropped, units_alike}
use Rattle.ledger.specs.Events as event
use Rattle.ledger.specs.RowLaws.{alike_after}
use Rattle.ledger.specs.Touched.{touched}
use Rattle.ledger.specs.Units.{units}
use Rattle.overlay_pages.specs.State.{SpaceState, State, base_of, base_page, books, held_page, memory_of, seen_page}
use Rattle.space_maps.specs.Books.{books_cut}
use Rattle.space_maps.specs.Laws.{space_left}
use Rattle.space_maps.specs.Spaces.{cut_space, space_in}
use Rattle.machine_core.specs.declared.process.Process as declared
use Rattle.machine_core.specs.declared.process.SavedRegs.{SavedRegs}
use Rattle.ovl_io.specs.declared.process_state.ProcessState.TheVariants as state
use Rattle.ovl_io.specs.declared.turn.Turn.{Turn}
use Rattle.ovl_io.specs.declared.turn.Turn.TheVariants as turn
use Rattle.rv_execute.specs.declared.outcome.Outcome.{Outcome}
use Rattle.rv_execute.specs.declared.outcome.Outcome.TheVariants as outcome
use Rattle.ovl_io.specs.Memory.{Access}
use Rattle.rv_execute.specs.Calls.{Call, access_of, fetch_at}
use Rattle.rv_execute.specs.Execution.{Execution, Upshot, Steps, Asks, Faults, outcome_by}
use Rattle.rv_execute.specs.Step.{Request, request, altered}
use Rattle.machine_core.specs.Process.{Process, is_speculating, runs}
use Rattle.translation_cache.specs.Bare.{BareTranslations}
use Rattle.translation_cache.specs.Counted.{counted}
use Rattle.translation_cache.specs.CountedLaws.{counted_next, counted_one}
use Rattle.translation_cache.specs.Translations.{flushed}
use Rattle.rv_execute.specs.CallLaws.{is_requested_by}
use Rattle.rv_mul.specs.Tables.{table_of}
use Rattle.machine_core.specs.Machine.{AnswersAs, AreLike, IsDropped, LeadsTo, Machine, Processes, Wholes, is_running, kept_in, kept_whole, unit_limit, lists_of, none_saved, processes_of, spaces_of, whole_in, wholes, with_extension, with_extension_at, without_memory, without_process, without_process_at}
use Rattle.machine_core.specs.Turns.{AreLikeGuests, Guest, after_asked, after_execution, after_request, after_step, after_turn, asked_found, came_to, exceeds, executed, execution_of, guest_after, guest_answered, guest_at, guest_executed, guest_of, guest_refused, guest_stepped, is_full, ledger_executed, ledger_stored, outcome_found, outcome_of, process_after, process_executed, request_of, state_executed, step_of, store_of, translations_after, translations_asked, translations_executed, turn_asked, turn_in, turn_of, units_needed, with_guest}
use Rattle.std.specs.FinSet.{contains}
use Rattle.breakpoints.specs.Breakpoints.{Addresses}
use Rattle.machine_core.specs.Executions.{AreLikeExecutions, Executions, after_executions, after_steps, all_executed, came_to_last, executions, first_execution, is_at_stop, more_executions, no_execution, resumed, steps_to, stopped_execution}
use Rattle.machine_core.specs.Play.{after_number, run_over}
use Rattle.machine_core.specs.BareTurns.{bytes_asked, room_asked}

-- What the copying machine has of a machine, what states that differ in the numbers of origins alone have in common, and a turn by
-- its two parts.

pub processes_at : (machine : Machine) (q : ℕ) → get (processes_of machine) q ≡ option_map (whole_in (spaces_of machine) q) (get machine.processes q)
unfolding processes_of
processes_at machine q = get_viewed (λ p process. whole_in (spaces_of machine) p process) machine.processes q

-- the whole process of a space is that of its pages and its mark
memory_by : (x y : State) (q : ℕ) → space_in x q ≡ space_in y q → memory_of x q ≡ memory_of y q
unfolding memory_of
memory_by x y q same = ap (λ (s : SpaceState). viewed (λ _ x. seen_page x) s.pages) same

kept_by : (x y : State) (q : ℕ) → space_in x q ≡ space_in y q → (saved : Option SavedRegs) → kept_in x q saved ≡ kept_in y q saved
unfolding base_of
kept_by x y q same saved =
    ap (λ (s : SpaceState). cond s.speculating (Some (kept_whole (viewed (λ _ x. base_page x) s.pages) (unwrap_or saved none_saved))) None) same

pub whole_by : (x y : State) (q : ℕ) → space_in x q ≡ space_in y q → (process : declared.Process) → whole_in x q process ≡ whole_in y q process
whole_by x y q same process =
    let memory = memory_by x y q same in
    let kept = kept_by x y q same process.saved in
    λ i. record { registers = process.regs; state = process.state; memory = memory i; kept = kept i }

-- with extension M or without
pub wholes_extended : (machine : Machine) (extension : Bool) → wholes (with_extension_at machine extension) ≡ with_extension extension (wholes machine)
unfolding processes_of
wholes_extended machine extension = refl

-- a process taken away
pub wholes_without : (machine : Machine) (p : ℕ) → wholes (without_process_at machine p) ≡ without_process p (wholes machine)
unfolding processes_of
wholes_without machine p =
    let gone = viewed_gone (λ q process. whole_in (spaces_of machine) q process) machine.processes p in
    ap (λ (ps : Processes). record { processes = ps; ledger = (wholes machine).ledger; frames = (wholes machine).frames; extension = machine.extension; translations = lists_of machine }) gone

-- whether a process runs, by what is kept of it
pub runs_shown : (machine : Machine) (q : ℕ) → is_running (wholes machine) q ≡ option_map_or (λ (process : declared.Process). runs process.state) (get machine.processes q) false
runs_shown machine q =
    ap (λ (o : Option Process). option_map_or (λ (process : Process). runs process.state) o false) (processes_at machine q) ∙ by_process (get machine.processes q)
  where
    by_process : (o : Option declared.Process) → option_map_or (λ (process : Process). runs process.state) (option_map (whole_in (spaces_of machine) q) o) false
        ≡ option_map_or (λ (process : declared.Process). runs process.state) o false
    by_process None = refl
    by_process (Some process) = refl

-- how many bytes what a process asks for may write, by what is kept of it
pub room_shown : (machine : Machine) (q : ℕ) → room_asked (wholes machine) q ≡ option_map_or (λ (process : declared.Process). bytes_asked process.regs) (get machine.processes q) 0
room_shown machine q =
    ap (λ (o : Option Process). option_map_or (λ (process : Process). bytes_asked process.registers) o 0) (processes_at machine q) ∙ by_process (get machine.processes q)
  where
    by_process : (o : Option declared.Process) → option_map_or (λ (process : Process). bytes_asked process.registers) (option_map (whole_in (spaces_of machine) q) o) 0
        ≡ option_map_or (λ (process : declared.Process). bytes_asked process.regs) o 0
    by_process None = refl
    by_process (Some process) = refl

-- a space without a process given up
pub wholes_dropped : (p : ℕ) (old new : Machine) → get old.processes p ≡ None → IsDropped p old new → wholes new ≡ without_memory p (wholes old)
unfolding cut_space
wholes_dropped p old new absent dropped =
    let processes : processes_of new ≡ processes_of old = alike _ _ (λ q. processes_at new q
    ∙ ap (λ (m : FinMap nat_cmp declared.Process). option_map (whole_in (spaces_of new) q) (get m q)) dropped.processes
    ∙ by_key q p
    (λ same. ap (option_map (whole_in (spaces_of new) q)) (ap (get old.processes) same ∙ absent)
    ∙ sym (ap (option_map (whole_in (spaces_of old) q)) (ap (get old.processes) same ∙ absent)))
    (λ other. by_process q other (get old.processes q))
    ∙ sym (processes_at old q)) in
    let ledger : books (spaces_of new) ≡ remove (books (spaces_of old)) p = ap books dropped.spaces ∙ books_cut held_page (spaces_of old) p in
    let frames : (spaces_of new).frames ≡ (spaces_of old).frames = ap (λ (s : State). s.frames) dropped.spaces in
    λ i. record { processes = processes i; ledger = ledger i; frames = frames i; extension = dropped.extension i; translations = dropped.lists i }
  where
    by_process : (q : ℕ) → (q ≡ p → ⊥) → (o : Option declared.Process) → option_map (whole_in (spaces_of new) q) o ≡ option_map (whole_in (spaces_of old) q) o
    by_process q other None = refl
    by_process q other (Some process) =
        ap Some (whole_by (spaces_of new) (spaces_of old) q (ap (λ (s : State). space_in s q) dropped.spaces ∙ space_left (spaces_of old) p q other) process)

-- States that are like each other.

pub like_itself : (a : Wholes) → AreLike a a
like_itself a = record { processes = refl; ledger = alike_itself a.ledger; frames = refl; extension = refl; translations = refl }

pub like_same : (a b : Wholes) → a ≡ b → AreLike a b
like_same a b same = subst (AreLike a) same (like_itself a)

pub like_back : (a b : Wholes) → AreLike a b → AreLike b a
like_back a b like = record {
  processes = sym like.processes;
  ledger = alike_altered a.ledger b.ledger like.ledger;
  frames = sym like.frames;
  extension = sym like.extension;
  translations = sym like.translations;
}

pub like_chain : (a b c : Wholes) → AreLike a b → AreLike b c → AreLike a c
like_chain a b c h k = record {
  processes = h.processes ∙ k.processes;
  ledger = alike_chain a.ledger b.ledger c.ledger h.ledger k.ledger;
  frames = h.frames ∙ k.frames;
  extension = h.extension ∙ k.extension;
  translations = h.translations ∙ k.translations;
}

-- what is answered of a machine's own state is so of each that it stands for, and what its own state leads to, up to the numbers of
-- origins, each leads to
pub answers : {Answer : Type 0} (f : Wholes → Answer) (machine : Machine) (result : Answer) → ((a b : Wholes) → AreLike a b → f a ≡ f b)
    → result ≡ f (wholes machine) → AnswersAs f machine result
answers f machine result same is state stands = is ∙ same (wholes machine) state stands

pub leads : (f : Wholes → Wholes) (old new : Machine) → ((a b : Wholes) → AreLike a b → AreLike (f a) (f b)) → AreLike (wholes new) (f (wholes old)) → LeadsTo f old new
leads f old new like is state stands = like_chain (wholes new) (f (wholes old)) (f state) is (like (wholes old) state stands)

pub like_extended : (extension : Bool) (a b : Wholes) → AreLike a b → AreLike (with_extension extension a) (with_extension extension b)
like_extended extension a b like = record {
  processes = like.processes;
  ledger = like.ledger;
  frames = like.frames;
  extension = refl;
  translations = like.translations;
}

pub like_without : (p : ℕ) (a b : Wholes) → AreLike a b → AreLike (without_process p a) (without_process p b)
like_without p a b like = record {
  processes = ap (λ (ps : Processes). remove ps p) like.processes;
  ledger = like.ledger;
  frames = like.frames;
  extension = like.extension;
  translations = like.translations;
}

pub like_without_pages : (p : ℕ) (a b : Wholes) → AreLike a b → AreLike (without_memory p a) (without_memory p b)
like_without_pages p a b like = record {
  processes = like.processes;
  ledger = alike_dropped a.ledger b.ledger like.ledger p;
  frames = like.frames;
  extension = like.extension;
  translations = ap (flushed p) like.translations;
}

-- Processes in their places that are like each other.

pub guests_itself : (a : Guest) → AreLikeGuests a a
guests_itself a = record { process = refl; ledger = alike_itself a.ledger; frames = refl; extension = refl; translations = refl }

pub guests_same : (a b : Guest) → a ≡ b → AreLikeGuests a b
guests_same a b same = subst (AreLikeGuests a) same (guests_itself a)

pub guests_chain : (a b c : Guest) → AreLikeGuests a b → AreLikeGuests b c → AreLikeGuests a c
guests_chain a b c h k = record {
  process = h.process ∙ k.process;
  ledger = alike_chain a.ledger b.ledger c.ledger h.ledger k.ledger;
  frames = h.frames ∙ k.frames;
  extension = h.extension ∙ k.extension;
  translations = h.translations ∙ k.translations;
}

-- with another process, another ledger and other translations; all that is fixed stays
like_moved : {a b : Guest} {x y : Process} {k l : Ledger} {t u : BareTranslations} → AreLikeGuests a b → x ≡ y → AreAlike k l → t ≡ u
    → AreLikeGuests (record a { process = x; ledger = k; translations = t }) (record b { process = y; ledger = l; translations = u })
like_moved like process ledger translations = record { process = process; ledger = ledger; frames = like.frames; extension = like.extension; translations = translations }

-- the accesses that they try
like_tried : (p : ℕ) (a b : Guest) → AreLikeGuests a b → translations_executed p a ≡ translations_executed p b
unfolding translations_executed
like_tried p a b like =
    ap (λ (process : Process). counted p process.memory (map access_of (execution_of a.extension process).calls) a.translations) like.process
    ∙ ap (λ x. counted p b.process.memory (map access_of (execution_of x b.process).calls) a.translations) like.extension
    ∙ ap (λ t. counted p b.process.memory (map access_of (execution_of b.extension b.process).calls) t) like.translations

like_stepped : (p : ℕ) (a b : Guest) → AreLikeGuests a b → translations_after p a ≡ translations_after p b
unfolding translations_after
like_stepped p a b like =
    ap (λ (process : Process). counted p process.memory (step_of a.extension p process).accesses a.translations) like.process
    ∙ ap (λ x. counted p b.process.memory (step_of x p b.process).accesses a.translations) like.extension
    ∙ ap (λ t. counted p b.process.memory (step_of b.extension p b.process).accesses t) like.translations

like_requested : (p : ℕ) (a b : Guest) → AreLikeGuests a b → translations_asked p a ≡ translations_asked p b
unfolding translations_asked
like_requested p a b like =
    ap (λ (process : Process). counted p process.memory (request_of p process).accesses a.translations) like.process
    ∙ ap (λ t. counted p b.process.memory (request_of p b.process).accesses t) like.translations

pub like_refused : (p : ℕ) (a b : Guest) → AreLikeGuests a b → AreLikeGuests (guest_refused p a) (guest_refused p b)
like_refused p a b like = like_moved like like.process like.ledger (like_tried p a b like)

alike_stored : (p : ℕ) (speculating : Bool) (store : Option (ℕ × ℕ)) (k l : Ledger) → AreAlike k l → AreAlike (ledger_stored p speculating store k) (ledger_stored p speculating store l)
alike_stored p speculating None k l alike = alike
alike_stored p speculating (Some store) k l alike = alike_after (event.Store speculating p (touched store.0 store.1)) k l alike

pub like_ledger : (p : ℕ) (a b : Guest) → AreLikeGuests a b → AreAlike (ledger_executed p a) (ledger_executed p b)
unfolding ledger_executed
like_ledger p a b like =
    let stored : Ledger = ledger_stored p (is_speculating a.process) (store_of a.extension a.process) a.ledger in
    subst (λ x. AreAlike stored (ledger_stored p (is_speculating b.process) (store_of x b.process) b.ledger)) like.extension
    (subst (λ (process : Process). AreAlike stored (ledger_stored p (is_speculating process) (store_of a.extension process) b.ledger)) like.process
    (alike_stored p (is_speculating a.process) (store_of a.extension a.process) a.ledger b.ledger like.ledger))

pub like_needed : (p : ℕ) (a b : Guest) → AreLikeGuests a b → units_needed p a ≡ units_needed p b
like_needed p a b like = units_alike (ledger_executed p a) (ledger_executed p b) (like_ledger p a b like)

pub like_full : (p : ℕ) (a b : Guest) → AreLikeGuests a b → is_full p a ≡ is_full p b
unfolding is_full
like_full p a b like =
    ap (λ n. exceeds (store_of a.extension a.process) n (unit_limit a.frames)) (like_needed p a b like)
    ∙ ap (λ (process : Process). exceeds (store_of a.extension process) (units_needed p b) (unit_limit a.frames)) like.process
    ∙ ap (λ x. exceeds (store_of x b.process) (units_needed p b) (unit_limit a.frames)) like.extension
    ∙ ap (λ n. exceeds (store_of b.extension b.process) (units_needed p b) (unit_limit n)) like.frames

pub like_outcome : (p : ℕ) (a b : Guest) → AreLikeGuests a b → outcome_of p a ≡ outcome_of p b
like_outcome p a b like =
    ap (λ f. cond f (outcome.Full (units_needed p a) (unit_limit a.frames)) (outcome_by (execution_of a.extension a.process).upshot)) (like_full p a b like)
    ∙ ap (λ n. cond (is_full p b) (outcome.Full n (unit_limit a.frames)) (outcome_by (execution_of a.extension a.process).upshot)) (like_needed p a b like)
    ∙ ap (λ n. cond (is_full p b) (outcome.Full (units_needed p b) (unit_limit n)) (outcome_by (execution_of a.extension a.process).upshot)) like.frames
    ∙ ap (λ (process : Process). cond (is_full p b) (outcome.Full (units_needed p b) (unit_limit b.frames)) (outcome_by (execution_of a.extension process).upshot)) like.process
    ∙ ap (λ x. cond (is_full p b) (outcome.Full (units_needed p b) (unit_limit b.frames)) (outcome_by (execution_of x b.process).upshot)) like.extension

pub like_turn_in : (p : ℕ) (a b : Guest) → AreLikeGuests a b → turn_in p a ≡ turn_in p b
like_turn_in p a b like =
    ap (λ f. cond f (turn.Full (units_needed p a) (unit_limit a.frames)) (step_of a.extension p a.process).turn) (like_full p a b like)
    ∙ ap (λ n. cond (is_full p b) (turn.Full n (unit_limit a.frames)) (step_of a.extension p a.process).turn) (like_needed p a b like)
    ∙ ap (λ n. cond (is_full p b) (turn.Full (units_needed p b) (unit_limit n)) (step_of a.extension p a.process).turn) like.frames
    ∙ ap (λ (process : Process). cond (is_full p b) (turn.Full (units_needed p b) (unit_limit b.frames)) (step_of a.extension p process).turn) like.process
    ∙ ap (λ x. cond (is_full p b) (turn.Full (units_needed p b) (unit_limit b.frames)) (step_of x p b.process).turn) like.extension

like_cond : (c d : Bool) (a b x y : Guest) → c ≡ d → AreLikeGuests a b → AreLikeGuests x y → AreLikeGuests (cond c a x) (cond d b y)
like_cond true true a b x y e h k = h
like_cond false false a b x y e h k = k
like_cond true false a b x y e h k = cc
like_cond false true a b x y e h k = cc

pub like_executed : (p : ℕ) (a b : Guest) → AreLikeGuests a b → AreLikeGuests (executed p a) (executed p b)
like_executed p a b like =
    like_cond (is_full p a) (is_full p b) (guest_refused p a) (guest_refused p b) (guest_executed p a) (guest_executed p b) (like_full p a b like)
    (like_refused p a b like)
    (like_moved like (ap (process_executed a.extension) like.process ∙ ap (λ x. process_executed x b.process) like.extension) (like_ledger p a b like) (like_tried p a b like))

pub like_after : (p : ℕ) (a b : Guest) → AreLikeGuests a b → AreLikeGuests (guest_after p a) (guest_after p b)
like_after p a b like =
    like_cond (is_full p a) (is_full p b) (guest_refused p a) (guest_refused p b) (guest_stepped p a) (guest_stepped p b) (like_full p a b like)
    (like_refused p a b like)
    (like_moved like (ap (process_after a.extension p) like.process ∙ ap (λ x. process_after x p b.process) like.extension) (like_ledger p a b like) (like_stepped p a b like))

pub like_answered : (p : ℕ) (a b : Guest) → AreLikeGuests a b → AreLikeGuests (guest_answered p a) (guest_answered p b)
like_answered p a b like =
    like_moved like (ap (λ (process : Process). after_request process.memory process (request_of p process)) like.process) like.ledger (like_requested p a b like)

-- Executions one after the other that are like each other.

pub executions_itself : (a : Executions) → AreLikeExecutions a a
executions_itself a = record { steps = refl; before = guests_itself a.before; outcome_is = refl; after = guests_itself a.after }

pub executions_chain : (a b c : Executions) → AreLikeExecutions a b → AreLikeExecutions b c → AreLikeExecutions a c
executions_chain a b c h k = record {
  steps = h.steps ∙ k.steps;
  before = guests_chain a.before b.before c.before h.before k.before;
  outcome_is = h.outcome_is ∙ k.outcome_is;
  after = guests_chain a.after b.after c.after h.after k.after;
}

pub like_behind : (k : ℕ) (a b : Executions) → AreLikeExecutions a b → AreLikeExecutions (after_steps k a) (after_steps k b)
like_behind k a b like = record { steps = ap (λ n. k + n) like.steps; before = like.before; outcome_is = like.outcome_is; after = like.after }

like_step : (t u : Bool) (x y : Guest) (r s : Executions) → t ≡ u → AreLikeGuests x y → AreLikeExecutions r s
    → AreLikeExecutions (cond t (stopped_execution x) (more_executions r)) (cond u (stopped_execution y) (more_executions s))
like_step true true x y r s same k more = record { steps = refl; before = k; outcome_is = refl; after = k }
like_step false false x y r s same k more = record { steps = ap (λ n. n + 1) more.steps; before = more.before; outcome_is = more.outcome_is; after = more.after }
like_step true false x y r s same k more = cc
like_step false true x y r s same k more = cc

like_first : (stops : Addresses) (o : Outcome) (a b x y : Guest) (r s : Executions) → AreLikeGuests a b → AreLikeGuests x y → AreLikeExecutions r s
    → AreLikeExecutions (first_execution stops o a x r) (first_execution stops o b y s)
like_first stops outcome.Stepped a b x y r s h k more =
    like_step (is_at_stop stops x) (is_at_stop stops y) x y r s (ap (λ (process : Process). contains stops process.registers.pc) k.process) k more
like_first stops outcome.Asked a b x y r s h k more = record { steps = refl; before = h; outcome_is = refl; after = k }
like_first stops (outcome.Fault kind address) a b x y r s h k more = record { steps = refl; before = h; outcome_is = refl; after = k }
like_first stops (outcome.Full units limit) a b x y r s h k more = record { steps = refl; before = h; outcome_is = refl; after = k }

pub like_executions : (stops : Addresses) (p most : ℕ) (a b : Guest) → AreLikeGuests a b → AreLikeExecutions (executions stops p most a) (executions stops p most b)
like_executions stops p zero a b like = record { steps = refl; before = like; outcome_is = refl; after = like }
like_executions stops p (suc most) a b like =
    subst (λ o. AreLikeExecutions (executions stops p (suc most) a) (first_execution stops o b (executed p b) (executions stops p most (executed p b)))) (like_outcome p a b like)
    (like_first stops (outcome_of p a) a b (executed p a) (executed p b) _ _ like (like_executed p a b like)
    (like_executions stops p most (executed p a) (executed p b) (like_executed p a b like)))

like_unless : (t u : Bool) (x y : Guest) (r s : Executions) → t ≡ u → AreLikeGuests x y → AreLikeExecutions r s
    → AreLikeExecutions (cond t (no_execution x) r) (cond u (no_execution y) s)
like_unless true true x y r s same k more = record { steps = refl; before = k; outcome_is = refl; after = k }
like_unless false false x y r s same k more = more
like_unless true false x y r s same k more = cc
like_unless false true x y r s same k more = cc

pub like_resumed : (stops : Addresses) (p most : ℕ) (a b : Guest) → AreLikeGuests a b → AreLikeExecutions (resumed stops p most a) (resumed stops p most b)
like_resumed stops p most a b like =
    like_unless (is_at_stop stops a) (is_at_stop stops b) a b _ _ (ap (λ (process : Process). contains stops process.registers.pc) like.process) like
    (like_executions stops p most a b like)

-- of a process that may be there
module _ (p : ℕ) (a b : Wholes) (like : AreLike a b) where
  pub at_both : {X : Type 0} (f : Guest → X) (d : X) → ((g h : Guest) → AreLikeGuests g h → f g ≡ f h)
      → option_map_or f (guest_at a p) d ≡ option_map_or f (guest_at b p) d
  at_both {X = X} f d same = by_found (get a.processes p) ∙ ap (λ (o : Option Process). option_map_or f (option_map (guest_of b) o) d) (ap (λ (ps : Processes). get ps p) like.processes)
    where
      by_found : (o : Option Process) → option_map_or f (option_map (guest_of a) o) d ≡ option_map_or f (option_map (guest_of b) o) d
      by_found None = refl
      by_found (Some process) = same (guest_of a process) (guest_of b process) (record { process = refl; ledger = like.ledger; frames = like.frames; extension = like.extension; translations = like.translations })

  pub after_both : (f : Guest → Guest) → ((g h : Guest) → AreLikeGuests g h → AreLikeGuests (f g) (f h))
      → AreLike (option_map_or (λ guest. with_guest a p (f guest)) (guest_at a p) a) (option_map_or (λ guest. with_guest b p (f guest)) (guest_at b p) b)
  after_both f same =
      subst (λ (o : Option Process). AreLike (option_map_or (λ guest. with_guest a p (f guest)) (guest_at a p) a) (option_map_or (λ guest. with_guest b p (f guest)) (option_map (guest_of b) o) b))
      (ap (λ (ps : Processes). get ps p) like.processes) (by_found (get a.processes p))
    where
      by_found : (o : Option Process)
          → AreLike (option_map_or (λ guest. with_guest a p (f guest)) (option_map (guest_of a) o) a) (option_map_or (λ guest. with_guest b p (f guest)) (option_map (guest_of b) o) b)
      by_found None = like
      by_found (Some process) =
          let more = same (guest_of a process) (guest_of b process) (record { process = refl; ledger = like.ledger; frames = like.frames; extension = like.extension; translations = like.translations }) in
          record {
            processes = ap (λ (ps : Processes). insert ps p (f (guest_of a process)).process) like.processes ∙ ap (insert b.processes p) more.process;
            ledger = more.ledger;
            frames = more.frames;
            extension = more.extension;
            translations = more.translations;
          }

  pub like_steps : (stops : Addresses) (most : ℕ) → steps_to stops most a p ≡ steps_to stops most b p
  like_steps stops most = at_both (λ guest. (executions stops p most guest).steps) 0 (λ g h k. (like_executions stops p most g h k).steps)

  pub like_came : (stops : Addresses) (most : ℕ) → came_to_last stops most a p ≡ came_to_last stops most b p
  like_came stops most = at_both (λ guest. (executions stops p most guest).outcome) outcome.Stepped (λ g h k. (like_executions stops p most g h k).outcome_is)

  pub like_after_executions : (stops : Addresses) (most : ℕ) → AreLike (after_executions stops most a p) (after_executions stops most b p)
  like_after_executions stops most = after_both (all_executed stops p most) (λ g h k. (like_executions stops p most g h k).after)

  pub like_asked : turn_asked a p ≡ turn_asked b p
  like_asked = at_both (λ guest. (request_of p guest.process).turn) turn.Stepped (λ g h k. ap (λ (process : Process). (request_of p process).turn) k.process)

  pub like_after_asked : AreLike (after_asked a p) (after_asked b p)
  like_after_asked = after_both (guest_answered p) (like_answered p)

  pub like_turn : turn_of a p ≡ turn_of b p
  like_turn = at_both (turn_in p) turn.Stepped (like_turn_in p)

  pub like_after_turn : AreLike (after_turn a p) (after_turn b p)
  like_after_turn = after_both (guest_after p) (like_after p)

  pub like_running : is_running a p ≡ is_running b p
  like_running = ap (λ (ps : Processes). option_map_or (λ (process : Process). runs process.state) (get ps p) false) like.processes

-- a turn leaves whether extension M is there
pub after_extension : (state : Wholes) (p : ℕ) → (after_turn state p).extension ≡ state.extension
after_extension state p = by_found (get state.processes p)
  where
    by_full : (process : Process) (b : Bool) → (cond b (guest_refused p (guest_of state process)) (guest_stepped p (guest_of state process))).extension ≡ state.extension
    by_full process true = refl
    by_full process false = refl

    by_found : (o : Option Process) → (option_map_or (λ guest. with_guest state p (guest_after p guest)) (option_map (guest_of state) o) state).extension ≡ state.extension
    by_found None = refl
    by_found (Some process) = by_full process (is_full p (guest_of state process))

pub number_extension : (p : ℕ) (state : Wholes) → (after_number p state).extension ≡ state.extension
number_extension p state = by_test (is_running state p)
  where
    by_test : (b : Bool) → (cond b (after_turn state p) state).extension ≡ state.extension
    by_test true = after_extension state p
    by_test false = refl

like_either : (c d : Bool) (a b x y : Wholes) → c ≡ d → AreLike a b → AreLike x y → AreLike (cond c a x) (cond d b y)
like_either true true a b x y e h k = h
like_either false false a b x y e h k = k
like_either true false a b x y e h k = cc
like_either false true a b x y e h k = cc

pub like_number : (p : ℕ) (a b : Wholes) → AreLike a b → AreLike (after_number p a) (after_number p b)
like_number p a b like = like_either (is_running a p) (is_running b p) _ _ a b (like_running p a b like) (like_after_turn p a b like) like

pub like_run : (turns : List ℕ) (a b : Wholes) → AreLike a b → AreLike (run_over turns a) (run_over turns b)
like_run [] a b like = like
like_run (p ∷ turns) a b like = like_run turns (after_number p a) (after_number p b) (like_number p a b like)

-- A turn by its two parts.

-- an execution that is no request is the whole turn
pub record IsTurn (state : Wholes) (p : ℕ) (turn : Turn) : Type 0 where
  pub turn_is : turn_of state p ≡ turn
  pub after_is : after_turn state p ≡ after_execution state p

-- a request's turn is that of what it asks for
pub record IsRequest (state : Wholes) (p : ℕ) : Type 0 where
  pub turn_is : turn_of state p ≡ turn_asked (after_execution state p) p
  pub after_is : after_turn state p ≡ after_asked (after_execution state p) p
  pub running : is_running (after_execution state p) p ≡ true

-- by the outcome of the execution
abbrev pub IsTurnOf : Wholes → ℕ → Outcome → Type 0
IsTurnOf state p outcome.Stepped = IsTurn state p turn.Stepped
IsTurnOf state p outcome.Asked = IsRequest state p
IsTurnOf state p (outcome.Fault kind address) = IsTurn state p (turn.Faulted kind address)
IsTurnOf state p (outcome.Full units limit) = IsTurn state p (turn.Full units limit)

-- of a process that is there
module _ (all : Wholes) (p : ℕ) (process : Process) (there : get all.processes p ≡ Some process) where
  abbrev guest : Guest
  guest = guest_of all process

  abbrev e : Execution
  e = execution_of all.extension process

  at_there : {X : Type 0} (f : Option Guest → X) → f (guest_at all p) ≡ f (Some guest)
  at_there f = ap (λ (o : Option Process). f (option_map (guest_of all) o)) there

  turn_there : turn_of all p ≡ turn_in p guest
  turn_there = at_there (λ o. option_map_or (turn_in p) o turn.Stepped)

  after_there : after_turn all p ≡ with_guest all p (guest_after p guest)
  after_there = at_there (λ o. option_map_or (λ g. with_guest all p (guest_after p g)) o all)

  executed_there : after_execution all p ≡ with_guest all p (executed p guest)
  executed_there = at_there (λ o. option_map_or (λ g. with_guest all p (executed p g)) o all)

  -- where there aren't units enough
  full_there : is_full p guest ≡ true → IsTurn all p (turn.Full (units_needed p guest) (unit_limit all.frames))
  full_there full = record {
    turn_is = turn_there ∙ ap (λ b. cond b (turn.Full (units_needed p guest) (unit_limit all.frames)) (step_of all.extension p process).turn) full;
    after_is = after_there ∙ ap (λ b. with_guest all p (cond b (guest_refused p guest) (guest_stepped p guest))) full
        ∙ sym (executed_there ∙ ap (λ b. with_guest all p (cond b (guest_refused p guest) (guest_executed p guest))) full);
  }

  -- where there are, by what comes of the execution
  module _ (enough : is_full p guest ≡ false) where
    turn_by : (u : Upshot) → e.upshot ≡ u → turn_of all p ≡ (altered p u e.registers e.memory (map access_of e.calls)).turn
    turn_by u is =
        turn_there ∙ ap (λ b. cond b (turn.Full (units_needed p guest) (unit_limit all.frames)) (step_of all.extension p process).turn) enough
        ∙ ap (λ v. (altered p v e.registers e.memory (map access_of e.calls)).turn) is

    left_by : Process → BareTranslations → Wholes
    left_by left translations =
        with_guest all p (record { process = left; ledger = ledger_executed p guest; frames = all.frames; extension = all.extension; translations = translations })

    -- the accesses of a request come behind the fetch
    asked_counted : e.upshot ≡ Asks → (accesses : List Access)
        → counted p process.memory (map access_of e.calls ++ accesses) all.translations ≡ counted p e.memory accesses (translations_executed p guest)
    unfolding translations_executed
    asked_counted is accesses =
        let asked = is_requested_by (table_of all.extension) process.registers process.memory is in
        let fetch = fetch_at asked.at in
        ap (λ (calls : List Call). counted p process.memory (map access_of calls ++ accesses) all.translations) asked.calls
        ∙ counted_next p process.memory fetch accesses all.translations asked.may
        ∙ ap (counted p process.memory accesses) (sym (counted_one p process.memory fetch all.translations))
        ∙ ap (λ (calls : List Call). counted p process.memory accesses (counted p process.memory (map access_of calls) all.translations)) (sym asked.calls)
        ∙ ap (λ m. counted p m accesses (counted p process.memory (map access_of e.calls) all.translations)) (sym asked.kept)

    accesses_by : Upshot → List Access
    accesses_by u = (altered p u e.registers e.memory (map access_of e.calls)).accesses

    after_by : (u : Upshot) → e.upshot ≡ u
        → after_turn all p ≡ left_by (after_step process (altered p u e.registers e.memory (map access_of e.calls))) (counted p process.memory (accesses_by u) all.translations)
    unfolding left_by accesses_by translations_after
    after_by u is =
        after_there
        ∙ ap (λ b. with_guest all p (cond b (guest_refused p guest) (guest_stepped p guest))) enough
        ∙ ap (λ v. left_by (after_step process (altered p v e.registers e.memory (map access_of e.calls))) (counted p process.memory (accesses_by v) all.translations)) is

    executed_by : (u : Upshot) → e.upshot ≡ u
        → after_execution all p ≡ left_by (record { registers = e.registers; state = state_executed u; memory = e.memory; kept = process.kept }) (translations_executed p guest)
    unfolding left_by
    executed_by u is =
        executed_there ∙ ap (λ b. with_guest all p (cond b (guest_refused p guest) (guest_executed p guest))) enough
        ∙ ap (λ v. left_by (record { registers = e.registers; state = state_executed v; memory = e.memory; kept = process.kept }) (translations_executed p guest)) is

    asked_there : (u : Upshot) → e.upshot ≡ u → u ≡ Asks → IsRequest all p
    unfolding left_by accesses_by translations_asked
    asked_there u is same =
        let left : Process = record { registers = e.registers; state = state.Running; memory = e.memory; kept = process.kept } in
        let tried = translations_executed p guest in
        let now : after_execution all p ≡ left_by left tried = executed_by Asks (is ∙ same) in
        let found : get (left_by left tried).processes p ≡ Some left = get_same all.processes p p left refl in
        let asks : Request = request p e.registers e.memory in
        let counts : counted p process.memory (accesses_by Asks) all.translations ≡ counted p e.memory asks.accesses tried =
        asked_counted (is ∙ same) asks.accesses in
        record {
          turn_is = turn_by Asks (is ∙ same)
              ∙ sym (ap (λ (s : Wholes). turn_asked s p) now ∙ ap (λ (o : Option Process). asked_found p (option_map (guest_of (left_by left tried)) o)) found);
          after_is = after_by Asks (is ∙ same)
              ∙ ap (left_by (after_step process (altered p Asks e.registers e.memory (map access_of e.calls)))) counts
              ∙ sym (ap (λ (s : Wholes). after_asked s p) now
              ∙ ap (λ (o : Option Process). option_map_or (λ g. with_guest (left_by left tried) p (guest_answered p g)) (option_map (guest_of (left_by left tried)) o) (left_by left tried)) found
              ∙ ap (λ (ps : Processes). record { processes = ps; ledger = ledger_executed p guest; frames = all.frames; extension = all.extension; translations = counted p e.memory asks.accesses tried })
              (insert_over all.processes p left (after_request e.memory process asks)));
          running = ap (λ (s : Wholes). is_running s p) now ∙ ap (λ (o : Option Process). option_map_or (λ (q : Process). runs q.state) o false) found;
        }

    enough_there : (u : Upshot) → e.upshot ≡ u → IsTurnOf all p (outcome_by u)
    unfolding left_by accesses_by translations_executed
    enough_there Steps is = record { turn_is = turn_by Steps is; after_is = after_by Steps is ∙ sym (executed_by Steps is) }
    enough_there (Faults kind address) is =
        record { turn_is = turn_by (Faults kind address) is; after_is = after_by (Faults kind address) is ∙ sym (executed_by (Faults kind address) is) }
    enough_there Asks is = asked_there Asks is refl

  came_there : came_to all p ≡ outcome_of p guest
  came_there = at_there (outcome_found p)

  law_there : (f : Bool) → is_full p guest ≡ f → IsTurnOf all p (cond f (outcome.Full (units_needed p guest) (unit_limit all.frames)) (outcome_by e.upshot))
  law_there true full = full_there full
  law_there false enough = enough_there enough e.upshot refl

  pub law_of : IsTurnOf all p (came_to all p)
  law_of =
      let shown = law_there (is_full p guest) refl in subst (IsTurnOf all p) (sym came_there) shown

-- a turn is what the outcome of its execution says
pub turn_law : (o : Outcome) (all : Wholes) (p : ℕ) → is_running all p ≡ true → came_to all p ≡ o → IsTurnOf all p o
turn_law o all p running is = subst (IsTurnOf all p) is (by_process (get all.processes p) refl)
  where
    by_process : (found : Option Process) → get all.processes p ≡ found → IsTurnOf all p (came_to all p)
    by_process (Some process) there = law_of all p process there
    by_process None absent =
        let stopped = sym (ap (λ (o : Option Process). option_map_or (λ (q : Process). runs q.state) o false) absent) ∙ running in cc
