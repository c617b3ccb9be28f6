use Rattle.std.proofs.Common.{◌≡◌, ℕ, ◌+◌, ◌<◌, ◌==◌, ◌&&◌, not, zero, suc, Bool, true, false, cond, List, [], ◌∷◌, length, drop, get_or, sym, ap, subst, ◌∙◌, refl, arith, Option, Some, None}
use Rattle.std.specs.Option.{option_map, option_map_or}
use Rattle.std.specs.FinMap.{get}
use Rattle.ascending_numbers.specs.Rising.{other_is, same_is}
use Rattle.number_maps.specs.Keys.{by_key, get_other, get_same}
use Rattle.process_calls.specs.declared.calls.ProcessCall.{ProcessCall}
use Rattle.machine_core.specs.Process.{Process, runs}
use Rattle.machine_core.specs.Machine.{AreLike, Wholes, is_running}
use Rattle.machine_core.specs.Turns.{Guest, guest_of, guest_refused, guest_stepped, is_full, with_guest}
use Rattle.machine_core.specs.Laws.{like_running}
use Rattle.self_speculation.specs.Called.{after_by, after_called, call_of, called_step, guest_called, row_does, row_is_full, row_of, step_after_by}
use Rattle.self_speculation.specs.CalledLaws.{like_after_called}
use Rattle.self_speculation.specs.TakenLaws.{taken_extension}
use Rattle.process_runs.specs.Played.{AreOwnCalledTurns, after_number, is_called_full, is_full_at, is_full_by, own_turns, run_over, turns_of}

-- Laws of turns of several processes, by a list of numbers.

like_either : (c d : Bool) (a b x y : Wholes) → c ≡ d → AreLike a b → AreLike x y → AreLike (cond c a x) (cond d b y)
like_either true true a b x y e h k = h
like_either false false a b x y e h k = k
like_either true false a b x y e h k = cc
like_either false true a b x y e h k = cc

pub like_number : (p : ℕ) (a b : Wholes) → AreLike a b → AreLike (after_number p a) (after_number p b)
like_number p a b like = like_either (is_running a p) (is_running b p) _ _ a b (like_running p a b like) (like_after_called p a b like) like

pub like_run : (turns : List ℕ) (a b : Wholes) → AreLike a b → AreLike (run_over turns a) (run_over turns b)
like_run [] a b like = like
like_run (p ∷ turns) a b like = like_run turns (after_number p a) (after_number p b) (like_number p a b like)

-- what a turn of a process that is there does to it: a step, or nothing where it is answered Full
module _ (state : Wholes) (p : ℕ) (process : Process) (there : get state.processes p ≡ Some process) where
  abbrev guest : Guest
  guest = guest_of state process

  left_by : (o : Option ProcessCall) → (after_by p o guest).process ≡ cond (is_full_by p guest o) process (step_after_by state.extension p process o)
  left_by None = by_full (is_full p guest)
    where
      by_full : (b : Bool) → (cond b (guest_refused p guest) (guest_stepped p guest)).process ≡ cond b process (guest_stepped p guest).process
      by_full true = refl
      by_full false = refl
  left_by (Some call) = by_full (row_is_full (row_of p call process) (guest_refused p guest))
    where
      by_full : (b : Bool) → (cond b (guest_refused p guest) (row_does p (row_of p call process) (guest_refused p guest))).process ≡ cond b process (row_of p call process).process
      by_full true = refl
      by_full false = refl

  after_there : get (after_called state p).processes p ≡ Some (cond (is_called_full p guest) process (called_step state.extension p process))
  after_there =
      ap (λ (o : Option Process). get (option_map_or (λ g. with_guest state p (guest_called p g)) (option_map (guest_of state) o) state).processes p) there
      ∙ get_same state.processes p p (guest_called p guest).process refl
      ∙ ap Some (left_by (call_of state.extension process))

  full_is : is_full_at state p ≡ is_called_full p guest
  full_is = ap (λ (o : Option Process). option_map_or (is_called_full p) (option_map (guest_of state) o) false) there

  own_by : (n : ℕ) (b : Bool) → own_turns state.extension p n (cond b process (called_step state.extension p process))
      ≡ own_turns state.extension p (cond (not b) 1 0 + n) process
  own_by n true = let none : n ≡ 0 + n = omega arith in ap (λ k. own_turns state.extension p k process) none
  own_by n false = let one : suc n ≡ 1 + n = omega arith in ap (λ k. own_turns state.extension p k process) one

  own_there : (n : ℕ) → option_map (own_turns state.extension p n) (get (after_called state p).processes p)
      ≡ option_map (own_turns state.extension p (cond (not (is_full_at state p)) 1 0 + n)) (get state.processes p)
  own_there n =
      ap (option_map (own_turns state.extension p n)) after_there ∙ ap Some (own_by n (is_called_full p guest))
      ∙ ap (λ b. Some (own_turns state.extension p (cond (not b) 1 0 + n) process)) (sym full_is)
      ∙ sym (ap (option_map (own_turns state.extension p (cond (not (is_full_at state p)) 1 0 + n))) there)

after_own : (state : Wholes) (p n : ℕ) → is_running state p ≡ true → option_map (own_turns state.extension p n) (get (after_called state p).processes p)
    ≡ option_map (own_turns state.extension p (cond (not (is_full_at state p)) 1 0 + n)) (get state.processes p)
after_own state p n running = by_found (get state.processes p) refl
  where
    by_found : (o : Option Process) → get state.processes p ≡ o → option_map (own_turns state.extension p n) (get (after_called state p).processes p)
        ≡ option_map (own_turns state.extension p (cond (not (is_full_at state p)) 1 0 + n)) (get state.processes p)
    by_found (Some process) there = own_there state p process there n
    by_found None absent = absurd (let stopped = ap (λ (o : Option Process). option_map_or (λ (w : Process). runs w.state) o false) absent in cc)

after_others : (state : Wholes) (q p : ℕ) → (p ≡ q → ⊥) → get (after_called state q).processes p ≡ get state.processes p
after_others state q p other = by_found (get state.processes q)
  where
    by_found : (o : Option Process) → get (option_map_or (λ guest. with_guest state q (guest_called q guest)) (option_map (guest_of state) o) state).processes p ≡ get state.processes p
    by_found None = refl
    by_found (Some process) = get_other state.processes q p _ other

-- one turn more at the front
one_turn : (state : Wholes) (q p n : ℕ) (b : Bool) → is_running state q ≡ b → option_map (own_turns state.extension p n) (get (cond b (after_called state q) state).processes p)
    ≡ option_map (own_turns state.extension p (cond ((q == p) && (b && not (is_full_at state q))) 1 0 + n)) (get state.processes p)
one_turn state q p n true running = by_key p q
    (λ same.
    subst (λ k. option_map (own_turns state.extension p n) (get (after_called state k).processes p) ≡ option_map (own_turns state.extension p (cond (not (is_full_at state k)) 1 0 + n)) (get state.processes p)) same
    (after_own state p n (ap (is_running state) same ∙ running))
    ∙ ap (λ t. option_map (own_turns state.extension p (cond t 1 0 + n)) (get state.processes p)) (sym (ap (λ b. b && not (is_full_at state q)) (same_is q p (sym same)))))
    (λ other.
    let none : n ≡ cond ((q == p) && not (is_full_at state q)) 1 0 + n = zero_more (q == p) (not (is_full_at state q)) (other_is q p (λ e. other (sym e))) in
    ap (option_map (own_turns state.extension p n)) (after_others state q p other) ∙ ap (λ k. option_map (own_turns state.extension p k) (get state.processes p)) none)
  where
    zero_more : (b c : Bool) → b ≡ false → n ≡ cond (b && c) 1 0 + n
    zero_more false c h = omega arith
    zero_more true c h = cc
one_turn state q p n false stopped =
    let none : n ≡ cond ((q == p) && false) 1 0 + n = nothing (q == p) in ap (λ k. option_map (own_turns state.extension p k) (get state.processes p)) none
  where
    nothing : (b : Bool) → n ≡ cond (b && false) 1 0 + n
    nothing true = omega arith
    nothing false = omega arith

number_extension : (p : ℕ) (state : Wholes) → (after_number p state).extension ≡ state.extension
number_extension p state = by_test (is_running state p)
  where
    by_test : (b : Bool) → (cond b (after_called state p) state).extension ≡ state.extension
    by_test true = taken_extension true state p
    by_test false = refl

none_more : (extension : Bool) (p : ℕ) (o : Option Process) → o ≡ option_map (own_turns extension p 0) o
none_more extension p None = refl
none_more extension p (Some process) = refl

pub each_own : (turns : List ℕ) (state : Wholes) → AreOwnCalledTurns turns state (run_over turns state)
each_own [] state = λ p. none_more state.extension p (get state.processes p)
each_own (q ∷ turns) state = λ p.
    each_own turns (after_number q state) p
    ∙ ap (λ x. option_map (own_turns x p (turns_of p turns (after_number q state))) (get (after_number q state).processes p)) (number_extension q state)
    ∙ one_turn state q p (turns_of p turns (after_number q state)) (is_running state q) refl

-- the run over what is left of a list
drop_past : (turns : List ℕ) (i : ℕ) → length turns < i + 1 → drop i turns ≡ []
drop_past [] zero h = refl
drop_past [] (suc i) h = refl
drop_past (x ∷ turns) zero h = absurd (omega arith)
drop_past (x ∷ turns) (suc i) h = drop_past turns i (omega arith)

pub run_next : (turns : List ℕ) (i : ℕ) (state : Wholes) → i < length turns → run_over (drop i turns) state ≡ run_over (drop (i + 1) turns) (after_number (get_or turns i 0) state)
run_next [] i state below = absurd (omega (arith, below))
run_next (x ∷ turns) zero state below = refl
run_next (x ∷ turns) (suc i) state below =
    let one : suc (i + 1) ≡ suc i + 1 = omega arith in
    run_next turns i state (omega (arith, below)) ∙ ap (λ n. run_over (drop n (x ∷ turns)) (after_number (get_or turns i 0) state)) one

pub run_all : (turns : List ℕ) (i : ℕ) (state : Wholes) → length turns < i + 1 → run_over (drop i turns) state ≡ state
run_all turns i state past = ap (λ rest. run_over rest state) (drop_past turns i past)
