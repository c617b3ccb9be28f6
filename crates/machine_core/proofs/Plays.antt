use Rattle.std.proofs.Common.{◌≡◌, ℕ, ◌+◌, ◌<◌, ◌==◌, ◌&&◌, not, zero, suc, Bool, true, false, cond, List, [], ◌∷◌, length, drop, get_or, sym, ap, subst, ◌∙◌, refl, arith, Option, Some, None}
use Rattle.std.specs.Option.{option_map, option_map_or}
use Rattle.std.specs.FinMap.{get}
use Rattle.ovl_io.specs.Keys.{by_key, get_same, get_other}
use Rattle.machine_core.specs.declared.process.Process as declared
use Rattle.machine_core.specs.Process.{Process, runs}
use Rattle.machine_core.specs.Machine.{HaveSpaces, KeepsPlaces, Machine, StaysBut, Wholes, is_running, wholes}
use Rattle.machine_core.specs.Turns.{Guest, after_turn, guest_after, guest_of, guest_refused, guest_stepped, is_full, with_guest}
use Rattle.machine_core.specs.Laws.{number_extension, runs_shown}
use Rattle.machine_core.specs.Play.{AreOwnTurns, after_number, is_full_at, own_turns, run_over, turns_of}
use Rattle.ascending_numbers.specs.Rising.{other_is, same_is}

-- Turns of several processes.

none_more : (extension : Bool) (p : ℕ) (o : Option Process) → o ≡ option_map (own_turns extension p 0) o
none_more extension p None = refl
none_more extension p (Some process) = refl

-- what a turn of a process that is there does to it: a step, or nothing where it is answered Full
module _ (state : Wholes) (p : ℕ) (process : Process) (there : get state.processes p ≡ Some process) where
  abbrev guest : Guest
  guest = guest_of state process

  after_there : get (after_turn state p).processes p ≡ Some (guest_after p guest).process
  after_there =
      ap (λ (o : Option Process). get (option_map_or (λ guest. with_guest state p (guest_after p guest)) (option_map (guest_of state) o) state).processes p) there
      ∙ get_same state.processes p p (guest_after p guest).process refl

  full_is : is_full_at state p ≡ is_full p guest
  full_is = ap (λ (o : Option Process). option_map_or (is_full p) (option_map (guest_of state) o) false) there

  own_by : (n : ℕ) (b : Bool) → is_full p guest ≡ b
      → own_turns state.extension p n (guest_after p guest).process ≡ own_turns state.extension p (cond (not b) 1 0 + n) process
  own_by n true full =
      let none : n ≡ 0 + n = omega arith in
      ap (λ b. own_turns state.extension p n (cond b (guest_refused p guest) (guest_stepped p guest)).process) full
      ∙ ap (λ k. own_turns state.extension p k process) none
  own_by n false enough =
      let one : suc n ≡ 1 + n = omega arith in
      ap (λ b. own_turns state.extension p n (cond b (guest_refused p guest) (guest_stepped p guest)).process) enough
      ∙ ap (λ k. own_turns state.extension p k process) one

  own_there : (n : ℕ) → option_map (own_turns state.extension p n) (get (after_turn state p).processes p)
      ≡ option_map (own_turns state.extension p (cond (not (is_full_at state p)) 1 0 + n)) (get state.processes p)
  own_there n =
      ap (option_map (own_turns state.extension p n)) after_there ∙ ap Some (own_by n (is_full p guest) refl)
      ∙ ap (λ b. Some (own_turns state.extension p (cond (not b) 1 0 + n) process)) (sym full_is)
      ∙ sym (ap (option_map (own_turns state.extension p (cond (not (is_full_at state p)) 1 0 + n))) there)

after_own : (state : Wholes) (p n : ℕ) (o : Option Process) → get state.processes p ≡ o → is_running state p ≡ true
    → option_map (own_turns state.extension p n) (get (after_turn state p).processes p) ≡ option_map (own_turns state.extension p (cond (not (is_full_at state p)) 1 0 + n)) (get state.processes p)
after_own state p n (Some process) there running = own_there state p process there n
after_own state p n None absent running =
    absurd (let stopped = ap (λ (o : Option Process). option_map_or (λ (w : Process). runs w.state) o false) absent in cc)

after_others : (state : Wholes) (q p : ℕ) → (p ≡ q → ⊥) → get (after_turn state q).processes p ≡ get state.processes p
after_others state q p other = by_found (get state.processes q)
  where
    by_found : (o : Option Process) → get (option_map_or (λ guest. with_guest state q (guest_after q guest)) (option_map (guest_of state) o) state).processes p ≡ get state.processes p
    by_found None = refl
    by_found (Some process) = get_other state.processes q p _ other

-- one turn more at the front
one_turn : (state : Wholes) (q p n : ℕ) (b : Bool) → is_running state q ≡ b
    → option_map (own_turns state.extension p n) (get (cond b (after_turn state q) state).processes p)
    ≡ option_map (own_turns state.extension p (cond ((q == p) && (b && not (is_full_at state q))) 1 0 + n)) (get state.processes p)
one_turn state q p n true running = by_key p q
    (λ same.
    subst (λ k. option_map (own_turns state.extension p n) (get (after_turn state k).processes p) ≡ option_map (own_turns state.extension p (cond (not (is_full_at state k)) 1 0 + n)) (get state.processes p)) same
    (after_own state p n (get state.processes p) refl (ap (is_running state) same ∙ running))
    ∙ ap (λ t. option_map (own_turns state.extension p (cond t 1 0 + n)) (get state.processes p)) (sym (ap (λ b. b && not (is_full_at state q)) (same_is q p (sym same)))))
    (λ other.
    let none : n ≡ cond ((q == p) && not (is_full_at state q)) 1 0 + n = zero_more (q == p) (not (is_full_at state q)) (other_is q p (λ e. other (sym e))) in
    ap (option_map (own_turns state.extension p n)) (after_others state q p other) ∙ ap (λ k. option_map (own_turns state.extension p k) (get state.processes p)) none)
  where
    zero_more : (b c : Bool) → b ≡ false → n ≡ cond (b && c) 1 0 + n
    zero_more false c h = omega arith
    zero_more true c h = cc
one_turn state q p n false stopped =
    let none : n ≡ cond ((q == p) && false) 1 0 + n = nothing (q == p) in
    ap (λ k. option_map (own_turns state.extension p k) (get state.processes p)) none
  where
    nothing : (b : Bool) → n ≡ cond (b && false) 1 0 + n
    nothing true = omega arith
    nothing false = omega arith

pub each_own : (turns : List ℕ) (state : Wholes) → AreOwnTurns turns state (run_over turns state)
each_own [] state = λ p. none_more state.extension p (get state.processes p)
each_own (q ∷ turns) state = λ p.
    each_own turns (after_number q state) p
    ∙ ap (λ x. option_map (own_turns x p (turns_of p turns (after_number q state))) (get (after_number q state).processes p)) (number_extension q state)
    ∙ one_turn state q p (turns_of p turns (after_number q state)) (is_running state q) refl

-- the run over what is left of a list
drop_past : (turns : List ℕ) (i : ℕ) → length turns < i + 1 → drop i turns ≡ []
drop_past [] zero h = refl
drop_past [] (suc i) h = refl
drop_past (x ∷ turns) zero h = absurd (omega arith)
drop_past (x ∷ turns) (suc i) h = drop_past turns i (omega arith)

pub run_next : (turns : List ℕ) (i : ℕ) (state : Wholes) → i < length turns
    → run_over (drop i turns) state ≡ run_over (drop (i + 1) turns) (after_number (get_or turns i 0) state)
run_next [] i state below = absurd (omega (arith, below))
run_next (x ∷ turns) zero state below = refl
run_next (x ∷ turns) (suc i) state below =
    let one : suc (i + 1) ≡ suc i + 1 = omega arith in
    run_next turns i state (omega (arith, below)) ∙ ap (λ n. run_over (drop n (x ∷ turns)) (after_number (get_or turns i 0) state)) one

pub run_all : (turns : List ℕ) (i : ℕ) (state : Wholes) → length turns < i + 1 → run_over (drop i turns) state ≡ state
run_all turns i state past = ap (λ rest. run_over rest state) (drop_past turns i past)

-- where one still runs, its space is still there
pub spaces_kept : (p : ℕ) (old new : Machine) → HaveSpaces old → is_running (wholes old) p ≡ true → StaysBut p old new → KeepsPlaces old new → HaveSpaces new
spaces_kept p old new have running stay places = record {
  there = λ q runs_now. places.spaces q ∙ have.there q (ran q runs_now);
  none_awaits = λ q runs_now. places.awaiting q ∙ have.none_awaits q (ran q runs_now);
}
  where
    ran : (q : ℕ) → is_running (wholes new) q ≡ true → is_running (wholes old) q ≡ true
    ran q runs_now = by_key q p
        (λ same. ap (is_running (wholes old)) same ∙ running)
        (λ other.
        runs_shown old q ∙ ap (λ (o : Option declared.Process). option_map_or (λ (process : declared.Process). runs process.state) o false) (sym (stay.processes q other))
        ∙ sym (runs_shown new q) ∙ runs_now)
