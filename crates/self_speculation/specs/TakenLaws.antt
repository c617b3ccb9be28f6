use Rattle.std.proofs.Common.{◌≡◌, ℕ, Bool, true, false, cond, sym, ap, ◌∙◌, refl, Option, Some, None}
use Rattle.std.specs.Option.{option_map, option_map_or}
use Rattle.std.specs.FinMap.{get}
use Rattle.translation_cache.specs.Absent.{HasNone}
use Rattle.ovl_io.specs.declared.turn.Turn.{Turn}
use Rattle.ovl_io.specs.declared.turn.Turn.TheVariants as turn
use Rattle.rv_execute.specs.Execution.{Asks, Faults, Steps, Upshot}
use Rattle.rv_execute.specs.declared.outcome.Outcome.{Outcome}
use Rattle.rv_execute.specs.declared.outcome.Outcome.TheVariants as outcome
use Rattle.process_calls.specs.declared.calls.ProcessCall.{ProcessCall}
use Rattle.machine_core.specs.Process.{Process, runs}
use Rattle.machine_core.specs.Machine.{AreLike, Wholes, is_running}
use Rattle.machine_core.specs.Turns.{Guest, after_execution, after_turn, came_to, execution_of, guest_after, guest_of, guest_refused, guest_stepped, is_full, outcome_found, turn_in, turn_of, with_guest}
use Rattle.machine_core.specs.Absent.{none_after_turn}
use Rattle.machine_core.specs.Laws.{IsTurn, after_extension, like_after_turn, like_turn, turn_law}
use Rattle.self_speculation.specs.Called.{CallRow, after_by, after_called, call_by, call_of, called_in, called_turn, guest_called, row_does, row_is_full, row_of, turn_by}
use Rattle.self_speculation.specs.CalledLaws.{like_after_called, like_called, none_after_called}
use Rattle.self_speculation.specs.AskingLaws.{asked_by}
use Rattle.self_speculation.specs.Taken.{after_taken, taken_turn}

-- Laws of turns of a process that may speculate by itself or not.

module _ (p : ℕ) (a b : Wholes) (like : AreLike a b) where
  pub like_taken : (calls : Bool) → taken_turn calls a p ≡ taken_turn calls b p
  like_taken false = like_turn p a b like
  like_taken true = like_called p a b like

  pub like_after_taken : (calls : Bool) → AreLike (after_taken calls a p) (after_taken calls b p)
  like_after_taken false = like_after_turn p a b like
  like_after_taken true = like_after_called p a b like

-- where nothing of a space was translated, turns of another process leave it so
pub none_after_taken : (calls : Bool) (q p : ℕ) → (q ≡ p → ⊥) → (state : Wholes) → HasNone q state.translations → HasNone q (after_taken calls state p).translations
none_after_taken false q p other state none = none_after_turn q p other state none
none_after_taken true q p other state none = none_after_called q p other state none

-- a turn leaves whether extension M is there
called_extension : (state : Wholes) (p : ℕ) → (after_called state p).extension ≡ state.extension
called_extension state p = by_found (get state.processes p)
  where
    by_full : (guest : Guest) (row : CallRow) (b : Bool) → (cond b (guest_refused p guest) (row_does p row (guest_refused p guest))).extension ≡ guest.extension
    by_full guest row true = refl
    by_full guest row false = refl

    plain : (guest : Guest) (b : Bool) → (cond b (guest_refused p guest) (guest_stepped p guest)).extension ≡ guest.extension
    plain guest true = refl
    plain guest false = refl

    by_call : (guest : Guest) (o : Option ProcessCall) → (after_by p o guest).extension ≡ guest.extension
    by_call guest None = plain guest (is_full p guest)
    by_call guest (Some call) = by_full guest (row_of p call guest.process) (row_is_full (row_of p call guest.process) (guest_refused p guest))

    by_found : (o : Option Process) → (option_map_or (λ guest. with_guest state p (guest_called p guest)) (option_map (guest_of state) o) state).extension ≡ state.extension
    by_found None = refl
    by_found (Some process) = by_call (guest_of state process) (call_of state.extension process)

pub taken_extension : (calls : Bool) (state : Wholes) (p : ℕ) → (after_taken calls state p).extension ≡ state.extension
taken_extension false state p = after_extension state p
taken_extension true state p = called_extension state p

-- an execution that is no request is the whole turn
pub record IsTaken (calls : Bool) (state : Wholes) (p : ℕ) (turn : Turn) : Type 0 where
  pub turn_is : taken_turn calls state p ≡ turn
  pub after_is : after_taken calls state p ≡ after_execution state p

-- of a process that may speculate by itself, where its execution came to something else
module _ (state : Wholes) (p : ℕ) (process : Process) (there : get state.processes p ≡ Some process) (o : Outcome) (came : came_to state p ≡ o) (other : o ≡ outcome.Asked → ⊥) where
  abbrev guest : Guest
  guest = guest_of state process

  no_call : call_of state.extension process ≡ None
  unfolding call_of
  no_call = by_upshot (execution_of state.extension process).upshot refl
    where
      by_upshot : (u : Upshot) → (execution_of state.extension process).upshot ≡ u → call_by u process.registers ≡ None
      by_upshot Steps is = refl
      by_upshot (Faults kind address) is = refl
      by_upshot Asks is =
          absurd (other (sym came ∙ ap (λ (x : Option Process). outcome_found p (option_map (guest_of state) x)) there ∙ asked_by state p process is))

  pub plain_turn : called_turn state p ≡ turn_of state p
  plain_turn =
      ap (λ (x : Option Process). option_map_or (called_in p) (option_map (guest_of state) x) turn.Stepped) there
      ∙ ap (λ (x : Option ProcessCall). turn_by p x guest) no_call
      ∙ sym (ap (λ (x : Option Process). option_map_or (turn_in p) (option_map (guest_of state) x) turn.Stepped) there)

  pub plain_after : after_called state p ≡ after_turn state p
  plain_after =
      ap (λ (x : Option Process). option_map_or (λ g. with_guest state p (guest_called p g)) (option_map (guest_of state) x) state) there
      ∙ ap (λ (x : Option ProcessCall). with_guest state p (after_by p x guest)) no_call
      ∙ sym (ap (λ (x : Option Process). option_map_or (λ g. with_guest state p (guest_after p g)) (option_map (guest_of state) x) state) there)

taken_by : (calls : Bool) (o : Outcome) (t : Turn) (state : Wholes) (p : ℕ) → is_running state p ≡ true → came_to state p ≡ o → (o ≡ outcome.Asked → ⊥) → IsTurn state p t → IsTaken calls state p t
taken_by false o t state p running came other law = record { turn_is = law.turn_is; after_is = law.after_is }
taken_by true o t state p running came other law = by_found (get state.processes p) refl
  where
    by_found : (x : Option Process) → get state.processes p ≡ x → IsTaken true state p t
    by_found (Some process) there = record {
      turn_is = plain_turn state p process there o came other ∙ law.turn_is;
      after_is = plain_after state p process there o came other ∙ law.after_is;
    }
    by_found None absent =
        let stopped = sym (ap (λ (x : Option Process). option_map_or (λ (q : Process). runs q.state) x false) absent) ∙ running in cc

-- by the outcome of the execution
abbrev pub IsTakenOf : Bool → Wholes → ℕ → Outcome → Type 0
IsTakenOf calls state p outcome.Stepped = IsTaken calls state p turn.Stepped
IsTakenOf calls state p outcome.Asked = is_running (after_execution state p) p ≡ true
IsTakenOf calls state p (outcome.Fault kind address) = IsTaken calls state p (turn.Faulted kind address)
IsTakenOf calls state p (outcome.Full units limit) = IsTaken calls state p (turn.Full units limit)

-- a turn is what the outcome of its execution says
pub taken_law : (calls : Bool) (o : Outcome) (all : Wholes) (p : ℕ) → is_running all p ≡ true → came_to all p ≡ o → IsTakenOf calls all p o
taken_law calls outcome.Stepped all p running is =
    taken_by calls outcome.Stepped turn.Stepped all p running is (λ same. cc) (turn_law outcome.Stepped all p running is)
taken_law calls outcome.Asked all p running is = (turn_law outcome.Asked all p running is).running
taken_law calls (outcome.Fault kind address) all p running is =
    taken_by calls (outcome.Fault kind address) (turn.Faulted kind address) all p running is (λ same. cc) (turn_law (outcome.Fault kind address) all p running is)
taken_law calls (outcome.Full units limit) all p running is =
    taken_by calls (outcome.Full units limit) (turn.Full units limit) all p running is (λ same. cc) (turn_law (outcome.Full units limit) all p running is)
