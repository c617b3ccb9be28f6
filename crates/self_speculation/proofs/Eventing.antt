use Rattle.std.proofs.Common.{◌≡◌, ℕ, Bool, true, sym, subst, ◌∙◌}
use Rattle.ovl_io.specs.declared.turn.Turn.{Turn}
use Rattle.rv_execute.specs.declared.outcome.Outcome.{Outcome}
use Rattle.rv_execute.specs.declared.outcome.Outcome.TheVariants.{Asked}
use Rattle.machine_core.specs.Machine.{AnswersAs, LeadsTo, Machine, StandsFor, Wholes, is_running, wholes}
use Rattle.machine_core.specs.Turns.{after_execution, came_to}
use Rattle.machine_core.specs.Laws.{like_itself, like_running}
use Rattle.self_speculation.specs.Taken.{AnswersRequest, after_taken, taken_turn}
use Rattle.self_speculation.specs.TakenLaws.{IsTaken, IsTakenOf, taken_law}

-- An event, of each state that the machine stood for: an execution, and then what it asks for.

module _ (calls : Bool) (p : ℕ) (old mid : Machine) (runs : is_running (wholes old) p ≡ true) (stands : LeadsTo (λ state. after_execution state p) old mid) where
  runs_in : (state : Wholes) → StandsFor old state → is_running state p ≡ true
  runs_in state is = sym (like_running p (wholes old) state is) ∙ runs

  pub law_at : (o : Outcome) → AnswersAs (λ state. came_to state p) old o → (state : Wholes) → StandsFor old state → IsTakenOf calls state p o
  law_at o came state is = taken_law calls o state p (runs_in state is) (sym (came state is))

  -- an execution that is no request is the whole turn
  pub turn_answers : (turn : Turn) → ((state : Wholes) → StandsFor old state → IsTaken calls state p turn) → AnswersAs (λ state. taken_turn calls state p) old turn
  turn_answers turn law state is = sym (law state is).turn_is

  pub turn_stands : (turn : Turn) → ((state : Wholes) → StandsFor old state → IsTaken calls state p turn) → LeadsTo (λ state. after_taken calls state p) old mid
  turn_stands turn law state is = subst (StandsFor mid) (sym (law state is).after_is) (stands state is)

  -- a request's turn is that of what it asks for
  module _ (came : AnswersAs (λ state. came_to state p) old Asked) where
    pub still_asks : is_running (wholes mid) p ≡ true
    still_asks =
        let own = like_itself (wholes old) in
        like_running p (wholes mid) (after_execution (wholes old) p) (stands (wholes old) own) ∙ law_at Asked came (wholes old) own

    module _ (turn : Turn) (new : Machine) (answers : AnswersRequest calls p (wholes mid) turn (wholes new)) where
      pub asked_answers : AnswersAs (λ state. taken_turn calls state p) old turn
      asked_answers state is = (answers state (runs_in state is) (sym (came state is)) (stands state is)).0

      pub asked_stands : LeadsTo (λ state. after_taken calls state p) old new
      asked_stands state is = (answers state (runs_in state is) (sym (came state is)) (stands state is)).1
