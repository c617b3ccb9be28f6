use Rattle.std.proofs.Common.{◌≡◌, ℕ, true, sym, subst, ◌∙◌}
use Rattle.ovl_io.specs.declared.turn.Turn.{Turn}
use Rattle.rv_execute.specs.declared.outcome.Outcome.{Outcome}
use Rattle.rv_execute.specs.declared.outcome.Outcome.TheVariants.{Asked}
use Rattle.machine_core.specs.Machine.{AnswersAs, LeadsTo, Machine, StandsFor, Wholes, is_running, wholes}
use Rattle.machine_core.specs.Turns.{after_asked, after_execution, after_turn, came_to, turn_asked, turn_of}
use Rattle.machine_core.specs.Laws.{IsTurn, IsTurnOf, like_itself, like_running, turn_law}

-- An event, of each state that the machine stood for: an execution, and then what it asks for.

module _ (p : ℕ) (old mid : Machine) (runs : is_running (wholes old) p ≡ true) (stands : LeadsTo (λ state. after_execution state p) old mid) where
  pub law_at : (o : Outcome) → AnswersAs (λ state. came_to state p) old o → (state : Wholes) → StandsFor old state → IsTurnOf state p o
  law_at o came state is = turn_law o state p (sym (like_running p (wholes old) state is) ∙ runs) (sym (came state is))

  -- an execution that is no request is the whole turn
  pub turn_answers : (turn : Turn) → ((state : Wholes) → StandsFor old state → IsTurn state p turn) → AnswersAs (λ state. turn_of state p) old turn
  turn_answers turn law state is = sym (law state is).turn_is

  pub turn_stands : (turn : Turn) → ((state : Wholes) → StandsFor old state → IsTurn state p turn) → LeadsTo (λ state. after_turn state p) old mid
  turn_stands turn law state is = subst (StandsFor mid) (sym (law state is).after_is) (stands state is)

  -- a request's turn is that of what it asks for
  module _ (came : AnswersAs (λ state. came_to state p) old Asked) where
    pub still_asks : is_running (wholes mid) p ≡ true
    still_asks =
        let own = like_itself (wholes old) in
        like_running p (wholes mid) (after_execution (wholes old) p) (stands (wholes old) own) ∙ (law_at Asked came (wholes old) own).running

    pub asked_answers : (turn : Turn) → AnswersAs (λ state. turn_asked state p) mid turn → AnswersAs (λ state. turn_of state p) old turn
    asked_answers turn answers state is = answers (after_execution state p) (stands state is) ∙ sym (law_at Asked came state is).turn_is

    pub asked_stands : (new : Machine) → LeadsTo (λ state. after_asked state p) mid new → LeadsTo (λ state. after_turn state p) old new
    asked_stands new leads state is = subst (StandsFor new) (sym (law_at Asked came state is).after_is) (leads (after_execution state p) (stands state is))
