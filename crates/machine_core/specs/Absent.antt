use Rattle.std.specs.Prelude.{◌≡◌, ℕ, zero, suc, Bool, true, false, cond, Option, Some, None, map}
use Rattle.std.specs.Option.{option_map, option_map_or}
use Rattle.std.specs.FinMap.{get}
use Rattle.breakpoints.specs.Breakpoints.{Addresses}
use Rattle.rv_execute.specs.Calls.{access_of}
use Rattle.rv_execute.specs.declared.outcome.Outcome.{Outcome}
use Rattle.rv_execute.specs.declared.outcome.Outcome.TheVariants.{Stepped, Asked, Fault, Full}
use Rattle.translation_cache.specs.Absent.{HasNone, none_counted}
use Rattle.machine_core.specs.Process.{Process}
use Rattle.machine_core.specs.Machine.{Wholes}
use Rattle.machine_core.specs.Executions.{Executions, after_executions, all_executed, executions, first_execution, is_at_stop, more_executions, stopped_execution}
use Rattle.machine_core.specs.Turns.{Guest, after_asked, after_turn, executed, execution_of, guest_after, guest_answered, guest_at, guest_executed, guest_of, guest_refused, guest_stepped, is_full, outcome_of, request_of, step_of, translations_after, translations_asked, translations_executed, with_guest}

-- Laws: where nothing of a space was translated, turns of another process leave it so.

module _ (q p : ℕ) (other : q ≡ p → ⊥) where
  pub none_executed : (guest : Guest) → HasNone q guest.translations → HasNone q (executed p guest).translations
  unfolding translations_executed
  none_executed guest none = by_full (is_full p guest)
    where
      tried : HasNone q (translations_executed p guest)
      tried = none_counted q p other guest.process.memory (map access_of (execution_of guest.extension guest.process).calls) guest.translations none

      by_full : (b : Bool) → HasNone q (cond b (guest_refused p guest) (guest_executed p guest)).translations
      by_full true = tried
      by_full false = tried

  pub none_after : (guest : Guest) → HasNone q guest.translations → HasNone q (guest_after p guest).translations
  unfolding translations_executed translations_after
  none_after guest none = by_full (is_full p guest)
    where
      by_full : (b : Bool) → HasNone q (cond b (guest_refused p guest) (guest_stepped p guest)).translations
      by_full true = none_counted q p other guest.process.memory (map access_of (execution_of guest.extension guest.process).calls) guest.translations none
      by_full false = none_counted q p other guest.process.memory (step_of guest.extension p guest.process).accesses guest.translations none

  none_answered : (guest : Guest) → HasNone q guest.translations → HasNone q (guest_answered p guest).translations
  unfolding translations_asked
  none_answered guest none = none_counted q p other guest.process.memory (request_of p guest.process).accesses guest.translations none

  none_executions : (stops : Addresses) (most : ℕ) (guest : Guest) → HasNone q guest.translations → HasNone q (all_executed stops p most guest).translations
  none_executions stops zero guest none = none
  none_executions stops (suc most) guest none =
      let tried = none_executed guest none in
      by_outcome (outcome_of p guest) (executed p guest) (executions stops p most (executed p guest)) tried (none_executions stops most (executed p guest) tried)
    where
      by_stop : (b : Bool) (next : Guest) (others : Executions) → HasNone q next.translations → HasNone q others.after.translations
          → HasNone q (cond b (stopped_execution next) (more_executions others)).after.translations
      by_stop true next others tried further = tried
      by_stop false next others tried further = further

      by_outcome : (o : Outcome) (next : Guest) (others : Executions) → HasNone q next.translations → HasNone q others.after.translations
          → HasNone q (first_execution stops o guest next others).after.translations
      by_outcome Stepped next others tried further = by_stop (is_at_stop stops next) next others tried further
      by_outcome Asked next others tried further = tried
      by_outcome (Fault kind address) next others tried further = tried
      by_outcome (Full units limit) next others tried further = tried

  -- of the copying machine, whose process may be there
  pub left_none : (state : Wholes) (f : Guest → Guest) → ((guest : Guest) → HasNone q guest.translations → HasNone q (f guest).translations)
      → HasNone q state.translations → HasNone q (option_map_or (λ guest. with_guest state p (f guest)) (guest_at state p) state).translations
  left_none state f keeps none = by_process (get state.processes p)
    where
      by_process : (o : Option Process) → HasNone q (option_map_or (λ guest. with_guest state p (f guest)) (option_map (guest_of state) o) state).translations
      by_process None = none
      by_process (Some process) = keeps (guest_of state process) none

  pub none_after_executions : (stops : Addresses) (most : ℕ) (state : Wholes) → HasNone q state.translations → HasNone q (after_executions stops most state p).translations
  none_after_executions stops most state = left_none state (all_executed stops p most) (none_executions stops most)

  pub none_after_turn : (state : Wholes) → HasNone q state.translations → HasNone q (after_turn state p).translations
  none_after_turn state = left_none state (guest_after p) none_after

  pub none_after_asked : (state : Wholes) → HasNone q state.translations → HasNone q (after_asked state p).translations
  none_after_asked state = left_none state (guest_answered p) none_answered
