use Rattle.std.proofs.Common.{◌≡◌, ℕ, Bool, cond, List, sym, ap, ◌∙◌, refl, subst, Option, Some, None}
use Rattle.std.specs.Prelude.{Result, Ok, Err}
use Rattle.std.specs.Option.{option_or}
use Rattle.std.specs.FinMap.{get}
use Rattle.breakpoints.specs.Breakpoints.{Breaks}
use Rattle.ovl_io.specs.declared.turn.Turn.{Turn}
use Rattle.machine_core.specs.Process.{Process, runs}
use Rattle.machine_core.specs.Machine.{AreLike, Machine, Processes, Wholes, spaces_of}
use Rattle.machine_core.specs.Laws.{like_back, like_chain, like_itself}
use Rattle.self_speculation.specs.Taken.{after_taken}
use Rattle.self_speculation.specs.TakenLaws.{like_after_taken, like_taken}
use Rattle.report_text.specs.declared.answer.Code.{Code}
use Rattle.report_text.specs.declared.answer.Code.TheVariants.{Ended}
use Rattle.command_core.specs.declared.modes.Modes.{Modes}
use Rattle.command_core.specs.State.{State, with_wholes}
use Rattle.command_core.specs.Sessions.{InSession, IsSession, KeepsRest}
use Rattle.process_runs.specs.Places.{KeepsFree}
use Rattle.command_core.specs.declared.checkpoints.Kept.{Kept}
use Rattle.command_core.specs.Kept.{shown_session, spaces_kept}
use Rattle.command_core.proofs.Keeping.{all_shown}
use Rattle.command_core.proofs.Places.{free_same}
use Rattle.command_core.specs.Looks.{BeginsStep, begun}
use Rattle.process_runs.specs.LikeLaws.{like_ending, like_found, like_left, like_next, like_text}
use Rattle.command_core.specs.Standing.{PlaysAs, SessionAnswersAs, SessionStandsFor, TurnsAs, begun_step, ends_run, speaks, takes_turn}
use Rattle.process_runs.specs.Played.{run_over}
use Rattle.process_runs.specs.PlayedLaws.{like_run}
use Rattle.process_runs.specs.Turns.{EndsRun, InRun, Progress, Speaks, begun_alone, TakesTurn, found_before, left_of, ran_text, run_altered, run_counted, run_found}

-- What holds of a session's own processes holds of those of each state that it stands for.

pub for_each : (fact : Processes → Type 0) (session : InSession) → fact session.state.wholes.processes → (state : State) → SessionStandsFor session state → fact state.wholes.processes
for_each fact session holds state stands = subst fact stands.wholes.processes holds

-- turns that are begun
like_begun : (breaks : Breaks) (a b : Wholes) (calls : Bool) (p turns : ℕ) → AreLike a b → begun breaks a calls p turns (get a.processes p) ≡ begun breaks b calls p turns (get b.processes p)
like_begun breaks a b calls p turns like = by_found (get a.processes p) ∙ ap (λ (ps : Processes). begun breaks b calls p turns (get ps p)) like.processes
  where
    by_found : (o : Option Process) → begun breaks a calls p turns o ≡ begun breaks b calls p turns o
    by_found None = refl
    by_found (Some process) = ap (λ r. cond (runs process.state) (Ok r) (Err Ended)) (like_found a b like breaks (begun_alone p calls turns))

pub step_begun : (session : InSession) (calls : Bool) (p turns : ℕ) (result : Result InRun Code) → BeginsStep session.state.breakpoints session.state.wholes calls p turns result
    → SessionAnswersAs (begun_step calls p turns) session result
step_begun session calls p turns result is state stands =
    is ∙ like_begun session.state.breakpoints session.state.wholes state.wholes calls p turns stands.wholes
    ∙ ap (λ (bs : Breaks). begun bs state.wholes calls p turns (get state.wholes.processes p)) stands.breakpoints

pub run_begun : (session : InSession) (run : Progress) (result : InRun) → result ≡ run_found session.state.breakpoints session.state.wholes run
    → (state : State) → SessionStandsFor session state → result ≡ run_found state.breakpoints state.wholes run
run_begun session run result is state stands =
    is ∙ like_found session.state.wholes state.wholes stands.wholes session.state.breakpoints run
    ∙ ap (λ (bs : Breaks). run_found bs state.wholes run) stands.breakpoints

-- a turn

module _ (breaks : Breaks) where
  found_same : (a b : Wholes) (running : InRun) → AreLike a b → found_before breaks b running ≡ found_before breaks a running
  found_same a b running like = sym (ap (option_or running.stop) (like_ending a b like breaks running.run))

  like_altered : (t : Turn) (p : ℕ) (a b : Wholes) (run : Progress) → AreLike a b → run_altered breaks t p a run ≡ run_altered breaks t p b run
  like_altered t p a b run like = ap (λ o. record { run = (run_counted t p run).run; stop = o }) (sym (found_same a b (run_counted t p run) like))

  takes_like : (a b new : Wholes) (running after : InRun) (r : Option (ℕ × Turn)) → AreLike a b → TakesTurn breaks a running r new after
      → (left : Wholes) × AreLike new left × TakesTurn breaks b running r left after
  takes_like a b new running after None like (same, (stop, found, is)) =
      (b, subst (λ (w : Wholes). AreLike w b) (sym same) like, (refl, (stop, found_same a b running like ∙ found, is)))
  takes_like a b new running after (Some (p, t)) like (none, next, came, altered, is) =
      let left = like_chain new (after_taken running.run.calls a p) (after_taken running.run.calls b p) altered (like_after_taken p a b like running.run.calls) in (
        after_taken running.run.calls b p,
        left,
        (
          found_same a b running like ∙ none,
          sym (like_next a b like running.run.order) ∙ next,
          came ∙ like_taken p a b like running.run.calls,
          like_itself (after_taken running.run.calls b p),
          is ∙ like_altered t p new (after_taken running.run.calls b p) running.run left,
        ),
      )

-- what is kept of the rest
pub rest_kept : (old new : Machine) (xs : List Kept) (breaks : Breaks) (modes : Modes) (numbers : List (List ℕ)) → IsSession old (spaces_kept xs) numbers → KeepsFree old new
    → KeepsRest (shown_session old xs breaks modes) (shown_session new xs breaks modes)
rest_kept old new xs breaks modes numbers is free = record {
  checkpoints = all_shown (spaces_of new) (spaces_of old) xs (free_same old new (spaces_kept xs) free is.free);
  breakpoints = refl;
  modes = refl;
}

-- the state after turns that left these processes stands, where all else is as it was
after_stands : (old new : InSession) (state : State) (left : Wholes) → KeepsRest old new → SessionStandsFor old state → AreLike new.state.wholes left
    → SessionStandsFor new (with_wholes left state)
after_stands old new state left rest stands like =
    record {
      wholes = like;
      checkpoints = rest.checkpoints ∙ stands.checkpoints;
      breakpoints = rest.breakpoints ∙ stands.breakpoints;
    }

pub turns_as : (old new : InSession) (running after : InRun) (r : Option (ℕ × Turn)) → takes_turn running r after old.state new.state → KeepsRest old new
    → TurnsAs (takes_turn running r after) old new
turns_as old new running after r took rest state stands =
    let (left, like, altered) = takes_like old.state.breakpoints old.state.wholes state.wholes new.state.wholes running after r stands.wholes took in (
      with_wholes left state,
      after_stands old new state left rest stands like,
      refl,
      refl,
      subst (λ (bs : Breaks). TakesTurn bs state.wholes running r left after) stands.breakpoints altered,
    )

-- turns with a line, and the last ones
module _ (breaks : Breaks) (a b : Wholes) (running : InRun) (like : AreLike a b) where
  same_text : ran_text (left_of breaks b running) ≡ ran_text (left_of breaks a running)
  same_text = sym (like_text (left_of breaks a running) (left_of breaks b running) (like_left breaks a b running like))

  same_after : AreLike (left_of breaks b running).after (left_of breaks a running).after
  same_after = like_back (left_of breaks a running).after (left_of breaks b running).after (like_left breaks a b running like).after

pub speaks_as : (old new : InSession) (running after : InRun) (line : List ℕ) → speaks running line after old.state new.state → KeepsRest old new
    → TurnsAs (speaks running line after) old new
speaks_as old new running after line (text, left) rest state stands =
    let a = old.state.wholes in
    let b = state.wholes in
    let breaks = old.state.breakpoints in (
      with_wholes new.state.wholes state,
      after_stands old new state new.state.wholes rest stands (like_itself new.state.wholes),
      refl,
      refl,
      subst (λ (bs : Breaks). Speaks bs b running line new.state.wholes after) stands.breakpoints (
        same_text breaks a b running stands.wholes ∙ text,
        like_chain (left_of breaks b running).after (left_of breaks a running).after (left_of breaks new.state.wholes after).after
            (same_after breaks a b running stands.wholes) left,
      ),
    )

pub ends_as : (old new : InSession) (running after : InRun) → ends_run running after old.state new.state → KeepsRest old new
    → TurnsAs (ends_run running after) old new
ends_as old new running after (stop, found, said) rest state stands =
    let a = old.state.wholes in
    let b = state.wholes in
    let breaks = old.state.breakpoints in (
      with_wholes new.state.wholes state,
      after_stands old new state new.state.wholes rest stands (like_itself new.state.wholes),
      refl,
      refl,
      subst (λ (bs : Breaks). EndsRun bs b running new.state.wholes after) stands.breakpoints (
        stop,
        found,
        (
          same_text breaks a b running stands.wholes ∙ said.0,
          like_chain (left_of breaks b running).after (left_of breaks a running).after new.state.wholes (same_after breaks a b running stands.wholes) said.1,
        ),
      ),
    )

pub plays_as : (old new : InSession) (turns : List ℕ) → AreLike new.state.wholes (run_over turns old.state.wholes) → KeepsRest old new → PlaysAs turns old new
plays_as old new turns played rest state stands =
    after_stands old new state (run_over turns state.wholes) rest stands
    (like_chain new.state.wholes (run_over turns old.state.wholes) (run_over turns state.wholes) played (like_run turns old.state.wholes state.wholes stands.wholes))
