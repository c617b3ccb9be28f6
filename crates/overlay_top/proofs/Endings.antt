use Rattle.std.proofs.Common.{◌≡◌, ℕ, List, sym, ap, subst, ◌∙◌, Option, Some}
use Rattle.breakpoints.specs.Breakpoints.{Breaks}
use Rattle.machine_core.specs.Machine.{AreLike, Wholes}
use Rattle.machine_core.specs.Laws.{like_back, like_chain}
use Rattle.report_text.specs.declared.answer.Stop.{Stop}
use Rattle.report_text.specs.Answers.{stop_text}
use Rattle.command_core.specs.State.{AreLikeStates, State}
use Rattle.process_runs.specs.Turns.{EndsRun, InRun, Speaks, left_of, ran_text}
use Rattle.command_core.specs.Commands.{takes_left}

-- One line of turns, and their last, by equal breakpoints.

pub spoken : (a b : Breaks) (old : Wholes) (running : InRun) (line : List ℕ) (new : Wholes) (after : InRun) → a ≡ b
    → Speaks a old running line new after → Speaks b old running line new after
spoken a b old running line new after same = subst (λ (breaks : Breaks). Speaks breaks old running line new after) same

pub ended_as : (a b : Breaks) (old : Wholes) (running : InRun) (new : Wholes) (after : InRun) → a ≡ b
    → EndsRun a old running new after → EndsRun b old running new after
ended_as a b old running new after same = subst (λ (breaks : Breaks). EndsRun breaks old running new after) same

-- The last line of turns, and the state after them.

some_is : (s t : Stop) → Some s ≡ Some t → s ≡ t
some_is s t e = cc

pub ended_text : (breaks : Breaks) (old : Wholes) (running : InRun) (new : Wholes) (after : InRun) (found : Option Stop) (stop : Stop) (taken : ℕ) (line sent : List ℕ)
    → EndsRun breaks old running new after → found ≡ after.stop → found ≡ Some stop → taken ≡ after.run.taken → line ≡ stop_text taken stop → sent ≡ line
    → ran_text (left_of breaks old running) ≡ sent
ended_text breaks old running new after found stop taken line sent ends is_found is_stop is_taken is_line is_sent =
    let same : ends.0 ≡ stop = some_is ends.0 stop (sym ends.1 ∙ sym is_found ∙ is_stop) in
    ends.2.0 ∙ ap (stop_text after.run.taken) same ∙ ap (λ n. stop_text n stop) (sym is_taken) ∙ sym (is_sent ∙ is_line)

pub ended_after : (start old new : State) (first running after : InRun)
    → AreLike (left_of start.breakpoints start.wholes first).after (left_of start.breakpoints old.wholes running).after
    → EndsRun start.breakpoints old.wholes running new.wholes after → new.checkpoints ≡ start.checkpoints → new.breakpoints ≡ start.breakpoints
    → AreLikeStates new (takes_left first start).after
ended_after start old new first running after so_far ends checkpoints breakpoints =
    let begun = (left_of start.breakpoints start.wholes first).after in
    record {
      wholes = like_back begun new.wholes (like_chain begun (left_of start.breakpoints old.wholes running).after new.wholes so_far ends.2.1);
      checkpoints = checkpoints;
      breakpoints = breakpoints;
    }
