use Rattle.std.proofs.Common.{◌≡◌, ℕ, ◌≤◌, Bool, true, false, cond, ap, ◌∙◌, arith, Option, Some, None, Result, Ok, Err}
use Rattle.std.specs.FinMap.{get}
use Rattle.machine_core.specs.Machine.{Wholes}
use Rattle.machine_core.specs.Process.{Process, runs}
use Rattle.report_text.specs.declared.answer.Code.{Code}
use Rattle.report_text.specs.declared.answer.Code.TheVariants.{Ended}
use Rattle.command_core.specs.State.{State, with_wholes}
use Rattle.command_core.specs.Rows.{refuses}
use Rattle.command_core.specs.Commands.{rules, step_done, steps, takes_left, takes_turns, told}
use Rattle.process_runs.specs.LikeLaws.{left_found}
use Rattle.command_core.specs.Looks.{BeginsStep, begun}
use Rattle.process_runs.specs.Turns.{InRun, Progress, Ran, begun_alone, ran_text, run_found}

-- Turns that were just begun: all of them are left.

pub left_begun : (run : Progress) (state : State) → run.taken ≤ run.turns → takes_left (run_found state.breakpoints state.wholes run) state ≡ takes_turns run state
left_begun run state within =
    ap (λ (r : Ran Wholes). record { text = ran_text r; after = with_wholes r.after state; wants_memory = false }) (left_found state.breakpoints state.wholes run within)

pub takes_begun : (running : InRun) (run : Progress) (state : State) → running ≡ run_found state.breakpoints state.wholes run → run.taken ≤ run.turns
    → takes_left running state ≡ takes_turns run state
takes_begun running run state is within = ap (λ (r : InRun). takes_left r state) is ∙ left_begun run state within

ok_is : (a b : InRun) → ◌≡◌ {A = Result InRun Code} (Ok a) (Ok b) → a ≡ b
ok_is a b e = cc

-- the turns of one process, which is there and runs
module _ (calls : Bool) (p turns : ℕ) (state : State) where
  runs_begun : (running : InRun) (b : Bool) → Ok running ≡ cond b (Ok (run_found state.breakpoints state.wholes (begun_alone p calls turns))) (Err Ended)
      → takes_left running state ≡ cond b (takes_turns (begun_alone p calls turns) state) (told false (refuses Ended state))
  runs_begun running true is = takes_begun running (begun_alone p calls turns) state (ok_is running (run_found state.breakpoints state.wholes (begun_alone p calls turns)) is) (omega arith)
  runs_begun running false is = cc

  found_begun : (running : InRun) (found : Option Process) → Ok running ≡ begun state.breakpoints state.wholes calls p turns found
      → takes_left running state ≡ steps rules calls p turns found state
  found_begun running None is = cc
  found_begun running (Some process) is = runs_begun running (runs process.state) is

  pub step_begun : (running : InRun) → BeginsStep state.breakpoints state.wholes calls p turns (Ok running) → takes_left running state ≡ step_done rules calls p turns state
  step_begun running is = found_begun running (get state.wholes.processes p) is
