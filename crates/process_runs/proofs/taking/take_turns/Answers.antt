use Rattle.std.proofs.Common.{◌≡◌, ℕ, true, None, [], refl, ap, subst, sym, ◌∙◌, arith}
use Rattle.machine_core.specs.Machine.{AreLike, Machine, StaysBut, is_running, wholes}
use Rattle.report_text.specs.Answers.{turn_text}
use Rattle.process_runs.specs.Turns.{FinishesTurn, InRun, run_counted, run_took}
use Rattle.process_runs.proofs.Rans.{fewer_counted, fewer_left, none_stopped, speaks_by}
use Rattle.breakpoints.specs.Breakpoints.{Breaks, addresses_of}
use Rattle.machine_core.specs.Absent.{none_after_executions}
use Rattle.machine_core.specs.Executions.{after_executions}
use Rattle.machine_core.specs.PermsLaws.{executions_leave}
use Rattle.process_runs.specs.Places.{KeepsAllPerms, KeepsFree}
use Rattle.self_speculation.specs.RequestLaws.{pairs_then, places_pairs}
use Rattle.process_runs.specs.PlaceLaws.{free_then, free_turns, perms_then, perms_turns}
use Rattle.process_runs.proofs.Stretching.{all_taken, asked_runs, fits_left, goes_on, last_turn, no_line, says_last}
use Rattle.process_runs.proofs.taking.take_turns.Goals as goal

-- executions leave the other processes
executed_free : (breaks : Breaks) (p most : ℕ) (old new : Machine) → StaysBut p old new → is_running (wholes old) p ≡ true
    → AreLike (wholes new) (after_executions (addresses_of breaks p) most (wholes old) p) → KeepsFree old new
executed_free breaks p most old new others runs after =
    free_turns p old new (after_executions (addresses_of breaks p) most (wholes old) p) others runs after
    (λ q other none. none_after_executions q p other (addresses_of breaks p) most (wholes old) none)

executed_perms : (breaks : Breaks) (p most : ℕ) (old new : Machine) → StaysBut p old new → is_running (wholes old) p ≡ true
    → AreLike (wholes new) (after_executions (addresses_of breaks p) most (wholes old) p) → KeepsAllPerms old new
executed_perms breaks p most old new others runs after =
    perms_turns p old new (after_executions (addresses_of breaks p) most (wholes old) p) others runs (executions_leave p (addresses_of breaks p) most (wholes old)) after

pub took_turns-requires : goal.took_turns-requires
took_turns-requires c =
    let done = c.execute_up_to-steps in
    omega (
      arith,
      c.stretch.ensures.stretch,
      fits_left c.args.breakpoints.now (wholes c.args.machine.now) c.args.p c.stretch.result done.result.0 c.args.running.now.run c.requires.runs c.requires.next c.requires.unbroken c.stretch.ensures.stretch done.ensures.steps,
    )

-- as many steps as there were turns

pub returns-in-Stepped-clause-quiet : goal.returns-in-Stepped-clause-quiet
returns-in-Stepped-clause-quiet c silent =
    let done = c.execute_up_to-steps in
    let run = run_took done.result.0 c.args.p c.args.running.now.run in
    speaks_by c.args.breakpoints.now (wholes c.args.machine.now) (wholes done.new.machine) c.args.running.now c.took_turns.new.self (record { run = run; stop = None }) [] [] c.requires.goes
    (none_stopped c.took_turns.new.self run c.args.running.now.stop c.took_turns.ensures.took c.requires.goes) refl
    (goes_on c.args.breakpoints.now (wholes c.args.machine.now) c.args.p c.stretch.result done.result.0 c.args.running.now.run c.requires.runs c.requires.next c.requires.unbroken c.stretch.ensures.stretch done.ensures.steps
    (wholes done.new.machine) (sym c.in-Stepped.is ∙ done.ensures.outcome) done.ensures.after)

pub returns-in-Stepped-clause-fewer : goal.returns-in-Stepped-clause-fewer
returns-in-Stepped-clause-fewer c =
    let done = c.execute_up_to-steps in
    let some = all_taken c.args.breakpoints.now (wholes c.args.machine.now) c.args.p c.stretch.result done.result.0 c.args.running.now.run c.requires.runs c.requires.next c.requires.unbroken c.stretch.ensures.stretch done.ensures.steps
    (sym c.in-Stepped.is ∙ done.ensures.outcome) in
    let took = c.took_turns.ensures.took in
    fewer_left c.args.running.now c.took_turns.new.self c.requires.goes (ap (λ (r : InRun). r.stop) took ∙ c.requires.goes) (ap (λ (r : InRun). r.run.turns) took)
    (omega (arith, some c.stretch.ensures.some, ap (λ (r : InRun). r.run.taken) took)) c.took_turns.ensures.within

pub returns-in-Stepped-clause-free : goal.returns-in-Stepped-clause-free
returns-in-Stepped-clause-free c =
    executed_free c.args.breakpoints.now c.args.p c.stretch.result c.args.machine.now c.execute_up_to-steps.new.machine c.execute_up_to-steps.ensures.others c.requires.runs
    c.execute_up_to-steps.ensures.after

-- a last turn that is no step

pub end_stretch-requires-clause-runs : goal.end_stretch-requires-clause-runs
end_stretch-requires-clause-runs c =
    let done = c.execute_up_to-steps in
    asked_runs c.args.breakpoints.now (wholes c.args.machine.now) c.args.p done.result.0 c.args.running.now.run done.result.1 (wholes done.new.machine)
    (last_turn c.args.breakpoints.now (wholes c.args.machine.now) c.args.p c.stretch.result done.result.0 c.args.running.now.run c.requires.runs c.requires.next c.requires.unbroken c.stretch.ensures.stretch done.ensures.steps
    done.result.1 (wholes done.new.machine) done.ensures.outcome c.in_default.not-Stepped done.ensures.after)

pub end_stretch-requires-clause-there : goal.end_stretch-requires-clause-there
end_stretch-requires-clause-there c = c.execute_up_to-steps.ensures.places.spaces c.args.p ∙ c.requires.there

pub end_stretch-requires-clause-none_awaits : goal.end_stretch-requires-clause-none_awaits
end_stretch-requires-clause-none_awaits c = c.execute_up_to-steps.ensures.places.awaiting c.args.p ∙ c.requires.none_awaits

pub end_stretch-requires-clause-pairs : goal.end_stretch-requires-clause-pairs
end_stretch-requires-clause-pairs c =
    let done = c.execute_up_to-steps in
    (places_pairs c.args.machine.now done.new.machine done.ensures.places).kept c.args.p c.requires.pairs

pub end_stretch-requires-clause-left : goal.end_stretch-requires-clause-left
end_stretch-requires-clause-left c =
    let done = c.execute_up_to-steps in
    let last = last_turn c.args.breakpoints.now (wholes c.args.machine.now) c.args.p c.stretch.result done.result.0 c.args.running.now.run c.requires.runs c.requires.next c.requires.unbroken c.stretch.ensures.stretch done.ensures.steps
    done.result.1 (wholes done.new.machine) done.ensures.outcome c.in_default.not-Stepped done.ensures.after in
    omega (arith, last.below, ap (λ (r : InRun). r.run.taken) c.took_turns.ensures.took, ap (λ (r : InRun). r.run.turns) c.took_turns.ensures.took)

pub end_stretch-requires-clause-goes : goal.end_stretch-requires-clause-goes
end_stretch-requires-clause-goes c = ap (λ (r : InRun). r.stop) c.took_turns.ensures.took ∙ c.requires.goes

pub returns-clause-says : goal.returns-clause-says
returns-clause-says c spoke =
    let done = c.execute_up_to-steps in
    let end = c.end_stretch in
    let ends = end.ensures.ends in
    let last = last_turn c.args.breakpoints.now (wholes c.args.machine.now) c.args.p c.stretch.result done.result.0 c.args.running.now.run c.requires.runs c.requires.next c.requires.unbroken c.stretch.ensures.stretch done.ensures.steps
    done.result.1 (wholes done.new.machine) done.ensures.outcome c.in_default.not-Stepped done.ensures.after in
    speaks_by c.args.breakpoints.now (wholes c.args.machine.now) (wholes end.new.machine) c.args.running.now c.end_stretch.new.running
    (run_counted ends.turn c.args.p (run_took done.result.0 c.args.p c.args.running.now.run)) end.new.line.items (turn_text c.args.p ends.turn) c.requires.goes
    (c.end_stretch.ensures.ends.counted ∙ ap (λ (r : InRun). run_counted ends.turn c.args.p r.run) c.took_turns.ensures.took) c.end_stretch.ensures.ends.text
    (says_last c.args.breakpoints.now (wholes c.args.machine.now) c.args.p done.result.0 c.args.running.now.run done.result.1 (wholes done.new.machine) (wholes end.new.machine) ends.turn last
    (subst (λ calls. FinishesTurn calls c.args.p done.result.1 (wholes done.new.machine) ends.turn (wholes end.new.machine)) (ap (λ (r : InRun). r.run.calls) c.took_turns.ensures.took) ends.finished))

pub returns-clause-one : goal.returns-clause-one
returns-clause-one c spoke = (c.args.p, c.end_stretch.ensures.ends.turn, sym c.end_stretch.ensures.ends.has ∙ spoke, c.end_stretch.ensures.ends.text)

pub returns-clause-quiet : goal.returns-clause-quiet
returns-clause-quiet c silent =
    let done = c.execute_up_to-steps in
    let end = c.end_stretch in
    let ends = end.ensures.ends in
    let last = last_turn c.args.breakpoints.now (wholes c.args.machine.now) c.args.p c.stretch.result done.result.0 c.args.running.now.run c.requires.runs c.requires.next c.requires.unbroken c.stretch.ensures.stretch done.ensures.steps
    done.result.1 (wholes done.new.machine) done.ensures.outcome c.in_default.not-Stepped done.ensures.after in
    speaks_by c.args.breakpoints.now (wholes c.args.machine.now) (wholes end.new.machine) c.args.running.now c.end_stretch.new.running
    (run_counted ends.turn c.args.p (run_took done.result.0 c.args.p c.args.running.now.run)) [] (turn_text c.args.p ends.turn) c.requires.goes
    (c.end_stretch.ensures.ends.counted ∙ ap (λ (r : InRun). run_counted ends.turn c.args.p r.run) c.took_turns.ensures.took) (no_line c.args.p ends.turn (sym c.end_stretch.ensures.ends.has ∙ silent))
    (says_last c.args.breakpoints.now (wholes c.args.machine.now) c.args.p done.result.0 c.args.running.now.run done.result.1 (wholes done.new.machine) (wholes end.new.machine) ends.turn last
    (subst (λ calls. FinishesTurn calls c.args.p done.result.1 (wholes done.new.machine) ends.turn (wholes end.new.machine)) (ap (λ (r : InRun). r.run.calls) c.took_turns.ensures.took) ends.finished))

pub returns-clause-fewer : goal.returns-clause-fewer
returns-clause-fewer c =
    let done = c.execute_up_to-steps in
    let last = last_turn c.args.breakpoints.now (wholes c.args.machine.now) c.args.p c.stretch.result done.result.0 c.args.running.now.run c.requires.runs c.requires.next c.requires.unbroken c.stretch.ensures.stretch done.ensures.steps
    done.result.1 (wholes done.new.machine) done.ensures.outcome c.in_default.not-Stepped done.ensures.after in
    (fewer_counted c.args.p done.result.0 c.end_stretch.ensures.ends.turn c.args.running.now c.end_stretch.new.running c.requires.goes last.below
    (c.end_stretch.ensures.ends.counted ∙ ap (λ (r : InRun). run_counted c.end_stretch.ensures.ends.turn c.args.p r.run) c.took_turns.ensures.took)).0

pub returns-clause-free : goal.returns-clause-free
returns-clause-free c =
    let done = c.execute_up_to-steps in
    free_then c.args.machine.now done.new.machine c.end_stretch.new.machine (places_pairs c.args.machine.now done.new.machine done.ensures.places)
    (executed_free c.args.breakpoints.now c.args.p c.stretch.result c.args.machine.now done.new.machine done.ensures.others c.requires.runs done.ensures.after) c.end_stretch.ensures.free

pub returns-in-Stepped-clause-perms : goal.returns-in-Stepped-clause-perms
returns-in-Stepped-clause-perms c =
    executed_perms c.args.breakpoints.now c.args.p c.stretch.result c.args.machine.now c.execute_up_to-steps.new.machine c.execute_up_to-steps.ensures.others c.requires.runs
    c.execute_up_to-steps.ensures.after

pub returns-clause-perms : goal.returns-clause-perms
returns-clause-perms c =
    let done = c.execute_up_to-steps in
    perms_then c.args.machine.now done.new.machine c.end_stretch.new.machine
    (executed_perms c.args.breakpoints.now c.args.p c.stretch.result c.args.machine.now done.new.machine done.ensures.others c.requires.runs done.ensures.after) c.end_stretch.ensures.perms

pub returns-in-Stepped-clause-kept : goal.returns-in-Stepped-clause-kept
returns-in-Stepped-clause-kept c = places_pairs c.args.machine.now c.execute_up_to-steps.new.machine c.execute_up_to-steps.ensures.places

pub returns-clause-kept : goal.returns-clause-kept
returns-clause-kept c =
    let done = c.execute_up_to-steps in
    pairs_then c.args.machine.now done.new.machine c.end_stretch.new.machine (places_pairs c.args.machine.now done.new.machine done.ensures.places) c.end_stretch.ensures.kept
