use Rattle.std.proofs.Common.{[], ◌∙◌, refl, sym, subst, Some, None, inl, inr, arith}
use Rattle.process_runs.specs.Turns.{EndsRun, left_of}
use Rattle.machine_core.specs.Machine.{wholes}
use Rattle.self_speculation.specs.RequestLaws.{pairs_start, pairs_then}
use Rattle.process_runs.specs.PlaceLaws.{free_start, free_then, own_kept, perms_start, perms_then, space_there}
use Rattle.process_runs.proofs.Rans.{WhyEnded, next_is, none_left, run_ended, said_none, said_then}
use Rattle.process_runs.proofs.taking.quiet_turns.Goals as goal
use Rattle.process_runs.proofs.taking.quiet_turns.Goals.{else-quiet-test, then-quiet-test+in-None+in-None-next, then-quiet-test+in-Some}

pub take_turns-requires-clause-next : goal.take_turns-requires-clause-next
take_turns-requires-clause-next c =
    next_is (wholes c.quiet.machine) c.order.result.now c.quiet.running.run.order (Some c.in-Some-next.p) c.in-Some-next.ensures.number c.order.ensures.order

pub take_turns-requires-clause-there : goal.take_turns-requires-clause-there
take_turns-requires-clause-there c = space_there c.quiet.machine c.in-Some-next.p c.quiet.invariant.spaces c.in-Some-next.ensures.runs

pub take_turns-requires-clause-none_awaits : goal.take_turns-requires-clause-none_awaits
take_turns-requires-clause-none_awaits c = c.quiet.invariant.awaits c.in-Some-next.p

pub take_turns-requires-clause-pairs : goal.take_turns-requires-clause-pairs
take_turns-requires-clause-pairs c = c.quiet.invariant.pairs c.in-Some-next.p

pub quiet-init : goal.quiet-init
quiet-init c = record {
  so_far = said_none (left_of c.args.breakpoints.now (wholes c.args.machine.now) c.args.running.now);
  fewer = omega arith;
  goes = c.requires.goes;
  asked = refl;
  kept = pairs_start c.args.machine.now;
  free = free_start c.args.machine.now;
  perms = perms_start c.args.machine.now;
  spaces = c.requires.spaces;
  awaits = c.requires.awaits;
  pairs = c.requires.pairs;
}

pub quiet-preserved : goal.quiet-preserved
quiet-preserved c =
    let done = c.take_turns in
    let breaks = c.args.breakpoints.now in
    record {
      so_far = said_then [] (left_of breaks (wholes c.args.machine.now) c.args.running.now) (left_of breaks (wholes c.quiet.machine) c.quiet.running) (left_of breaks (wholes done.new.machine) done.new.running)
          c.quiet.invariant.so_far (done.ensures.quiet c.if-take_turns.false);
      fewer = omega (arith, c.quiet.invariant.fewer, done.ensures.fewer);
      goes = done.ensures.goes c.if-take_turns.false;
      asked = done.ensures.asked ∙ c.quiet.invariant.asked;
      kept = pairs_then c.args.machine.now c.quiet.machine done.new.machine c.quiet.invariant.kept done.ensures.kept;
      free = free_then c.args.machine.now c.quiet.machine done.new.machine c.quiet.invariant.kept c.quiet.invariant.free done.ensures.free;
      perms = perms_then c.args.machine.now c.quiet.machine done.new.machine c.quiet.invariant.perms done.ensures.perms;
      spaces = own_kept c.quiet.machine done.new.machine c.quiet.invariant.spaces done.ensures.kept;
      awaits = λ q. done.ensures.kept.awaiting q ∙ c.quiet.invariant.awaits q;
      pairs = λ q. done.ensures.kept.kept q (c.quiet.invariant.pairs q);
    }

pub returns-then-take_turns-clause-says : goal.returns-then-take_turns-clause-says
returns-then-take_turns-clause-says c spoke =
    let done = c.take_turns in
    let breaks = c.args.breakpoints.now in
    said_then done.new.line.items (left_of breaks (wholes c.args.machine.now) c.args.running.now) (left_of breaks (wholes c.quiet.machine) c.quiet.running) (left_of breaks (wholes done.new.machine) done.new.running)
    c.quiet.invariant.so_far (done.ensures.says c.if-take_turns.true)

pub returns-clause-ends : goal.returns-clause-ends
returns-clause-ends c silent =
    let run = c.quiet.running.run in
    let breaks = c.args.breakpoints.now in
    let why : WhyEnded breaks (wholes c.quiet.machine) run = elim c.quiet-test.branch [
      | else-quiet-test w ↦ none_left breaks (wholes c.quiet.machine) run (sym c.has_left.ensures.left ∙ w.quiet-test.false)
      | then-quiet-test+in-None+in-None-next w ↦
          inr (sym w.in-None.ensures, inl (next_is (wholes c.quiet.machine) w.order.result.now run.order None w.in-None-next.ensures.number w.order.ensures.order))
      | then-quiet-test+in-Some w ↦ inl (w.in-Some.field-0, sym w.in-Some.ensures)
    ] in
    let found = c.ending-stop.result in
    let ends = run_ended breaks (wholes c.args.machine.now) (wholes c.quiet.machine) c.args.running.now c.quiet.running found c.quiet.invariant.goes c.ending-stop.ensures c.quiet.invariant.so_far why
    c.has_left.ensures.within in
    subst (EndsRun breaks (wholes c.args.machine.now) c.args.running.now (wholes c.quiet.machine)) (sym c.set_stop.ensures) ends

pub returns-then-take_turns-clause-free : goal.returns-then-take_turns-clause-free
returns-then-take_turns-clause-free c =
    free_then c.args.machine.now c.quiet.machine c.take_turns.new.machine c.quiet.invariant.kept c.quiet.invariant.free c.take_turns.ensures.free

pub returns-clause-free : goal.returns-clause-free
returns-clause-free c = c.quiet.invariant.free

pub returns-then-take_turns-clause-perms : goal.returns-then-take_turns-clause-perms
returns-then-take_turns-clause-perms c =
    perms_then c.args.machine.now c.quiet.machine c.take_turns.new.machine c.quiet.invariant.perms c.take_turns.ensures.perms

pub returns-clause-perms : goal.returns-clause-perms
returns-clause-perms c = c.quiet.invariant.perms
