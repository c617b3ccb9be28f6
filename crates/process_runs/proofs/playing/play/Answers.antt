use Rattle.std.proofs.Common.{◌<◌, ◌+◌, length, drop, ap, subst, ◌∙◌, arith}
use Rattle.std.specs.FinMap.{get}
use Rattle.machine_core.specs.Machine.{AreLike, Processes, wholes}
use Rattle.machine_core.specs.Laws.{like_chain, like_itself}
use Rattle.process_runs.specs.Played.{run_over}
use Rattle.process_runs.specs.PlayedLaws.{each_own, like_run, run_all, run_next}
use Rattle.self_speculation.specs.RequestLaws.{pairs_start, pairs_then}
use Rattle.process_runs.specs.PlaceLaws.{free_start, free_then, own_kept, perms_start, perms_then}
use Rattle.process_runs.proofs.playing.play.Goals as goal

pub playing-init : goal.playing-init
playing-init c = record {
  run = like_itself (run_over c.args.turns.now (wholes c.args.machine.now));
  kept = pairs_start c.args.machine.now;
  free = free_start c.args.machine.now;
  perms = perms_start c.args.machine.now;
  spaces = c.requires.spaces;
  awaits = c.requires.awaits;
  pairs = c.requires.pairs;
}

pub playing-preserved : goal.playing-preserved
playing-preserved c =
    let done = c.turn in
    let so_far = c.playing.invariant in
    record {
      run = like_chain _ _ _ (like_run (drop (c.playing.i + 1) c.args.turns.now) _ _ done.ensures.after)
          (subst (λ s. AreLike s (run_over c.args.turns.now (wholes c.args.machine.now))) (run_next c.args.turns.now c.playing.i (wholes c.playing.machine) c.playing-test.true) so_far.run);
      kept = pairs_then c.args.machine.now c.playing.machine done.new.machine so_far.kept done.ensures.kept;
      free = free_then c.args.machine.now c.playing.machine done.new.machine so_far.kept so_far.free done.ensures.free;
      perms = perms_then c.args.machine.now c.playing.machine done.new.machine so_far.perms done.ensures.perms;
      spaces = own_kept c.playing.machine done.new.machine so_far.spaces done.ensures.kept;
      awaits = λ q. done.ensures.kept.awaiting q ∙ so_far.awaits q;
      pairs = λ q. done.ensures.kept.kept q (so_far.pairs q);
    }

pub returns-clause-plays : goal.returns-clause-plays
returns-clause-plays c =
    let past : length c.args.turns.now < c.playing.i + 1 = omega (arith, c.playing-test.false) in
    subst (λ s. AreLike s (run_over c.args.turns.now (wholes c.args.machine.now))) (run_all c.args.turns.now c.playing.i (wholes c.playing.machine) past) c.playing.invariant.run

pub returns-clause-own : goal.returns-clause-own
returns-clause-own c p =
    ap (λ (ps : Processes). get ps p) (returns-clause-plays c).processes ∙ each_own c.args.turns.now (wholes c.args.machine.now) p

pub returns-clause-kept : goal.returns-clause-kept
returns-clause-kept c = c.playing.invariant.kept

pub returns-clause-free : goal.returns-clause-free
returns-clause-free c = c.playing.invariant.free

pub returns-clause-perms : goal.returns-clause-perms
returns-clause-perms c = c.playing.invariant.perms
