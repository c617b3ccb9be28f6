use Rattle.std.proofs.Common.{◌<◌, ◌+◌, length, drop, ap, subst, ◌∙◌, arith}
use Rattle.std.specs.FinMap.{get}
use Rattle.machine_core.specs.Machine.{AreLike, Processes, wholes}
use Rattle.machine_core.specs.Play.{run_over}
use Rattle.machine_core.specs.Laws.{leads, like_chain, like_itself, like_run}
use Rattle.machine_core.proofs.Plays.{each_own, run_all, run_next}
use Rattle.machine_core.proofs.machine.Machine.play.Goals as goal

pub playing-preserved : goal.playing-preserved
playing-preserved c = record {
  run = like_chain _ _ _ (like_run (drop (c.playing.i + 1) c.args.turns.now) _ _ (c.turn.ensures.stands (wholes c.playing.self) (like_itself (wholes c.playing.self))))
      (subst (λ s. AreLike s (run_over c.args.turns.now (wholes c.args.self.now))) (run_next c.args.turns.now c.playing.i (wholes c.playing.self) c.playing-test.true) c.playing.invariant.run);
  spaces = c.turn.ensures.spaces;
}

pub returns-clause-stands : goal.returns-clause-stands
returns-clause-stands c =
    let past : length c.args.turns.now < c.playing.i + 1 = omega (arith, c.playing-test.false) in
    leads (run_over c.args.turns.now) c.args.self.now c.playing.self (like_run c.args.turns.now)
    (subst (λ s. AreLike s (run_over c.args.turns.now (wholes c.args.self.now))) (run_all c.args.turns.now c.playing.i (wholes c.playing.self) past) c.playing.invariant.run)

pub returns-clause-own : goal.returns-clause-own
returns-clause-own c p =
    ap (λ (ps : Processes). get ps p) (returns-clause-stands c (wholes c.args.self.now) (like_itself (wholes c.args.self.now))).processes
    ∙ each_own c.args.turns.now (wholes c.args.self.now) p
