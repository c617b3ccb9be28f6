use Rattle.std.proofs.Common.{◌∙◌, arith}
use Rattle.overlay_top.proofs.Fronts.{sent_more}
use Rattle.overlay_top.proofs.sending.send.Goals as goal

pub loop-at-preserved : goal.loop-at-preserved
loop-at-preserved g c = record {
  within = omega (arith, c.in-Ok.ensures.within);
  sound = c.in-Ok.ensures.no_fault ∙ c.loop-at.invariant.sound;
  sent = λ tells.
      sent_more (g.K.Sink.taken c.args.sink.now) (g.K.Sink.taken c.loop-at.sink) (g.K.Sink.taken c.write.new.self) c.args.text.now c.loop-at.at
      c.in-Ok.n (c.loop-at.invariant.sent tells) (c.in-Ok.ensures.taken tells);
}
