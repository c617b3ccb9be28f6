use Rattle.std.proofs.Common.{◌≡◌, ◌+◌, ◌-◌, ◌<◌, ◌≤◌, ◌++◌, ap, sym, ◌∙◌, [], arith, refl, append-nil, length, length-drop}
use Rattle.std.proofs.lemmas.Bool.Decides.{nat_tests}
use Rattle.std.specs.Prelude.{min}
use Rattle.ovl_io.specs.Memory.{bytes_at}
use Rattle.report_text.specs.Lines.{dump_line}
use Rattle.report_text.specs.declared.TheConstants.{ROW_BYTES}
use Rattle.command_core.specs.Commands.{dump_text}
use Rattle.overlay_top.proofs.Errors.{by_err}
use Rattle.overlay_top.proofs.MemoryRows.{next_row, no_rows}
use Rattle.overlay_top.proofs.Read.{front_bytes, rest_bytes}
use Rattle.overlay_top.proofs.Texts.{last_done, more_done, none_done, sends_cut}
use Rattle.overlay_top.proofs.printing.send_rows.Goals as goal

pub sending-init : goal.sending-init
sending-init g c = record {
  same = refl;
  sound = refl;
  low = c.requires.low;
  text = λ memory are. (are, λ tells. none_done (g.K.Sink.taken c.args.report.now.sink.now) (dump_text memory c.args.address (length c.args.bytes.now)));
}

pub returns-in_err-send-clause-sends : goal.returns-in_err-send-clause-sends
returns-in_err-send-clause-sends g c memory are =
    let so_far = c.sending.invariant.text memory are in
    let at = c.sending.at in
    let rest = c.sending.rest.now in
    let n = c.min-n.result in
    let some : 0 < length rest = (let test = c.sending-test.true in let has = c.is_empty.ensures in grind (arith, nat_tests)) in
    let whole : n ≡ min ROW_BYTES (length rest) = omega (arith, c.min-n.ensures) in
    let row : c.dump_line.new.out.items ≡ dump_line at (bytes_at memory at n) =
    c.dump_line.ensures ∙ ap (dump_line at) (c.split_at.ensures.front ∙ front_bytes memory at n (length rest) rest (omega (arith, whole)) so_far.0) in
    sends_cut g.K.Sink c.args.report.now.sink.now c.sending.report.sink.now c.send.new.self.sink.now c.sending.invariant.sound
    (dump_text memory at (length rest)) c.dump_line.new.out.items (dump_text memory (at + n) (length rest - n))
    (dump_text memory c.args.address (length c.args.bytes.now))
    c.in_err-send.field-0.0 c.from_residual.result c.in_err-send.field-0.0 (by_err c.from_residual.result c.in_err-send.field-0.0 c.from_residual.ensures)
    (next_row memory at (length rest) n c.dump_line.new.out.items some whole row) so_far.1 c.in_err-send.ensures.sends

pub returns-in_err-send-clause-same : goal.returns-in_err-send-clause-same
returns-in_err-send-clause-same g c = c.in_err-send.ensures.same ∙ c.sending.invariant.same

pub sending-preserved : goal.sending-preserved
sending-preserved g c =
    let at = c.sending.at in
    let rest = c.sending.rest.now in
    let behind = c.split_at.result.1.now in
    let n = c.min-n.result in
    let some : 0 < length rest = (let test = c.sending-test.true in let has = c.is_empty.ensures in grind (arith, nat_tests)) in
    let whole : n ≡ min ROW_BYTES (length rest) = omega (arith, c.min-n.ensures) in
    let fewer : length behind ≡ length rest - n = ap length c.split_at.ensures.back ∙ length-drop n rest in
    record {
      same = c.in_ok-send.ensures.same ∙ c.sending.invariant.same;
      sound = c.in_ok-send.ensures.sends.0 ∙ c.sending.invariant.sound;
      low = λ more. let was = c.sending.invariant.low some in omega (arith, was, fewer, whole, some, more);
      text = λ memory are.
          let so_far = c.sending.invariant.text memory are in
          let row : c.dump_line.new.out.items ≡ dump_line at (bytes_at memory at n) =
          c.dump_line.ensures ∙ ap (dump_line at) (c.split_at.ensures.front ∙ front_bytes memory at n (length rest) rest (omega (arith, whole)) so_far.0) in
          let left : behind ≡ bytes_at memory (at + n) (length behind) =
          c.split_at.ensures.back ∙ rest_bytes memory at n (length rest) rest (omega (arith, whole)) so_far.0 ∙ ap (bytes_at memory (at + n)) (sym fewer) in (
            left,
            λ tells.
                more_done (g.K.Sink.taken c.args.report.now.sink.now) (g.K.Sink.taken c.sending.report.sink.now) (g.K.Sink.taken c.send.new.self.sink.now)
                (dump_text memory at (length rest)) c.dump_line.new.out.items (dump_text memory (at + n) (length behind))
                (dump_text memory c.args.address (length c.args.bytes.now))
                (next_row memory at (length rest) n c.dump_line.new.out.items some whole row
                ∙ ap (λ k. c.dump_line.new.out.items ++ dump_text memory (at + n) k) (sym fewer))
                (c.in_ok-send.ensures.sends.1 tells) (so_far.1 tells),
          );
    }

pub returns-clause-sends : goal.returns-clause-sends
returns-clause-sends g c memory are =
    let so_far = c.sending.invariant.text memory are in
    let none : length c.sending.rest.now ≤ 0 = (let test = c.sending-test.false in let has = c.is_empty.ensures in grind (arith, nat_tests)) in (
      c.sending.invariant.sound,
      λ tells.
          last_done (g.K.Sink.taken c.args.report.now.sink.now) (g.K.Sink.taken c.sending.report.sink.now) (g.K.Sink.taken c.sending.report.sink.now)
          (dump_text memory c.sending.at (length c.sending.rest.now)) [] (dump_text memory c.args.address (length c.args.bytes.now))
          (no_rows memory c.sending.at (length c.sending.rest.now) none)
          (sym (append-nil (g.K.Sink.taken c.sending.report.sink.now))) (so_far.1 tells),
    )

pub returns-clause-same : goal.returns-clause-same
returns-clause-same g c = c.sending.invariant.same
