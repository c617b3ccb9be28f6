use Rattle.std.proofs.Common.{◌≡◌, ◌+◌, ◌-◌, ◌++◌, length, ap, sym, subst, ◌∙◌, [], arith, refl, append-nil}
use Rattle.std.specs.Prelude.{min}
use Rattle.std.specs.FinMap.{get}
use Rattle.ovl_io.specs.Memory.{bytes_at}
use Rattle.command_core.specs.Commands.{dump_text}
use Rattle.overlay_top.specs.Printing.{Sees, memory_in}
use Rattle.overlay_top.specs.declared.printing.TheConstants.{READ_BYTES}
use Rattle.overlay_top.proofs.Errors.{by_err}
use Rattle.overlay_top.proofs.MemoryRows.{next_rows, no_rows, sees_front, sees_rest}
use Rattle.overlay_top.proofs.Read.{block_front}
use Rattle.overlay_top.proofs.Texts.{last_done, more_done, none_done, sends_cut}
use Rattle.overlay_top.proofs.printing.send_bytes.Goals as goal

pub sending-init : goal.sending-init
sending-init g c = record {
  same = refl;
  sound = refl;
  sees = c.requires.sees;
  text = λ tells. none_done (g.K.Sink.taken c.args.report.now.sink.now) (dump_text (memory_in c.args.p c.args.session.now.state) c.args.address c.args.count);
}

pub read_seen-requires : goal.read_seen-requires
read_seen-requires g c = record {
  sees = subst (Sees (get c.args.session.now.state.wholes.processes c.args.p) c.sending.at) (sym (block_front c.min-n.result c.sending.block c.min-n.array_long (omega (arith, c.min-n.ensures))))
      (sees_front (get c.args.session.now.state.wholes.processes c.args.p) c.sending.at c.min-n.result c.sending.left (omega (arith, c.min-n.ensures)) c.sending.invariant.sees);
}

pub send_rows-requires : goal.send_rows-requires
send_rows-requires g c =
    let size : length c.read_seen.new.into ≡ c.min-n.result = c.read_seen.ensures.kept ∙ block_front c.min-n.result c.sending.block c.min-n.array_long (omega (arith, c.min-n.ensures)) in
    record { low = λ some. let low = c.sending.invariant.sees.low c.sending-test.true in omega (arith, low, size, c.min-n.ensures) }

pub returns-in_err-send_rows-clause-sends : goal.returns-in_err-send_rows-clause-sends
returns-in_err-send_rows-clause-sends g c =
    let memory = memory_in c.args.p c.args.session.now.state in
    let at = c.sending.at in
    let n = c.min-n.result in
    let whole : n ≡ min READ_BYTES c.sending.left = omega (arith, c.min-n.ensures) in
    let read = c.read_seen.new.into in
    let size : length read ≡ n = c.read_seen.ensures.kept ∙ block_front n c.sending.block c.min-n.array_long (omega (arith, whole)) in
    let are : read ≡ bytes_at memory at (length read) = c.read_seen.ensures.bytes ∙ ap (bytes_at memory at) (sym c.read_seen.ensures.kept) in
    sends_cut g.K.Sink c.args.report.now.sink.now c.sending.report.sink.now c.send_rows.new.report.sink.now c.sending.invariant.sound
    (dump_text memory at c.sending.left) (dump_text memory at (length read)) (dump_text memory (at + n) (c.sending.left - n))
    (dump_text memory c.args.address c.args.count)
    c.in_err-send_rows.field-0.0 c.from_residual.result c.in_err-send_rows.field-0.0 (by_err c.from_residual.result c.in_err-send_rows.field-0.0 c.from_residual.ensures)
    (next_rows memory at c.sending.left n whole ∙ ap (λ k. dump_text memory at k ++ dump_text memory (at + n) (c.sending.left - n)) (sym size))
    c.sending.invariant.text (c.in_err-send_rows.ensures.sends memory are)

pub returns-in_err-send_rows-clause-same : goal.returns-in_err-send_rows-clause-same
returns-in_err-send_rows-clause-same g c = c.in_err-send_rows.ensures.same ∙ c.sending.invariant.same

pub overflow_add-at : goal.overflow_add-at
overflow_add-at g c = omega (arith, c.sending.invariant.sees.low c.sending-test.true, c.min-n.ensures, c.from-at.ensures)

pub sending-preserved : goal.sending-preserved
sending-preserved g c =
    let state = c.args.session.now.state in
    let memory = memory_in c.args.p state in
    let at = c.sending.at in
    let n = c.min-n.result in
    let whole : n ≡ min READ_BYTES c.sending.left = omega (arith, c.min-n.ensures) in
    let read = c.read_seen.new.into in
    let size : length read ≡ n = c.read_seen.ensures.kept ∙ block_front n c.sending.block c.min-n.array_long (omega (arith, whole)) in
    let are : read ≡ bytes_at memory at (length read) = c.read_seen.ensures.bytes ∙ ap (bytes_at memory at) (sym c.read_seen.ensures.kept) in
    let next : at + n ≡ at + c.from-at.result = omega (arith, c.from-at.ensures) in
    let rest = sees_rest (get state.wholes.processes c.args.p) at n c.sending.left (omega (arith, whole)) c.sending.invariant.sees in
    let sent = c.in_ok-send_rows.ensures.sends memory are in
    record {
      same = c.in_ok-send_rows.ensures.same ∙ c.sending.invariant.same;
      sound = sent.0 ∙ c.sending.invariant.sound;
      sees = subst (λ a. Sees (get state.wholes.processes c.args.p) a (c.sending.left - n)) next rest;
      text = λ tells.
          more_done (g.K.Sink.taken c.args.report.now.sink.now) (g.K.Sink.taken c.sending.report.sink.now) (g.K.Sink.taken c.send_rows.new.report.sink.now)
          (dump_text memory at c.sending.left) (dump_text memory at (length read)) (dump_text memory (at + c.from-at.result) (c.sending.left - n))
          (dump_text memory c.args.address c.args.count)
          (next_rows memory at c.sending.left n whole ∙ ap (λ k. dump_text memory at k ++ dump_text memory (at + n) (c.sending.left - n)) (sym size)
          ∙ ap (λ a. dump_text memory at (length read) ++ dump_text memory a (c.sending.left - n)) next)
          (sent.1 tells) (c.sending.invariant.text tells);
    }

pub returns-clause-sends : goal.returns-clause-sends
returns-clause-sends g c =
    let memory = memory_in c.args.p c.args.session.now.state in (
      c.sending.invariant.sound,
      λ tells.
          last_done (g.K.Sink.taken c.args.report.now.sink.now) (g.K.Sink.taken c.sending.report.sink.now) (g.K.Sink.taken c.sending.report.sink.now)
          (dump_text memory c.sending.at c.sending.left) [] (dump_text memory c.args.address c.args.count)
          (no_rows memory c.sending.at c.sending.left c.sending-test.false)
          (sym (append-nil (g.K.Sink.taken c.sending.report.sink.now))) (c.sending.invariant.text tells),
    )

pub returns-clause-same : goal.returns-clause-same
returns-clause-same g c = c.sending.invariant.same
