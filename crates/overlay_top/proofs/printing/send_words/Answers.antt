use Rattle.std.proofs.Common.{◌≡◌, ◌+◌, ◌-◌, ◌*◌, ◌/◌, ◌≤◌, ◌++◌, length, ap, sym, subst, ◌∙◌, [], arith, refl, append-nil}
use Rattle.std.specs.FinMap.{get}
use Rattle.command_core.specs.declared.TheConstants.{WORD_BYTES}
use Rattle.ovl_io.specs.Memory.{bytes_at}
use Rattle.command_core.specs.Commands.{disasm_text}
use Rattle.overlay_top.specs.Printing.{Sees, memory_in}
use Rattle.overlay_top.proofs.Errors.{by_err}
use Rattle.overlay_top.proofs.MemoryRows.{next_words, no_words, sees_front, sees_rest}
use Rattle.overlay_top.proofs.Read.{block_front}
use Rattle.overlay_top.proofs.Texts.{last_done, more_done, none_done, sends_cut}
use Rattle.overlay_top.proofs.printing.send_words.Goals as goal

pub sending-init : goal.sending-init
sending-init g c = record {
  same = refl;
  sound = refl;
  sees = c.requires.sees;
  text = λ tells. none_done (g.K.Sink.taken c.args.report.now.sink.now) (disasm_text c.args.session.now.modes.extension (memory_in c.args.p c.args.session.now.state) c.args.address c.args.words);
}

pub read_seen-requires : goal.read_seen-requires
read_seen-requires g c = record {
  sees = subst (Sees (get c.args.session.now.state.wholes.processes c.args.p) c.sending.at) (sym (block_front (WORD_BYTES * c.min-n.result) c.sending.block c.min-n.array_long (omega (arith, c.min-n.ensures))))
      (sees_front (get c.args.session.now.state.wholes.processes c.args.p) c.sending.at (WORD_BYTES * c.min-n.result) (WORD_BYTES * c.sending.left) (omega (arith, c.min-n.ensures)) c.sending.invariant.sees);
}

pub send_instructions-requires-clause-low : goal.send_instructions-requires-clause-low
send_instructions-requires-clause-low g c some =
    let size : length c.read_seen.new.into ≡ WORD_BYTES * c.min-n.result =
    c.read_seen.ensures.kept ∙ block_front (WORD_BYTES * c.min-n.result) c.sending.block c.min-n.array_long (omega (arith, c.min-n.ensures)) in
    let low = c.sending.invariant.sees.low (omega (arith, c.sending-test.true)) in omega (arith, low, size, c.min-n.ensures)

pub send_instructions-requires-clause-whole : goal.send_instructions-requires-clause-whole
send_instructions-requires-clause-whole g c =
    let size : length c.read_seen.new.into ≡ WORD_BYTES * c.min-n.result =
    c.read_seen.ensures.kept ∙ block_front (WORD_BYTES * c.min-n.result) c.sending.block c.min-n.array_long (omega (arith, c.min-n.ensures)) in
    omega (arith, size)

pub returns-in_err-send_instructions-clause-sends : goal.returns-in_err-send_instructions-clause-sends
returns-in_err-send_instructions-clause-sends g c =
    let memory = memory_in c.args.p c.args.session.now.state in
    let m = c.args.session.now.modes.extension in
    let at = c.sending.at in
    let n = c.min-n.result in
    let within : n ≤ c.sending.left = omega (arith, c.min-n.ensures) in
    let read = c.read_seen.new.into in
    let size : length read ≡ WORD_BYTES * n = c.read_seen.ensures.kept ∙ block_front (WORD_BYTES * n) c.sending.block c.min-n.array_long (omega (arith, c.min-n.ensures)) in
    let words : length read / WORD_BYTES ≡ n = omega (arith, size) in
    let are : read ≡ bytes_at memory at (length read) = c.read_seen.ensures.bytes ∙ ap (bytes_at memory at) (sym c.read_seen.ensures.kept) in
    sends_cut g.K.Sink c.args.report.now.sink.now c.sending.report.sink.now c.send_instructions.new.report.sink.now c.sending.invariant.sound
    (disasm_text m memory at c.sending.left) (disasm_text m memory at (length read / WORD_BYTES)) (disasm_text m memory (at + WORD_BYTES * n) (c.sending.left - n))
    (disasm_text m memory c.args.address c.args.words)
    c.in_err-send_instructions.field-0.0 c.from_residual.result c.in_err-send_instructions.field-0.0 (by_err c.from_residual.result c.in_err-send_instructions.field-0.0 c.from_residual.ensures)
    (next_words m memory n at c.sending.left within ∙ ap (λ k. disasm_text m memory at k ++ disasm_text m memory (at + WORD_BYTES * n) (c.sending.left - n)) (sym words))
    c.sending.invariant.text (c.in_err-send_instructions.ensures.sends memory are)

pub returns-in_err-send_instructions-clause-same : goal.returns-in_err-send_instructions-clause-same
returns-in_err-send_instructions-clause-same g c = c.in_err-send_instructions.ensures.same ∙ c.sending.invariant.same

pub overflow_add-at : goal.overflow_add-at
overflow_add-at g c = omega (arith, c.sending-test.true, c.min-n.ensures, c.from.ensures, c.sending.invariant.sees.low (omega (arith, c.sending-test.true)))

pub sending-preserved : goal.sending-preserved
sending-preserved g c =
    let state = c.args.session.now.state in
    let memory = memory_in c.args.p state in
    let m = c.args.session.now.modes.extension in
    let at = c.sending.at in
    let n = c.min-n.result in
    let within : n ≤ c.sending.left = omega (arith, c.min-n.ensures) in
    let read = c.read_seen.new.into in
    let size : length read ≡ WORD_BYTES * n = c.read_seen.ensures.kept ∙ block_front (WORD_BYTES * n) c.sending.block c.min-n.array_long (omega (arith, c.min-n.ensures)) in
    let words : length read / WORD_BYTES ≡ n = omega (arith, size) in
    let are : read ≡ bytes_at memory at (length read) = c.read_seen.ensures.bytes ∙ ap (bytes_at memory at) (sym c.read_seen.ensures.kept) in
    let rest = sees_rest (get state.wholes.processes c.args.p) at (WORD_BYTES * n) (WORD_BYTES * c.sending.left) (omega (arith, within)) c.sending.invariant.sees in
    let fewer : WORD_BYTES * c.sending.left - WORD_BYTES * n ≡ WORD_BYTES * (c.sending.left - n) = omega (arith, within) in
    let next : at + WORD_BYTES * n ≡ at + WORD_BYTES * c.from.result = omega (arith, c.from.ensures) in
    let sent = c.in_ok-send_instructions.ensures.sends memory are in
    record {
      same = c.in_ok-send_instructions.ensures.same ∙ c.sending.invariant.same;
      sound = sent.0 ∙ c.sending.invariant.sound;
      sees = subst (λ a. Sees (get state.wholes.processes c.args.p) a (WORD_BYTES * (c.sending.left - n))) next
          (subst (λ k. Sees (get state.wholes.processes c.args.p) (at + WORD_BYTES * n) k) fewer rest);
      text = λ tells.
          more_done (g.K.Sink.taken c.args.report.now.sink.now) (g.K.Sink.taken c.sending.report.sink.now) (g.K.Sink.taken c.send_instructions.new.report.sink.now)
          (disasm_text m memory at c.sending.left) (disasm_text m memory at (length read / WORD_BYTES)) (disasm_text m memory (at + WORD_BYTES * c.from.result) (c.sending.left - n))
          (disasm_text m memory c.args.address c.args.words)
          (next_words m memory n at c.sending.left within ∙ ap (λ k. disasm_text m memory at k ++ disasm_text m memory (at + WORD_BYTES * n) (c.sending.left - n)) (sym words)
          ∙ ap (λ a. disasm_text m memory at (length read / WORD_BYTES) ++ disasm_text m memory a (c.sending.left - n)) next)
          (sent.1 tells) (c.sending.invariant.text tells);
    }

pub returns-clause-sends : goal.returns-clause-sends
returns-clause-sends g c =
    let memory = memory_in c.args.p c.args.session.now.state in (
      c.sending.invariant.sound,
      λ tells.
          last_done (g.K.Sink.taken c.args.report.now.sink.now) (g.K.Sink.taken c.sending.report.sink.now) (g.K.Sink.taken c.sending.report.sink.now)
          (disasm_text c.args.session.now.modes.extension memory c.sending.at c.sending.left) [] (disasm_text c.args.session.now.modes.extension memory c.args.address c.args.words)
          (no_words c.args.session.now.modes.extension memory c.sending.at c.sending.left c.sending-test.false)
          (sym (append-nil (g.K.Sink.taken c.sending.report.sink.now))) (c.sending.invariant.text tells),
    )

pub returns-clause-same : goal.returns-clause-same
returns-clause-same g c = c.sending.invariant.same
