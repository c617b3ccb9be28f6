use Rattle.std.proofs.Common.{◌≡◌, ◌+◌, ◌-◌, ◌/◌, ◌<◌, ◌≤◌, ◌++◌, ap, sym, ◌∙◌, [], arith, refl, append-nil, length, length-drop}
use Rattle.std.proofs.lemmas.Bool.Decides.{nat_tests}
use Rattle.byteorder.specs.Endian.{little_number}
use Rattle.ovl_io.specs.Memory.{bytes_at}
use Rattle.command_core.specs.declared.TheConstants.{WORD_BYTES}
use Rattle.command_core.specs.Commands.{disasm_row, disasm_text}
use Rattle.report_text.specs.Lines.{disasm_line_by}
use Rattle.rv_mul.specs.Tables.{table_of}
use Rattle.overlay_top.proofs.Errors.{by_err}
use Rattle.overlay_top.proofs.MemoryRows.{next_word, no_words}
use Rattle.overlay_top.proofs.Read.{front_bytes, rest_bytes}
use Rattle.overlay_top.proofs.Texts.{last_done, more_done, none_done, sends_cut}
use Rattle.overlay_top.proofs.printing.send_instructions.Goals as goal

pub sending-init : goal.sending-init
sending-init g c = record {
  same = refl;
  sound = refl;
  low = c.requires.low;
  whole = c.requires.whole;
  text = λ memory are. (
    are,
    λ tells. none_done (g.K.Sink.taken c.args.report.now.sink.now) (disasm_text c.args.session.now.modes.extension memory c.args.address (length c.args.bytes.now / WORD_BYTES)),
  );
}

pub returns-in_err-send-clause-sends : goal.returns-in_err-send-clause-sends
returns-in_err-send-clause-sends g c memory are =
    let so_far = c.sending.invariant.text memory are in
    let m = c.args.session.now.modes.extension in
    let at = c.sending.at in
    let rest = c.sending.rest.now in
    let words = length rest / WORD_BYTES in
    let line = c.instruction_line.new.line.items in
    let some : 0 < length rest = (let test = c.sending-test.true in let has = c.is_empty.ensures in grind (arith, nat_tests)) in
    let row : line ≡ disasm_row m memory at =
    c.instruction_line.ensures
    ∙ ap (disasm_line_by (table_of m).has at)
    (c.read_u32.ensures ∙ ap (little_number 4) (c.split_at.ensures.front ∙ front_bytes memory at 4 (length rest) rest (omega (arith, some, c.sending.invariant.whole)) so_far.0)) in
    sends_cut g.K.Sink c.args.report.now.sink.now c.sending.report.sink.now c.send.new.self.sink.now c.sending.invariant.sound
    (disasm_text m memory at words) line (disasm_text m memory (at + WORD_BYTES) (words - 1)) (disasm_text m memory c.args.address (length c.args.bytes.now / WORD_BYTES))
    c.in_err-send.field-0.0 c.from_residual.result c.in_err-send.field-0.0 (by_err c.from_residual.result c.in_err-send.field-0.0 c.from_residual.ensures)
    (next_word m memory at words line (omega (arith, some, c.sending.invariant.whole)) row) so_far.1 c.in_err-send.ensures.sends

pub returns-in_err-send-clause-same : goal.returns-in_err-send-clause-same
returns-in_err-send-clause-same g c = c.in_err-send.ensures.same ∙ c.sending.invariant.same

pub sending-preserved : goal.sending-preserved
sending-preserved g c =
    let m = c.args.session.now.modes.extension in
    let at = c.sending.at in
    let rest = c.sending.rest.now in
    let behind = c.split_at.result.1.now in
    let words = length rest / WORD_BYTES in
    let line = c.instruction_line.new.line.items in
    let some : 0 < length rest = (let test = c.sending-test.true in let has = c.is_empty.ensures in grind (arith, nat_tests)) in
    let fewer : length behind ≡ length rest - 4 = ap length c.split_at.ensures.back ∙ length-drop 4 rest in
    let less : words - 1 ≡ length behind / WORD_BYTES = omega (arith, fewer, some, c.sending.invariant.whole) in
    record {
      same = c.in_ok-send.ensures.same ∙ c.sending.invariant.same;
      sound = c.in_ok-send.ensures.sends.0 ∙ c.sending.invariant.sound;
      low = λ more. let was = c.sending.invariant.low some in omega (arith, was, fewer, some, c.sending.invariant.whole, more);
      whole = omega (arith, fewer, some, c.sending.invariant.whole);
      text = λ memory are.
          let so_far = c.sending.invariant.text memory are in
          let row : line ≡ disasm_row m memory at =
          c.instruction_line.ensures
          ∙ ap (disasm_line_by (table_of m).has at)
          (c.read_u32.ensures ∙ ap (little_number 4) (c.split_at.ensures.front ∙ front_bytes memory at 4 (length rest) rest (omega (arith, some, c.sending.invariant.whole)) so_far.0)) in
          let left : behind ≡ bytes_at memory (at + WORD_BYTES) (length behind) =
          c.split_at.ensures.back ∙ rest_bytes memory at 4 (length rest) rest (omega (arith, some, c.sending.invariant.whole)) so_far.0 ∙ ap (bytes_at memory (at + WORD_BYTES)) (sym fewer) in (
            left,
            λ tells.
                more_done (g.K.Sink.taken c.args.report.now.sink.now) (g.K.Sink.taken c.sending.report.sink.now) (g.K.Sink.taken c.send.new.self.sink.now)
                (disasm_text m memory at words) line (disasm_text m memory (at + WORD_BYTES) (length behind / WORD_BYTES))
                (disasm_text m memory c.args.address (length c.args.bytes.now / WORD_BYTES))
                (next_word m memory at words line (omega (arith, some, c.sending.invariant.whole)) row ∙ ap (λ k. line ++ disasm_text m memory (at + WORD_BYTES) k) less)
                (c.in_ok-send.ensures.sends.1 tells) (so_far.1 tells),
          );
    }

pub returns-clause-sends : goal.returns-clause-sends
returns-clause-sends g c memory are =
    let so_far = c.sending.invariant.text memory are in
    let m = c.args.session.now.modes.extension in
    let none : length c.sending.rest.now / WORD_BYTES ≤ 0 = (let test = c.sending-test.false in let has = c.is_empty.ensures in grind (arith, nat_tests)) in (
      c.sending.invariant.sound,
      λ tells.
          last_done (g.K.Sink.taken c.args.report.now.sink.now) (g.K.Sink.taken c.sending.report.sink.now) (g.K.Sink.taken c.sending.report.sink.now)
          (disasm_text m memory c.sending.at (length c.sending.rest.now / WORD_BYTES)) [] (disasm_text m memory c.args.address (length c.args.bytes.now / WORD_BYTES))
          (no_words m memory c.sending.at (length c.sending.rest.now / WORD_BYTES) none)
          (sym (append-nil (g.K.Sink.taken c.sending.report.sink.now))) (so_far.1 tells),
    )

pub returns-clause-same : goal.returns-clause-same
returns-clause-same g c = c.sending.invariant.same
