use Rattle.std.proofs.Common.{◌+◌, ◌-◌, ◌*◌, inl, inr, subst, ◌∙◌, arith}
use Rattle.std.specs.Prelude.{slice_get}
use Rattle.decoded_lines.specs.Decoded.{IsOfWordBy}
use Rattle.decoded_lines.specs.declared.TheConstants.{LINE_WORDS}
use Rattle.decoded_lines.proofs.Decoding.{decoding_next, word_at}
use Rattle.decoded_lines.proofs.lines.decode_line.Goals as goal

pub decoding-preserved : goal.decoding-preserved
decoding-preserved g c =
    let place = c.decoding.place - 1 in
    let some = c.decoding-test.true in
    decoding_next g.D.Decoder.has c.args.slot c.args.line.now c.args.instructions.now.items c.decoding.instructions.items
    c.decode_word-count.new.instructions.items c.args.counts.now.items c.decoding.counts.items place c.decoding.place c.decoding.count
    c.decode_word-count.result c.decoding.invariant (omega (arith, some)) c.requires.slot c.requires.counted c.decode_word-count.ensures.all
    (elim c.decode_word-count.ensures.here [
      | inl none ↦ inl none
      | inr more ↦ inr (more.0, subst (IsOfWordBy g.D.Decoder.has (slice_get c.decode_word-count.new.instructions.items (LINE_WORDS * c.args.slot + place))) (c.read_u32-word.ensures ∙ word_at c.args.line.now place) more.1)
    ])
    c.decode_word-count.ensures.beside
