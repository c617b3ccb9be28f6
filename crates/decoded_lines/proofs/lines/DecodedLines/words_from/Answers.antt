use Rattle.std.proofs.Common.{◌+◌, ◌-◌, ◌*◌, ◌/◌, ◌%◌, [], length, take, drop, ap, subst, sym, arith}
use Rattle.std.specs.Prelude.{slice_index_or}
use Rattle.std.proofs.lemmas.List.{length-take}
use Rattle.decoded_lines.specs.Decoded.{AreFromBy}
use Rattle.decoded_lines.specs.declared.TheConstants.{KEPT_LINES, LINE_WORDS}
use Rattle.decoded_lines.proofs.Decoding.{words_behind, words_within}
use Rattle.decoded_lines.proofs.lines.DecodedLines.words_from.Goals as goal

pub slice_bounds-result-end : goal.slice_bounds-result-end
slice_bounds-result-end g c =
    let all = c.self.invariant.all in
    let within = words_within g.D.Decoder.has c.self.inside.lines.items c.self.inside.instructions.items c.self.inside.counts.items c.args.word c.index.result.now c.self.invariant c.index.ensures in
    omega (arith, all, within, ap length c.deref.ensures.value)

pub returns-clause-count : goal.returns-clause-count
returns-clause-count g c =
    let first = c.args.word % (LINE_WORDS * KEPT_LINES) in
    let within = words_within g.D.Decoder.has c.self.inside.lines.items c.self.inside.instructions.items c.self.inside.counts.items c.args.word c.index.result.now c.self.invariant c.index.ensures in
    omega (arith, within, length-take (first + c.index.result.now - first) (drop first c.deref.result.now))

pub returns-clause-words : goal.returns-clause-words
returns-clause-words g c =
    let word = c.args.word in
    let first = word % (LINE_WORDS * KEPT_LINES) in
    rw (← c.self.view_is)
    (subst (λ l. AreFromBy g.D.Decoder.has (take (first + c.index.result.now - first) (drop first l)) (word % LINE_WORDS) (slice_index_or c.self.inside.lines.items (word / LINE_WORDS % KEPT_LINES) []))
    (sym c.deref.ensures.value)
    (words_behind g.D.Decoder.has c.self.inside.lines.items c.self.inside.instructions.items c.self.inside.counts.items word c.index.result.now c.self.invariant c.index.ensures))
