use Rattle.std.proofs.Common.{◌+◌, ◌*◌, sym, ap, ◌∙◌, arith, Some, None}
use Rattle.std.specs.FinSet as set
use Rattle.breakpoints.proofs.Marking.{none_past}
use Rattle.breakpoints.proofs.addresses.Addresses.words_past.Goals as goal

pub returns-in-Some-clause-past : goal.returns-in-Some-clause-past
returns-in-Some-clause-past c k some low =
    ap (λ s. set.contains s (c.args.address + 4 * k)) (sym c.self.view_is)
    ∙ none_past c.self.inside.found.keys c.self.inside.marks c.piece_marks.result c.args.address c.word_place-word.result c.args.most c.min.result
    (Some c.in-Some.next) c.self.invariant c.piece_marks.ensures.mark c.word_place-word.ensures.word c.requires.inside c.in-Some.ensures
    (omega arith) (omega arith) k some low

pub returns-in-None-clause-past : goal.returns-in-None-clause-past
returns-in-None-clause-past c k some low =
    ap (λ s. set.contains s (c.args.address + 4 * k)) (sym c.self.view_is)
    ∙ none_past c.self.inside.found.keys c.self.inside.marks c.piece_marks.result c.args.address c.word_place-word.result c.args.most c.args.most
    None c.self.invariant c.piece_marks.ensures.mark c.word_place-word.ensures.word c.requires.inside c.in-None.ensures (omega arith) tt k some low
