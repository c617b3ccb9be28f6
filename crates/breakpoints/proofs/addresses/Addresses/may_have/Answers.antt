use Rattle.std.proofs.Common.{sym, ap, ◌∙◌}
use Rattle.std.specs.FinSet as set
use Rattle.overlay_bits.specs.Lines.{has_line}
use Rattle.breakpoints.specs.Marks.{word_place}
use Rattle.breakpoints.proofs.Marking.{none_marked}
use Rattle.breakpoints.proofs.addresses.Addresses.may_have.Goals as goal

pub returns : goal.returns
returns c none =
    ap (λ s. set.contains s c.args.address) (sym c.self.view_is)
    ∙ none_marked c.self.inside.found.keys c.self.inside.marks c.args.address c.self.invariant
    (ap (λ m. has_line m (word_place c.args.address)) (sym c.piece_marks.ensures.mark) ∙ ap (has_line c.piece_marks.result) (sym c.word_place.ensures.word) ∙ sym c.has.ensures.has ∙ none)
