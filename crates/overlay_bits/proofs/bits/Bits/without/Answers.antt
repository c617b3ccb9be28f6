use Rattle.std.proofs.Common.{refl, ap, ◌∙◌, ◌+◌, cond}
use Rattle.std.specs.Prelude.{length}
use Rattle.overlay_bits.specs.Lines.{has_line}
use Rattle.overlay_bits.specs.Laws.{count_without}
use Rattle.overlay_bits.proofs.Words.{are_kept, kept_without}
use Rattle.overlay_bits.proofs.bits.Bits.without.Goals as goal

pub returns-clause-lines : goal.returns-clause-lines
returns-clause-lines c = kept_without c.self.inside.word c.args.line c.args.self c.self.view_is c.requires

pub returns-clause-count : goal.returns-clause-count
returns-clause-count c =
    ap (λ xs. length xs + cond (has_line c.args.self c.args.line) 1 0) (kept_without c.self.inside.word c.args.line c.args.self c.self.view_is c.requires)
    ∙ count_without c.args.self c.args.line (are_kept c.self.inside.word c.args.self c.self.view_is) c.requires

pub returns-clause-before : goal.returns-clause-before
returns-clause-before c = are_kept c.self.inside.word c.args.self c.self.view_is

pub returns-clause-are : goal.returns-clause-are
returns-clause-are c = are_kept _ _ refl
