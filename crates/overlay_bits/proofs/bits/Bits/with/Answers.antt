use Rattle.std.proofs.Common.{refl, ap, ◌∙◌}
use Rattle.std.specs.Prelude.{length}
use Rattle.overlay_bits.specs.Laws.{count_with}
use Rattle.overlay_bits.proofs.Words.{are_kept, kept_with, set_below}
use Rattle.overlay_bits.proofs.bits.Bits.with.Goals as goal

pub invariant_of-result : goal.invariant_of-result
invariant_of-result c = set_below c.self.inside.word c.args.line c.self.invariant

pub returns-clause-lines : goal.returns-clause-lines
returns-clause-lines c = kept_with c.self.inside.word c.args.line c.args.self c.self.view_is c.requires

pub returns-clause-count : goal.returns-clause-count
returns-clause-count c =
    ap length (kept_with c.self.inside.word c.args.line c.args.self c.self.view_is c.requires)
    ∙ count_with c.args.self c.args.line (are_kept c.self.inside.word c.args.self c.self.view_is) c.requires

pub returns-clause-before : goal.returns-clause-before
returns-clause-before c = are_kept c.self.inside.word c.args.self c.self.view_is

pub returns-clause-are : goal.returns-clause-are
returns-clause-are c = are_kept _ _ refl
