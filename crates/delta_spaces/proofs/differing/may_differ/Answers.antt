use Rattle.std.proofs.Common.{◌≡◌, sym, ap, ◌∙◌, rules}
use Rattle.overlay_bits.specs.Lines.{has_line}
use Rattle.overlay_memory.specs.View.{state_of}
use Rattle.delta_spaces.specs.Gathered.{AreSameBeside}
use Rattle.std.proofs.Common.{subst}
use Rattle.delta_spaces.proofs.Lines.{beside_all, beside_both}
use Rattle.delta_spaces.proofs.Looked.{all_between}
use Rattle.delta_spaces.proofs.differing.may_differ.Goals as goal

pub returns-then-eq-clause-same : goal.returns-then-eq-clause-same
returns-then-eq-clause-same c =
    let same : c.frame_of.result ≡ c.frame_of-then-based.result = search rules in
    subst (AreSameBeside (state_of c.args.mem.now) c.args.saved c.args.base c.args.page) (sym c.union.ensures.lines)
    (beside_both c.args.mem.now.pages c.args.saved c.args.base c.args.page c.requires.there (sym c.requires.based ∙ c.if-based.true) c.frame_of.result c.frame_of-then-based.result
    c.lines_of.result c.lines_of-then-eq.result c.frame_of.ensures.frame c.frame_of-then-based.ensures.frame same c.lines_of.ensures.own c.lines_of-then-eq.ensures.own
    c.union.ensures.before.0 c.union.ensures.before.1)

pub returns-else-based-clause-same : goal.returns-else-based-clause-same
returns-else-based-clause-same c =
    beside_all (state_of c.args.mem.now) c.args.saved c.args.base c.args.page c.range.result
    (λ line low. ap (λ lines. has_line lines line) c.range.ensures.lines ∙ all_between line low)
