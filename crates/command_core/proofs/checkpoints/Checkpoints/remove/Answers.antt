use Rattle.std.proofs.Common.{subst, sym, ap, ◌∙◌}
use Rattle.std.specs.Map.{values_of}
use Rattle.command_core.specs.Kept.{AreNamed, kept_but, kept_named}
use Rattle.command_core.proofs.Entries.{found_under, left_under, still_named}
use Rattle.command_core.proofs.checkpoints.Checkpoints.remove.Goals as goal

pub invariant_of-self : goal.invariant_of-self
invariant_of-self c =
    subst (AreNamed (λ name. name)) (sym c.remove.ensures.others) (still_named (λ name. name) c.args.name.now c.self.inside.by_name c.self.invariant)

pub returns-clause-removed : goal.returns-clause-removed
returns-clause-removed c =
    c.remove.ensures.removed ∙ found_under (λ name. name) c.args.name.now c.self.inside.by_name c.self.invariant
    ∙ ap (kept_named c.args.name.now) c.self.view_is

pub returns-clause-others : goal.returns-clause-others
returns-clause-others c =
    ap values_of c.remove.ensures.others ∙ left_under (λ name. name) c.args.name.now c.self.inside.by_name c.self.invariant
    ∙ ap (kept_but c.args.name.now) c.self.view_is
