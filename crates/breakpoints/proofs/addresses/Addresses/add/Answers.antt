use Rattle.std.proofs.Common.{◌∙◌, sym, ap}
use Rattle.std.specs.FinSet as set
use Rattle.breakpoints.proofs.Marking.{marked_more}
use Rattle.breakpoints.proofs.Sets.{has_is, set_added}
use Rattle.breakpoints.proofs.addresses.Addresses.add.Goals as goal

pub invariant_of-self : goal.invariant_of-self
invariant_of-self c =
    rw (← sym c.mark.ensures) (marked_more c.self.inside.found.keys c.insert.new.self.keys c.self.inside.marks c.args.address c.self.invariant c.in-Ok.ensures.updates.0)

pub returns-in-Ok-clause-added : goal.returns-in-Ok-clause-added
returns-in-Ok-clause-added c = rw (← c.self.view_is) (set_added c.self.inside.found.keys c.insert.new.self.keys c.args.address c.in-Ok.ensures.updates.0)

pub returns-in-Err-clause-there : goal.returns-in-Err-clause-there
returns-in-Err-clause-there c there =
    let here = ap (λ s. set.contains s c.args.address) c.self.view_is ∙ there in
    absurd (let both = sym (has_is c.self.inside.found.keys c.args.address ∙ c.in-Err.ensures.absent) ∙ here in cc)
