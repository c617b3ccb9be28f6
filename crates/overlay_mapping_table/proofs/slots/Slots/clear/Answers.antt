use Rattle.overlay_mapping_table.proofs.Laid.{laid_clear, shows_clear, inside₁, gap_in₁}
use Rattle.overlay_mapping_table.proofs.slots.Slots.clear.Goals as goal

pub invariant_of-self : goal.invariant_of-self
invariant_of-self c =
    laid_clear c.args.self.now c.self.inside.names c.self.inside.entries c.self.inside.gap c.self.view_is c.self.invariant
    c.settle-self-inside.new.names c.settle-self-inside.new.entries c.settle-self-inside.result c.settle-self-inside.ensures.gap c.settle-self-inside.ensures.names c.settle-self-inside.ensures.entries c.args.at
    c.requires c.spot-place.result c.spot-place.ensures.same
    c.set.new.self c.set.ensures

pub returns : goal.returns
returns c =
    shows_clear c.args.self.now c.self.inside.names c.self.inside.entries c.self.inside.gap c.self.view_is c.self.invariant
    c.settle-self-inside.new.names c.settle-self-inside.new.entries c.settle-self-inside.result c.settle-self-inside.ensures.gap c.settle-self-inside.ensures.names c.settle-self-inside.ensures.entries c.args.at
    c.requires c.spot-place.result c.spot-place.ensures.same
    c.set.new.self c.set.ensures

pub spot-place-requires-clause-inside : goal.spot-place-requires-clause-inside
spot-place-requires-clause-inside c =
    inside₁ c.args.self.now c.self.inside.names c.self.inside.entries c.self.inside.gap c.self.view_is c.self.invariant
    c.settle-self-inside.new.names c.settle-self-inside.new.entries c.settle-self-inside.result c.settle-self-inside.ensures.gap
    c.settle-self-inside.ensures.names c.settle-self-inside.ensures.entries c.args.at c.requires c.len.result c.len.ensures

pub spot-place-requires-clause-gap : goal.spot-place-requires-clause-gap
spot-place-requires-clause-gap c =
    gap_in₁ c.args.self.now c.self.inside.names c.self.inside.entries c.self.inside.gap c.self.view_is c.self.invariant
    c.settle-self-inside.new.names c.settle-self-inside.new.entries c.settle-self-inside.result c.settle-self-inside.ensures.gap
    c.settle-self-inside.ensures.names c.settle-self-inside.ensures.entries c.args.at c.requires c.len.result c.len.ensures
