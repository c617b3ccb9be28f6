use Rattle.std.proofs.Common.{arith}
use Rattle.overlay_mapping_table.proofs.Searching.{found}
use Rattle.overlay_mapping_table.proofs.probes.place_of.Goals as goal

pub returns-then-number_at-address-clause-there : goal.returns-then-number_at-address-clause-there
returns-then-number_at-address-clause-there c =
    found c.args.slots.now c.args.p c.home-slot.result c.number_at.result (omega (arith, c.home-slot.ensures.below, c.len.ensures)) c.number_at.ensures
    (omega (arith, c.if-number_at-address.true, c.address.ensures.address)) c.address.ensures.is
