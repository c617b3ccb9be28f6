use Rattle.overlay_mapping_table.proofs.Laid.{laid_new, shows_new}
use Rattle.overlay_mapping_table.proofs.slots.Slots.new.Goals as goal

pub invariant_of-result : goal.invariant_of-result
invariant_of-result c =
    laid_new c.in_ok-names.names c.in_ok-entries.entries c.none-gap.result c.args.n c.nothing.result c.in_ok-names.ensures c.in_ok-entries.ensures
    c.none-gap.ensures

pub returns : goal.returns
returns c =
    shows_new c.in_ok-names.names c.in_ok-entries.entries c.none-gap.result c.args.n c.nothing.result c.in_ok-names.ensures c.in_ok-entries.ensures
    c.none-gap.ensures
