use Rattle.std.proofs.Common.{ap, arith}
use Rattle.overlay_mapping_table.specs.declared.full.Full.{Full}
use Rattle.overlay_mapping_table.proofs.Tables.{kept_new, stands_new}
use Rattle.overlay_mapping_table.proofs.table.MappingTable.new.Goals as goal

pub invariant_of-result : goal.invariant_of-result
invariant_of-result c = (
  kept_new c.in_ok-slots.slots c.next_power_of_two.result _ c.in_ok-slots.ensures
      (c.next_power_of_two.ensures.power, c.next_power_of_two.ensures.lower_bound, c.next_power_of_two.ensures.upper_bound)
      (omega (arith, c.requires.some)) (omega (arith, c.requires.few)),
  λ i low less. absurd (let none = ap (λ (f : Full). f.end) c.none.ensures in omega (arith, less, none)),
)

pub returns-clause-entries : goal.returns-clause-entries
returns-clause-entries c = stands_new c.in_ok-slots.slots c.next_power_of_two.result c.in_ok-slots.ensures
