use Rattle.std.specs.Prelude.{ℕ, refl, List, Option}
use Rattle.std.specs.Coded.{Coded, code_by, coded×, coded_ℕ, coded_list, coded_option}
use Rattle.std.specs.Ordering.{nat_cmp}
use Rattle.std.specs.FinMap.{FinMap, code}
use Rattle.overlay_mapping_table.specs.Table.{NamedEntries}
use Rattle.overlay_mapping_table.specs.declared.entry.Entry.{Entry}
use Rattle.overlay_mapping_table.specs.contracts.entry.Entry as entry

-- Tables are told apart as values by their parts.
abbrev pub mapping_table_code : Coded NamedEntries
mapping_table_code =
    code_by (FinMap nat_cmp Entry × (ℕ × List (Option ℕ)))
    (coded× (code {R = nat_cmp} coded_ℕ entry.the_row.coded) (coded× coded_ℕ (coded_list (coded_option coded_ℕ))))
    (λ t. (t.entries, (t.room, t.slots))) (λ t. record { entries = t.0; room = t.1.0; slots = t.1.1 }) (λ _. refl)
