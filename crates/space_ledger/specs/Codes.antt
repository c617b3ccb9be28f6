use Rattle.std.specs.Prelude.{Option, refl}
use Rattle.std.specs.Coded.{Coded, code_by, coded×, coded_option}
use Rattle.page_table.specs.declared.entry.PageEntry.{PageEntry}
use Rattle.page_table.specs.contracts.entry.PageEntry as entry
use Rattle.overlay_mapping_table.specs.declared.entry.Entry.{Entry}
use Rattle.overlay_mapping_table.specs.contracts.entry.Entry as overlay
use Rattle.space_maps.specs.Codes.{space_code, spaces_code}
use Rattle.page_set.specs.Codes.{chunks_code}
use Rattle.page_set.specs.Sets.{Chunks}
use Rattle.space_ledger.specs.Space.{OverlaidSpace, SpaceTable}
use Rattle.space_ledger.specs.View.{LedgerView, PageView}

-- How the model's values are told apart: by their parts.

abbrev pub table_code : Coded SpaceTable
table_code = space_code entry.the_row.coded

abbrev pub overlaid_code : Coded OverlaidSpace
overlaid_code = code_by (SpaceTable × Chunks) (coded× table_code chunks_code) (λ s. (s.table, s.overlaid)) (λ t. record { table = t.0; overlaid = t.1 }) (λ _. refl)

abbrev pub page_code : Coded PageView
page_code = code_by (PageEntry × Option Entry) (coded× entry.the_row.coded (coded_option overlay.the_row.coded)) (λ p. (p.entry, p.overlay)) (λ t. record { entry = t.0; overlay = t.1 }) (λ _. refl)

abbrev pub view_code : Coded LedgerView
view_code = spaces_code page_code
