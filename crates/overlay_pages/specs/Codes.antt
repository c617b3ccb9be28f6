use Rattle.std.specs.Prelude.{refl}
use Rattle.std.specs.Coded.{Coded, code_by, coded×}
use Rattle.segment_store.specs.Store.{Store}
use Rattle.segment_store.specs.contracts.store.SegmentStore as store
use Rattle.space_ledger.specs.Codes.{view_code}
use Rattle.space_ledger.specs.View.{LedgerView}
use Rattle.overlay_pages.specs.View.{MemoryView}

-- How the model's values are told apart: by their parts.

abbrev pub memory_code : Coded MemoryView
memory_code =
    code_by (Store × LedgerView) (coded× store.the_row.coded view_code) (λ m. (m.store, m.table)) (λ t. record { store = t.0; table = t.1 }) (λ _. refl)
