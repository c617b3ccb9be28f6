use Rattle.std.specs.Prelude.{ℕ, Bool, List, refl}
use Rattle.std.specs.Coded.{Coded, code_by, coded×, coded_bool, coded_ℕ, coded_list}
use Rattle.std.specs.Ordering.{nat_cmp}
use Rattle.std.specs.FinMap.{FinMap, code}
use Rattle.ovl_io.specs.Memory.{Memory, Page}
use Rattle.overlay_memory.specs.Codes as memories
use Rattle.overlay_memory.specs.View.{TranslatedView}
use Rattle.machine_core.specs.Machine.{Machine}
use Rattle.machine_core.specs.declared.process.Process as declared
use Rattle.machine_core.specs.contracts.process.Process as process

-- How pages, memories and machines are told apart as values: by their parts.

abbrev pub page_bytes_code : Coded Page
page_bytes_code = code_by (ℕ × List ℕ) (coded× coded_ℕ (coded_list coded_ℕ)) (λ p. (p.perms, p.bytes)) (λ t. record { perms = t.0; bytes = t.1 }) (λ _. refl)

abbrev pub bytes_code : Coded Memory
bytes_code = code coded_ℕ page_bytes_code

abbrev pub machine_code : Coded Machine
machine_code =
    code_by (TranslatedView × (FinMap nat_cmp declared.Process × Bool))
    (coded× memories.translated_code (coded× (code coded_ℕ process.the_row.coded) coded_bool))
    (λ m. (m.memory, (m.processes, m.extension))) (λ t. record { memory = t.0; processes = t.1.0; extension = t.1.1 }) (λ _. refl)
