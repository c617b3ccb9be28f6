use Rattle.std.specs.Prelude.{refl}
use Rattle.std.specs.Coded.{Coded, code_by, coded×}
use Rattle.overlay_pages.specs.Codes as pages
use Rattle.overlay_pages.specs.View.{MemoryView}
use Rattle.overlay_memory.specs.View.{TranslatedView}
use Rattle.translation_cache.specs.Codes.{translations_code}
use Rattle.translation_cache.specs.Translations.{Translations}
use Rattle.translation_cache.specs.contracts.cached.Cached as cached
use Rattle.translation_cache.specs.declared.cached.Cached.{Cached}

-- How the model's values are told apart: by their parts.

abbrev pub translated_code : Coded TranslatedView
translated_code =
    code_by (MemoryView × Translations Cached) (coded× pages.memory_code (translations_code cached.the_row.coded))
    (λ m. (m.pages, m.cache)) (λ t. record { pages = t.0; cache = t.1 }) (λ _. refl)
