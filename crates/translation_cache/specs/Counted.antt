use Rattle.std.specs.Prelude.{ℕ, zero, suc, ◌+◌, ◌-◌, ◌/◌, List, [], ◌∷◌, is_some, if◌then◌else◌}
use Rattle.std.specs.List.{range_with_len}
use Rattle.std.specs.FinMap.{get}
use Rattle.sizes.specs.declared.TheConstants.{PAGE_BYTES}
use Rattle.ovl_io.specs.Memory.{Access, Memory, denied_at}
use Rattle.ovl_io.specs.PageBytes.{page_allows}
use Rattle.translation_cache.specs.Bare.{BareTranslations}
use Rattle.translation_cache.specs.Translations.{entered, found, looked}

-- What accesses of a space do to the translation lists.

-- the pages that bytes from an address on lie in, ascending
abbrev pub pages_under : ℕ → ℕ → List ℕ
pages_under address zero = []
pages_under address (suc more) = range_with_len (address / PAGE_BYTES) ((address + more) / PAGE_BYTES - address / PAGE_BYTES + 1)

-- A page is translated: where its entry is there, that is a hit, and it goes to the front of its list; else it is a miss, and
-- where the page is in the memory it gets an entry, at the front, and a fifth one is dropped.
unfoldable pub translated : ℕ → Memory → ℕ → BareTranslations → BareTranslations
translated space memory page t =
    if is_some (found space page t) then looked space page t
    else (if is_some (get memory page) then entered space page tt (looked space page t) else looked space page t)

-- pages one after the other, up to the first that isn't there or lacks the need
unfoldable pub translated_pages : ℕ → Memory → ℕ → List ℕ → BareTranslations → BareTranslations
translated_pages space memory need [] t = t
translated_pages space memory need (page ∷ pages) t =
    if page_allows memory need page then translated_pages space memory need pages (translated space memory page t) else translated space memory page t

-- an access goes through the pages that it touches
unfoldable pub access_translated : ℕ → Memory → Access → BareTranslations → BareTranslations
access_translated space memory access t = translated_pages space memory access.need (pages_under access.address access.length) t

-- Accesses one after the other, up to the first that fails.
unfoldable pub counted : ℕ → Memory → List Access → BareTranslations → BareTranslations
counted space memory [] t = t
counted space memory (access ∷ accesses) t =
    if is_some (denied_at memory access) then access_translated space memory access t
    else counted space memory accesses (access_translated space memory access t)
