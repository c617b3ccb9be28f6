use Rattle.std.specs.Prelude.{◌≡◌, ℕ, ◌+◌, ◌<◌, Bool, false, List, ◌++◌, length, take, drop, Some}
use Rattle.std.specs.Option.{option_map_or}
use Rattle.std.specs.FinMap.{get}
use Rattle.sizes.specs.declared.TheConstants.{PAGE_BYTES, PAGE_END}
use Rattle.ovl_io.specs.Memory.{Memory, Page}
use Rattle.ovl_io.specs.Permissions.{permits}

-- What a memory is, page by page.

-- Each page of a memory has a page number, and the bytes of a page.
pub record IsMemory (memory : Memory) : Type 0 where
  pub low : (number : ℕ) (page : Page) → get memory number ≡ Some page → number < PAGE_END
  pub whole : (number : ℕ) (page : Page) → get memory number ≡ Some page → length page.bytes ≡ PAGE_BYTES

-- whether a page is there and has the permission
abbrev pub page_allows : Memory → ℕ → ℕ → Bool
page_allows memory need number = option_map_or (λ (page : Page). permits page.perms need) (get memory number) false

-- bytes with others in their place from one on
abbrev pub overwritten : List ℕ → ℕ → List ℕ → List ℕ
overwritten old at bytes = take at old ++ (bytes ++ drop (at + length bytes) old)
