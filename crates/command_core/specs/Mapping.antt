use Rattle.std.specs.Prelude.{◌≡◌, ℕ, ◌+◌, ◌/◌, ◌≤◌, Bool, not, Option, Some, None}
use Rattle.std.specs.FinMap.{len}
use Rattle.sizes.specs.declared.TheConstants.{MOST_SPACE_PAGES, PAGE_BYTES, PAGE_END}
use Rattle.ovl_io.specs.Memory.{Memory}
use Rattle.overlay_pages.specs.State.{State, memory_of}
use Rattle.overlay_pages.specs.Changes.{AreAbsent}
use Rattle.overlay_pages.specs.Calls.{AreMapped}
use Rattle.space_maps.specs.Spaces.{space_in}
use Rattle.report_text.specs.declared.answer.Code.{Code}
use Rattle.report_text.specs.Answers.{HasCodeLine}
use Rattle.command_core.specs.Rows.{first_refusal}
use Rattle.command_core.specs.Refusals.{has_page, lowest, map_refusals, unmap_refusals}

-- Whether pages of a space can be mapped, or given up.

abbrev pub lacks_page : Memory → ℕ → Bool
lacks_page memory page = not (has_page memory page)

-- the lowest of the n pages from one on that is there, or that all are absent; and the lowest that isn't there
abbrev pub FindsMapped : State → ℕ → ℕ → ℕ → Option ℕ → Type 0
FindsMapped v p page n None = (None ≡ lowest (has_page (memory_of v p)) page n) × AreAbsent v p page n
FindsMapped v p page n (Some found) = (Some found ≡ lowest (has_page (memory_of v p)) page n) × (found ≤ PAGE_END)

abbrev pub FindsGap : State → ℕ → ℕ → ℕ → Option ℕ → Type 0
FindsGap v p page n None = (None ≡ lowest (lacks_page (memory_of v p)) page n) × AreMapped v p page n
FindsGap v p page n (Some found) = (Some found ≡ lowest (lacks_page (memory_of v p)) page n) × (found ≤ PAGE_END)

-- n pages from one on can be mapped
pub record AreFree (v : State) (p page n : ℕ) : Type 0 where
  pub low : page + n ≤ PAGE_END
  pub few : len (space_in v p).pages + n ≤ MOST_SPACE_PAGES
  pub absent : AreAbsent v p page n

-- the first refusal of a map, or of giving up; or that it can be done
abbrev pub RefusesMap : State → ℕ → ℕ → ℕ → Option Code → Type 0
RefusesMap v p address n None = (None ≡ first_refusal (map_refusals address n (space_in v p).speculating (memory_of v p))) × AreFree v p (address / PAGE_BYTES) n
RefusesMap v p address n (Some code) = (Some code ≡ first_refusal (map_refusals address n (space_in v p).speculating (memory_of v p))) × HasCodeLine code

abbrev pub RefusesUnmap : State → ℕ → ℕ → ℕ → Option Code → Type 0
RefusesUnmap v p address n None =
    (None ≡ first_refusal (unmap_refusals address n (space_in v p).speculating (memory_of v p))) × AreMapped v p (address / PAGE_BYTES) n
RefusesUnmap v p address n (Some code) =
    (Some code ≡ first_refusal (unmap_refusals address n (space_in v p).speculating (memory_of v p))) × HasCodeLine code
