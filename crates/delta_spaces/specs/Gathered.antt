use Rattle.std.specs.Prelude.{◌≡◌, ℕ, ◌<◌, ◌≤◌, Bool, false, not, IfSome, IsTrue, List, map, Some}
use Rattle.std.specs.FinMap.{entries, get, len}
use Rattle.std.specs.List.{AllByRecursion}
use Rattle.std.specs.Str.{bytes_eq}
use Rattle.sizes.specs.declared.TheConstants.{MOST_SPACE_PAGES, PAGE_END, PAGE_LINES}
use Rattle.ovl_io.specs.Memory.{Memory, Page}
use Rattle.overlay_bits.specs.Lines.{has_line}
use Rattle.overlay_pages.specs.State.{State, memory_of}
use Rattle.delta_image.specs.declared.delta.DeltaPage.{DeltaPage}
use Rattle.delta_image.specs.Applied.{base_bytes, gathered_page, line_in}
use Rattle.delta_image.specs.Fine.{are_perms}
use Rattle.fork_checkpoint.specs.Parts.{low_part}

-- The delta of a space over a base, on the way.

-- whether a line of a page differs from that of the base's
abbrev pub differs : Memory → Memory → ℕ → ℕ → Bool
differs memory base page line = not (bytes_eq (line_in (base_bytes memory page) line) (line_in (base_bytes base page) line))

-- the lines that aren't among these are the same in both
abbrev pub AreSameBeside : State → ℕ → ℕ → ℕ → List ℕ → Type 0
AreSameBeside state saved base page lines =
    (line : ℕ) → line < PAGE_LINES → has_line lines line ≡ false
    → line_in (base_bytes (memory_of state saved) page) line ≡ line_in (base_bytes (memory_of state base) page) line

-- a page that is there, with the lines in which it differs
abbrev pub IsGatheredPage : Memory → Memory → ℕ → DeltaPage → Type 0
IsGatheredPage memory base number made = IfSome (get memory number) (λ page. made ≡ gathered_page base number page)

-- all of them
abbrev pub gathered_pages : Memory → Memory → List DeltaPage
gathered_pages memory base = map (λ entry. gathered_page base entry.0 entry.1) (entries memory)

-- those below one
abbrev pub pages_until : Memory → Memory → ℕ → List DeltaPage
pages_until memory base from = gathered_pages (low_part memory from) base

abbrev pub AreEntriesBelow : Memory → ℕ → Type 0
AreEntriesBelow memory from = AllByRecursion (λ (e : ℕ × Page). e.0 < from) (entries (low_part memory from))

pub record IsWalking (memory base : Memory) (pages : List DeltaPage) (from : ℕ) : Type 0 where
  pub pages_are : pages ≡ pages_until memory base from
  pub below : AreEntriesBelow memory from
  pub low : from ≤ PAGE_END

-- Pages as an image may have them: at most 131,072, and in the permissions of each W comes with R.
pub record HasFitPages (memory : Memory) : Type 0 where
  pub few : len memory ≤ MOST_SPACE_PAGES
  pub perms : (number : ℕ) (page : Page) → get memory number ≡ Some page → IsTrue (are_perms page.perms)
