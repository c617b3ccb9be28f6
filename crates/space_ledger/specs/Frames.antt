use Rattle.std.specs.Prelude.{ℕ, zero, suc, ◌+◌, ◌==◌, ◌||◌, not, if◌then◌else◌, List}
use Rattle.sizes.specs.declared.TheConstants.{FRAME_UNITS}
use Rattle.frame_pool.specs.Counts.{held, released, sharers_of}
use Rattle.page_table.specs.Run.{entry_at}
use Rattle.page_table.specs.declared.run.PageRun.{PageRun}

-- What a page more or fewer does to the counts of frames. The zero frame isn't counted.

unfoldable pub held_by : ℕ → List ℕ → ℕ → List ℕ
held_by zero_frame counts frame = if frame == zero_frame then counts else held counts frame

unfoldable pub released_by : ℕ → List ℕ → ℕ → List ℕ
released_by zero_frame counts frame = if frame == zero_frame then counts else released counts frame

-- the units of a frame that no page names, once one does
unfoldable pub frame_units : ℕ → List ℕ → ℕ → ℕ
frame_units zero_frame counts frame = if (frame == zero_frame) || not (sharers_of counts frame == 0) then 0 else FRAME_UNITS

-- The same of the first pages of a run, one after the other: the counts, and the units by the counts before and after each page.

unfoldable pub counted_run : (List ℕ → ℕ → List ℕ) → List ℕ → PageRun → ℕ → List ℕ
counted_run step counts run zero = counts
counted_run step counts run (suc k) = step (counted_run step counts run k) (entry_at run k).frame

unfoldable pub counted_units : (List ℕ → ℕ → List ℕ) → (List ℕ → List ℕ → ℕ → ℕ) → List ℕ → PageRun → ℕ → ℕ
counted_units step cost counts run zero = 0
counted_units step cost counts run (suc k) =
    counted_units step cost counts run k + cost (counted_run step counts run k) (counted_run step counts run (suc k)) (entry_at run k).frame

-- of pages that come, and of pages that go
abbrev pub held_run : ℕ → List ℕ → PageRun → ℕ → List ℕ
held_run zero_frame counts run k = counted_run (held_by zero_frame) counts run k

abbrev pub run_units : ℕ → List ℕ → PageRun → ℕ → ℕ
run_units zero_frame counts run k = counted_units (held_by zero_frame) (λ before after. frame_units zero_frame before) counts run k

abbrev pub released_run : ℕ → List ℕ → PageRun → ℕ → List ℕ
released_run zero_frame counts run k = counted_run (released_by zero_frame) counts run k

abbrev pub run_freed : ℕ → List ℕ → PageRun → ℕ → ℕ
run_freed zero_frame counts run k = counted_units (released_by zero_frame) (λ before after. frame_units zero_frame after) counts run k
