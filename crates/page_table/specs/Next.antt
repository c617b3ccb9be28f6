use Rattle.std.specs.Prelude.{◌≡◌, ℕ, ◌<◌, ◌≤◌, Option, Some, None}
use Rattle.std.specs.FinMap.{get}
use Rattle.page_table.specs.declared.run.PageRun.{PageRun}
use Rattle.page_table.specs.Table.{Pages}
use Rattle.page_table.specs.Run.{IsRunFrom}

-- no page from one on, below another, is there
abbrev pub NoneFrom : Pages → ℕ → ℕ → Type 0
NoneFrom pages from to = (q : ℕ) → from ≤ q → q < to → get pages q ≡ None

-- the first pages not below one, or that there is none up to another
abbrev pub IsUpTo : Pages → ℕ → ℕ → Option PageRun → Type 0
IsUpTo pages page end (Some run) = IsRunFrom pages page run
IsUpTo pages page end None = NoneFrom pages page end
