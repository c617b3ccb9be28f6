use Rattle.std.proofs.Common.{◌≡◌, ◌-◌, ◌++◌, map}
use Rattle.std.specs.List.{range_with_len}
use Rattle.elf_loader.specs.Reach.{page_at}
use Rattle.elf_loader.proofs.sweep.Reach.append.Given as goal

-- the pages so far
abbrev pub invariant-loop-page : goal.invariant-loop-page
invariant-loop-page l = l.pages.items ≡ l.initial.pages.items ++ map (page_at l.self) (range_with_len l.from (l.page - l.from))
