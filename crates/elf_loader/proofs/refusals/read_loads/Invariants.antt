use Rattle.std.proofs.Common.{◌≡◌, ◌+◌, ◌*◌, ◌==◌, map}
use Rattle.std.specs.List.{range_with_len, filter}
use Rattle.elf_loader.specs.Fields.{header_at, table_offset}
use Rattle.elf_loader.proofs.refusals.read_loads.Given as goal

-- the segments to load among the headers so far
abbrev pub invariant-loop-k : goal.invariant-loop-k
invariant-loop-k l =
    l.loads.items ≡ filter (λ header. header.kind == 1) (map (λ i. header_at l.file (table_offset l.file + 56 * i)) (range_with_len 0 l.k))
