use Rattle.std.proofs.Common.{◌≡◌, ◌+◌, ◌*◌, ◌==◌, false, map}
use Rattle.std.specs.List.{range_with_len, list_any}
use Rattle.elf_loader.specs.Fields.{header_at, table_offset}
use Rattle.elf_loader.proofs.refusals.needs_interpreter.Given as goal

-- none of the headers so far names an interpreter
abbrev pub invariant-loop-k : goal.invariant-loop-k
invariant-loop-k l =
    list_any (λ h. h.kind == 3) (map (λ i. header_at l.file (table_offset l.file + 56 * i)) (range_with_len 0 l.k)) ≡ false
