use Rattle.std.proofs.Common.{◌≡◌, ℕ, ◌+◌, ◌*◌, ◌<◌, ◌≤◌, length, drop, get_or}
use Rattle.elf_loader.specs.Layers.{last_among}
use Rattle.elf_loader.proofs.Holding.{byte_by}
use Rattle.elf_loader.proofs.layers.lay_all.Given as goal

-- each byte is that of the last of the segments so far to hold its address
abbrev pub invariant-laying : goal.invariant-laying
invariant-laying l =
    (l.left ≤ length l.layers) × (length l.out ≡ 4096)
    × ((i : ℕ) → i < 4096 → get_or l.out i 0 ≡ byte_by l.file (4096 * l.page + i) (last_among l.loads (drop l.left l.layers) (4096 * l.page + i)))

abbrev pub decreases-laying : goal.decreases-laying
decreases-laying l = l.left
