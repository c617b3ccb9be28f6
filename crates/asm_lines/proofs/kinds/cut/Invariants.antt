use Rattle.std.proofs.Common.{◌≡◌, ◌==◌, not, true, take}
use Rattle.std.specs.List.{list_all}
use Rattle.asm_lines.proofs.kinds.cut.Given as goal

-- the byte wasn't among those so far
abbrev pub invariant-loop-i : goal.invariant-loop-i
invariant-loop-i l = list_all (λ b. not (b == l.at)) (take l.i l.bytes) ≡ true
