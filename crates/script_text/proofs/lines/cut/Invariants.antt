use Rattle.std.proofs.Common.{◌≡◌, ◌==◌, false, take}
use Rattle.std.specs.List.{list_any}
use Rattle.script_text.proofs.lines.cut.Given as goal

-- the byte wasn't among those so far
abbrev pub invariant-loop-i : goal.invariant-loop-i
invariant-loop-i l = list_any (λ b. b == l.at) (take l.i l.bytes) ≡ false
