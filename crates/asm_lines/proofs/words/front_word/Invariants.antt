use Rattle.std.proofs.Common.{◌≡◌, true, take}
use Rattle.std.specs.List.{list_all}
use Rattle.asm_lines.specs.Words.{is_inner}
use Rattle.asm_lines.proofs.words.front_word.Given as goal

-- one word so far
abbrev pub invariant-loop-i : goal.invariant-loop-i
invariant-loop-i l = list_all is_inner (take l.i l.text) ≡ true
