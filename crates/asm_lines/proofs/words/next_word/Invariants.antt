use Rattle.std.proofs.Common.{◌≡◌, true, take}
use Rattle.std.specs.List.{list_all}
use Rattle.script_text.specs.Words.{is_blank}
use Rattle.asm_lines.proofs.words.next_word.Given as goal

-- blanks so far
abbrev pub invariant-loop-i : goal.invariant-loop-i
invariant-loop-i l = list_all is_blank (take l.i l.text) ≡ true
