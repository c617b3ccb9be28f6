use Rattle.std.proofs.Common.{◌≡◌, false, take}
use Rattle.std.specs.List.{list_any}
use Rattle.script_text.specs.Words.{is_blank}
use Rattle.script_text.proofs.words.up_to_blank.Given as goal

-- no blank so far
abbrev pub invariant-loop-i : goal.invariant-loop-i
invariant-loop-i l = list_any is_blank (take l.i l.text) ≡ false
