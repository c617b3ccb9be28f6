use Rattle.std.proofs.Common.{◌≡◌, true, take}
use Rattle.std.specs.List.{list_all}
use Rattle.script_text.specs.Numbers.{is_hexadecimal, number_value}
use Rattle.asm_lines.proofs.numbers.hexadecimal.Given as goal

-- the digits so far, and what they stand for
abbrev pub invariant-loop-b : goal.invariant-loop-b
invariant-loop-b l = record {
  digits : list_all is_hexadecimal (take l.b-index l.digits) ≡ true;
  value : l.n ≡ number_value 16 (take l.b-index l.digits);
}
