use Rattle.std.proofs.Common.{◌≡◌, true, take}
use Rattle.std.specs.List.{list_all}
use Rattle.script_text.specs.Numbers.{is_decimal, number_value}
use Rattle.asm_lines.proofs.numbers.natural.Given as goal

-- the digits so far, and what they stand for
abbrev pub invariant-loop-b : goal.invariant-loop-b
invariant-loop-b l = record {
  digits : list_all is_decimal (take l.b-index l.digits) ≡ true;
  value : l.n ≡ number_value 10 (take l.b-index l.digits);
}
