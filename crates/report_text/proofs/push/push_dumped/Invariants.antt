use Rattle.std.proofs.Common.{◌≡◌, ◌*◌, ◌++◌, length, take, flat_map, codes}
use Rattle.report_text.specs.declared.TheConstants.{ROW_BYTES}
use Rattle.report_text.specs.Digits.{hex_places}
use Rattle.report_text.proofs.push.push_dumped.Given as goal

-- the bytes so far
abbrev pub invariant-bytes : goal.invariant-bytes
invariant-bytes l = record {
  text : take (3 * l.i) l.text ≡ flat_map (λ b. codes " " ++ hex_places 2 b) (take l.i l.bytes);
  room : length l.text ≡ 3 * ROW_BYTES;
}
