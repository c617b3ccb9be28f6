use Rattle.std.proofs.Common.{◌≡◌, ◌+◌, ◌*◌, ◌≤◌, ◌++◌, take, flat_map}
use Rattle.arrayvec.specs.ArrayVec.{array_vec_len}
use Rattle.report_text.specs.Texts.{byte_text}
use Rattle.report_text.proofs.push.push_each_byte.Given as goal

-- the bytes so far
abbrev pub invariant-loop-b : goal.invariant-loop-b
invariant-loop-b l = record {
  text : l.line.items ≡ l.initial.line.items ++ flat_map byte_text (take l.b-index l.bytes);
  len : array_vec_len l.line ≤ array_vec_len l.initial.line + 3 * l.b-index;
}
