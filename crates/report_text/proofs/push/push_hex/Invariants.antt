use Rattle.std.proofs.Common.{◌≡◌, ◌*◌, ◌++◌, length, take, drop}
use Rattle.sizes.specs.declared.TheConstants.{LINE_BYTES}
use Rattle.hex.specs.Hex.{encode_lower}
use Rattle.report_text.proofs.push.push_hex.Given as goal

-- the digits so far, and those of the bytes that are left
abbrev pub invariant-bytes : goal.invariant-bytes
invariant-bytes l = record {
  text : take (2 * l.i) l.digits ++ encode_lower (drop l.i l.bytes) ≡ encode_lower l.bytes;
  room : length l.digits ≡ 2 * LINE_BYTES;
}
