use Rattle.std.proofs.Common.{◌+◌, ◌*◌, slice_set, ◌∙◌, arith}
use Rattle.std.proofs.lemmas.List.{length-set}
use Rattle.report_text.proofs.Places.{one_dumped_more}
use Rattle.report_text.proofs.push.push_dumped.Goals as goal

pub bytes-preserved : goal.bytes-preserved
bytes-preserved c =
    let at = 3 * c.bytes.i in
    let first = slice_set c.bytes.text at 32 in
    let second = slice_set first (at + 1) c.hex_digit.result in record {
      text = one_dumped_more c.args.bytes.now c.bytes.text c.bytes.i c.hex_digit.result c.hex_digit-in-bytes.result (omega arith)
          (omega (arith, c.requires.row, c.bytes.invariant.room)) (c.type_inv.bytes c.bytes.i).fits c.hex_digit.ensures c.hex_digit-in-bytes.ensures
          c.bytes.invariant.text;
      room = length-set second (at + 2) c.hex_digit-in-bytes.result ∙ length-set first (at + 1) c.hex_digit.result ∙ length-set c.bytes.text at 32
          ∙ c.bytes.invariant.room;
    }
