use Rattle.std.proofs.Common.{◌+◌, ◌*◌, ◌++◌, slice_set, ap, ◌∙◌, arith}
use Rattle.std.proofs.lemmas.List.{length-set}
use Rattle.report_text.proofs.Places.{no_byte_left, one_byte_more}
use Rattle.report_text.proofs.push.push_hex.Goals as goal

pub bytes-preserved : goal.bytes-preserved
bytes-preserved c =
    let at = 2 * c.bytes.i in
    let one = slice_set c.bytes.digits at c.hex_digit.result in record {
      text = one_byte_more c.args.bytes.now c.bytes.digits c.bytes.i c.hex_digit.result c.hex_digit-in-bytes.result (omega arith)
          (omega (arith, c.requires.few, c.bytes.invariant.room)) (c.type_inv.bytes c.bytes.i).fits c.hex_digit.ensures c.hex_digit-in-bytes.ensures c.bytes.invariant.text;
      room = length-set one (at + 1) c.hex_digit-in-bytes.result ∙ length-set c.bytes.digits at c.hex_digit.result ∙ c.bytes.invariant.room;
    }

pub returns-clause-text : goal.returns-clause-text
returns-clause-text c =
    c.push_text.ensures.text
    ∙ ap (λ ds. c.args.line.now.items ++ ds) (no_byte_left c.args.bytes.now c.bytes.digits c.bytes.i c.bytes.auto.i-end c.bytes-test.false c.bytes.invariant.text)
