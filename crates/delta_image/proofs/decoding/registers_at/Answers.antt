use Rattle.std.specs.Int.{w64, to_le_bytes}
use Rattle.std.proofs.lemmas.Result.{err_from_is_err_and}
use Rattle.delta_image.specs.Image.{registers_part}
use Rattle.delta_image.specs.Fine.{AreRegisters, IsWord}
use Rattle.delta_image.proofs.Reading.{absent}
use Rattle.delta_image.proofs.Registers.{register_behind}
use Rattle.delta_image.proofs.decoding.registers_at.Goals as goal

pub returns-in_err-word : goal.returns-in_err-word
returns-in_err-word c =
    let p = err_from_is_err_and c.from_residual-in_err-word.result c.from_residual-in_err-word.ensures.1 in
    rw (p.1, p.2) (absent AreRegisters IsWord registers_part (to_le_bytes w64) c.args.bytes.now c.registers.rest.now c.in_err-word.field-0.0
    (λ v s is e. register_behind c.args.bytes.now c.registers.regs c.registers.i c.registers.rest.now c.registers-test.true c.registers.invariant v s is e) c.in_err-word.ensures)
