use Rattle.std.proofs.Common.{length, sym, ap, ◌∙◌}
use Rattle.delta_image.specs.LengthLaws.{registers_length}
use Rattle.delta_image.proofs.encoding.registers_length.Goals as goal

pub returns-clause-length : goal.returns-clause-length
returns-clause-length c = sym (registers_length c.args.regs.now (sym (ap length c.x.ensures.values) ∙ c.x.ensures.count))
