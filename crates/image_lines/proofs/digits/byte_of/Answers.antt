use Rattle.image_lines.proofs.DigitPairs.{no_high}
use Rattle.image_lines.proofs.digits.byte_of.Goals as goal

pub returns-in-None : goal.returns-in-None
returns-in-None c = no_high c.args.high c.args.low c.in-None.ensures
