use Rattle.report_text.proofs.Words.{byte_is}
use Rattle.report_text.proofs.push.byte_digits.Goals as goal

pub returns : goal.returns
returns c = byte_is c.args.b c.from-at.result c.ranges.b.fits c.from-at.ensures
