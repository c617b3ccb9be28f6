use Rattle.image_lines.proofs.ReadBack.{as_said, given_back}
use Rattle.image_lines.proofs.lines.read_lines.Goals as goal

pub returns-clause-printed : goal.returns-clause-printed
returns-clause-printed c = given_back (λ v. v.items) c.args.file.now c.lines_of.result c.lines_of.ensures

pub returns-clause-said : goal.returns-clause-said
returns-clause-said c = as_said (λ v. v.items) c.args.file.now c.lines_of.result c.lines_of.ensures
