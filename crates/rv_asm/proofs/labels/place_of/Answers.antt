use Rattle.std.proofs.Common.{◌∙◌}
use Rattle.rv_asm.proofs.Labelling.{label_found}
use Rattle.rv_asm.proofs.labels.place_of.Goals as goal

pub returns : goal.returns
returns c = c.copied.ensures ∙ c.get.ensures.value ∙ label_found c.args.labels.now.entries c.args.name
