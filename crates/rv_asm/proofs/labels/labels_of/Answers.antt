use Rattle.std.proofs.Common.{ap, sym, ◌∙◌, Ok}
use Rattle.rv_asm.specs.Given.{said_labels}
use Rattle.rv_asm.proofs.Unlabelled.{unlabelled}
use Rattle.rv_asm.proofs.labels.labels_of.Goals as goal

pub returns-else-has_colon : goal.returns-else-has_colon
returns-else-has_colon c =
    unlabelled c.args.text.now (sym c.has_colon.ensures ∙ c.if-has_colon.false) ∙ ap (λ es. Ok (said_labels es)) (sym c.new.ensures.empty)
