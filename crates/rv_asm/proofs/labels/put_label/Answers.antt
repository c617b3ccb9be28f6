use Rattle.std.proofs.Common.{sym, ◌∙◌}
use Rattle.rv_asm.proofs.Labelling.{put_new, put_twice}
use Rattle.rv_asm.proofs.labels.put_label.Goals as goal

pub returns-in-Ok-Some : goal.returns-in-Ok-Some
returns-in-Ok-Some c =
    put_twice c.args.k c.args.n c.in-Ok-Some.field-0-0 c.args.labels.now.entries c.args.name (sym c.in-Ok-Some.field-0-is ∙ c.in-Ok-Some.ensures.old)

pub returns-in-Ok-None : goal.returns-in-Ok-None
returns-in-Ok-None c =
    put_new c.args.k c.args.n c.args.labels.now.entries c.insert.new.self.entries c.args.name c.in-Ok-None.ensures.entries
    (sym c.in-Ok-None.field-0-is ∙ c.in-Ok-None.ensures.old)
