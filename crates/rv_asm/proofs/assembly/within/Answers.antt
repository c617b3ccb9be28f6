use Rattle.std.proofs.Common.{ℕ, Vec, Global}
use Rattle.rv_asm.specs.Given.{said_labels}
use Rattle.rv_asm.proofs.Deciding.{labels_refused, code_refused, code_finished}
use Rattle.rv_asm.proofs.assembly.within.Goals as goal

pub returns-in-Ok-code_of : goal.returns-in-Ok-code_of
returns-in-Ok-code_of c =
    code_finished (λ (v : Vec ℕ Global). v.items) c.args.text.now (said_labels c.in-Ok.labels.entries) c.in-Ok-code_of.coded c.finish.result c.in-Ok.ensures
    c.in-Ok-code_of.ensures c.finish.ensures

pub returns-in-Ok : goal.returns-in-Ok
returns-in-Ok c =
    code_refused (λ (v : Vec ℕ Global). v.items) c.args.text.now (said_labels c.in-Ok.labels.entries) c.in-Err-code_of.e c.in-Ok.ensures c.in-Err-code_of.ensures

pub returns : goal.returns
returns c = labels_refused (λ (v : Vec ℕ Global). v.items) c.args.text.now c.in-Err.e c.in-Err.ensures
