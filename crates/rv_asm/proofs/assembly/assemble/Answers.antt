use Rattle.std.proofs.Common.{ℕ, Vec, Global}
use Rattle.rv_asm.proofs.Deciding.{told_file, refused_or, file_is}
use Rattle.rv_asm.proofs.Texts.{word_back}
use Rattle.rv_asm.proofs.assembly.assemble.Goals as goal

pub returns-in-Ok-clause-file : goal.returns-in-Ok-clause-file
returns-in-Ok-clause-file c = told_file (λ (v : Vec ℕ Global). v.items) c.args.text.now c.in-Ok.file c.in-Ok.ensures

pub returns-in-Ok-clause-loaded : goal.returns-in-Ok-clause-loaded
returns-in-Ok-clause-loaded c = file_is c.args.text.now c.in-Ok.file.items (told_file (λ (v : Vec ℕ Global). v.items) c.args.text.now c.in-Ok.file c.in-Ok.ensures)

pub returns-in-Ok-clause-back : goal.returns-in-Ok-clause-back
returns-in-Ok-clause-back c = λ word i below is other. word_back word i below is other

pub returns-in-Err-clause-file : goal.returns-in-Err-clause-file
returns-in-Err-clause-file c = refused_or (λ (v : Vec ℕ Global). v.items) c.args.text.now c.in-Err.e c.outside_or.result c.in-Err.ensures c.outside_or.ensures

pub returns-in-Err-clause-back : goal.returns-in-Err-clause-back
returns-in-Err-clause-back c = λ word i below is other. word_back word i below is other
