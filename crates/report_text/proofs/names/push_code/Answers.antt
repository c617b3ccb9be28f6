use Rattle.std.proofs.Common.{ap, sym, ◌∙◌, ◌++◌, codes}
use Rattle.report_text.specs.Digits.{address_text}
use Rattle.report_text.specs.Names.{code_text}
use Rattle.report_text.proofs.Chains.{put_more}
use Rattle.report_text.proofs.names.push_code.Goals as goal

pub returns-in-Unmapped-clause-text : goal.returns-in-Unmapped-clause-text
returns-in-Unmapped-clause-text c =
    put_more c.args.line.now.items (codes "C7 unmapped ") (address_text c.in-Unmapped.address) _ _ c.push_text-in-Unmapped.ensures.text c.push_address.ensures.text ∙ ap (λ k. c.args.line.now.items ++ code_text k) (sym c.in-Unmapped.is)

pub returns-in-NumbersUsed-clause-text : goal.returns-in-NumbersUsed-clause-text
returns-in-NumbersUsed-clause-text c = c.push_text-in-NumbersUsed.ensures.text ∙ ap (λ k. c.args.line.now.items ++ code_text k) (sym c.in-NumbersUsed.is)

pub returns-in-Outside-clause-text : goal.returns-in-Outside-clause-text
returns-in-Outside-clause-text c = c.push_text-in-Outside.ensures.text ∙ ap (λ k. c.args.line.now.items ++ code_text k) (sym c.in-Outside.is)

pub returns-in-AsmLine-clause-text : goal.returns-in-AsmLine-clause-text
returns-in-AsmLine-clause-text c = c.push_numbered-in-AsmLine.ensures.text ∙ ap (λ k. c.args.line.now.items ++ code_text k) (sym c.in-AsmLine.is)

pub returns-in-AsmOutOfReach-clause-text : goal.returns-in-AsmOutOfReach-clause-text
returns-in-AsmOutOfReach-clause-text c = c.push_numbered-in-AsmOutOfReach.ensures.text ∙ ap (λ k. c.args.line.now.items ++ code_text k) (sym c.in-AsmOutOfReach.is)

pub returns-in-AsmTooMany-clause-text : goal.returns-in-AsmTooMany-clause-text
returns-in-AsmTooMany-clause-text c = c.push_text-in-AsmTooMany.ensures.text ∙ ap (λ k. c.args.line.now.items ++ code_text k) (sym c.in-AsmTooMany.is)
