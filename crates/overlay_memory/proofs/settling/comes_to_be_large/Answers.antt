use Rattle.std.proofs.Common.{sym, ◌∙◌, arith}
use Rattle.overlay_pages.specs.View.{state_of}
use Rattle.overlay_memory.specs.FoundLaws.{own_found}
use Rattle.overlay_memory.proofs.Settled.{comes_large}
use Rattle.overlay_memory.proofs.settling.comes_to_be_large.Goals as goal

pub returns : goal.returns
returns c = λ shared.
    comes_large (state_of c.args.pages.now) c.args.page.now.space c.args.page.now.page c.len.result c.len-2.result c.args.page.now.own c.args.lines c.union.result c.is_alone.result
    (own_found c.args.pages.now c.args.page.now c.requires.found) c.len.ensures.count c.if-len-eq0.false c.union.ensures.before c.union.ensures.lines c.len-2.ensures.count
    (omega (arith, c.if-len-lt-LARGE_LINES.false)) (sym c.is_speculating.ensures.mark ∙ c.if-is_speculating.false) (c.is_alone.ensures c.args.pages.now c.requires.found (sym c.is_speculating.ensures.mark ∙ c.if-is_speculating.false)) shared
