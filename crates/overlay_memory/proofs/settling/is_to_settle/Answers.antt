use Rattle.std.proofs.Common.{sym, ◌∙◌, arith}
use Rattle.overlay_pages.specs.View.{state_of}
use Rattle.overlay_memory.specs.FoundLaws.{own_found}
use Rattle.overlay_memory.proofs.Settled.{by_alone, small_stays, speculating_stays}
use Rattle.overlay_memory.proofs.settling.is_to_settle.Goals as goal

pub returns-then-len-lt-LARGE_LINES-clause-settles : goal.returns-then-len-lt-LARGE_LINES-clause-settles
returns-then-len-lt-LARGE_LINES-clause-settles c =
    small_stays (state_of c.args.pages.now) c.args.page.now.space c.args.page.now.page c.len.result c.args.page.now.own (own_found c.args.pages.now c.args.page.now c.requires.found) c.len.ensures.count c.if-len-lt-LARGE_LINES.true

pub returns-then-mark-clause-settles : goal.returns-then-mark-clause-settles
returns-then-mark-clause-settles c =
    speculating_stays (state_of c.args.pages.now) c.args.page.now.space c.args.page.now.page (sym c.is_speculating-mark.ensures.mark ∙ c.if-mark.true)

pub returns-clause-settles : goal.returns-clause-settles
returns-clause-settles c =
    by_alone (state_of c.args.pages.now) c.args.page.now.space c.args.page.now.page c.len.result c.args.page.now.own c.is_alone.result (own_found c.args.pages.now c.args.page.now c.requires.found) c.len.ensures.count
    (omega (arith, c.if-len-lt-LARGE_LINES.false)) (sym c.is_speculating-mark.ensures.mark ∙ c.if-mark.false)
    (c.is_alone.ensures c.args.pages.now c.requires.found (sym c.is_speculating-mark.ensures.mark ∙ c.if-mark.false))
