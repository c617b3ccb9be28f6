use Rattle.std.proofs.Common.{◌+◌, sym, ◌∙◌}
use Rattle.overlay_memory.specs.View.{state_of}
use Rattle.overlay_pages.specs.State.{books}
use Rattle.page_dedup.proofs.Marking.{absent_held, further, looked_all, nowhere_shown, origin_on, shown_here}
use Rattle.page_dedup.proofs.sharing.has_frame.Goals as goal

pub returns-then-is_on : goal.returns-then-is_on
returns-then-is_on c =
    sym (shown_here (books (state_of c.args.mem.now)) c.args.space c.args.from c.args.other c.args.frame c.in-Some.page
    (origin_on (books (state_of c.args.mem.now)) c.args.from c.args.other c.args.frame c.requires.theirs) (sym c.is_on.ensures.on ∙ c.if-is_on.true))

pub looking-preserved : goal.looking-preserved
looking-preserved c =
    further (books (state_of c.args.mem.now)) c.args.space (c.args.frame + 1) c.looking.at c.in-Some.page c.looking.invariant
    (λ q above below. absent_held (state_of c.args.mem.now) c.args.space q (c.in-Some.ensures.2 q above below)) (sym c.is_on.ensures.on ∙ c.if-is_on.false)

pub returns : goal.returns
returns c =
    sym (nowhere_shown (books (state_of c.args.mem.now)) c.args.space c.args.from c.args.other c.args.frame
    (origin_on (books (state_of c.args.mem.now)) c.args.from c.args.other c.args.frame c.requires.theirs)
    (looked_all (books (state_of c.args.mem.now)) c.args.space (c.args.frame + 1) c.looking.at c.looking.invariant
    (λ q above. absent_held (state_of c.args.mem.now) c.args.space q (c.in_default.ensures q above))))
