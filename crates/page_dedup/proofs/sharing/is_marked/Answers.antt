use Rattle.std.proofs.Common.{◌∙◌, Some, ap, sym}
use Rattle.overlay_memory.specs.View.{state_of}
use Rattle.overlay_pages.specs.State.{books}
use Rattle.page_dedup.proofs.Marking.{marked_here, told_on, zero_not_here}
use Rattle.page_dedup.proofs.sharing.is_marked.Goals as goal

pub returns-in-Some : goal.returns-in-Some
returns-in-Some c =
    c.has_mark.ensures
    ∙ marked_here (books (state_of c.args.mem.now)) c.args.space c.args.from c.args.page c.in-Some.frame c.args.marks.now c.requires.marks
    (told_on (state_of c.args.mem.now) c.args.from c.args.page _ (c.requires.frame ∙ ap Some c.in-Some.is))

pub returns-in-None : goal.returns-in-None
returns-in-None c =
    sym (zero_not_here (books (state_of c.args.mem.now)) c.args.space c.args.from c.args.page (told_on (state_of c.args.mem.now) c.args.from c.args.page _ (c.requires.frame ∙ ap Some c.in-None.is)))
