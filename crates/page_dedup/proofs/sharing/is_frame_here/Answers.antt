use Rattle.std.proofs.Common.{sym, ◌∙◌}
use Rattle.overlay_memory.specs.View.{state_of}
use Rattle.overlay_pages.specs.State.{books}
use Rattle.page_dedup.proofs.Marking.{alone_not_here, on_origin, told_on, zero_not_here}
use Rattle.page_dedup.proofs.sharing.is_frame_here.Goals as goal

pub returns-then-is_alone : goal.returns-then-is_alone
returns-then-is_alone c =
    sym (alone_not_here (books (state_of c.args.mem.now)) c.args.space c.args.theirs.now.space c.args.theirs.now.page c.if-theirs-space.true (sym (c.is_alone.ensures c.args.mem.now.pages c.requires.theirs c.requires.settled) ∙ c.if-is_alone.true))

pub has_frame-requires : goal.has_frame-requires
has_frame-requires c = record {
  theirs = on_origin (books (state_of c.args.mem.now)) c.args.theirs.now.space c.args.theirs.now.page c.in-Some.frame (told_on (state_of c.args.mem.now) c.args.theirs.now.space c.args.theirs.now.page _ c.in-Some.ensures.frame);
}

pub returns-in-None : goal.returns-in-None
returns-in-None c =
    sym (zero_not_here (books (state_of c.args.mem.now)) c.args.space c.args.theirs.now.space c.args.theirs.now.page (told_on (state_of c.args.mem.now) c.args.theirs.now.space c.args.theirs.now.page _ c.in-None.ensures.frame))
