use Rattle.std.proofs.Common.{◌+◌, true, length, arith, sym, ap, subst, ◌∙◌}
use Rattle.overlay_memory.specs.Joined.{page_low}
use Rattle.overlay_memory.specs.View.{state_of}
use Rattle.overlay_pages.specs.State.{books}
use Rattle.page_dedup.specs.Marked.{AreMarksBelow}
use Rattle.page_dedup.proofs.Marking.{absent_held, all_marked, count_marked, clear_below, one_marked, room_in, told_on}
use Rattle.page_dedup.proofs.marks.mark_frames.Goals as goal

pub marking-init : goal.marking-init
marking-init c = clear_below (books (state_of c.args.mem.now)) c.args.space c.args.marks.now c.requires.clear

pub overflow_add-at : goal.overflow_add-at
overflow_add-at c =
    let low = page_low c.args.mem.now.pages c.frame_of.ensures.joined c.args.space c.in-Some.page c.in-Some.ensures.1 in omega (arith, low)

pub marking-smaller : goal.marking-smaller
marking-smaller c =
    let low = page_low c.args.mem.now.pages c.frame_of.ensures.joined c.args.space c.in-Some.page c.in-Some.ensures.1 in
    let above = c.in-Some.ensures.0 in omega (arith, low, above)

pub marking-preserved : goal.marking-preserved
marking-preserved c =
    subst (AreMarksBelow (books (state_of c.args.mem.now)) c.args.space (c.in-Some.page + 1)) (sym c.mark.ensures)
    (one_marked (books (state_of c.args.mem.now)) c.args.space c.marking.at c.in-Some.page c.marking.marks c.marking.invariant c.in-Some.ensures.0
    (λ q above below. absent_held (state_of c.args.mem.now) c.args.space q (c.in-Some.ensures.2 q above below)) c.frame_of.result
    (told_on (state_of c.args.mem.now) c.args.space c.in-Some.page c.frame_of.result c.frame_of.ensures.frame) (room_in c.frame_of.result _ c.frame_of.ensures.low
    (sym (count_marked c.marking.marks c.frame_of.result true) ∙ ap length (sym c.mark.ensures) ∙ c.mark.array_long)))

pub returns : goal.returns
returns c =
    all_marked (books (state_of c.args.mem.now)) c.args.space c.marking.at c.marking.marks c.marking.invariant
    (λ q above. absent_held (state_of c.args.mem.now) c.args.space q (c.in_default.ensures q above))
