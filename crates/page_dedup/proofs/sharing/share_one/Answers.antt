use Rattle.std.proofs.Common.{None, Some, true, refl, sym, ap, subst₂, ◌∙◌}
use Rattle.ledger.specs.Ledger.{Holding}
use Rattle.ledger.specs.RowLaws.{rebased_there}
use Rattle.overlay_memory.specs.Joined.{page_low}
use Rattle.overlay_memory.specs.FoundLaws.{alone_at, framed_at, of_found, to_found}
use Rattle.overlay_memory.specs.Rebased.{CanCompare, RebasesAlike, apart_in}
use Rattle.overlay_memory.specs.Translated.{keeps_flushed}
use Rattle.overlay_memory.specs.View.{state_of}
use Rattle.overlay_pages.specs.State.{books}
use Rattle.page_dedup.specs.Marked.{AreMarks, with_mark}
use Rattle.page_dedup.proofs.Marking.{IsOn, marked_after, room_in, told_on}
use Rattle.page_dedup.proofs.Walking.{shares_absent, shares_can, shares_here, shares_many, shares_shared}
use Rattle.space_maps.specs.Options.{none_by}
use Rattle.space_maps.specs.Spaces.{page_in}
use Rattle.page_dedup.proofs.sharing.share_one.Goals as goal
use Rattle.page_dedup.proofs.sharing.share_one.Goals.{After-mark-2}

pub returns-then-not-has_page-clause-shares : goal.returns-then-not-has_page-clause-shares
returns-then-not-has_page-clause-shares c = (
  shares_absent (state_of c.args.mem.now) c.args.space c.args.from c.args.page
      (none_by (page_in (state_of c.args.mem.now) c.args.from c.args.page) (sym c.has_page.ensures.there ∙ c.if-not-has_page.true)),
  refl,
)

pub returns-then-not-has_page-clause-low : goal.returns-then-not-has_page-clause-low
returns-then-not-has_page-clause-low c = page_low c.args.mem.now.pages c.has_space-here.ensures.joined c.args.space c.args.page c.requires.there

pub returns-then-not-is_alone-clause-shares : goal.returns-then-not-is_alone-clause-shares
returns-then-not-is_alone-clause-shares c = (
  shares_shared (state_of c.args.mem.now) c.args.space c.args.from c.args.page (sym (alone_at c.args.mem.now.pages c.find_page-found.result c.args.space c.args.page c.find_page-found.ensures.found c.requires.settled c.is_alone.result c.is_alone.ensures) ∙ c.if-not-is_alone.true),
  refl,
)

pub returns-then-not-is_alone-clause-low : goal.returns-then-not-is_alone-clause-low
returns-then-not-is_alone-clause-low c = page_low c.args.mem.now.pages c.has_space-here.ensures.joined c.args.space c.args.page c.requires.there

pub is_marked-requires-clause-frame : goal.is_marked-requires-clause-frame
is_marked-requires-clause-frame c =
    framed_at c.args.mem.now.pages c.find_page-theirs.result c.args.from c.args.page c.find_page-theirs.ensures.found _ c.frame_of_found-frame.result c.frame_of_found-frame.ensures.frame

pub frame_of_found-frame-requires : goal.frame_of_found-frame-requires
frame_of_found-frame-requires c = c.find_page-theirs.ensures.found.is

pub frame_of_found-own-requires : goal.frame_of_found-own-requires
frame_of_found-own-requires c = c.find_page-found.ensures.found.is

pub rebase_found-requires-clause-asked : goal.rebase_found-requires-clause-asked
rebase_found-requires-clause-asked c =
    to_found c.args.mem.now.pages c.find_page-found.result c.find_page-theirs.result c.args.space c.args.page c.args.from c.args.page c.find_page-found.ensures.found c.find_page-theirs.ensures.found
    (CanCompare (state_of c.args.mem.now)) (record {
      settled = c.requires.settled;
      settled_from = c.requires.settled_from;
      none_awaits = c.requires.none_awaits;
      apart = record {
        alone = sym (alone_at c.args.mem.now.pages c.find_page-found.result c.args.space c.args.page c.find_page-found.ensures.found c.requires.settled c.is_alone.result c.is_alone.ensures) ∙ c.if-not-is_alone.false;
        away = sym c.is_marked.ensures ∙ c.if-is_marked.false;
      };
    })

pub returns-then-is_marked-clause-shares : goal.returns-then-is_marked-clause-shares
returns-then-is_marked-clause-shares c = (
  shares_here (state_of c.args.mem.now) c.args.space c.args.from c.args.page (sym c.is_marked.ensures ∙ c.if-is_marked.true),
  refl,
)

pub returns-then-is_marked-clause-low : goal.returns-then-is_marked-clause-low
returns-then-is_marked-clause-low c = page_low c.args.mem.now.pages c.has_space-here.ensures.joined c.args.space c.args.page c.requires.there

pub returns-in-Some-clause-shares : goal.returns-in-Some-clause-shares
returns-in-Some-clause-shares c =
    let r = of_found c.args.mem.now.pages c.find_page-found.result c.find_page-theirs.result c.args.space c.args.page c.args.from c.args.page c.find_page-found.ensures.found c.find_page-theirs.ensures.found
    (λ s p f o. RebasesAlike c.args.mem.now c.rebase_found.new.self s p f o 31 (Some c.in-Some.field-0)) c.in-Some.ensures in
    (shares_many (state_of c.args.mem.now) c.args.space c.args.from c.args.page r.0, r.3)

pub returns-in-Some-clause-low : goal.returns-in-Some-clause-low
returns-in-Some-clause-low c = page_low c.args.mem.now.pages c.has_space-here.ensures.joined c.args.space c.args.page c.requires.there

pub returns-clause-shares : goal.returns-clause-shares
returns-clause-shares c =
    let r = of_found c.args.mem.now.pages c.find_page-found.result c.find_page-theirs.result c.args.space c.args.page c.args.from c.args.page c.find_page-found.ensures.found c.find_page-theirs.ensures.found
    (λ s p f o. RebasesAlike c.args.mem.now c.rebase_found.new.self s p f o 31 None) c.in-None.ensures in
    (shares_can (state_of c.args.mem.now) c.args.space c.args.from c.args.page (sym c.has_page.ensures.there ∙ c.if-not-has_page.false) r.0, r.1)

-- the other page's frame
theirs : (c : After-mark-2) → IsOn (books (state_of c.args.mem.now)) c.args.from c.args.page c.frame_of_found-frame.result
theirs c =
    told_on (state_of c.args.mem.now) c.args.from c.args.page c.frame_of_found-frame.result
    (framed_at c.args.mem.now.pages c.find_page-theirs.result c.args.from c.args.page c.find_page-theirs.ensures.found _ c.frame_of_found-frame.result c.frame_of_found-frame.ensures.frame)

pub returns-clause-marks : goal.returns-clause-marks
returns-clause-marks c =
    let at = theirs (goal.at.returns-clause-marks c).After-mark-2 in
    let l = books (state_of c.args.mem.now) in
    let r = of_found c.args.mem.now.pages c.find_page-found.result c.find_page-theirs.result c.args.space c.args.page c.args.from c.args.page c.find_page-found.ensures.found c.find_page-theirs.ensures.found
    (λ s p f o. RebasesAlike c.args.mem.now c.rebase_found.new.self s p f o 31 None) c.in-None.ensures in
    let lines = apart_in (state_of c.args.mem.now) c.args.space c.args.page c.args.from c.args.page in
    let now : Holding = record { origin = at.holding.origin; own = lines } in
    subst₂ (λ m marks. AreMarks m c.args.space marks)
    (sym (r.1.ledger ∙ rebased_there c.args.space c.args.from l c.args.page c.args.page lines at.holding at.there))
    (sym (c.mark-2.ensures ∙ ap (λ m. with_mark m c.frame_of_found-frame.result true) c.mark.ensures))
    (marked_after l c.args.space c.args.page c.args.marks.now c.requires.marks r.0.alone now c.frame_of_found-own.result c.frame_of_found-frame.result
    (told_on (state_of c.args.mem.now) c.args.space c.args.page c.frame_of_found-own.result
    (framed_at c.args.mem.now.pages c.find_page-found.result c.args.space c.args.page c.find_page-found.ensures.found _ c.frame_of_found-own.result c.frame_of_found-own.ensures.frame)) at.origin_is
    (room_in c.frame_of_found-own.result _ c.frame_of_found-own.ensures.low c.told-marks) (room_in c.frame_of_found-frame.result _ c.frame_of_found-frame.ensures.low c.told-marks))

pub returns-clause-lists : goal.returns-clause-lists
returns-clause-lists c = keeps_flushed c.args.space c.args.mem.now c.rebase_found.new.self (of_found c.args.mem.now.pages c.find_page-found.result c.find_page-theirs.result c.args.space c.args.page c.args.from c.args.page c.find_page-found.ensures.found c.find_page-theirs.ensures.found
    (λ s p f o. RebasesAlike c.args.mem.now c.rebase_found.new.self s p f o 31 None) c.in-None.ensures).2

pub returns-clause-low : goal.returns-clause-low
returns-clause-low c = page_low c.args.mem.now.pages c.has_space-here.ensures.joined c.args.space c.args.page c.requires.there
