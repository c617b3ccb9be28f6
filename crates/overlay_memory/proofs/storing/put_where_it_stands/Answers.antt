use Rattle.std.proofs.Common.{◌≡◌, ◌+◌, ◌*◌, ◌/◌, ◌%◌, true, false, sym, subst, ◌∙◌}
use Rattle.overlay_pages.specs.View.{state_of}
use Rattle.overlay_pages.specs.Changes.{is_writable}
use Rattle.overlay_pages.specs.SpotLaws.{found_at}
use Rattle.overlay_memory.specs.Pieces.{IsFilled}
use Rattle.overlay_memory.proofs.Fronting.{at_address, line_there, page_there}
use Rattle.overlay_memory.proofs.InOne.{put_in_place}
use Rattle.overlay_memory.proofs.Truths.{filled_true}
use Rattle.overlay_memory.proofs.storing.put_where_it_stands.Goals as goal

pub put-requires-clause-found : goal.put-requires-clause-found
put-requires-clause-found c = (c.line.ensures c.args.pages.now c.requires.found.is).is

pub returns-then-is_writable-clause-stored : goal.returns-then-is_writable-clause-stored
returns-then-is_writable-clause-stored c =
    let view = c.args.pages.now in
    let page = c.args.page.now in
    let at = c.requires.found in
    let line_is = c.line_of-line.ensures.line in
    let new = state_of c.put.new.pages in
    let bytes = c.args.bytes.now in
    λ done. put_in_place view new c.args.space c.args.address bytes _ (page_there view c.args.space (c.args.address / 4096) page at) c.put.ensures.joined c.requires.small
    c.requires.some c.requires.one_line
    (at_address view c.args.space c.args.address page at c.line_of-line.result line_is
    (λ s p l. is_writable (state_of view) s p l ≡ true) (sym (c.is_writable.ensures view at.is) ∙ c.if-is_writable.true))
    (found_at view c.args.space (c.args.address / 4096) (c.args.address / 64 % 64) c.line.result
    (line_there view c.args.space c.args.address c.line_of-line.result page c.line.result at line_is (c.line.ensures view at.is))
    (λ s p l. IsFilled (state_of view) new s (4096 * p + (64 * l + c.args.address % 64)) bytes) c.put.ensures.filled)

pub returns-then-is_writable-clause-entries : goal.returns-then-is_writable-clause-entries
returns-then-is_writable-clause-entries c = λ t held.
    filled_true (state_of c.args.pages.now) (state_of c.put.new.pages) c.line.result.space _ c.args.bytes.now t c.put.ensures.filled held

pub returns-clause-apart : goal.returns-clause-apart
returns-clause-apart c = λ none.
    subst (λ l. is_writable (state_of c.args.pages.now) c.args.page.now.space c.args.page.now.page l ≡ false) c.line_of-line.ensures.line
    (sym (c.is_writable.ensures c.args.pages.now c.requires.found.is) ∙ c.if-is_writable.false)
