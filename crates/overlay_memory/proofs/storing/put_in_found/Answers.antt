use Rattle.std.proofs.Common.{◌+◌, ◌*◌, ◌/◌, ◌%◌, ap, is_some, length, sym, ◌∙◌}
use Rattle.std.specs.Prelude.{IfSome}
use Rattle.overlay_pages.specs.Changes.{HasCopyRoom, IsPlaced, copied}
use Rattle.overlay_pages.specs.Spots.{IsFoundPageAt}
use Rattle.overlay_pages.specs.View.{state_of}
use Rattle.overlay_memory.specs.FoundLaws.{filled_at, found_some, of_page, to_page}
use Rattle.overlay_memory.specs.Pieces.{AreWritable, ComesToBeLarge, IsFilled, Settles}
use Rattle.overlay_memory.specs.View.{NoneAwaits}
use Rattle.overlay_memory.proofs.InOne.{in_one, one_anew, one_fits, one_room, one_stored, one_there, one_writable, put_awaits}
use Rattle.overlay_memory.proofs.Settled.{IsPlacedAnew, first_writable, placed_anew}
use Rattle.overlay_memory.proofs.Truths.{filled_true}
use Rattle.space_maps.specs.Spaces.{page_in}
use Rattle.overlay_memory.proofs.storing.put_in_found.Goals as goal
use Rattle.overlay_memory.proofs.storing.put_in_found.Goals.{After-settle-settled}

-- Where the page is settled first.

pub settle-settled-requires-clause-found : goal.settle-settled-requires-clause-found
settle-settled-requires-clause-found c = c.requires.found.is

pub settle-settled-requires-clause-overlaid : goal.settle-settled-requires-clause-overlaid
settle-settled-requires-clause-overlaid c = (c.comes_to_be_large.ensures c.if-comes_to_be_large.true).overlaid

pub settle-settled-requires-clause-shared : goal.settle-settled-requires-clause-shared
settle-settled-requires-clause-shared c = (c.comes_to_be_large.ensures c.if-comes_to_be_large.true).shared

pub settle-settled-requires-clause-room : goal.settle-settled-requires-clause-room
settle-settled-requires-clause-room c =
    to_page c.args.pages.now c.args.page.now c.args.space (c.args.address / 4096) c.requires.found (HasCopyRoom (state_of c.args.pages.now))
    (one_room (in_one (found_some c.args.pages.now c.args.page.now c.args.space (c.args.address / 4096) c.requires.found) c.requires.some c.requires.one_page c.requires.under) c.requires.fits
    (of_page c.args.pages.now c.args.page.now c.args.space (c.args.address / 4096) c.requires.found (λ s p. ComesToBeLarge (state_of c.args.pages.now) s p c.args.lines) (c.comes_to_be_large.ensures c.if-comes_to_be_large.true)))

pub settle-settled-requires-clause-none_awaits : goal.settle-settled-requires-clause-none_awaits
settle-settled-requires-clause-none_awaits c = to_page c.args.pages.now c.args.page.now c.args.space (c.args.address / 4096) c.requires.found (λ s p. NoneAwaits (state_of c.args.pages.now) s) c.requires.none_awaits

large : (c : After-settle-settled) → ComesToBeLarge (state_of c.args.pages.now) c.args.space (c.args.address / 4096) c.args.lines
large c = of_page c.args.pages.now c.args.page.now c.args.space (c.args.address / 4096) c.requires.found (λ s p. ComesToBeLarge (state_of c.args.pages.now) s p c.args.lines) (c.comes_to_be_large.ensures c.if-comes_to_be_large.true)

anew : (c : After-settle-settled) → IsPlacedAnew (state_of c.args.pages.now) (state_of c.settle-settled.new.pages) c.args.space (c.args.address / 4096)
anew c =
    placed_anew (state_of c.args.pages.now) (state_of c.settle-settled.new.pages) c.args.space (c.args.address / 4096) (found_some c.args.pages.now c.args.page.now c.args.space (c.args.address / 4096) c.requires.found)
    (of_page c.args.pages.now c.args.page.now c.args.space (c.args.address / 4096) c.requires.found
    (λ s p. IfSome (page_in (state_of c.args.pages.now) s p) (λ x. IsPlaced (state_of c.args.pages.now) (state_of c.settle-settled.new.pages) s p (λ frame. copied frame x)))
    c.settle-settled.ensures.placed)

-- the page as it is found then
settled : (c : After-settle-settled) → IsFoundPageAt c.settle-settled.new.pages c.args.space (c.args.address / 4096) c.settle-settled.result
settled c =
    let it = c.settle-settled.ensures.found in
    record { space_is = it.space_is ∙ c.requires.found.space_is; page_is = it.page_is ∙ c.requires.found.page_is; is = it.is }

pub fill_page-requires-clause-found : goal.fill_page-requires-clause-found
fill_page-requires-clause-found c = c.settle-settled.ensures.found.is

pub fill_page-requires-clause-writable : goal.fill_page-requires-clause-writable
fill_page-requires-clause-writable c =
    let at = (goal.at.fill_page-requires-clause-writable c).After-settle-settled in
    to_page c.settle-settled.new.pages c.settle-settled.result c.args.space (c.args.address / 4096) (settled at)
    (λ s p. AreWritable (state_of c.settle-settled.new.pages) s p (c.args.address % 4096) (length c.args.bytes.now))
    (λ line low high. first_writable (state_of c.args.pages.now) (state_of c.settle-settled.new.pages) c.args.space (c.args.address / 4096) c.args.lines (large at) (anew at) line)

pub returns-then-comes_to_be_large-clause-stored : goal.returns-then-comes_to_be_large-clause-stored
returns-then-comes_to_be_large-clause-stored c =
    let at = (goal.at.returns-then-comes_to_be_large-clause-stored c).After-settle-settled in
    one_anew (in_one (found_some c.args.pages.now c.args.page.now c.args.space (c.args.address / 4096) c.requires.found) c.requires.some c.requires.one_page c.requires.under) (state_of c.settle-settled.new.pages) (state_of c.fill_page.new.pages)
    (large at) (anew at)
    (of_page c.settle-settled.new.pages c.settle-settled.result c.args.space (c.args.address / 4096) (settled at)
    (λ s p. IsFilled (state_of c.settle-settled.new.pages) (state_of c.fill_page.new.pages) s (4096 * p + c.args.address % 4096) c.args.bytes.now)
    c.fill_page.ensures.filled)

pub returns-then-comes_to_be_large-clause-held : goal.returns-then-comes_to_be_large-clause-held
returns-then-comes_to_be_large-clause-held c =
    filled_true (state_of c.settle-settled.new.pages) (state_of c.fill_page.new.pages) c.settle-settled.result.space _ c.args.bytes.now c.settle-settled.new.cache
    c.fill_page.ensures.filled c.settle-settled.ensures.held

-- Where its lines are brought.

pub bring_lines-requires-clause-there : goal.bring_lines-requires-clause-there
bring_lines-requires-clause-there c = (found_some c.args.pages.now c.args.page.now c.args.space (c.args.address / 4096) c.requires.found)

pub bring_lines-requires-clause-fits : goal.bring_lines-requires-clause-fits
bring_lines-requires-clause-fits c = one_fits (in_one (found_some c.args.pages.now c.args.page.now c.args.space (c.args.address / 4096) c.requires.found) c.requires.some c.requires.one_page c.requires.under) c.requires.fits

pub unreachable-requires : goal.unreachable-requires
unreachable-requires c =
    let there = one_there (in_one (found_some c.args.pages.now c.args.page.now c.args.space (c.args.address / 4096) c.requires.found) c.requires.some c.requires.one_page c.requires.under) (state_of c.bring_lines.new.pages) c.bring_lines.ensures.brought in
    let none = sym there ∙ ap is_some c.in-None.ensures.found in cc

pub fill_page-requires-in-Some-clause-found : goal.fill_page-requires-in-Some-clause-found
fill_page-requires-in-Some-clause-found c = c.in-Some.ensures.found.is

pub fill_page-requires-in-Some-clause-writable : goal.fill_page-requires-in-Some-clause-writable
fill_page-requires-in-Some-clause-writable c =
    to_page c.bring_lines.new.pages c.in-Some.brought c.args.space (c.args.address / 4096) c.in-Some.ensures.found
    (λ s p. AreWritable (state_of c.bring_lines.new.pages) s p (c.args.address % 4096) (length c.args.bytes.now))
    (one_writable (in_one (found_some c.args.pages.now c.args.page.now c.args.space (c.args.address / 4096) c.requires.found) c.requires.some c.requires.one_page c.requires.under) (state_of c.bring_lines.new.pages) c.bring_lines.ensures.brought)

pub settle_if_large-requires-clause-found : goal.settle_if_large-requires-clause-found
settle_if_large-requires-clause-found c =
    (filled_at c.bring_lines.new.pages c.fill_page-in-Some.new.pages c.in-Some.brought c.args.space (c.args.address / 4096) c.in-Some.ensures.found c.fill_page-in-Some.ensures.table).is

pub settle_if_large-requires-clause-none_awaits : goal.settle_if_large-requires-clause-none_awaits
settle_if_large-requires-clause-none_awaits c =
    to_page c.fill_page-in-Some.new.pages c.in-Some.brought c.args.space (c.args.address / 4096)
    (filled_at c.bring_lines.new.pages c.fill_page-in-Some.new.pages c.in-Some.brought c.args.space (c.args.address / 4096) c.in-Some.ensures.found c.fill_page-in-Some.ensures.table)
    (λ s p. NoneAwaits (state_of c.fill_page-in-Some.new.pages) s)
    (put_awaits (in_one (found_some c.args.pages.now c.args.page.now c.args.space (c.args.address / 4096) c.requires.found) c.requires.some c.requires.one_page c.requires.under) (state_of c.bring_lines.new.pages) (state_of c.fill_page-in-Some.new.pages)
    c.bring_lines.ensures.brought
    (of_page c.bring_lines.new.pages c.in-Some.brought c.args.space (c.args.address / 4096) c.in-Some.ensures.found
    (λ s p. IsFilled (state_of c.bring_lines.new.pages) (state_of c.fill_page-in-Some.new.pages) s (4096 * p + c.args.address % 4096) c.args.bytes.now) c.fill_page-in-Some.ensures.filled) c.requires.none_awaits)

pub settle_if_large-requires-clause-held : goal.settle_if_large-requires-clause-held
settle_if_large-requires-clause-held c =
    filled_true (state_of c.bring_lines.new.pages) (state_of c.fill_page-in-Some.new.pages) c.in-Some.brought.space _ c.args.bytes.now c.bring_lines.new.cache
    c.fill_page-in-Some.ensures.filled c.bring_lines.ensures.held

pub returns-clause-stored : goal.returns-clause-stored
returns-clause-stored c =
    one_stored (in_one (found_some c.args.pages.now c.args.page.now c.args.space (c.args.address / 4096) c.requires.found) c.requires.some c.requires.one_page c.requires.under) (state_of c.bring_lines.new.pages) (state_of c.fill_page-in-Some.new.pages) c.bring_lines.ensures.brought
    (of_page c.bring_lines.new.pages c.in-Some.brought c.args.space (c.args.address / 4096) c.in-Some.ensures.found
    (λ s p. IsFilled (state_of c.bring_lines.new.pages) (state_of c.fill_page-in-Some.new.pages) s (4096 * p + c.args.address % 4096) c.args.bytes.now) c.fill_page-in-Some.ensures.filled)
    (state_of c.settle_if_large.new.pages)
    (of_page c.fill_page-in-Some.new.pages c.in-Some.brought c.args.space (c.args.address / 4096)
    (filled_at c.bring_lines.new.pages c.fill_page-in-Some.new.pages c.in-Some.brought c.args.space (c.args.address / 4096) c.in-Some.ensures.found c.fill_page-in-Some.ensures.table)
    (λ s p. Settles (state_of c.fill_page-in-Some.new.pages) (state_of c.settle_if_large.new.pages) s p) c.settle_if_large.ensures.settles)
