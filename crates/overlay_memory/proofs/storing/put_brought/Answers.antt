use Rattle.std.proofs.Common.{◌≡◌, ◌+◌, ◌*◌, ◌/◌, ◌%◌, true, sym, subst}
use Rattle.std.specs.Prelude.{IfSome}
use Rattle.overlay_pages.specs.View.{state_of}
use Rattle.overlay_pages.specs.Changes.{is_writable}
use Rattle.overlay_pages.specs.SpotLaws.{found_at}
use Rattle.overlay_pages.specs.Spots.{IsBroughtTo, IsFoundPageAt}
use Rattle.overlay_memory.specs.Pieces.{IsFilled}
use Rattle.overlay_memory.proofs.Fronting.{line_there, of_line}
use Rattle.overlay_memory.proofs.InOne.{IsApart, brought_at, is_apart, line_fits, line_stays, line_stored, line_writable}
use Rattle.overlay_memory.proofs.InOne as one
use Rattle.overlay_memory.proofs.Truths.{filled_true}
use Rattle.overlay_memory.proofs.storing.put_brought.Goals as goal
use Rattle.overlay_memory.proofs.storing.put_brought.Goals.{In-Some, After-fill_line, After-line_of-line}

it : (c : After-line_of-line) → IsApart c.args.pages.now c.args.space c.args.address c.line_of-line.result c.args.page c.args.bytes.now
it c = is_apart c.requires.found c.line_of-line.ensures.line c.requires.joined c.requires.apart c.requires.some c.requires.one_line

pub bring_line-requires-clause-fits : goal.bring_line-requires-clause-fits
bring_line-requires-clause-fits c = line_fits (it (goal.at.bring_line-requires-clause-fits c).After-line_of-line) c.requires.fits

-- the page once the line was brought, and the line there
to : (c : In-Some) → IsBroughtTo c.args.pages.now.table c.bring_line.new.pages.table c.args.page c.line_of-line.result c.in-Some.found
to c = subst (λ o. IfSome o (IsBroughtTo c.args.pages.now.table c.bring_line.new.pages.table c.args.page c.line_of-line.result)) c.in-Some.is c.bring_line.ensures.found

at : (c : In-Some) → IsFoundPageAt c.bring_line.new.pages c.args.space (c.args.address / 4096) c.in-Some.found
at c =
    brought_at (is_apart c.requires.found c.line_of-line.ensures.line c.requires.joined c.requires.apart c.requires.some c.requires.one_line) c.bring_line.new.pages c.in-Some.found (to c)

pub put-requires-clause-writable : goal.put-requires-clause-writable
put-requires-clause-writable c =
    let view = c.bring_line.new.pages in
    let page = (goal.at.put-requires-clause-writable c).In-Some in
    of_line view c.args.space c.args.address c.line_of-line.result c.in-Some.found c.line.result (at page) c.line_of-line.ensures.line
    (c.line.ensures view (to page).is) (λ s p l. is_writable (state_of view) s p l ≡ true)
    (line_writable (is_apart c.requires.found c.line_of-line.ensures.line c.requires.joined c.requires.apart c.requires.some c.requires.one_line)
    (state_of view) c.bring_line.ensures.brought)

pub fill_line-requires-clause-there : goal.fill_line-requires-clause-there
fill_line-requires-clause-there c =
    one.line_there (is_apart c.requires.found c.line_of-line.ensures.line c.requires.joined c.requires.apart c.requires.some c.requires.one_line)
    (state_of c.bring_line.new.pages) c.bring_line.ensures.brought

pub fill_line-requires-clause-writable : goal.fill_line-requires-clause-writable
fill_line-requires-clause-writable c =
    subst (λ l. is_writable (state_of c.bring_line.new.pages) c.args.space (c.args.address / 4096) l ≡ true) (sym c.line_of-line.ensures.line)
    (line_writable (is_apart c.requires.found c.line_of-line.ensures.line c.requires.joined c.requires.apart c.requires.some c.requires.one_line)
    (state_of c.bring_line.new.pages) c.bring_line.ensures.brought)

-- Where the page stays where it is.

pub returns-in-Some-clause-stored : goal.returns-in-Some-clause-stored
returns-in-Some-clause-stored c =
    let view = c.bring_line.new.pages in
    let page = (goal.at.returns-in-Some-clause-stored c).In-Some in
    let new = state_of c.put.new.pages in
    let apart = is_apart c.requires.found c.line_of-line.ensures.line c.requires.joined c.requires.apart c.requires.some c.requires.one_line in
    let filled = found_at view c.args.space (c.args.address / 4096) (c.args.address / 64 % 64) c.line.result
    (line_there view c.args.space c.args.address c.line_of-line.result c.in-Some.found c.line.result (at page) c.line_of-line.ensures.line (c.line.ensures view (to page).is))
    (λ s p l. IsFilled (state_of view) new s (4096 * p + (64 * l + c.args.address % 64)) c.args.bytes.now) c.put.ensures.filled in
    line_stored apart (state_of view) c.bring_line.ensures.brought new filled new
    (line_stays apart c.requires.stays (state_of view) c.bring_line.ensures.brought new filled)

pub returns-in-Some-clause-found : goal.returns-in-Some-clause-found
returns-in-Some-clause-found c =
    let page = (goal.at.returns-in-Some-clause-found c).In-Some in
    subst (λ l. IsBroughtTo c.args.pages.now.table c.put.new.pages.table c.args.page l c.in-Some.found) c.line_of-line.ensures.line
    (subst (λ t. IsBroughtTo c.args.pages.now.table t c.args.page c.line_of-line.result c.in-Some.found) (sym c.put.ensures.table) (to page))

pub returns-in-Some-clause-held : goal.returns-in-Some-clause-held
returns-in-Some-clause-held c =
    filled_true (state_of c.bring_line.new.pages) (state_of c.put.new.pages) c.line.result.space _ c.args.bytes.now c.bring_line.new.cache
    c.put.ensures.filled c.bring_line.ensures.held

-- Where the overlay grew.

filled : (c : After-fill_line) → IsFilled (state_of c.bring_line.new.pages) (state_of c.fill_line.new.pages) c.args.space
    (4096 * (c.args.address / 4096) + (64 * (c.args.address / 64 % 64) + c.args.address % 64)) c.args.bytes.now
filled c = subst (λ l. IsFilled (state_of c.bring_line.new.pages) (state_of c.fill_line.new.pages) c.args.space (4096 * (c.args.address / 4096) + (64 * l + c.args.address % 64)) c.args.bytes.now)
    c.line_of-line.ensures.line c.fill_line.ensures

pub returns-in-None-clause-stored : goal.returns-in-None-clause-stored
returns-in-None-clause-stored c =
    let apart = is_apart c.requires.found c.line_of-line.ensures.line c.requires.joined c.requires.apart c.requires.some c.requires.one_line in
    let put = filled (goal.at.returns-in-None-clause-stored c).After-fill_line in
    line_stored apart (state_of c.bring_line.new.pages) c.bring_line.ensures.brought (state_of c.fill_line.new.pages) put (state_of c.fill_line.new.pages)
    (line_stays apart c.requires.stays (state_of c.bring_line.new.pages) c.bring_line.ensures.brought (state_of c.fill_line.new.pages) put)

pub returns-in-None-clause-held : goal.returns-in-None-clause-held
returns-in-None-clause-held c =
    filled_true (state_of c.bring_line.new.pages) (state_of c.fill_line.new.pages) c.args.space _ c.args.bytes.now c.bring_line.new.cache c.fill_line.ensures
    c.bring_line.ensures.held
