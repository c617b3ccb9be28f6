use Rattle.std.proofs.Common.{◌≡◌, ◌+◌, ◌*◌, true}
use Rattle.overlay_pages.specs.Changes.{is_writable}
use Rattle.overlay_pages.specs.SpotLaws.{found_at, to_line}
use Rattle.overlay_pages.specs.View.{state_of}
use Rattle.overlay_memory.specs.Pieces.{IsFilled}
use Rattle.overlay_memory.proofs.storing.fill_found.Goals as goal

pub put-requires-clause-found : goal.put-requires-clause-found
put-requires-clause-found c = (c.line.ensures c.args.pages.now c.requires.found).is

pub put-requires-clause-writable : goal.put-requires-clause-writable
put-requires-clause-writable c =
    to_line c.args.pages.now c.args.page.now.space c.args.page.now.page c.args.line c.line.result (c.line.ensures c.args.pages.now c.requires.found)
    (λ s p l. is_writable (state_of c.args.pages.now) s p l ≡ true) c.requires.writable

pub returns-clause-filled : goal.returns-clause-filled
returns-clause-filled c =
    found_at c.args.pages.now c.args.page.now.space c.args.page.now.page c.args.line c.line.result (c.line.ensures c.args.pages.now c.requires.found)
    (λ s p l. IsFilled (state_of c.args.pages.now) (state_of c.put.new.pages) s (4096 * p + (64 * l + c.args.at)) c.args.bytes.now) c.put.ensures.filled
