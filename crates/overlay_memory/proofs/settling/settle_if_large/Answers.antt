use Rattle.std.proofs.Common.{sym, ◌∙◌}
use Rattle.overlay_pages.specs.View.{state_of}
use Rattle.overlay_memory.specs.Joined.{units_fit}
use Rattle.overlay_memory.specs.FoundLaws.{there_found}
use Rattle.overlay_memory.proofs.Settled.{settle_overlaid, settle_room, settle_shared}
use Rattle.overlay_memory.proofs.settling.settle_if_large.Goals as goal

pub settle-requires-clause-overlaid : goal.settle-requires-clause-overlaid
settle-requires-clause-overlaid c =
    settle_overlaid (state_of c.args.pages.now) c.args.page.now.space c.args.page.now.page (there_found c.args.pages.now c.args.page.now c.requires.found) (sym c.is_to_settle.ensures.settles ∙ c.if-is_to_settle.true)

pub settle-requires-clause-shared : goal.settle-requires-clause-shared
settle-requires-clause-shared c =
    settle_shared (state_of c.args.pages.now) c.args.page.now.space c.args.page.now.page (sym c.is_to_settle.ensures.settles ∙ c.if-is_to_settle.true)

pub settle-requires-clause-room : goal.settle-requires-clause-room
settle-requires-clause-room c =
    settle_room (state_of c.args.pages.now) c.args.page.now.space c.args.page.now.page (units_fit c.args.pages.now c.is_to_settle.ensures.joined)
    (sym c.is_to_settle.ensures.settles ∙ c.if-is_to_settle.true)
