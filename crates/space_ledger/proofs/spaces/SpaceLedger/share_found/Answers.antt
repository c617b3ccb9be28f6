use Rattle.space_ledger.proofs.Common.{◌≡◌, ◌+◌, ◌<◌, Some, sym, ap, subst, subst₂, ◌∙◌, is_some}
use Rattle.space_ledger.proofs.Views.{holding_at, holds_space, page_in, LedgerView, PageView, frame_at, frame_awaiting, ledger_of, overlay_at, with_page_shared, IsBooked}
use Rattle.space_ledger.proofs.LedgerCalls.{shared_call, shared_frame, shared_holding, shared_view}
use Rattle.space_ledger.proofs.spaces.SpaceLedger.share_found.Goals as goal
use Rattle.space_ledger.proofs.spaces.SpaceLedger.share_found.Goals.{After-share-entry}

-- the page that is shared, and the frame that it awaits with
from_page : (c : After-share-entry) → (x : PageView) × (page_in c.self.inside.tables c.args.from c.args.page ≡ Some x) × (c.share-entry.result.frame ≡ x.entry.frame)
    × (c.share-entry.result.frame < c.self.inside.tables.frames)
from_page c =
    shared_frame c.self.inside.tables c.self.inside.pool c.self.inside.units c.self.inside.lines c.self.invariant c.args.from c.args.to c.args.page c.share-entry.result
    (ap (λ (v : LedgerView). is_some (page_in v c.args.from c.args.page)) c.self.view_is ∙ c.requires.there) c.share-entry.ensures.entry
    (subst (λ (v : LedgerView). frame_awaiting v c.args.to c.args.page ≡ frame_at v c.args.from c.args.page) (sym c.self.view_is) c.requires.frame)

pub invariant_of-self : goal.invariant_of-self
invariant_of-self c =
    subst₂ (λ v k. IsBooked v c.hold-added.new.pool (c.self.inside.units + c.hold-added.result + k) (c.self.inside.lines + c.lines_in-lines.result)) (sym c.share-entry.ensures.shared) (sym c.class_of.ensures)
    (shared_call c.self.inside.tables c.self.inside.pool c.hold-added.new.pool c.self.inside.units c.self.inside.lines c.self.invariant c.args.to c.args.page
    c.zero-zero.result c.hold-added.result c.lines_in-lines.result c.share-entry.result c.in_block-overlay.result
    (ap (λ (v : LedgerView). holds_space v c.args.to) c.self.view_is ∙ c.requires.space) c.share-entry.ensures.apart c.share-entry.ensures.entry (from_page (goal.at.invariant_of-self c).After-share-entry).3
    c.zero-zero.ensures.zero c.hold-added.ensures.held c.hold-added.ensures.units c.lines_in-lines.ensures.count)

-- the overlay that is given is that of the tables
own : (c : After-share-entry) → c.args.overlay ≡ overlay_at c.self.inside.tables c.args.from c.args.page
own c = sym (ap (λ (v : LedgerView). overlay_at v c.args.from c.args.page) c.self.view_is ∙ c.requires.overlay)

pub returns-clause-shared : goal.returns-clause-shared
returns-clause-shared c =
    c.share-entry.ensures.shared
    ∙ shared_view c.self.inside.tables c.args.from c.args.to c.args.page c.share-entry.result c.args.overlay c.in_block-overlay.result c.args.block
    c.share-entry.ensures.entry (own (goal.at.returns-clause-shared c).After-share-entry) c.in_block-overlay.ensures
    ∙ ap (λ (v : LedgerView). with_page_shared v c.args.from c.args.to c.args.page c.args.block) c.self.view_is

pub returns-clause-same : goal.returns-clause-same
returns-clause-same c =
    let x = from_page (goal.at.returns-clause-same c).After-share-entry in
    let own_is = own (goal.at.returns-clause-same c).After-share-entry in
    ap (λ (v : LedgerView). holding_at (ledger_of v) c.args.to c.args.page) c.share-entry.ensures.shared
    ∙ shared_holding c.self.inside.tables c.args.from c.args.to c.args.page c.share-entry.result x.0 c.args.overlay c.in_block-overlay.result
    c.args.block x.1 x.2 own_is c.in_block-overlay.ensures (c.requires.block ∙ ap is_some own_is)
    ∙ ap (λ (v : LedgerView). holding_at (ledger_of v) c.args.from c.args.page) c.self.view_is
