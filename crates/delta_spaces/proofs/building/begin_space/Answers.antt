use Rattle.std.proofs.Common.{sym, ap, subst, ◌∙◌, ◌≡◌, ℕ}
use Rattle.std.specs.FinMap.{get}
use Rattle.page_table.specs.Table.{Pages}
use Rattle.overlay_pages.specs.State.{State}
use Rattle.overlay_pages.specs.Calls.{entries_in}
use Rattle.overlay_memory.specs.View.{state_of}
use Rattle.overlay_memory.specs.Joined.{page_low}
use Rattle.space_maps.specs.Spaces.{put_awaiting}
use Rattle.delta_spaces.specs.Built.{awaits_at}
use Rattle.delta_spaces.proofs.Added.{adopted_begun, adopted_can, entry_there, fitted_once}
use Rattle.delta_spaces.proofs.building.begin_space.Goals as goal
use Rattle.delta_spaces.proofs.building.begin_space.Goals.{After-adopt_table, After-fit_table}

pub fit_table-requires-clause-low : goal.fit_table-requires-clause-low
fit_table-requires-clause-low c = λ page some.
    page_low c.args.mem.now.pages c.has_space-here.ensures.joined c.args.base page (entry_there (state_of c.args.mem.now) c.args.base page c.in-Ok.table.pages c.in-Ok.ensures.table some)

-- the pages that await
awaits : (c : After-fit_table) → (page : ℕ) → get c.fit_table.new.table.pages page ≡ awaits_at (entries_in (state_of c.args.mem.now) c.args.base) c.args.pages.now page
awaits c page = c.fit_table.ensures page ∙ ap (λ (m : Pages). awaits_at m c.args.pages.now page) c.in-Ok.ensures.table

adopted : (c : After-adopt_table) → state_of c.adopt_table.new.self ≡ put_awaiting (state_of c.args.mem.now) c.args.to c.fit_table.new.table.pages
adopted c = c.adopt_table.ensures.state ∙ ap (λ (v : State). put_awaiting v c.args.to c.fit_table.new.table.pages) (ap state_of c.copy_table.ensures.same)

pub adopt_table-requires-clause-once : goal.adopt_table-requires-clause-once
adopt_table-requires-clause-once c =
    fitted_once _ c.in-Ok.table.pages c.fit_table.new.table.pages c.args.pages.now
    (subst (λ (v : State). Rattle.space_ledger.specs.Calls.NamesOnce v.zero_frame c.in-Ok.table.pages) (sym (ap state_of c.copy_table.ensures.same)) c.in-Ok.ensures.once) c.fit_table.ensures

pub share_pages-requires : goal.share_pages-requires
share_pages-requires c = record {
  ready = adopted_can (state_of c.args.mem.now) (state_of c.adopt_table.new.self) c.args.base c.args.to c.args.pages.now c.fit_table.new.table.pages c.requires.differ c.requires.space c.requires.bare
      (adopted (goal.at.share_pages-requires c).After-adopt_table) c.requires.there c.requires.unmarked (awaits (goal.at.share_pages-requires c).After-fit_table) c.requires.pages c.requires.fits;
}

pub returns-in-Ok-clause-begins : goal.returns-in-Ok-clause-begins
returns-in-Ok-clause-begins c = (
  adopted_begun (state_of c.args.mem.now) (state_of c.adopt_table.new.self) c.args.base c.args.to c.args.pages.now c.fit_table.new.table.pages c.requires.differ c.requires.space c.requires.bare
      (adopted (goal.at.returns-in-Ok-clause-begins c).After-adopt_table) (state_of c.share_pages.new.mem) c.share_pages.ensures.begun,
  c.share_pages.ensures.awaiting,
)
