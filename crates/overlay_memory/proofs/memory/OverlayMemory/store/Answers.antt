use Rattle.std.proofs.Common.{◌/◌, length, refl, ap, ◌∙◌}
use Rattle.ovl_io.specs.Permissions.{writable}
use Rattle.overlay_pages.specs.State.{memory_of}
use Rattle.overlay_pages.specs.View.{state_of}
use Rattle.overlay_memory.specs.Pieces.{result_at}
use Rattle.overlay_memory.specs.View.{AreTranslated}
use Rattle.overlay_memory.specs.Translated.{access_at, after_access}
use Rattle.overlay_memory.proofs.Counting.{counted_in_page, counted_is}
use Rattle.overlay_memory.proofs.Fronting.{none_known}
use Rattle.overlay_memory.proofs.Truths.{stored_translated}
use Rattle.translation_cache.specs.Bare.{bare}
use Rattle.overlay_memory.proofs.memory.OverlayMemory.store.Goals as goal
use Rattle.overlay_memory.proofs.memory.OverlayMemory.store.Goals.{After-store_line-came, After-write_pages}

-- what is true of the pages and the translations after a store in one line, and after another one
in_line : (c : After-store_line-came) → AreTranslated (state_of c.store_line-came.new.pages) c.store_line-came.new.cache
in_line c =
    stored_translated c.self.inside.pages c.store_line-came.new.pages c.args.space c.args.address c.args.bytes.now (result_at c.args.address c.store_line-came.result) c.store_line-came.new.cache
    c.store_line-came.ensures.stores c.store_line-came.ensures.held c.self.invariant.0.apart c.self.invariant.0.small

over_lines : (c : After-write_pages) → AreTranslated (state_of c.write_pages.new.pages) c.write_pages.new.cache
over_lines c =
    stored_translated c.self.inside.pages c.write_pages.new.pages c.args.space c.args.address c.args.bytes.now c.write_pages.result c.write_pages.new.cache
    c.write_pages.ensures.stores c.write_pages.ensures.held c.self.invariant.0.apart c.self.invariant.0.small

pub invariant_of-self : goal.invariant_of-self
invariant_of-self c = (in_line (goal.at.invariant_of-self c).After-store_line-came, c.store_line-came.ensures.fronts)

pub invariant_of-self-2 : goal.invariant_of-self-2
invariant_of-self-2 c = (over_lines (goal.at.invariant_of-self-2 c).After-write_pages, none_known _ _ _ c.clear.ensures)

pub returns-then-is_in_line-clause-small : goal.returns-then-is_in_line-clause-small
returns-then-is_in_line-clause-small c = (in_line (goal.at.returns-then-is_in_line-clause-small c).After-store_line-came).small

pub returns-clause-small : goal.returns-clause-small
returns-clause-small c = (over_lines (goal.at.returns-clause-small c).After-write_pages).small

pub returns-then-is_in_line-clause-translations : goal.returns-then-is_in_line-clause-translations
returns-then-is_in_line-clause-translations c =
    let n = length c.args.bytes.now in
    let fits = c.is_in_line.ensures c.if-is_in_line.true in
    counted_in_page c.args.space writable c.args.address n (c.args.address / 4096) (memory_of (state_of c.self.inside.pages) c.args.space)
    (bare c.self.inside.cache) (bare c.store_line-came.new.cache) fits.0 fits.1 refl c.store_line-came.ensures.translated
    ∙ ap (λ m. after_access m c.args.space (access_at writable c.args.address n)) c.self.view_is

pub returns-clause-translations : goal.returns-clause-translations
returns-clause-translations c =
    let n = length c.args.bytes.now in
    c.write_pages.ensures.lists
    ∙ counted_is c.args.space writable c.args.address n (memory_of (state_of c.self.inside.pages) c.args.space) (bare c.self.inside.cache)
    (bare c.translate_access.new.cache) c.translate_access.ensures.translated
    ∙ ap (λ m. after_access m c.args.space (access_at writable c.args.address n)) c.self.view_is
