use Rattle.std.proofs.Common.{◌/◌, length, refl, ap, ◌∙◌}
use Rattle.overlay_pages.specs.State.{memory_of}
use Rattle.overlay_pages.specs.View.{state_of}
use Rattle.overlay_memory.specs.Translated.{access_at, after_access}
use Rattle.overlay_memory.proofs.Counting.{counted_in_page, counted_is}
use Rattle.translation_cache.specs.Bare.{bare}
use Rattle.overlay_memory.proofs.memory.OverlayMemory.load.Goals as goal

pub returns-then-is_in_line-clause-translations : goal.returns-then-is_in_line-clause-translations
returns-then-is_in_line-clause-translations c =
    let n = length c.args.into.now in
    let fits = c.is_in_line.ensures c.if-is_in_line.true in
    counted_in_page c.args.space c.args.need.0 c.args.address n (c.args.address / 4096) (memory_of (state_of c.self.inside.pages) c.args.space)
    (bare c.self.inside.cache) (bare c.load_line-came.new.cache) fits.0 fits.1 refl c.load_line-came.ensures.translated
    ∙ ap (λ m. after_access m c.args.space (access_at c.args.need.0 c.args.address n)) c.self.view_is

pub returns-clause-translations : goal.returns-clause-translations
returns-clause-translations c =
    let n = length c.args.into.now in
    counted_is c.args.space c.args.need.0 c.args.address n (memory_of (state_of c.self.inside.pages) c.args.space) (bare c.self.inside.cache)
    (bare c.translate_access.new.cache) c.translate_access.ensures.translated
    ∙ ap (λ m. after_access m c.args.space (access_at c.args.need.0 c.args.address n)) c.self.view_is
