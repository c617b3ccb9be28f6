use Rattle.std.proofs.Common.{◌+◌, ◌-◌, ◌/◌, ◌%◌, refl, sym, arith}
use Rattle.overlay_pages.specs.State.{memory_of}
use Rattle.overlay_pages.specs.View.{state_of}
use Rattle.overlay_memory.proofs.Counting.{access_is, ends_all, ends_at, from_first, next_page, nothing_translated}
use Rattle.overlay_memory.proofs.translating.translate_access.Goals as goal
use Rattle.translation_cache.specs.Bare.{bare}
use Rattle.translation_cache.specs.Counted.{pages_under}

pub returns-then-count-eq0-clause-translated : goal.returns-then-count-eq0-clause-translated
returns-then-count-eq0-clause-translated c =
    nothing_translated c.args.space c.args.need.0 c.args.address c.args.count (memory_of (state_of c.args.pages.now) c.args.space) (bare c.args.cache.now)
    c.if-count-eq0.true

pub translating-init : goal.translating-init
translating-init c = (
  from_first (state_of c.args.pages.now) c.args.space c.args.need.0 c.args.address c.args.count (c.args.address / 4096)
      ((c.args.count - 1) / 4096 + (c.args.address % 4096 + (c.args.count - 1) % 4096) / 4096) _ _ c.args.cache.now c.if-count-eq0.false refl (omega arith)
      (omega arith) (omega arith) c.requires.held,
  c.requires.fronts,
)

pub translating-preserved : goal.translating-preserved
translating-preserved c = (
  next_page (state_of c.args.pages.now) c.args.space c.args.need.0 (pages_under c.args.address c.args.count) (bare c.args.cache.now) c.translating.cache
      c.translate_for.new.cache _ _ c.translating.invariant.0 _ _ (sym c.if-not-translate_for.ensures.allowed) c.if-not-translate_for.ensures.translated
      c.if-not-translate_for.ensures.held (omega (arith, c.translating-test.true)) (omega arith),
  c.if-not-translate_for.ensures.fronts,
)

pub returns-then-not-translate_for-clause-translated : goal.returns-then-not-translate_for-clause-translated
returns-then-not-translate_for-clause-translated c =
    access_is c.args.space c.args.need.0 c.args.address c.args.count (memory_of (state_of c.args.pages.now) c.args.space) (bare c.args.cache.now)
    (bare c.translate_for.new.cache)
    (ends_at (state_of c.args.pages.now) c.args.space c.args.need.0 (pages_under c.args.address c.args.count) (bare c.args.cache.now) c.translating.cache
    c.translate_for.new.cache _ _ c.translating.invariant.0
    ((c.args.count - 1) / 4096 + (c.args.address % 4096 + (c.args.count - 1) % 4096) / 4096 - c.translating.i)
    (sym c.if-not-translate_for.ensures.allowed) c.if-not-translate_for.ensures.translated (omega (arith, c.translating-test.true)))

pub returns-clause-translated : goal.returns-clause-translated
returns-clause-translated c =
    access_is c.args.space c.args.need.0 c.args.address c.args.count (memory_of (state_of c.args.pages.now) c.args.space) (bare c.args.cache.now)
    (bare c.translating.cache)
    (ends_all (state_of c.args.pages.now) c.args.space c.args.need.0 (pages_under c.args.address c.args.count) (bare c.args.cache.now) c.translating.cache
    c.translating.cache _ _ c.translating.invariant.0 (omega (arith, c.translating-test.false)))
