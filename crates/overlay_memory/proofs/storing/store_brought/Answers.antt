use Rattle.std.proofs.Common.{◌/◌, ◌%◌, refl, sym, subst, ◌∙◌}
use Rattle.std.specs.Prelude.{IfSome}
use Rattle.ovl_io.specs.Permissions.{writable}
use Rattle.overlay_pages.specs.Spots.{IsBroughtTo, KeepsPlacesBut}
use Rattle.overlay_memory.specs.Fronts.{AreFronts}
use Rattle.overlay_memory.proofs.Fronting.{brought_fronts, found_fronts, may_be_used, none_known}
use Rattle.overlay_memory.proofs.InOne.{is_apart, line_allowed, line_full, line_room}
use Rattle.overlay_memory.proofs.storing.store_brought.Goals as goal
use Rattle.translation_cache.specs.Bare.{bare}
use Rattle.translation_cache.specs.CountedLaws.{IsFront}

pub returns-in-Some-clause-stores : goal.returns-in-Some-clause-stores
returns-in-Some-clause-stores c =
    line_full
    (is_apart c.requires.found refl c.units_with.ensures.joined c.requires.apart c.requires.some c.requires.one_line)
    (may_be_used c.args.pages.now c.args.space c.args.address c.args.page c.requires.found writable c.units_with.ensures.joined c.requires.may)
    c.units_with.result c.limit.result c.in-Some.shortage c.units_with.ensures.units c.limit.ensures.limit c.in-Some.ensures

-- Where its page comes to be large.

pub put_in_found-settled-requires-clause-fits : goal.put_in_found-settled-requires-clause-fits
put_in_found-settled-requires-clause-fits c =
    line_room
    (is_apart c.requires.found refl c.units_with.ensures.joined c.requires.apart c.requires.some c.requires.one_line)
    c.units_with.result c.limit.result c.units_with.ensures.units c.limit.ensures.limit c.in_default.ensures

pub returns-then-not-stays_overlay-clause-stores : goal.returns-then-not-stays_overlay-clause-stores
returns-then-not-stays_overlay-clause-stores c = (
  line_allowed
      (is_apart c.requires.found refl c.units_with.ensures.joined c.requires.apart c.requires.some c.requires.one_line)
      (may_be_used c.args.pages.now c.args.space c.args.address c.args.page c.requires.found writable c.units_with.ensures.joined c.requires.may),
  c.put_in_found-settled.ensures.stored,
)

pub returns-then-not-stays_overlay-clause-fronts : goal.returns-then-not-stays_overlay-clause-fronts
returns-then-not-stays_overlay-clause-fronts c =
    let view = c.put_in_found-settled.new.pages in
    let page = c.args.page in
    let settled = c.put_in_found-settled.result in
    let at = c.put_in_found-settled.ensures.found in
    let was = c.requires.found in
    let old = bare c.args.cache.now in
    let front : IsFront settled.space settled.page (bare c.put_in_found-settled.new.cache) =
    subst (IsFront settled.space settled.page) (sym c.put_in_found-settled.ensures.lists)
    (subst (λ n. IsFront settled.space n old) (was.page_is ∙ sym at.page_is) (subst (λ n. IsFront n page.page old) (was.space_is ∙ sym at.space_is) c.requires.front)) in
    subst (AreFronts view (bare c.put_in_found-settled.new.cache)) (sym c.put.ensures)
    (found_fronts view (bare c.put_in_found-settled.new.cache) c.clear.new.self settled c.args.space (c.args.address / 4096) (none_known _ _ _ c.clear.ensures) front at)

-- Where its line is brought.

pub put_brought-requires-clause-fits : goal.put_brought-requires-clause-fits
put_brought-requires-clause-fits c =
    line_room
    (is_apart c.requires.found refl c.units_with.ensures.joined c.requires.apart c.requires.some c.requires.one_line)
    c.units_with.result c.limit.result c.units_with.ensures.units c.limit.ensures.limit c.in_default.ensures

pub returns-in-Some-put_brought-clause-stores : goal.returns-in-Some-put_brought-clause-stores
returns-in-Some-put_brought-clause-stores c = (
  line_allowed
      (is_apart c.requires.found refl c.units_with.ensures.joined c.requires.apart c.requires.some c.requires.one_line)
      (may_be_used c.args.pages.now c.args.space c.args.address c.args.page c.requires.found writable c.units_with.ensures.joined c.requires.may),
  c.put_brought.ensures.stored,
)

pub returns-in-Some-put_brought-clause-fronts : goal.returns-in-Some-put_brought-clause-fronts
returns-in-Some-put_brought-clause-fronts c =
    let view = c.put_brought.new.pages in
    let found = c.in-Some-put_brought.found in
    let line = c.args.address / 64 % 64 in
    let to : IsBroughtTo c.args.pages.now.table view.table c.args.page line found =
    subst (λ o. IfSome o (IsBroughtTo c.args.pages.now.table view.table c.args.page line)) c.in-Some-put_brought.is c.put_brought.ensures.found in
    let keeps : KeepsPlacesBut c.args.page.space c.args.page.page c.args.pages.now view =
    subst (λ o. IfSome o (λ _. KeepsPlacesBut c.args.page.space c.args.page.page c.args.pages.now view)) c.in-Some-put_brought.is c.put_brought.ensures.places in
    subst (λ t. AreFronts view t c.put-in-Some-put_brought.new.self) (sym c.put_brought.ensures.lists)
    (subst (AreFronts view (bare c.args.cache.now)) (sym c.put-in-Some-put_brought.ensures)
    (brought_fronts c.args.pages.now view (bare c.args.cache.now) c.args.fronts.now c.args.page found line c.args.space (c.args.address / 4096) c.requires.fronts
    c.requires.front to keeps (to.space_is ∙ c.requires.found.space_is) (to.page_is ∙ c.requires.found.page_is)))

pub returns-in-None-clause-stores : goal.returns-in-None-clause-stores
returns-in-None-clause-stores c = (
  line_allowed
      (is_apart c.requires.found refl c.units_with.ensures.joined c.requires.apart c.requires.some c.requires.one_line)
      (may_be_used c.args.pages.now c.args.space c.args.address c.args.page c.requires.found writable c.units_with.ensures.joined c.requires.may),
  c.put_brought.ensures.stored,
)

pub returns-in-None-clause-fronts : goal.returns-in-None-clause-fronts
returns-in-None-clause-fronts c = none_known _ _ _ c.clear-in-None.ensures
