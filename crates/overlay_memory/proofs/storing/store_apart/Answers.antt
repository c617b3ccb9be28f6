use Rattle.std.proofs.Common.{◌≡◌, ◌/◌, false, length, refl, sym, subst, ◌∙◌, arith}
use Rattle.std.specs.Prelude.{Err}
use Rattle.ovl_io.specs.Permissions.{writable}
use Rattle.overlay_memory.specs.Access.{Stores}
use Rattle.overlay_memory.specs.Pieces.{result_at}
use Rattle.overlay_memory.specs.declared.error.MemoryError.TheVariants.{Forbidden}
use Rattle.overlay_memory.proofs.Fronting.{known_found, mayn_be_used, none_known}
use Rattle.overlay_memory.proofs.Pieced.{reads_of}
use Rattle.overlay_memory.proofs.Stored.{refused_store, told_store}
use Rattle.overlay_memory.proofs.storing.store_apart.Goals as goal
use Rattle.overlay_pages.specs.Changes.{is_writable}
use Rattle.overlay_pages.specs.View.{state_of}
use Rattle.translation_cache.specs.Bare.{bare}

pub store_brought-requires-clause-found : goal.store_brought-requires-clause-found
store_brought-requires-clause-found c =
    known_found c.args.pages.now c.args.space (c.args.address / 4096) c.in-Some.known.now (bare c.args.cache.now) c.args.fronts.now c.requires.fronts c.in-Some.ensures
    (omega (arith, c.ranges.address.fits))

pub store_brought-requires-clause-apart : goal.store_brought-requires-clause-apart
store_brought-requires-clause-apart c =
    let view = c.args.pages.now in
    let page = c.in-Some.known.now.found in
    let at = known_found view c.args.space (c.args.address / 4096) c.in-Some.known.now (bare c.args.cache.now) c.args.fronts.now c.requires.fronts c.in-Some.ensures (omega (arith, c.ranges.address.fits)) in
    subst (λ l. is_writable (state_of view) page.space page.page l ≡ false) c.line_of.ensures.line (sym (c.is_writable.ensures view at.is) ∙ c.if-not-is_writable.true)

pub returns-then-not-contains-clause-stores : goal.returns-then-not-contains-clause-stores
returns-then-not-contains-clause-stores c =
    let view = c.args.pages.now in
    let at = known_found view c.args.space (c.args.address / 4096) c.in-Some.known.now (bare c.args.cache.now) c.args.fronts.now c.requires.fronts c.in-Some.ensures (omega (arith, c.ranges.address.fits)) in
    refused_store view c.args.space c.args.address c.args.bytes.now (Forbidden c.args.address)
    (reads_of view c.args.space writable c.args.address (length c.args.bytes.now) (Err (Forbidden c.args.address)) c.requires.some (omega (arith, c.requires.one_line))
    (refl, mayn_be_used view c.args.space c.args.address c.in-Some.known.now.found at writable (sym (c.contains.ensures tt) ∙ c.if-not-contains.true)))

pub returns-clause-stores : goal.returns-clause-stores
returns-clause-stores c =
    subst (λ came. Stores c.args.pages.now c.write_in_page.new.pages c.args.space c.args.address c.args.bytes.now (result_at c.args.address came))
    (sym c.came_of.ensures)
    (told_store c.args.pages.now c.write_in_page.new.pages c.args.space c.args.address c.args.bytes.now c.write_in_page.result c.requires.one_line
    c.write_in_page.ensures.stores)

pub returns-clause-fronts : goal.returns-clause-fronts
returns-clause-fronts c = none_known _ _ _ c.clear.ensures
