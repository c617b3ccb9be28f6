use Rattle.std.proofs.Common.{◌≡◌, ◌/◌, length, subst, ap, ◌∙◌, arith}
use Rattle.std.specs.Prelude.{OnOk}
use Rattle.ovl_io.specs.Memory.{bytes_at}
use Rattle.overlay_memory.specs.Access.{Reads}
use Rattle.overlay_memory.specs.Pieces.{result_at}
use Rattle.overlay_memory.proofs.Fronting.{hits_fronts, hits_true, known_found, known_translated, line_found, line_space}
use Rattle.overlay_memory.proofs.reading.load_line.Goals as goal
use Rattle.overlay_pages.specs.State.{memory_of}
use Rattle.overlay_pages.specs.View.{state_of}
use Rattle.translation_cache.specs.Bare.{bare, bare_hits}

pub read_found-requires-clause-found : goal.read_found-requires-clause-found
read_found-requires-clause-found c =
    let at = known_found c.args.pages.now c.args.space (c.args.address / 4096) c.in-Some.known.now (bare c.args.cache.now) c.args.fronts.now c.requires.fronts c.in-Some.ensures (omega (arith, c.ranges.address.fits)) in
    line_found c.args.pages.now c.args.space c.args.address c.line_of.result c.in-Some.known.now.found c.line.result at c.line_of.ensures.line (c.line.ensures c.args.pages.now at.is)

pub returns-in-Some-clause-access : goal.returns-in-Some-clause-access
returns-in-Some-clause-access c =
    let at = known_found c.args.pages.now c.args.space (c.args.address / 4096) c.in-Some.known.now (bare c.args.cache.now) c.args.fronts.now c.requires.fronts c.in-Some.ensures (omega (arith, c.ranges.address.fits)) in
    subst (λ s. Reads (state_of c.args.pages.now) s c.args.need.0 c.args.address (length c.args.into.now) (result_at c.args.address c.read_found.result))
    (line_space c.args.pages.now c.args.space c.args.address c.line_of.result c.in-Some.known.now.found c.line.result at c.line_of.ensures.line
    (c.line.ensures c.args.pages.now at.is))
    c.read_found.ensures.access

pub returns-in-Some-clause-bytes : goal.returns-in-Some-clause-bytes
returns-in-Some-clause-bytes c =
    let at = known_found c.args.pages.now c.args.space (c.args.address / 4096) c.in-Some.known.now (bare c.args.cache.now) c.args.fronts.now c.requires.fronts c.in-Some.ensures (omega (arith, c.ranges.address.fits)) in
    subst (λ s. OnOk (result_at c.args.address c.read_found.result) (c.read_found.new.into ≡ bytes_at (memory_of (state_of c.args.pages.now) s) c.args.address (length c.args.into.now)))
    (line_space c.args.pages.now c.args.space c.args.address c.line_of.result c.in-Some.known.now.found c.line.result at c.line_of.ensures.line
    (c.line.ensures c.args.pages.now at.is))
    c.read_found.ensures.bytes

pub returns-in-Some-clause-translated : goal.returns-in-Some-clause-translated
returns-in-Some-clause-translated c =
    known_translated c.args.pages.now c.args.space (c.args.address / 4096) c.in-Some.known.now (bare c.args.cache.now) c.args.fronts.now c.requires.fronts c.in-Some.ensures (omega (arith, c.ranges.address.fits))
    (bare c.count_hit.new.self) (ap bare c.count_hit.ensures ∙ bare_hits 1 c.args.cache.now)

pub returns-in-Some-clause-held : goal.returns-in-Some-clause-held
returns-in-Some-clause-held c =
    hits_true (state_of c.args.pages.now) c.args.cache.now c.count_hit.new.self 1 c.count_hit.ensures c.requires.held

pub returns-in-Some-clause-fronts : goal.returns-in-Some-clause-fronts
returns-in-Some-clause-fronts c =
    hits_fronts c.args.pages.now (bare c.args.cache.now) (bare c.count_hit.new.self) 1 c.args.fronts.now
    (ap bare c.count_hit.ensures ∙ bare_hits 1 c.args.cache.now) c.requires.fronts
