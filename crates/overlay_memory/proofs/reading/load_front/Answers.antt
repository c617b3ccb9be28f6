use Rattle.std.proofs.Common.{◌≡◌, ◌+◌, ◌-◌, ◌%◌, length, take, drop, ap, ◌∙◌, arith}
use Rattle.ovl_io.specs.Permissions.{readable}
use Rattle.overlay_memory.specs.Fronts.{IsFrontPlace}
use Rattle.overlay_memory.proofs.Fronting.{hits_fronts, hits_true}
use Rattle.overlay_memory.proofs.Pieced.{permitted}
use Rattle.overlay_memory.proofs.Placing.{place_bytes, place_permitted}
use Rattle.overlay_memory.proofs.reading.load_front.Goals as goal
use Rattle.overlay_memory.proofs.reading.load_front.Goals.{Else-place}
use Rattle.overlay_pages.specs.View.{state_of}
use Rattle.translation_cache.specs.Bare.{bare, bare_hits}

-- where the line stands
at : (c : Else-place) → IsFrontPlace c.args.pages.now c.args.fronts.now c.args.space readable c.args.address c.read_place-place.result
at c = c.read_place-place.ensures.place (omega (arith, c.if-place.false, c.read_place-place.type_inv))

pub returns-then-place-clause-fronts : goal.returns-then-place-clause-fronts
returns-then-place-clause-fronts c = c.read_place-place.ensures.fronts (bare c.args.cache.now) c.requires.fronts

pub returns-clause-access : goal.returns-clause-access
returns-clause-access c = λ done.
    let it = at (goal.at.returns-clause-access c).Else-place in
    permitted c.args.pages.now c.args.space readable c.args.address (length c.args.into.now)
    (place_permitted c.args.pages.now c.args.fronts.now c.args.space readable c.args.address c.read_place-place.result it c.line_at_place-line.ensures.joined)
    (omega (arith, c.requires.one_line))

pub returns-clause-bytes : goal.returns-clause-bytes
returns-clause-bytes c = λ done.
    let it = at (goal.at.returns-clause-bytes c).Else-place in
    let from = c.args.address % 64 in
    let n = length c.args.into.now in
    let count : from + n - from ≡ n = omega arith in
    c.copy_from_slice.ensures.after ∙ ap (λ k. take k (drop from c.line_at_place-line.result.now)) count
    ∙ place_bytes c.args.pages.now c.args.fronts.now c.args.space readable c.args.address c.read_place-place.result it n c.line_at_place-line.result.now
    c.requires.one_line c.line_at_place-line.ensures.value c.line_at_place-line.ensures.bytes

pub returns-clause-hits : goal.returns-clause-hits
returns-clause-hits c = λ done. ap bare c.count_hit.ensures ∙ bare_hits 1 c.args.cache.now

pub returns-clause-held : goal.returns-clause-held
returns-clause-held c = hits_true (state_of c.args.pages.now) c.args.cache.now c.count_hit.new.self 1 c.count_hit.ensures c.requires.held

pub returns-clause-fronts : goal.returns-clause-fronts
returns-clause-fronts c =
    hits_fronts c.args.pages.now (bare c.args.cache.now) (bare c.count_hit.new.self) 1 c.read_place-place.new.fronts
    (ap bare c.count_hit.ensures ∙ bare_hits 1 c.args.cache.now) (c.read_place-place.ensures.fronts (bare c.args.cache.now) c.requires.fronts)
