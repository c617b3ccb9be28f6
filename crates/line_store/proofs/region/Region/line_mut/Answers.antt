use Rattle.std.proofs.Common.{◌+◌, ◌<◌, ◌≤◌, length, set, [], refl, ap, sym, ◌∙◌, arith}
use Rattle.line_store.specs.Lines.{line_of}
use Rattle.line_store.proofs.Kept.{length-kept_lines, line_kept, far, set_same}
use Rattle.line_store.proofs.region.Region.line_mut.Goals as goal

pub overflow_add-at : goal.overflow_add-at
overflow_add-at g c =
    let size = length-kept_lines c.self.inside.lines.items c.self.inside.count c.self.invariant.0.below in
    record { fits = omega (arith, c.requires.there, ap length c.self.view_is, size, c.self.invariant.0.few) }

pub reach-requires-clause-inside : goal.reach-requires-clause-inside
reach-requires-clause-inside g c =
    let size = length-kept_lines c.self.inside.lines.items c.self.inside.count c.self.invariant.0.below in
    omega (arith, c.requires.there, ap length c.self.view_is, size)

pub line_mut-requires : goal.line_mut-requires
line_mut-requires g c =
    let size = length-kept_lines c.self.inside.lines.items c.self.inside.count c.self.invariant.0.below in
    let low : c.args.at + 1 ≤ c.self.inside.count = omega (arith, c.requires.there, ap length c.self.view_is, size) in
    let kept : c.args.at + 1 ≤ length c.reach.new.lines.items =
    far (length c.reach.new.lines.items) c.self.inside.count (c.args.at + 1) (c.args.at + 1) c.reach.ensures.reached (omega arith) low in
    omega (arith, kept)

pub returns : goal.returns
returns g c =
    let size = length-kept_lines c.self.inside.lines.items c.self.inside.count c.self.invariant.0.below in
    let items = c.reach.new.lines.items in
    let whole = c.reach.ensures.same ∙ c.self.view_is in
    let low : c.args.at + 1 ≤ c.self.inside.count = omega (arith, c.requires.there, ap length c.self.view_is, size) in
    let kept : c.args.at + 1 ≤ length items = far (length items) c.self.inside.count (c.args.at + 1) (c.args.at + 1) c.reach.ensures.reached (omega arith) low in
    let there : c.args.at < length items = omega (arith, kept) in (
      (refl, λ w. set_same items c.self.inside.count c.args.at w there ∙ ap (λ l. set l c.args.at w) whole),
      record {
        writes_back = tt;
        value = c.line_mut.ensures.value ∙ sym (line_kept items c.self.inside.count c.args.at [] there) ∙ ap (λ l. line_of l c.args.at) whole;
      },
    )
