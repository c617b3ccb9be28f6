use Rattle.std.proofs.Common.{◌+◌, ◌≤◌, length, ap, sym, refl, ◌∙◌, arith}
use Rattle.line_store.specs.Lines.{with_put}
use Rattle.line_store.specs.Kept.{kept_lines}
use Rattle.line_store.proofs.Kept.{length-kept_lines, far, put_kept, put_same, was_put}
use Rattle.line_store.proofs.region.Region.put_lines.Goals as goal

pub reach-requires-clause-inside : goal.reach-requires-clause-inside
reach-requires-clause-inside g c = omega (arith, c.requires.there, ap length c.self.view_is, length-kept_lines c.self.inside.lines.items c.self.inside.count c.self.invariant.0.below)

pub overflow_cast-end : goal.overflow_cast-end
overflow_cast-end g c = record { fits = omega (arith, reach-requires-clause-inside g c, c.self.invariant.0.few) }

pub slice_bounds-copy_from_slice-end : goal.slice_bounds-copy_from_slice-end
slice_bounds-copy_from_slice-end g c =
    let end = c.args.at + length c.args.lines.now in
    let inside : end ≤ c.self.inside.count = omega (arith, c.requires.there, ap length c.self.view_is, length-kept_lines c.self.inside.lines.items c.self.inside.count c.self.invariant.0.below) in
    omega (arith, far (length c.reach.new.lines.items) c.self.inside.count end end c.reach.ensures.reached (omega arith) inside, ap length c.as_mut_slice.ensures.value)

pub invariant_of-self : goal.invariant_of-self
invariant_of-self g c =
    let lines = c.reach.new.lines in
    let given = c.args.lines.now in
    let end = c.args.at + length given in
    let inside : end ≤ c.self.inside.count = omega (arith, c.requires.there, ap length c.self.view_is, length-kept_lines c.self.inside.lines.items c.self.inside.count c.self.invariant.0.below) in
    let fits : end ≤ length lines.items = far (length lines.items) c.self.inside.count end end c.reach.ensures.reached (omega arith) inside in
    let is = was_put lines.items c.as_mut_slice.result.now c.copy_from_slice.new.self given lines.made c.args.at _ (length given) lines.fits.0 c.as_mut_slice.ensures.value c.copy_from_slice.ensures.after (omega arith) refl fits in (
      put_kept lines.items _ c.self.inside.count c.args.at given (length given) end is (omega arith) fits c.reach.ensures.reached (omega arith) (c.reach.ensures.kept c.self.invariant.0),
      c.reach.ensures.piece.1 ∙ c.self.invariant.1,
      c.self.invariant.2 ∙ sym c.reach.ensures.piece.0,
      c.self.invariant.3,
      c.self.invariant.4,
    )

pub returns-clause-put : goal.returns-clause-put
returns-clause-put g c =
    let lines = c.reach.new.lines in
    let given = c.args.lines.now in
    let end = c.args.at + length given in
    let inside : end ≤ c.self.inside.count = omega (arith, c.requires.there, ap length c.self.view_is, length-kept_lines c.self.inside.lines.items c.self.inside.count c.self.invariant.0.below) in
    let fits : end ≤ length lines.items = far (length lines.items) c.self.inside.count end end c.reach.ensures.reached (omega arith) inside in
    let is = was_put lines.items c.as_mut_slice.result.now c.copy_from_slice.new.self given lines.made c.args.at _ (length given) lines.fits.0 c.as_mut_slice.ensures.value c.copy_from_slice.ensures.after (omega arith) refl fits in
    ap (λ l. kept_lines l c.self.inside.count) is ∙ put_same lines.items c.self.inside.count c.args.at given (length given) (omega arith) fits
    ∙ ap (λ l. with_put l c.args.at given (length given)) (c.reach.ensures.same ∙ c.self.view_is)
