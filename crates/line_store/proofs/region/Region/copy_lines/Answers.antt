use Rattle.std.proofs.Common.{◌+◌, ◌≤◌, length, ap, sym, ◌∙◌, arith}
use Rattle.line_store.specs.Lines.{with_copied}
use Rattle.line_store.specs.Kept.{kept_lines}
use Rattle.line_store.proofs.Kept.{length-kept_lines, far, copied, copy_same, copy_kept}
use Rattle.line_store.proofs.region.Region.copy_lines.Goals as goal

pub overflow_add-max : goal.overflow_add-max
overflow_add-max g c =
    let size = length-kept_lines c.self.inside.lines.items c.self.inside.count c.self.invariant.0.below in
    record { fits = omega (arith, c.requires.source, c.requires.target, ap length c.self.view_is, size, c.self.invariant.0.few, c.max.ensures) }

pub reach-requires-clause-inside : goal.reach-requires-clause-inside
reach-requires-clause-inside g c =
    let size = length-kept_lines c.self.inside.lines.items c.self.inside.count c.self.invariant.0.below in
    omega (arith, c.requires.source, c.requires.target, ap length c.self.view_is, size, c.max.ensures)

pub copy_apart-requires-clause-source : goal.copy_apart-requires-clause-source
copy_apart-requires-clause-source g c =
    let size = length-kept_lines c.self.inside.lines.items c.self.inside.count c.self.invariant.0.below in
    let inside : c.max.result + c.args.n ≤ c.self.inside.count = omega (arith, c.requires.source, c.requires.target, ap length c.self.view_is, size, c.max.ensures) in
    let kept = far (length c.reach.new.lines.items) c.self.inside.count (c.max.result + c.args.n) (c.args.from + c.args.n) c.reach.ensures.reached (omega (arith, c.max.ensures)) inside in
    omega (arith, kept, ap length c.as_mut_slice.ensures.value)

pub copy_apart-requires-clause-target : goal.copy_apart-requires-clause-target
copy_apart-requires-clause-target g c =
    let size = length-kept_lines c.self.inside.lines.items c.self.inside.count c.self.invariant.0.below in
    let inside : c.max.result + c.args.n ≤ c.self.inside.count = omega (arith, c.requires.source, c.requires.target, ap length c.self.view_is, size, c.max.ensures) in
    let kept = far (length c.reach.new.lines.items) c.self.inside.count (c.max.result + c.args.n) (c.args.to + c.args.n) c.reach.ensures.reached (omega (arith, c.max.ensures)) inside in
    omega (arith, kept, ap length c.as_mut_slice.ensures.value)

pub invariant_of-self : goal.invariant_of-self
invariant_of-self g c =
    let size = length-kept_lines c.self.inside.lines.items c.self.inside.count c.self.invariant.0.below in
    let lines = c.reach.new.lines in
    let end = c.max.result + c.args.n in
    let inside : end ≤ c.self.inside.count = omega (arith, c.requires.source, c.requires.target, ap length c.self.view_is, size, c.max.ensures) in
    let source = far (length lines.items) c.self.inside.count end (c.args.from + c.args.n) c.reach.ensures.reached (omega (arith, c.max.ensures)) inside in
    let target = far (length lines.items) c.self.inside.count end (c.args.to + c.args.n) c.reach.ensures.reached (omega (arith, c.max.ensures)) inside in
    let is = copied lines.items c.as_mut_slice.result.now c.copy_apart.new.lines lines.made c.args.from c.args.to c.args.n lines.fits.0 c.as_mut_slice.ensures.value source target
    c.copy_apart.ensures in (
      copy_kept lines.items _ c.self.inside.count c.args.from c.args.to c.args.n end is source target c.reach.ensures.reached
          (omega (arith, c.max.ensures)) (c.reach.ensures.kept c.self.invariant.0),
      c.reach.ensures.piece.1 ∙ c.self.invariant.1,
      c.self.invariant.2 ∙ sym c.reach.ensures.piece.0,
      c.self.invariant.3,
      c.self.invariant.4,
    )

pub returns-clause-copied : goal.returns-clause-copied
returns-clause-copied g c =
    let size = length-kept_lines c.self.inside.lines.items c.self.inside.count c.self.invariant.0.below in
    let lines = c.reach.new.lines in
    let end = c.max.result + c.args.n in
    let inside : end ≤ c.self.inside.count = omega (arith, c.requires.source, c.requires.target, ap length c.self.view_is, size, c.max.ensures) in
    let source = far (length lines.items) c.self.inside.count end (c.args.from + c.args.n) c.reach.ensures.reached (omega (arith, c.max.ensures)) inside in
    let target = far (length lines.items) c.self.inside.count end (c.args.to + c.args.n) c.reach.ensures.reached (omega (arith, c.max.ensures)) inside in
    let is = copied lines.items c.as_mut_slice.result.now c.copy_apart.new.lines lines.made c.args.from c.args.to c.args.n lines.fits.0 c.as_mut_slice.ensures.value source target
    c.copy_apart.ensures in
    ap (λ l. kept_lines l c.self.inside.count) is
    ∙ copy_same lines.items c.self.inside.count c.args.from c.args.to c.args.n source target
    ∙ ap (λ l. with_copied l c.args.from c.args.to c.args.n) (c.reach.ensures.same ∙ c.self.view_is)
