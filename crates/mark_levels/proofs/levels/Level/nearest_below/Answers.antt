use Rattle.std.proofs.Common.{◌*◌, length, ap, subst, ◌∙◌, arith}
use Rattle.mark_levels.specs.Levels.{IsEndBitIn}
use Rattle.mark_levels.proofs.Marks.{end_bit, group_there, marks_none}
use Rattle.mark_levels.proofs.levels.Level.nearest_below.Goals as goal

pub scan-requires-clause-fits : goal.scan-requires-clause-fits
scan-requires-clause-fits c =
    let bytes = c.args.bytes.now in
    let size = ap length (c.deref.ensures.value ∙ c.bytes.view_is) in
    (omega (arith, group_there bytes c.args.self.now c.args.bit c.in-Some.group c.requires.marks c.requires.whole c.in-Some.ensures.0, size), omega (arith, c.requires.few, size))

pub overflow_mul-group : goal.overflow_mul-group
overflow_mul-group c = record { fits = omega (arith, group_there c.args.bytes.now c.args.self.now c.args.bit c.in-Some.group c.requires.marks c.requires.whole c.in-Some.ensures.0, c.requires.few) }

pub returns-in-None : goal.returns-in-None
returns-in-None c = marks_none c.args.bytes.now c.args.self.now c.args.bit c.requires.marks c.in-None.ensures

pub returns-in-Some : goal.returns-in-Some
returns-in-Some c =
    let here = subst (λ bs. IsEndBitIn bs c.args.bit c.args.end (16 * c.in-Some.group) c.scan.result) (c.deref.ensures.value ∙ c.bytes.view_is) c.scan.ensures in
    end_bit c.args.bytes.now c.args.self.now c.args.bit c.in-Some.group c.args.end c.scan.result c.requires.marks c.in-Some.ensures here
