use Rattle.std.proofs.Common.{◌*◌, Some, length, ap, subst, arith}
use Rattle.mark_levels.specs.Levels.{IsEndBit, IsEndBitIn, LackBit}
use Rattle.mark_levels.specs.Kept.{AreBelow}
use Rattle.mark_levels.proofs.Marks.{end_bit, group_there, marks_none}
use Rattle.mark_levels.proofs.levels.Level.+nearest.Goals as goal

pub scan-requires-in-Some-clause-fits : goal.scan-requires-in-Some-clause-fits
scan-requires-in-Some-clause-fits t c =
    let bytes = c.self.inside.bytes.items in
    let is = c.self.invariant in
    let are = (subst (AreBelow bytes) c.in-Marks.is is.below).1 in
    let group = subst (λ ms. IsEndBit ms c.args.bit c.args.end (Some c.in-Some.group)) c.deref-in-Marks.ensures c.in-Some.ensures in
    let size = ap length c.deref-in-Some.ensures.value in
    (omega (arith, group_there bytes c.in-Marks.marks.value c.args.bit c.in-Some.group are is.whole group.0, size), omega (arith, is.few, size))

pub returns-in-None : goal.returns-in-None
returns-in-None t c =
    let bytes = c.self.inside.bytes.items in
    let are = (subst (AreBelow bytes) c.in-Marks.is c.self.invariant.below).1 in
    rw (← c.self.view_is) (marks_none bytes c.in-Marks.marks.value c.args.bit are (subst (λ ms. LackBit ms c.args.bit) c.deref-in-Marks.ensures c.in-None.ensures))

pub returns-in-Some : goal.returns-in-Some
returns-in-Some t c =
    let bytes = c.self.inside.bytes.items in
    let g = c.in-Some.group in
    let o = c.scan-in-Some.result in
    let are = (subst (AreBelow bytes) c.in-Marks.is c.self.invariant.below).1 in
    let group = subst (λ ms. IsEndBit ms c.args.bit c.args.end (Some g)) c.deref-in-Marks.ensures c.in-Some.ensures in
    let here = subst (λ bs. IsEndBitIn bs c.args.bit c.args.end (16 * g) o) c.deref-in-Some.ensures.value c.scan-in-Some.ensures in
    subst (λ bs. IsEndBit bs c.args.bit c.args.end o) c.self.view_is (end_bit bytes c.in-Marks.marks.value c.args.bit g c.args.end o are group here)
