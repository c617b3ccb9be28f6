use Rattle.std.proofs.Common.{◌≡◌, ℕ, ◌*◌, ◌/◌, ◌<◌, set, length, sym, ap, subst, ◌∙◌, arith}
use Rattle.std.proofs.lemmas.List.{length-set}
use Rattle.std.specs.Int.{bit_at}
use Rattle.mark_levels.specs.Levels.{AreMarks, HasBit, LackBit, or_of}
use Rattle.mark_levels.specs.Kept.{IsLevel, AreBelow}
use Rattle.mark_levels.specs.declared.levels.Above.{Above}
use Rattle.mark_levels.proofs.Marks.{all_none, all_some, marks_none, marks_some, set_marks}
use Rattle.mark_levels.proofs.levels.Level.+set.Goals as goal
use Rattle.mark_levels.proofs.levels.Level.+set.Goals.{in-Top, in-Marks}

pub invariant_of-self : goal.invariant_of-self
invariant_of-self t c =
    let bytes = c.self.inside.bytes.items in
    let at = c.args.at in
    let new = set bytes at c.args.byte in
    let size = length-set bytes at c.args.byte in
    let there = subst (λ bs. at < length bs) (sym c.self.view_is) c.requires in
    let old = c.self.invariant in
    let kept : (bits : ℕ) (above : Above) → ((k : ℕ) → bit_at bits k ≡ 1 → HasBit new k) → ((k : ℕ) → bit_at bits k ≡ 0 → LackBit new k) → AreBelow new above → IsLevel new bits above =
    λ bits above some none below. record { whole = omega (arith, old.whole, size); few = omega (arith, old.few, size); some = some; none = none; below = below } in
    elim c.match-self.branch [
      | in-Top w ↦
          let same = size ∙ subst (AreBelow bytes) w.in-Top.is old.below in
          let bits = w.union-self-inside.ensures ∙ ap (λ bs. or_of bs 0 16) w.deref.ensures.value in
          rw (w.self-is, w.self-inside-is) (kept _ _ (λ k. all_some new _ k bits) (λ k. all_none new _ k same bits) (subst (AreBelow new) (sym w.in-Top.is) same))
      | in-Marks w ↦
          let bits = w.union.ensures ∙ ap (λ bs. or_of bs (16 * (at / 16)) 16) w.deref-in-Marks.ensures.value in
          let now = w.set.ensures ∙ ap (λ b. set w.deref_mut.result.now (at / 16) b) bits ∙ ap (λ ms. set ms (at / 16) (or_of new (16 * (at / 16)) 16)) w.deref_mut.ensures.value in
          let are = subst (AreMarks new) (sym now) (set_marks bytes w.in-Marks.marks.value at c.args.byte there (subst (AreBelow bytes) w.in-Marks.is old.below).1) in
          let some = λ (k : ℕ) (bit : bit_at w.bits-self-inside.result k ≡ 1). subst (λ ms. HasBit ms k) w.deref-in-Marks-2.ensures (w.bits-self-inside.ensures.some k bit) in
          let none = λ (k : ℕ) (bit : bit_at w.bits-self-inside.result k ≡ 0). subst (λ ms. LackBit ms k) w.deref-in-Marks-2.ensures (w.bits-self-inside.ensures.none k bit) in
          rw (w.self-is, w.self-inside-is) (kept _ _ (λ k bit. marks_some new _ k are (some k bit)) (λ k bit. marks_none new _ k are (none k bit))
          (omega (arith, size, ap length now, length-set w.in-Marks.marks.value (at / 16) (or_of new (16 * (at / 16)) 16), (subst (AreBelow bytes) w.in-Marks.is old.below).0), are))
    ]
