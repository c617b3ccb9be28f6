use Rattle.std.proofs.Common.{ℕ, ◌+◌, ◌*◌, ◌/◌, length, get_or, sym, ap, subst, ◌∙◌, arith}
use Rattle.std.proofs.lemmas.Nat.Bits.{bit_at-zero}
use Rattle.std.specs.Int.{bit_at}
use Rattle.std.proofs.lemmas.List.{length-replicate}
use Rattle.mark_levels.specs.Kept.{AreBelow}
use Rattle.mark_levels.proofs.Marks.{zero_at, zero_marks}
use Rattle.mark_levels.proofs.levels.Level.+new.Goals as goal
use Rattle.mark_levels.proofs.levels.Level.+new.Goals.{then-groups-eq1, else-groups-eq1+in_ok-marks+in_ok-new}

pub invariant_of-result : goal.invariant_of-result
invariant_of-result t c =
    let bytes = c.in_ok-bytes.bytes.items in
    let n = c.args.groups in
    let m = (c.args.groups + 15) / 16 in
    let is = c.in_ok-bytes.ensures.items_if_clones_equal (λ y h. h) in
    let size = ap length is ∙ length-replicate (16 * n) 0 in
    record {
      whole = omega (arith, size);
      few = omega (arith, size, c.requires.few);
      some = λ k bit. absurd (omega (arith, bit, bit_at-zero k));
      none = λ k bit x. ap (λ b. bit_at b k) (ap (λ bs. get_or bs x 0) is ∙ zero_at (16 * n) x) ∙ bit_at-zero k;
      below = elim c.if-groups-eq1.branch [
        | then-groups-eq1 w ↦ subst (AreBelow bytes) (sym w.above-is) (omega (arith, size, w.if-groups-eq1.true))
        | else-groups-eq1+in_ok-marks+in_ok-new w ↦
            rw (w.above-is, w.in_ok-new.ensures.ok, w.in_ok-marks.ensures, is) (omega (arith, length-replicate {A = ℕ} (16 * n) 0, length-replicate {A = ℕ} (16 * m) 0, w.if-groups-eq1.false, c.requires.some), zero_marks (16 * n) (16 * m) (omega arith))
      ];
    }
