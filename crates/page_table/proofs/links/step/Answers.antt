use Rattle.std.proofs.Common.{inl, inr, refl, arith}
use Rattle.number_maps.specs.RowLaws.{key_of}
use Rattle.page_table.proofs.links.step.Goals as goal
use Rattle.page_table.proofs.links.step.Goals.{else-other-recent-2-via-then-other-recent-2+else-recent-other, else-other-recent-2-via-else-other-recent-2}

pub returns-then-other-recent : goal.returns-then-other-recent
returns-then-other-recent c = (omega (arith, c.if-at-settled.true), omega (arith, c.if-other-recent.true))

pub returns-then-at-settled : goal.returns-then-at-settled
returns-then-at-settled c = inr (
  record {
    there = omega (arith, c.if-other-recent.false);
    is = refl;
    first = λ lt. absurd (omega (arith, lt, c.if-at-settled.true));
  },
  refl,
  refl,
)

pub returns-then-recent-other : goal.returns-then-recent-other
returns-then-recent-other c = inr (
  record {
    there = omega (arith, c.if-other-recent-2.true);
    is = refl;
    first = λ lt. omega (arith, c.if-recent-other.true, key_of c.args.settled.now c.args.at (0, 0) lt);
  },
  refl,
  refl,
)

pub returns : goal.returns
returns c = inl (
  record {
    there = omega (arith, c.if-at-settled.false);
    is = refl;
    first = λ lt.
        elim c.else-other-recent-2.branch [
          | else-other-recent-2-via-then-other-recent-2+else-recent-other w ↦
              omega (arith, w.if-recent-other.false, key_of c.args.recent.now c.args.other (0, 0) lt)
          | else-other-recent-2-via-else-other-recent-2 w ↦ absurd (omega (arith, w.if-other-recent-2.false, lt))
        ];
  },
  refl,
  refl,
)
