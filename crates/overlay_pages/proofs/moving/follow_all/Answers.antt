use Rattle.overlay_pages.proofs.Common.{◌^◌, ◌+◌, ◌<◌, ◌≤◌, inl, inr, subst}
use Rattle.overlay_pages.proofs.Stores.{AreLow, IsTarget, low_last, target_last}
use Rattle.overlay_pages.proofs.moving.follow_all.Goals as goal
use Rattle.overlay_pages.proofs.moving.follow_all.Goals.{In-Some}

lows : (c : In-Some) → AreLow c.pop.new.self.items × (c.in-Some.m.order < 4) × (c.in-Some.m.to + 2 ^ c.in-Some.m.order ≤ 2 ^ 20)
lows c = low_last c.pop.new.self.items c.in-Some.m (subst AreLow c.in-Some.ensures.items c.following.invariant.0)

pub follow-requires-clause-low : goal.follow-requires-clause-low
follow-requires-clause-low c = (lows (goal.at.follow-requires-clause-low c).In-Some).1

pub follow-requires-clause-inside : goal.follow-requires-clause-inside
follow-requires-clause-inside c = (lows (goal.at.follow-requires-clause-inside c).In-Some).2

pub follow-requires-clause-ahead : goal.follow-requires-clause-ahead
follow-requires-clause-ahead c =
    let a = c.requires.ahead in
    record { was = a.was; old = a.old; by = a.by; behind = (c.following.invariant.1 a.was a.old a.by a.behind).0 }

pub following-preserved : goal.following-preserved
following-preserved c = (
  (lows (goal.at.following-preserved c).In-Some).0,
  λ was old by behind.
      let so = c.following.invariant.1 was old by behind in
      let t = c.follow.ensures was old by so.0 in (
        t.behind,
        λ unit target. elim (so.1 unit target) [
          | inl left ↦ elim (target_last c.pop.new.self.items c.in-Some.m unit (subst (λ ms. IsTarget ms unit) c.in-Some.ensures.items left)) [ inl a ↦ inl a | inr b ↦ inr (t.told unit b.0 b.1) ]
          | inr told ↦ inr (t.kept unit told)
        ],
      ),
)
