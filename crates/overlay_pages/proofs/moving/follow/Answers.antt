use Rattle.overlay_pages.proofs.Common.{◌≡◌, ◌+◌, ◌^◌, subst, arith}
use Rattle.overlay_pages.proofs.Views.{Tells}
use Rattle.overlay_pages.proofs.Sizes.{shifted_count}
use Rattle.overlay_pages.proofs.Shifts.{after_relocate, before_relocate, tells_more}
use Rattle.overlay_pages.proofs.moving.follow.Goals as goal

pub relocate_at-requires : goal.relocate_at-requires
relocate_at-requires c =
    let a = c.requires.ahead in
    before_relocate a.was c.args.store.now a.old c.following.ledger a.by (c.args.m.to + c.following.i) (c.following.invariant a.was a.old a.by a.behind).behind

pub following-preserved : goal.following-preserved
following-preserved c was old by behind =
    let so = c.following.invariant was old by behind in
    tells_more was c.args.store.now old c.args.ledger.now c.following.ledger c.relocate_at.new.ledger by c.args.m.to c.following.i so
    (after_relocate was c.args.store.now old c.following.ledger c.relocate_at.new.ledger by (c.args.m.to + c.following.i) so.behind c.relocate_at.ensures)

pub returns : goal.returns
returns c was old by behind =
    let all : c.following.i ≡ 2 ^ c.args.m.order = omega (arith, c.following.auto.i-end, c.following-test.false, shifted_count c.args.m.order c.requires.low) in
    subst (λ n. Tells was c.args.store.now old c.args.ledger.now c.following.ledger by c.args.m.to (c.args.m.to + n)) all (c.following.invariant was old by behind)
