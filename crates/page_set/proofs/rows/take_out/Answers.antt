use Rattle.std.proofs.Common.{◌/◌, ◌∙◌, subst, sym, arith}
use Rattle.number_maps.specs.Rows.{IsAt, IsGap}
use Rattle.page_set.proofs.Kept.{kept_last, kept_without, puts_last, puts_nowhere, puts_without}
use Rattle.page_set.proofs.rows.take_out.Goals as goal
use Rattle.page_set.proofs.rows.take_out.Goals.{In-Ok}

at : (c : In-Ok) → IsAt c.args.rows.now.items (c.args.page / 64) c.in-Ok.at
at c = subst (λ rows. IsAt rows (c.args.page / 64) c.in-Ok.at) c.deref.ensures.value c.in-Ok.ensures.there

pub returns-then-len-eq0-clause-kept : goal.returns-then-len-eq0-clause-kept
returns-then-len-eq0-clause-kept c =
    kept_last c.args.rows.now.items c.remove.new.self.items c.args.page c.in-Ok.at c.requires (at (goal.at.returns-then-len-eq0-clause-kept c).In-Ok) c.remove.ensures.items

pub returns-then-len-eq0-clause-put : goal.returns-then-len-eq0-clause-put
returns-then-len-eq0-clause-put c =
    puts_last c.args.rows.now.items c.remove.new.self.items c.args.page c.in-Ok.at c.requires (at (goal.at.returns-then-len-eq0-clause-put c).In-Ok) c.remove.ensures.items
    c.index.result.now c.without-bits.result c.index.ensures c.without-bits.ensures.lines (sym c.len.ensures.count ∙ c.if-len-eq0.true)

pub returns-else-len-eq0-clause-kept : goal.returns-else-len-eq0-clause-kept
returns-else-len-eq0-clause-kept c =
    kept_without c.args.rows.now.items c.args.page c.in-Ok.at c.without-bits.result c.ranges.page.fits c.requires c.without-bits.ensures.are
    (at (goal.at.returns-else-len-eq0-clause-kept c).In-Ok) (omega (arith, c.len.ensures.count, c.if-len-eq0.false))

pub returns-else-len-eq0-clause-put : goal.returns-else-len-eq0-clause-put
returns-else-len-eq0-clause-put c =
    puts_without c.args.rows.now.items c.args.page c.in-Ok.at c.without-bits.result c.ranges.page.fits c.requires c.without-bits.ensures.are c.index.result.now
    (at (goal.at.returns-else-len-eq0-clause-put c).In-Ok) c.index.ensures c.without-bits.ensures.lines

pub returns-in-Err-clause-put : goal.returns-in-Err-clause-put
returns-in-Err-clause-put c =
    puts_nowhere c.args.rows.now.items c.args.page c.in-Err.field-0
    (subst (λ rows. IsGap rows (c.args.page / 64) c.in-Err.field-0) c.deref.ensures.value c.in-Err.ensures.gap)
