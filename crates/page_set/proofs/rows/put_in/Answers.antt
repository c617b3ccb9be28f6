use Rattle.std.proofs.Common.{rules, ◌≡◌, ◌/◌, subst, arith, length}
use Rattle.std.specs.Vec.{vec_len}
use Rattle.number_maps.specs.Rows.{IsAt, IsGap}
use Rattle.page_set.proofs.Kept.{kept_new, kept_with, puts_new, puts_with, row_left}
use Rattle.page_set.proofs.rows.put_in.Goals as goal
use Rattle.page_set.proofs.rows.put_in.Goals.{In-Err, In-Ok}

at : (c : In-Ok) → IsAt c.args.rows.now.items (c.args.page / 64) c.in-Ok.at
at c = subst (λ rows. IsAt rows (c.args.page / 64) c.in-Ok.at) c.deref.ensures.value c.in-Ok.ensures.there

gap : (c : In-Err) → IsGap c.args.rows.now.items (c.args.page / 64) c.in-Err.at
gap c = subst (λ rows. IsGap rows (c.args.page / 64) c.in-Err.at) c.deref.ensures.value c.in-Err.ensures.gap

pub unreachable-requires : goal.unreachable-requires
unreachable-requires c =
    let less = row_left c.args.rows.now.items (c.args.page / 64) c.in-Err.at _ (gap (goal.at.unreachable-requires c).In-Err) c.requires.room in
    let lens : vec_len c.args.rows.now ≡ length c.args.rows.now.items = search rules in
    omega (arith, less, c.in-Err-insert.ensures.full, lens)

pub returns-in-Ok-clause-kept : goal.returns-in-Ok-clause-kept
returns-in-Ok-clause-kept c =
    kept_with c.args.rows.now.items c.args.page c.in-Ok.at c.with-bits.result c.ranges.page.fits c.requires.kept c.with-bits.ensures.are c.index.result.now.1
    (at (goal.at.returns-in-Ok-clause-kept c).In-Ok) c.with-bits.ensures.lines

pub returns-in-Ok-clause-put : goal.returns-in-Ok-clause-put
returns-in-Ok-clause-put c =
    puts_with c.args.rows.now.items c.args.page c.in-Ok.at c.with-bits.result c.ranges.page.fits c.requires.kept c.with-bits.ensures.are c.index.result.now
    (at (goal.at.returns-in-Ok-clause-put c).In-Ok) c.index.ensures c.with-bits.ensures.lines

pub returns-in-Ok-insert-clause-kept : goal.returns-in-Ok-insert-clause-kept
returns-in-Ok-insert-clause-kept c =
    kept_new c.args.rows.now.items c.args.page c.in-Err.at c.with.result c.ranges.page.fits c.requires.kept c.with.ensures.are c.empty.result
    c.insert.new.self.items (gap (goal.at.returns-in-Ok-insert-clause-kept c).In-Err) c.in-Ok-insert.ensures.items c.with.ensures.lines

pub returns-in-Ok-insert-clause-put : goal.returns-in-Ok-insert-clause-put
returns-in-Ok-insert-clause-put c =
    puts_new c.args.rows.now.items c.args.page c.in-Err.at c.with.result c.ranges.page.fits c.requires.kept c.with.ensures.are c.empty.result
    c.insert.new.self.items (gap (goal.at.returns-in-Ok-insert-clause-put c).In-Err) c.in-Ok-insert.ensures.items c.empty.ensures c.with.ensures.lines
