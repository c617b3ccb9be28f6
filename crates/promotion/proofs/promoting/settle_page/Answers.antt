use Rattle.std.proofs.Common.{◌∙◌, sym, arith}
use Rattle.overlay_memory.specs.Translated.{keeps_flushed}
use Rattle.overlay_memory.specs.View.{state_of}
use Rattle.overlay_memory.specs.Joined.{limit_few}
use Rattle.promotion.proofs.Pages.{commits, copies, falls_short, has_room, segment_within, stays}
use Rattle.promotion.proofs.promoting.settle_page.Goals as goal

pub returns-then-own-eq0-clause-settles : goal.returns-then-own-eq0-clause-settles
returns-then-own-eq0-clause-settles c =
    stays c.args.mem.now c.args.space c.args.page c.units-units.result c.lines_of.result c.len-own.result 0 c.lines_of.ensures.own c.len-own.ensures.count c.units-units.ensures.sum
    c.units-units.ensures.fits c.if-own-eq0.true

pub returns-then-is_alone-clause-settles : goal.returns-then-is_alone-clause-settles
returns-then-is_alone-clause-settles c =
    commits c.args.mem.now c.args.space c.args.page c.units-units.result c.lines_of.result c.len-own.result 0 c.lines_of.ensures.own c.len-own.ensures.count c.units-units.ensures.sum
    c.units-units.ensures.fits (state_of c.commit_page.new.self) c.if-own-eq0.false (sym c.is_alone.ensures ∙ c.if-is_alone.true) c.commit_page.ensures.state

pub overflow_add-needed : goal.overflow_add-needed
overflow_add-needed c = let few = limit_few c.args.mem.now.pages c.lines_of.ensures.joined in omega (arith, few, c.units-units.ensures.sum, c.units-units.ensures.fits)

pub overflow_sub-needed : goal.overflow_sub-needed
overflow_sub-needed c =
    let within = segment_within (state_of c.args.mem.now) c.args.space c.args.page c.units-units.result c.lines_of.result c.len-own.result c.class_of.result c.lines_of.ensures.own
    c.len-own.ensures.count c.class_of.ensures c.units-units.ensures.sum in omega (arith, within)

pub returns-in-Some-clause-settles : goal.returns-in-Some-clause-settles
returns-in-Some-clause-settles c =
    falls_short c.args.mem.now c.args.space c.args.page c.units-units.result c.lines_of.result c.len-own.result c.class_of.result
    c.lines_of.ensures.own c.len-own.ensures.count
    c.units-units.ensures.sum c.units-units.ensures.fits c.class_of.ensures c.if-own-eq0.false (sym c.is_alone.ensures ∙ c.if-is_alone.false) c.in-Some.shortage c.in-Some.ensures

pub copy_commit_page-requires-clause-room : goal.copy_commit_page-requires-clause-room
copy_commit_page-requires-clause-room c =
    has_room c.args.mem.now c.args.space c.args.page c.units-units.result c.lines_of.result c.len-own.result c.class_of.result c.lines_of.ensures.own c.len-own.ensures.count
    c.units-units.ensures.sum c.units-units.ensures.fits c.class_of.ensures c.if-own-eq0.false (sym c.is_alone.ensures ∙ c.if-is_alone.false) c.in_default.ensures

pub returns-clause-settles : goal.returns-clause-settles
returns-clause-settles c =
    copies c.args.mem.now c.args.space c.args.page c.units-units.result c.lines_of.result c.len-own.result c.class_of.result c.lines_of.ensures.own c.len-own.ensures.count
    c.units-units.ensures.sum c.units-units.ensures.fits c.class_of.ensures c.if-own-eq0.false (sym c.is_alone.ensures ∙ c.if-is_alone.false)
    (state_of c.copy_commit_page.new.self) c.in_default.ensures c.copy_commit_page.ensures.copied

pub returns-then-is_alone-clause-lists : goal.returns-then-is_alone-clause-lists
returns-then-is_alone-clause-lists c = keeps_flushed c.args.space c.args.mem.now c.commit_page.new.self c.commit_page.ensures.translations

pub returns-clause-lists : goal.returns-clause-lists
returns-clause-lists c = keeps_flushed c.args.space c.args.mem.now c.copy_commit_page.new.self c.copy_commit_page.ensures.translations
