use Rattle.std.proofs.Common.{sym, ◌∙◌, arith}
use Rattle.overlay_memory.specs.Joined.{page_low}
use Rattle.overlay_memory.specs.PageLaws.{own_there}
use Rattle.overlay_memory.specs.Translated.{keeps_flushed}
use Rattle.overlay_memory.specs.View.{state_of}
use Rattle.promotion.proofs.PageWalk.{always_fits, copies_page, keeps_page, large_by, large_room, small_by}
use Rattle.promotion.proofs.committing.commit_or_copy.Goals as goal

pub lines_of-requires : goal.lines_of-requires
lines_of-requires c = record { there = own_there (state_of c.args.mem.now) c.args.space c.args.page c.requires.own }

pub copy_commit_page-requires-clause-room : goal.copy_commit_page-requires-clause-room
copy_commit_page-requires-clause-room c =
    large_room (state_of c.args.mem.now) c.args.space c.args.page (always_fits c.args.mem.now.pages c.lines_of.ensures.joined)
    (large_by (state_of c.args.mem.now) c.args.space c.args.page c.lines_of.result c.len-own.result c.lines_of.ensures.own c.len-own.ensures.count (omega (arith, c.if-own-ge-LARGE_LINES.true)))

pub returns-then-is_alone-clause-lists : goal.returns-then-is_alone-clause-lists
returns-then-is_alone-clause-lists c = keeps_flushed c.args.space c.args.mem.now c.commit_page.new.self c.commit_page.ensures.translations

pub returns-then-is_alone-clause-low : goal.returns-then-is_alone-clause-low
returns-then-is_alone-clause-low c =
    page_low c.args.mem.now.pages c.lines_of.ensures.joined c.args.space c.args.page (own_there (state_of c.args.mem.now) c.args.space c.args.page c.requires.own)

pub returns-then-own-ge-LARGE_LINES-clause-committed : goal.returns-then-own-ge-LARGE_LINES-clause-committed
returns-then-own-ge-LARGE_LINES-clause-committed c =
    copies_page (state_of c.args.mem.now) (state_of c.copy_commit_page.new.self) c.args.space c.args.page (sym c.is_alone.ensures ∙ c.if-is_alone.false)
    (large_by (state_of c.args.mem.now) c.args.space c.args.page c.lines_of.result c.len-own.result c.lines_of.ensures.own c.len-own.ensures.count (omega (arith, c.if-own-ge-LARGE_LINES.true)))
    c.copy_commit_page.ensures.copied

pub returns-then-own-ge-LARGE_LINES-clause-lists : goal.returns-then-own-ge-LARGE_LINES-clause-lists
returns-then-own-ge-LARGE_LINES-clause-lists c = keeps_flushed c.args.space c.args.mem.now c.copy_commit_page.new.self c.copy_commit_page.ensures.translations

pub returns-then-own-ge-LARGE_LINES-clause-low : goal.returns-then-own-ge-LARGE_LINES-clause-low
returns-then-own-ge-LARGE_LINES-clause-low c =
    page_low c.args.mem.now.pages c.lines_of.ensures.joined c.args.space c.args.page (own_there (state_of c.args.mem.now) c.args.space c.args.page c.requires.own)

pub returns-else-own-ge-LARGE_LINES-clause-committed : goal.returns-else-own-ge-LARGE_LINES-clause-committed
returns-else-own-ge-LARGE_LINES-clause-committed c =
    keeps_page (state_of c.args.mem.now) c.args.space c.args.page (sym c.is_alone.ensures ∙ c.if-is_alone.false)
    (small_by (state_of c.args.mem.now) c.args.space c.args.page c.lines_of.result c.len-own.result c.lines_of.ensures.own c.len-own.ensures.count (omega (arith, c.if-own-ge-LARGE_LINES.false)))

pub returns-else-own-ge-LARGE_LINES-clause-low : goal.returns-else-own-ge-LARGE_LINES-clause-low
returns-else-own-ge-LARGE_LINES-clause-low c =
    page_low c.args.mem.now.pages c.lines_of.ensures.joined c.args.space c.args.page (own_there (state_of c.args.mem.now) c.args.space c.args.page c.requires.own)
