use Rattle.overlay_memory.specs.Translated.{keeps_flushed}
use Rattle.overlay_memory.specs.View.{state_of}
use Rattle.overlay_memory.specs.CountLaws.{has_own_is}
use Rattle.overlay_memory.specs.Joined.{page_low}
use Rattle.promotion.proofs.CopyWalk.{copies_it, copies_none, lines_above}
use Rattle.promotion.proofs.settling.copy_one.Goals as goal

pub returns-then-len-eq0-clause-copied : goal.returns-then-len-eq0-clause-copied
returns-then-len-eq0-clause-copied c =
    copies_none (state_of c.args.mem.now) c.args.space c.args.page c.len.result
    (has_own_is (state_of c.args.mem.now) c.args.space c.args.page c.lines_of.result c.len.result c.lines_of.ensures.own c.len.ensures.count) c.if-len-eq0.true

pub returns-then-len-eq0-clause-low : goal.returns-then-len-eq0-clause-low
returns-then-len-eq0-clause-low c = page_low c.args.mem.now.pages c.lines_of.ensures.joined c.args.space c.args.page c.requires.there

pub copy_commit_page-requires-clause-shared : goal.copy_commit_page-requires-clause-shared
copy_commit_page-requires-clause-shared c =
    (c.requires.fits (lines_above (state_of c.args.mem.now) c.args.space c.args.page c.len.result
    (has_own_is (state_of c.args.mem.now) c.args.space c.args.page c.lines_of.result c.len.result c.lines_of.ensures.own c.len.ensures.count) c.if-len-eq0.false)).shared

pub copy_commit_page-requires-clause-room : goal.copy_commit_page-requires-clause-room
copy_commit_page-requires-clause-room c =
    (c.requires.fits (lines_above (state_of c.args.mem.now) c.args.space c.args.page c.len.result
    (has_own_is (state_of c.args.mem.now) c.args.space c.args.page c.lines_of.result c.len.result c.lines_of.ensures.own c.len.ensures.count) c.if-len-eq0.false)).room

pub returns-clause-copied : goal.returns-clause-copied
returns-clause-copied c =
    copies_it (state_of c.args.mem.now) (state_of c.copy_commit_page.new.self) c.args.space c.args.page c.len.result
    (has_own_is (state_of c.args.mem.now) c.args.space c.args.page c.lines_of.result c.len.result c.lines_of.ensures.own c.len.ensures.count) c.if-len-eq0.false c.copy_commit_page.ensures.copied

pub returns-clause-low : goal.returns-clause-low
returns-clause-low c = page_low c.args.mem.now.pages c.lines_of.ensures.joined c.args.space c.args.page c.requires.there

pub returns-clause-lists : goal.returns-clause-lists
returns-clause-lists c = keeps_flushed c.args.space c.args.mem.now c.copy_commit_page.new.self c.copy_commit_page.ensures.translations
