use Rattle.std.proofs.Common.{◌∙◌, sym}
use Rattle.overlay_memory.specs.Translated.{keeps_flushed}
use Rattle.overlay_memory.specs.View.{state_of}
use Rattle.overlay_memory.specs.CountLaws.{has_own_is}
use Rattle.overlay_memory.specs.Joined.{page_low}
use Rattle.promotion.proofs.CommitWalk.{commits_it, commits_no_other, commits_none}
use Rattle.promotion.proofs.settling.commit_one.Goals as goal

pub returns-then-len-eq0-clause-committed : goal.returns-then-len-eq0-clause-committed
returns-then-len-eq0-clause-committed c =
    commits_none (state_of c.args.mem.now) c.args.space c.args.page c.len.result
    (has_own_is (state_of c.args.mem.now) c.args.space c.args.page c.lines_of.result c.len.result c.lines_of.ensures.own c.len.ensures.count) c.if-len-eq0.true

pub returns-then-len-eq0-clause-low : goal.returns-then-len-eq0-clause-low
returns-then-len-eq0-clause-low c = page_low c.args.mem.now.pages c.lines_of.ensures.joined c.args.space c.args.page c.requires.there

pub returns-then-not-is_alone-clause-committed : goal.returns-then-not-is_alone-clause-committed
returns-then-not-is_alone-clause-committed c =
    commits_no_other (state_of c.args.mem.now) c.args.space c.args.page (sym c.is_alone.ensures ∙ c.if-not-is_alone.true)

pub returns-then-not-is_alone-clause-low : goal.returns-then-not-is_alone-clause-low
returns-then-not-is_alone-clause-low c = page_low c.args.mem.now.pages c.lines_of.ensures.joined c.args.space c.args.page c.requires.there

pub returns-clause-committed : goal.returns-clause-committed
returns-clause-committed c =
    commits_it (state_of c.args.mem.now) (state_of c.commit_page.new.self) c.args.space c.args.page c.len.result
    (has_own_is (state_of c.args.mem.now) c.args.space c.args.page c.lines_of.result c.len.result c.lines_of.ensures.own c.len.ensures.count) c.if-len-eq0.false
    (sym c.is_alone.ensures ∙ c.if-not-is_alone.false) c.commit_page.ensures.state

pub returns-clause-low : goal.returns-clause-low
returns-clause-low c = page_low c.args.mem.now.pages c.lines_of.ensures.joined c.args.space c.args.page c.requires.there

pub returns-clause-lists : goal.returns-clause-lists
returns-clause-lists c = keeps_flushed c.args.space c.args.mem.now c.commit_page.new.self c.commit_page.ensures.translations
