use Rattle.overlay_memory.specs.Translated.{keeps_flushed}
use Rattle.overlay_memory.specs.View.{state_of}
use Rattle.overlay_memory.specs.CountLaws.{has_own_is}
use Rattle.overlay_memory.specs.Joined.{page_low}
use Rattle.speculation.proofs.DiscardWalk.{discards_it, discards_none}
use Rattle.speculation.proofs.discarding.discard_one.Goals as goal

pub returns-then-len-eq0-clause-discarded : goal.returns-then-len-eq0-clause-discarded
returns-then-len-eq0-clause-discarded c =
    discards_none (state_of c.args.mem.now) c.args.space c.args.page c.len.result
    (has_own_is (state_of c.args.mem.now) c.args.space c.args.page c.lines_of.result c.len.result c.lines_of.ensures.own c.len.ensures.count) c.if-len-eq0.true

pub returns-then-len-eq0-clause-low : goal.returns-then-len-eq0-clause-low
returns-then-len-eq0-clause-low c = page_low c.args.mem.now.pages c.lines_of.ensures.joined c.args.space c.args.page c.requires.there

pub returns-clause-discarded : goal.returns-clause-discarded
returns-clause-discarded c =
    discards_it (state_of c.args.mem.now) (state_of c.discard_page.new.self) c.args.space c.args.page c.len.result
    (has_own_is (state_of c.args.mem.now) c.args.space c.args.page c.lines_of.result c.len.result c.lines_of.ensures.own c.len.ensures.count) c.if-len-eq0.false c.discard_page.ensures.state

pub returns-clause-low : goal.returns-clause-low
returns-clause-low c = page_low c.args.mem.now.pages c.lines_of.ensures.joined c.args.space c.args.page c.requires.there

pub returns-clause-lists : goal.returns-clause-lists
returns-clause-lists c = keeps_flushed c.args.space c.args.mem.now c.discard_page.new.self c.discard_page.ensures.translations
