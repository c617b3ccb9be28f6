use Rattle.std.proofs.Common.{ap, sym, ◌∙◌}
use Rattle.overlay_pages.specs.View.{state_of}
use Rattle.overlay_memory.proofs.Noting.{bare_noted, brought_true, unbrought_true}
use Rattle.overlay_memory.proofs.translating.bring_lines.Goals as goal
use Rattle.translation_cache.specs.Bare.{bare}

pub returns-then-in_frame-clause-held : goal.returns-then-in_frame-clause-held
returns-then-in_frame-clause-held c =
    unbrought_true (state_of c.args.pages.now) (state_of c.bring.new.self) c.args.space c.args.page c.args.lines c.args.cache.now
    (sym c.writes_frame-in_frame.ensures.frame ∙ c.if-in_frame.true) c.bring.ensures c.requires.held

pub returns-clause-held : goal.returns-clause-held
returns-clause-held c =
    brought_true c.args.pages.now c.args.space c.args.page c.args.lines (state_of c.bring.new.self) c.args.cache.now c.note_lines.new.cache
    c.writes_frame-in_frame.ensures.joined c.requires.there (sym c.writes_frame-in_frame.ensures.frame ∙ c.if-in_frame.false) c.note_lines.ensures.are c.bring.ensures
    c.note_lines.ensures.formed c.note_lines.ensures.noted c.requires.held

pub returns-clause-lists : goal.returns-clause-lists
returns-clause-lists c = ap bare c.note_lines.ensures.noted ∙ bare_noted c.args.space c.args.page c.args.cache.now c.args.lines
