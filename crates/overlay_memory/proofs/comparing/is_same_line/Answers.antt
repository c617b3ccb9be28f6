use Rattle.overlay_pages.specs.View.{state_of}
use Rattle.overlay_memory.proofs.Compared.{HasLine, has_line_there, seen_same, told_same}
use Rattle.overlay_memory.proofs.comparing.is_same_line.Goals as goal

pub line_at-requires : goal.line_at-requires
line_at-requires c = record { found = (c.line.ensures c.args.pages.now c.requires.found).is }

pub line_at-requires-2 : goal.line_at-requires-2
line_at-requires-2 c = record { found = (c.line-2.ensures c.args.pages.now c.requires.theirs).is }

-- what stands in both lines
mine : (c : goal.After-eq) → HasLine (state_of c.args.pages.now) c.args.page.now.space c.args.page.now.page c.args.line c.line_at.result.now
mine c =
    has_line_there c.args.pages.now c.args.page.now.space c.args.page.now.page c.args.line c.line.result c.line_at.result.now
    (c.line.ensures c.args.pages.now c.requires.found) c.requires.line c.line_at.ensures.value c.line_at.ensures.bytes

theirs : (c : goal.After-eq) → HasLine (state_of c.args.pages.now) c.args.other.now.space c.args.other.now.page c.args.line c.line_at-2.result.now
theirs c =
    has_line_there c.args.pages.now c.args.other.now.space c.args.other.now.page c.args.line c.line-2.result c.line_at-2.result.now
    (c.line-2.ensures c.args.pages.now c.requires.theirs) c.requires.line c.line_at-2.ensures.value c.line_at-2.ensures.bytes

pub returns-clause-same : goal.returns-clause-same
returns-clause-same c =
    told_same (state_of c.args.pages.now) c.args.page.now.space c.args.page.now.page c.args.other.now.space c.args.other.now.page c.args.line c.line_at.result.now c.line_at-2.result.now c.eq.result
    (mine c) (theirs c) c.eq.ensures

pub returns-clause-seen : goal.returns-clause-seen
returns-clause-seen c =
    seen_same (state_of c.args.pages.now) c.args.page.now.space c.args.page.now.page c.args.other.now.space c.args.other.now.page c.args.line c.line_at.result.now c.line_at-2.result.now c.eq.result
    (mine c) (theirs c) c.eq.ensures
