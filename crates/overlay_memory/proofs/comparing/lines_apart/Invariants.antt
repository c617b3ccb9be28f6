use Rattle.overlay_pages.specs.State.{memory_of}
use Rattle.overlay_pages.specs.View.{state_of}
use Rattle.overlay_memory.proofs.Compared.{IsComparing}
use Rattle.overlay_memory.proofs.comparing.lines_apart.Given as goal
use Rattle.space_maps.specs.Spaces.{page_in}

abbrev pub invariant-comparing : goal.invariant-comparing
invariant-comparing l =
    IsComparing l.other.own l.apart (memory_of (state_of l.pages) l.page.space) l.page.page (memory_of (state_of l.pages) l.other.space) l.other.page l.line
    (page_in (state_of l.pages) l.page.space l.page.page) (page_in (state_of l.pages) l.other.space l.other.page)
