use Rattle.std.proofs.Common.{◌+◌, ◌<◌, ap, arith, sym, subst, ◌∙◌, length}
use Rattle.overlay_bits.specs.Lines.{with_line}
use Rattle.overlay_pages.specs.State.{memory_of}
use Rattle.overlay_pages.specs.View.{state_of}
use Rattle.overlay_memory.specs.Rebased.{TellsApart}
use Rattle.overlay_memory.proofs.Compared.{IsComparing, all_alike, all_more, all_told, apart_is, found_own, none_compared, one_alike, one_apart}
use Rattle.overlay_memory.proofs.comparing.lines_apart.Goals as goal
use Rattle.overlay_memory.proofs.comparing.lines_apart.Goals.{then-not-is_same_line+else-len-most, else-not-is_same_line}
use Rattle.space_maps.specs.Spaces.{page_in}

pub comparing-init : goal.comparing-init
comparing-init c =
    none_compared c.args.other.now.own (memory_of (state_of c.args.pages.now) c.args.page.now.space) c.args.page.now.page (memory_of (state_of c.args.pages.now) c.args.other.now.space) c.args.other.now.page
    (page_in (state_of c.args.pages.now) c.args.page.now.space c.args.page.now.page) (page_in (state_of c.args.pages.now) c.args.other.now.space c.args.other.now.page) c.len-count.ensures.are

pub comparing-preserved : goal.comparing-preserved
comparing-preserved c = elim c.if-not-is_same_line.branch [
  | then-not-is_same_line+else-len-most w ↦
      subst (λ l. IsComparing c.args.other.now.own l (memory_of (state_of c.args.pages.now) c.args.page.now.space) c.args.page.now.page
      (memory_of (state_of c.args.pages.now) c.args.other.now.space) c.args.other.now.page (c.comparing.line + 1)
      (page_in (state_of c.args.pages.now) c.args.page.now.space c.args.page.now.page) (page_in (state_of c.args.pages.now) c.args.other.now.space c.args.other.now.page))
      (sym (w.apart-is ∙ w.with-apart.ensures.lines))
      (one_apart c.args.other.now.own (memory_of (state_of c.args.pages.now) c.args.page.now.space) c.args.page.now.page (memory_of (state_of c.args.pages.now) c.args.other.now.space) c.args.other.now.page
      (page_in (state_of c.args.pages.now) c.args.page.now.space c.args.page.now.page) (page_in (state_of c.args.pages.now) c.args.other.now.space c.args.other.now.page)
      c.comparing.apart c.comparing.line c.comparing.invariant c.comparing-test.true (sym c.is_same_line.ensures.same ∙ w.if-not-is_same_line.true))
  | else-not-is_same_line w ↦
      subst (λ l. IsComparing c.args.other.now.own l (memory_of (state_of c.args.pages.now) c.args.page.now.space) c.args.page.now.page
      (memory_of (state_of c.args.pages.now) c.args.other.now.space) c.args.other.now.page (c.comparing.line + 1)
      (page_in (state_of c.args.pages.now) c.args.page.now.space c.args.page.now.page) (page_in (state_of c.args.pages.now) c.args.other.now.space c.args.other.now.page))
      (sym w.apart-is)
      (one_alike c.args.other.now.own (memory_of (state_of c.args.pages.now) c.args.page.now.space) c.args.page.now.page (memory_of (state_of c.args.pages.now) c.args.other.now.space) c.args.other.now.page
      (page_in (state_of c.args.pages.now) c.args.page.now.space c.args.page.now.page) (page_in (state_of c.args.pages.now) c.args.other.now.space c.args.other.now.page)
      c.comparing.apart c.comparing.line c.comparing.invariant c.comparing-test.true (sym c.is_same_line.ensures.same ∙ w.if-not-is_same_line.false)
      (c.is_same_line.ensures.seen w.if-not-is_same_line.false))
]

pub returns-then-len-most-clause-apart : goal.returns-then-len-most-clause-apart
returns-then-len-most-clause-apart c =
    let line = c.with-apart.ensures.lines in
    let more : c.args.most < length (with_line c.comparing.apart c.comparing.line) = omega (arith, c.if-len-most.true, c.len.ensures.count, ap length line) in
    subst (λ l. TellsApart l c.args.most c.with-apart.result) (apart_is c.args.pages.now c.args.other.now c.requires.theirs c.args.page.now.space c.args.page.now.page)
    (subst (TellsApart _ c.args.most) (sym line)
    (all_more c.args.other.now.own (memory_of (state_of c.args.pages.now) c.args.page.now.space) c.args.page.now.page (memory_of (state_of c.args.pages.now) c.args.other.now.space) c.args.other.now.page
    (page_in (state_of c.args.pages.now) c.args.page.now.space c.args.page.now.page) (page_in (state_of c.args.pages.now) c.args.other.now.space c.args.other.now.page)
    (with_line c.comparing.apart c.comparing.line) (c.comparing.line + 1)
    (one_apart c.args.other.now.own (memory_of (state_of c.args.pages.now) c.args.page.now.space) c.args.page.now.page (memory_of (state_of c.args.pages.now) c.args.other.now.space) c.args.other.now.page
    (page_in (state_of c.args.pages.now) c.args.page.now.space c.args.page.now.page) (page_in (state_of c.args.pages.now) c.args.other.now.space c.args.other.now.page)
    c.comparing.apart c.comparing.line c.comparing.invariant c.comparing-test.true (sym c.is_same_line.ensures.same ∙ c.if-not-is_same_line.true)) c.args.most more))

pub returns-clause-apart : goal.returns-clause-apart
returns-clause-apart c =
    subst (λ l. TellsApart l c.args.most c.comparing.apart) (apart_is c.args.pages.now c.args.other.now c.requires.theirs c.args.page.now.space c.args.page.now.page)
    (all_told c.args.other.now.own (memory_of (state_of c.args.pages.now) c.args.page.now.space) c.args.page.now.page (memory_of (state_of c.args.pages.now) c.args.other.now.space) c.args.other.now.page
    (page_in (state_of c.args.pages.now) c.args.page.now.space c.args.page.now.page) (page_in (state_of c.args.pages.now) c.args.other.now.space c.args.other.now.page)
    c.comparing.apart c.comparing.line c.comparing.invariant (omega (arith, c.comparing.auto.line-end, c.comparing-test.false)) c.args.most)

pub returns-clause-alike : goal.returns-clause-alike
returns-clause-alike c = λ few x y at_x at_y.
    all_alike c.args.other.now.own (memory_of (state_of c.args.pages.now) c.args.page.now.space) c.args.page.now.page (memory_of (state_of c.args.pages.now) c.args.other.now.space) c.args.other.now.page
    (page_in (state_of c.args.pages.now) c.args.page.now.space c.args.page.now.page) (page_in (state_of c.args.pages.now) c.args.other.now.space c.args.other.now.page)
    c.comparing.apart c.comparing.line c.comparing.invariant (omega (arith, c.comparing.auto.line-end, c.comparing-test.false)) x y at_x at_y
    (found_own c.args.pages.now c.args.other.now c.requires.theirs y at_y)
