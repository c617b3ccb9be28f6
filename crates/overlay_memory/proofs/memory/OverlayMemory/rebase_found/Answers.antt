use Rattle.std.proofs.Common.{◌≡◌, ◌≤◌, true, false, length, ap, subst, sym, ◌∙◌, refl, arith}
use Rattle.std.specs.Prelude.{is_some}
use Rattle.ledger.specs.Changes.{is_origin_here}
use Rattle.ledger.specs.Ledger.{is_alone}
use Rattle.overlay_pages.specs.Spots.{IsFoundPage}
use Rattle.overlay_pages.specs.State.{books}
use Rattle.overlay_pages.specs.View as seen
use Rattle.overlay_memory.specs.FoundLaws.{there_found}
use Rattle.overlay_memory.specs.Rebased.{HasRebased, TellsApart, apart_in}
use Rattle.overlay_memory.specs.View.{cached_view, state_of}
use Rattle.space_maps.specs.Spaces.{page_in, space_in}
use Rattle.overlay_memory.proofs.Rebasing.{has_rebased, is_away, rebased_translated, sees_frame, told_few, told_many}
use Rattle.overlay_memory.proofs.Truths.{flushed_lists, with_cache}
use Rattle.overlay_memory.proofs.Fronting.{none_known}
use Rattle.overlay_memory.proofs.memory.OverlayMemory.rebase_found.Goals as goal
use Rattle.overlay_memory.proofs.memory.OverlayMemory.rebase_found.Goals.{After-lines_apart-lines, After-flush}

-- what is asked, of the pages inside
there : (c : After-lines_apart-lines) → is_some (page_in (seen.state_of c.self.inside.pages) c.args.page.now.space c.args.page.now.page) ≡ true
there c = there_found c.self.inside.pages c.args.page.now (subst (λ m. IsFoundPage m.pages.table c.args.page.now) (sym c.self.view_is) c.requires.found)

theirs : (c : After-lines_apart-lines) → is_some (page_in (seen.state_of c.self.inside.pages) c.args.theirs.now.space c.args.theirs.now.page) ≡ true
theirs c = there_found c.self.inside.pages c.args.theirs.now (subst (λ m. IsFoundPage m.pages.table c.args.theirs.now) (sym c.self.view_is) c.requires.theirs)

alone : (c : After-lines_apart-lines) → is_alone (books (seen.state_of c.self.inside.pages)) c.args.page.now.space c.args.page.now.page ≡ true
alone c = ap (λ m. is_alone (books (state_of m)) c.args.page.now.space c.args.page.now.page) c.self.view_is ∙ c.requires.asked.apart.alone

away : (c : After-lines_apart-lines) → is_origin_here (books (seen.state_of c.self.inside.pages)) c.args.page.now.space c.args.theirs.now.space c.args.theirs.now.page ≡ false
away c = ap (λ m. is_origin_here (books (state_of m)) c.args.page.now.space c.args.theirs.now.space c.args.theirs.now.page) c.self.view_is ∙ c.requires.asked.apart.away

pub lines_apart-lines-requires-clause-found : goal.lines_apart-lines-requires-clause-found
lines_apart-lines-requires-clause-found c = subst (λ m. IsFoundPage m.pages.table c.args.page.now) (sym c.self.view_is) c.requires.found

pub lines_apart-lines-requires-clause-theirs : goal.lines_apart-lines-requires-clause-theirs
lines_apart-lines-requires-clause-theirs c = subst (λ m. IsFoundPage m.pages.table c.args.theirs.now) (sym c.self.view_is) c.requires.theirs

pub rebase_found-requires-clause-found : goal.rebase_found-requires-clause-found
rebase_found-requires-clause-found c = subst (λ m. IsFoundPage m.pages.table c.args.page.now) (sym c.self.view_is) c.requires.found

pub rebase_found-requires-clause-theirs : goal.rebase_found-requires-clause-theirs
rebase_found-requires-clause-theirs c = subst (λ m. IsFoundPage m.pages.table c.args.theirs.now) (sym c.self.view_is) c.requires.theirs

pub returns-then-len-gt-MOST_OWN : goal.returns-then-len-gt-MOST_OWN
returns-then-len-gt-MOST_OWN c =
    let told = subst (λ m. TellsApart (apart_in (state_of m) c.args.page.now.space c.args.page.now.page c.args.theirs.now.space c.args.theirs.now.page) c.args.most c.lines_apart-lines.result) c.self.view_is c.lines_apart-lines.ensures.apart in
    let many = told_many (apart_in (state_of c.args.self.now) c.args.page.now.space c.args.page.now.page c.args.theirs.now.space c.args.theirs.now.page) c.lines_apart-lines.result c.args.most c.len-then-len-gt-MOST_OWN.result told
    c.len-then-len-gt-MOST_OWN.ensures.count (omega (arith, c.if-len-gt-MOST_OWN.true, c.len.ensures.count, c.len-then-len-gt-MOST_OWN.ensures.count)) c.requires.most in
    (many.0, many.1, omega (arith, c.len.ensures.are.few, c.len.ensures.count, c.len-then-len-gt-MOST_OWN.ensures.count), refl)

pub rebase_found-requires-clause-away : goal.rebase_found-requires-clause-away
rebase_found-requires-clause-away c =
    let at = (goal.at.rebase_found-requires-clause-away c).After-lines_apart-lines in
    is_away (seen.state_of c.self.inside.pages) c.args.page.now.space c.args.page.now.page c.args.theirs.now.space c.args.theirs.now.page (there at) (theirs at) (alone at) (away at)

pub rebase_found-requires-clause-sees : goal.rebase_found-requires-clause-sees
rebase_found-requires-clause-sees c = λ x y at_x at_y.
    sees_frame c.self.inside.pages c.args.theirs.now.space c.args.theirs.now.page c.lines_apart-lines.result x y at_y
    (c.lines_apart-lines.ensures.alike (omega (arith, c.if-len-gt-MOST_OWN.false, c.len.ensures.count, c.requires.most)) x y at_x at_y)

-- few lines are apart, and are told
few : (c : After-flush) → length c.lines_apart-lines.result ≤ 31
few c = omega (arith, c.if-len-gt-MOST_OWN.false, c.len.ensures.count)

all : (c : After-flush) → c.lines_apart-lines.result ≡ apart_in (seen.state_of c.self.inside.pages) c.args.page.now.space c.args.page.now.page c.args.theirs.now.space c.args.theirs.now.page
all c = told_few _ c.lines_apart-lines.result c.args.most c.lines_apart-lines.ensures.apart (few c) c.requires.most

pub invariant_of-self : goal.invariant_of-self
invariant_of-self c =
    let at = (goal.at.invariant_of-self c).After-lines_apart-lines in (
      with_cache (seen.state_of c.rebase_found.new.self) _ c.flush.new.self c.flush.ensures.flushed
          (rebased_translated (seen.state_of c.self.inside.pages) c.args.page.now.space c.args.page.now.page c.args.theirs.now.space c.args.theirs.now.page (there at) (theirs at) (alone at) (away at)
          (seen.state_of c.rebase_found.new.self) c.lines_apart-lines.result c.rebase_found.ensures (few (goal.at.invariant_of-self c).After-flush) c.self.inside.cache
          (ap (λ m. (space_in (state_of m) c.args.page.now.space).awaiting) c.self.view_is ∙ c.requires.asked.none_awaits) c.self.invariant.0),
      none_known _ _ _ c.clear.ensures,
    )

pub returns : goal.returns
returns c =
    let at = (goal.at.returns c).After-lines_apart-lines in
    let flush = (goal.at.returns c).After-flush in (
      record {
        alone = c.requires.asked.apart.alone;
        away = c.requires.asked.apart.away;
        few = subst (λ m. length (apart_in (state_of m) c.args.page.now.space c.args.page.now.page c.args.theirs.now.space c.args.theirs.now.page) ≤ 31) c.self.view_is
            (subst (λ l. length l ≤ 31) (all flush) (few flush));
      },
      subst (λ m. HasRebased (state_of m) (seen.state_of c.rebase_found.new.self) c.args.page.now.space c.args.page.now.page c.args.theirs.now.space c.args.theirs.now.page) c.self.view_is
          (has_rebased (seen.state_of c.self.inside.pages) c.args.page.now.space c.args.page.now.page c.args.theirs.now.space c.args.theirs.now.page (there at) (theirs at) (alone at) (away at)
          (seen.state_of c.rebase_found.new.self) c.lines_apart-lines.result c.rebase_found.ensures (few flush) (all flush)),
      flushed_lists c.args.page.now.space (cached_view c.self.inside.pages c.self.inside.cache) c.args.self.now c.flush.new.self c.self.view_is c.flush.ensures.flushed,
    )
