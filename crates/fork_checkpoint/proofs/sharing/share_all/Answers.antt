use Rattle.std.proofs.Common.{refl, ◌<◌, ap, ◌∙◌, arith}
use Rattle.sizes.specs.declared.TheConstants.{PAGE_END}
use Rattle.overlay_pages.specs.State.{State}
use Rattle.overlay_memory.specs.View.{state_of}
use Rattle.space_maps.specs.Spaces.{holds_space}
use Rattle.fork_checkpoint.proofs.Shares.{partly_none, to_there}
use Rattle.fork_checkpoint.proofs.Runs.{HasReached, bare_until, from_there, reached, reached_all}
use Rattle.fork_checkpoint.proofs.sharing.share_all.Goals as goal

abbrev turn : (c : goal.After-share_page-arg-1) → HasReached (state_of c.args.mem.now) c.args.from c.args.to c.requires.differ (state_of c.share_bare.new.self) c.in-Some.page
turn c =
    reached (state_of c.args.mem.now) c.args.from c.args.to c.requires.differ (state_of c.sharing.mem) (state_of c.share_bare.new.self) c.sharing.at c.in-Some.page c.sharing.invariant.shared
    c.in-Some.ensures.next c.share_bare.ensures.shared c.share_bare.ensures.none

pub sharing-init : goal.sharing-init
sharing-init c = record {
  shared = partly_none (state_of c.args.mem.now) c.args.from c.args.to c.requires.differ c.requires.empty c.requires.awaits c.requires.space;
  low = omega arith;
  lists = refl;
}

pub next_overlaid-requires : goal.next_overlaid-requires
next_overlaid-requires c =
    record { there = from_there (state_of c.args.mem.now) c.args.from c.args.to c.requires.differ (state_of c.sharing.mem) c.sharing.at c.sharing.invariant.shared c.requires.there }

pub share_bare-requires-clause-space : goal.share_bare-requires-clause-space
share_bare-requires-clause-space c =
    ap (λ (u : State). holds_space u c.args.to) c.sharing.invariant.shared ∙ to_there (state_of c.args.mem.now) c.args.from c.args.to c.requires.differ c.sharing.at

pub share_bare-requires-clause-bare : goal.share_bare-requires-clause-bare
share_bare-requires-clause-bare c =
    bare_until (state_of c.args.mem.now) c.args.from c.args.to c.requires.differ (state_of c.sharing.mem) c.in-Some.page c.sharing.at c.sharing.invariant.shared c.in-Some.ensures.next.2

pub share_page-requires-clause-there : goal.share_page-requires-clause-there
share_page-requires-clause-there c = (turn c).there

pub share_page-requires-clause-settled : goal.share_page-requires-clause-settled
share_page-requires-clause-settled c = (turn c).step.mark ∙ c.requires.unmarked

pub share_page-requires-clause-space : goal.share_page-requires-clause-space
share_page-requires-clause-space c = (turn c).step.space

pub share_page-requires-clause-least : goal.share_page-requires-clause-least
share_page-requires-clause-least c = (turn c).step.least

pub share_page-requires-clause-frame : goal.share_page-requires-clause-frame
share_page-requires-clause-frame c = (turn c).step.frame

pub share_page-requires-clause-room : goal.share_page-requires-clause-room
share_page-requires-clause-room c = (turn c).step.room c.requires.fits

pub overflow_add-at : goal.overflow_add-at
overflow_add-at c =
    let t = reached (state_of c.args.mem.now) c.args.from c.args.to c.requires.differ (state_of c.sharing.mem) (state_of c.share_bare.new.self) c.sharing.at c.in-Some.page c.sharing.invariant.shared
    c.in-Some.ensures.next c.share_bare.ensures.shared c.share_bare.ensures.none in
    let low : c.in-Some.page < PAGE_END = t.step.low c.requires.low in
    omega (arith, low)

pub sharing-smaller : goal.sharing-smaller
sharing-smaller c =
    let t = reached (state_of c.args.mem.now) c.args.from c.args.to c.requires.differ (state_of c.sharing.mem) (state_of c.share_bare.new.self) c.sharing.at c.in-Some.page c.sharing.invariant.shared
    c.in-Some.ensures.next c.share_bare.ensures.shared c.share_bare.ensures.none in
    let low : c.in-Some.page < PAGE_END = t.step.low c.requires.low in
    let ahead = c.in-Some.ensures.next.0 in
    omega (arith, low, ahead)

pub sharing-preserved : goal.sharing-preserved
sharing-preserved c =
    let t = reached (state_of c.args.mem.now) c.args.from c.args.to c.requires.differ (state_of c.sharing.mem) (state_of c.share_bare.new.self) c.sharing.at c.in-Some.page c.sharing.invariant.shared
    c.in-Some.ensures.next c.share_bare.ensures.shared c.share_bare.ensures.none in
    let low : c.in-Some.page < PAGE_END = t.step.low c.requires.low in record {
      shared = t.step.shared (state_of c.share_page.new.self) c.share_page.ensures.state;
      low = omega (arith, low);
      lists = c.share_page.ensures.translations ∙ c.share_bare.ensures.translations ∙ c.sharing.invariant.lists;
    }

pub share_bare-requires-2-clause-space : goal.share_bare-requires-2-clause-space
share_bare-requires-2-clause-space c =
    ap (λ (u : State). holds_space u c.args.to) c.sharing.invariant.shared ∙ to_there (state_of c.args.mem.now) c.args.from c.args.to c.requires.differ c.sharing.at

pub share_bare-requires-2-clause-bare : goal.share_bare-requires-2-clause-bare
share_bare-requires-2-clause-bare c =
    bare_until (state_of c.args.mem.now) c.args.from c.args.to c.requires.differ (state_of c.sharing.mem) PAGE_END c.sharing.at c.sharing.invariant.shared
    (λ q le lt. c.in_default.ensures.next q le)

pub returns-clause-shared : goal.returns-clause-shared
returns-clause-shared c =
    reached_all (state_of c.args.mem.now) c.args.from c.args.to c.requires.differ (state_of c.sharing.mem) (state_of c.share_bare-2.new.self) c.sharing.at c.sharing.invariant.shared
    c.sharing.invariant.low c.requires.low c.share_bare-2.ensures.shared c.share_bare-2.ensures.none

pub returns-clause-translations : goal.returns-clause-translations
returns-clause-translations c = c.share_bare-2.ensures.translations ∙ c.sharing.invariant.lists
