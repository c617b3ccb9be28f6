use Rattle.std.proofs.Common.{◌≡◌, ◌+◌, ◌-◌, ◌/◌, sym, ap, subst, ◌∙◌, refl, arith}
use Rattle.overlay_memory.specs.View.{NoneAwaits, state_of, translations_of}
use Rattle.overlay_pages.specs.State.{State, memory_of}
use Rattle.space_maps.specs.Spaces.{holds_space}
use Rattle.machine_core.specs.Held.{IsReached}
use Rattle.overlay_pages.specs.View as seen
use Rattle.sizes.specs.declared.TheConstants.{PAGE_BYTES}
use Rattle.translation_cache.specs.Counted.{translated}
use Rattle.translation_cache.specs.CountedLaws.{IsFront}
use Rattle.machine_core.specs.Access.{lists_lent, spaces_lent}
use Rattle.machine_core.specs.Ahead.{guest_ahead}
use Rattle.machine_core.specs.Executions.{Comes}
use Rattle.machine_core.specs.Kept.{guest_lent, guest_seen}
use Rattle.machine_core.specs.declared.hand.Hand.{Hand}
use Rattle.machine_core.proofs.Constants.{truth}
use Rattle.machine_core.proofs.Fetching.{comes_fetched}
use Rattle.machine_core.proofs.stretches.bring.Goals as goal

pub returns : goal.returns
returns g c =
    let view = c.args.view.now in
    let process = c.args.process.now in
    let memory = c.bring_front.new.self in
    let done = c.if-not-bring_front.false in
    let same = ap seen.state_of c.bring_front.ensures.same in
    let owed = c.take.ensures.owed ∙ ap (λ (h : Hand). h.owed) c.lose.ensures in
    let one : view.hand.owed - 1 + 1 ≡ view.hand.owed = omega (arith, c.if-view-eq0.false) in
    record {
      ready = record {
        there = ap (λ (s : State). holds_space s view.space) same ∙ c.requires.ready.there;
        none_awaits = subst (λ (s : State). NoneAwaits s view.space) (sym same) c.requires.ready.none_awaits;
      };
      loan = refl;
      space = refl;
      spaces = same;
      owed = omega (arith, owed);
      taken = λ is. subst (IsReached c.take.new.lines memory view.space c.take.new.self) c.pc-pc.ensures (c.take.ensures.taken is);
      from = λ stops most n o next left some comes.
          subst (λ k. Comes stops view.space most (guest_ahead k (guest_lent (truth g.row.EXTENSION) view process)) n o next) one
          (comes_fetched (truth g.row.EXTENSION) stops view.space (spaces_lent view) (state_of memory) (lists_lent view) (translations_of memory) process most (view.hand.owed - 1) n o next
          (omega (arith, c.if-pc-ne0.false, c.pc-pc.ensures)) same
          (subst (λ a. translations_of memory ≡ translated view.space (memory_of (spaces_lent view) view.space) (a / PAGE_BYTES) (lists_lent view)) c.pc-pc.ensures
          (c.bring_front.ensures.translations done))
          (subst (λ a. IsFront view.space (a / PAGE_BYTES) (translations_of memory)) c.pc-pc.ensures (c.bring_front.ensures.front done)) left some
          (subst (λ k. Comes stops view.space most (guest_ahead k (guest_seen (truth g.row.EXTENSION) view.space (state_of memory) (translations_of memory) process)) n o next) owed comes));
    }
