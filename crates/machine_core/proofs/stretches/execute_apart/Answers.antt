use Rattle.std.proofs.Common.{ap, refl, subst, sym, ◌∙◌}
use Rattle.machine_core.specs.Ahead.{guest_ahead}
use Rattle.machine_core.specs.Executions.{Comes}
use Rattle.machine_core.specs.Held.{Makes}
use Rattle.machine_core.specs.Kept.{guest_lent}
use Rattle.machine_core.specs.Turns.{AreLikeGuests, executed, state_left}
use Rattle.machine_core.specs.declared.hand.Hand.{Hand}
use Rattle.machine_core.specs.declared.process.Process.{Process}
use Rattle.machine_core.proofs.Owing.{owing}
use Rattle.machine_core.proofs.Staying.{stays_owed}
use Rattle.machine_core.proofs.Stepping.{first_comes}
use Rattle.machine_core.proofs.Constants.{truth}
use Rattle.machine_core.proofs.stretches.execute_apart.Goals as goal

pub returns : goal.returns
returns g c =
    let view = c.args.view.now in
    let old = c.args.process.now in
    let came = c.execute-outcome in
    let k = view.hand.owed in
    let all = owing (truth g.row.EXTENSION) k k old.regs.pc view came.new.mem old came.new.regs came.result came.ensures.done c.requires.runs (Makes.AllAsked refl came.ensures.made) in
    let lost = c.lose.ensures in
    let owed = ap (λ (h : Hand). h.owed) lost ∙ stays_owed view came.new.mem all.stays in
    let next = executed view.space (guest_ahead k (guest_lent (truth g.row.EXTENSION) view old)) in
    let moved = subst (λ n. AreLikeGuests (guest_ahead n (guest_lent (truth g.row.EXTENSION) came.new.mem c.note.new.process)) next) (sym owed)
    (subst (λ (q : Process). AreLikeGuests (guest_ahead k (guest_lent (truth g.row.EXTENSION) came.new.mem q)) next) (sym c.note.ensures) all.after_is) in
    record {
      loan = all.loan;
      space = all.space;
      came = λ stops most some.
          subst (λ n. Comes stops view.space most (guest_ahead k (guest_lent (truth g.row.EXTENSION) view old)) n came.result (guest_ahead c.lose.new.self.owed (guest_lent (truth g.row.EXTENSION) came.new.mem c.note.new.process)))
          (sym c.steps_in.ensures)
          (first_comes stops view.space came.result most (guest_ahead k (guest_lent (truth g.row.EXTENSION) view old)) (guest_ahead c.lose.new.self.owed (guest_lent (truth g.row.EXTENSION) came.new.mem c.note.new.process)) some
          all.outcome_is moved);
      none = ap (λ (h : Hand). h.known) lost;
      owed = owed;
      steps = c.steps_in.ensures;
      running = λ stepped. ap (λ (q : Process). q.state) c.note.ensures ∙ ap (λ o. state_left o old.state) stepped ∙ c.requires.runs;
      ready = record { there = came.ensures.ready.there; none_awaits = came.ensures.ready.none_awaits };
      saved = ap (λ (q : Process). q.saved) c.note.ensures;
      beside = all.beside;
    }
