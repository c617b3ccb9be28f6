use Rattle.std.proofs.Common.{ℕ, ◌+◌, ap, subst, sym}
use Rattle.machine_core.specs.Ahead.{guest_ahead}
use Rattle.machine_core.specs.Held.{IsOn}
use Rattle.machine_core.specs.Kept.{guest_lent}
use Rattle.machine_core.specs.Turns.{AreLikeGuests, executed}
use Rattle.machine_core.specs.declared.process.Process.{Process}
use Rattle.machine_core.proofs.Owing.{owing}
use Rattle.machine_core.proofs.Constants.{truth}
use Rattle.machine_core.proofs.stretches.execute_word.Goals as goal

pub returns : goal.returns
returns g c =
    let view = c.args.view.now in
    let old = c.args.process.now in
    let came = c.execute_decoded-outcome in
    let all = λ (n : ℕ). owing (truth g.row.EXTENSION) n (n + 1) old.regs.pc view came.new.view old came.new.regs came.result.0 came.ensures.done c.requires.runs (came.ensures.made n) in
    let one = all 0 in
    record {
      ready = came.ensures.ready;
      on = λ is. subst (λ (q : Process). IsOn view came.new.view old.regs.pc q.regs.pc came.result.0) (sym c.note.ensures) (came.ensures.on is);
      stays = one.stays;
      loan = one.loan;
      space = one.space;
      outcome = λ n. (all n).outcome_is;
      after = λ n. subst (λ (q : Process). AreLikeGuests (guest_ahead (n + 1) (guest_lent (truth g.row.EXTENSION) came.new.view q)) (executed view.space (guest_ahead n (guest_lent (truth g.row.EXTENSION) view old))))
          (sym c.note.ensures) (all n).after_is;
      saved = ap (λ (q : Process). q.saved) c.note.ensures;
      beside = one.beside;
    }
