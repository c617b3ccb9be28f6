use Rattle.std.proofs.Common.{ap, refl, subst, sym, ◌∙◌}
use Rattle.ovl_io.specs.declared.turn.Turn.{Turn}
use Rattle.ovl_io.specs.declared.turn.Turn.TheVariants.{Full}
use Rattle.process_calls.specs.declared.calls.ProcessCall.TheVariants.{Speculate}
use Rattle.machine_core.specs.declared.process.Process as declared
use Rattle.machine_core.specs.Machine.{Machine, with_process_at}
use Rattle.self_speculation.specs.Called.{row_needs, row_of}
use Rattle.self_speculation.specs.Requests.{DoesRow, guest_at_request, whole_at}
use Rattle.self_speculation.proofs.Requesting.{short}
use Rattle.self_speculation.proofs.requests.wait.Goals as goal

pub returns : goal.returns
returns c = record {
  waits = λ full.
      let old = c.args.machine.now in
      let row = row_of c.args.p Speculate (whole_at old c.args.p c.args.process c.args.at) in
      let guest = guest_at_request old c.args.p c.args.process c.args.at in
      let put : declared.Process = record { regs = c.args.at; state = c.args.process.state; saved = c.args.process.saved } in
      let told = ap (λ n. Full n c.args.limit) full.needed_is ∙ ap (Full (row_needs row guest)) full.limit_is in
      subst (λ (m : Machine). DoesRow c.args.p row guest old (Full c.args.needed c.args.limit) m) (sym c.set_process.ensures)
      (subst (λ (t : Turn). DoesRow c.args.p row guest old t (with_process_at old c.args.p put)) (sym told) (short c.args.p c.args.process c.args.at old c.requires.there put refl refl refl row full.full));
}
