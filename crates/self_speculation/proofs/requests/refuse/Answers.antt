use Rattle.std.proofs.Common.{refl, subst, sym}
use Rattle.ovl_io.specs.declared.turn.Turn.TheVariants.{Stepped}
use Rattle.machine_core.specs.declared.process.Process as declared
use Rattle.machine_core.specs.Machine.{Machine}
use Rattle.self_speculation.specs.Called.{not_done}
use Rattle.self_speculation.specs.Requests.{DoesRow, guest_at_request, whole_at}
use Rattle.self_speculation.proofs.Requesting.{refused}
use Rattle.self_speculation.proofs.requests.refuse.Goals as goal

pub returns : goal.returns
returns c =
    let old = c.args.machine.now in
    let put : declared.Process = record { regs = c.gone_on.result; state = c.args.process.state; saved = c.args.process.saved } in
    record {
      does = subst (λ (m : Machine). DoesRow c.args.p (not_done (whole_at old c.args.p c.args.process c.args.at)) (guest_at_request old c.args.p c.args.process c.args.at) old Stepped m)
          (sym c.set_process.ensures) (refused c.args.p c.args.process c.args.at old c.requires.there put refl c.gone_on.ensures refl);
    }
