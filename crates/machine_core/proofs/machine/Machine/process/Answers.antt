use Rattle.std.proofs.Common.{ap, ◌∙◌}
use Rattle.std.specs.Option.{option_copied}
use Rattle.machine_core.specs.Machine.{registers_at, registers_shown, shown_at}
use Rattle.machine_core.specs.Laws.{answers}
use Rattle.machine_core.proofs.Machines.{is_shown, registers_are, registers_both, shows_both}
use Rattle.machine_core.proofs.machine.Machine.process.Goals as goal

pub returns-clause-kept : goal.returns-clause-kept
returns-clause-kept c = rw (← c.self.view_is) c.get.ensures

pub returns-clause-registers : goal.returns-clause-registers
returns-clause-registers c = ap registers_shown (returns-clause-kept c) ∙ registers_are c.args.self.now c.args.p

pub returns-clause-registers_stand : goal.returns-clause-registers_stand
returns-clause-registers_stand c =
    answers (λ state. registers_at state c.args.p) c.args.self.now (registers_shown (option_copied c.get.result)) (registers_both c.args.p) (returns-clause-registers c)

pub returns-clause-shown : goal.returns-clause-shown
returns-clause-shown c = λ agree. returns-clause-kept c ∙ is_shown c.args.self.now c.args.p agree

pub returns-clause-stands : goal.returns-clause-stands
returns-clause-stands c = λ agree.
    answers (λ state. shown_at state c.args.p) c.args.self.now (option_copied c.get.result) (shows_both c.args.p) (returns-clause-shown c agree)
