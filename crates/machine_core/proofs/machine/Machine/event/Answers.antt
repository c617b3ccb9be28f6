use Rattle.std.proofs.Common.{◌∙◌}
use Rattle.rv_execute.specs.declared.outcome.Outcome.TheVariants.{Fault, Full, Stepped}
use Rattle.ovl_io.specs.declared.turn.Turn.TheVariants as turn
use Rattle.machine_core.specs.Ample.{amply_taken}
use Rattle.machine_core.proofs.Eventing.{asked_answers, asked_stands, law_at, still_asks, turn_answers, turn_stands}
use Rattle.machine_core.proofs.machine.Machine.event.Goals as goal

pub answer_whole-requires-clause-runs : goal.answer_whole-requires-clause-runs
answer_whole-requires-clause-runs c =
    still_asks c.args.p c.args.self.now c.execute.new.self c.requires.runs c.in-Asked.ensures.stands c.in-Asked.ensures.answers

pub answer_whole-requires-clause-there : goal.answer_whole-requires-clause-there
answer_whole-requires-clause-there c = c.in-Asked.ensures.places.spaces c.args.p ∙ c.requires.there

pub answer_whole-requires-clause-none_awaits : goal.answer_whole-requires-clause-none_awaits
answer_whole-requires-clause-none_awaits c = c.in-Asked.ensures.places.awaiting c.args.p ∙ c.requires.none_awaits

pub returns-in-Asked-clause-answers : goal.returns-in-Asked-clause-answers
returns-in-Asked-clause-answers c =
    asked_answers c.args.p c.args.self.now c.execute.new.self c.requires.runs c.in-Asked.ensures.stands c.in-Asked.ensures.answers c.answer_whole.result c.answer_whole.ensures.answers

pub returns-in-Asked-clause-stands : goal.returns-in-Asked-clause-stands
returns-in-Asked-clause-stands c =
    asked_stands c.args.p c.args.self.now c.execute.new.self c.requires.runs c.in-Asked.ensures.stands c.in-Asked.ensures.answers c.answer_whole.new.self c.answer_whole.ensures.stands

pub returns-in-Asked-clause-ample : goal.returns-in-Asked-clause-ample
returns-in-Asked-clause-ample c = amply_taken c.args.p c.args.self.now c.answer_whole.result (returns-in-Asked-clause-answers c)

pub returns-in-Stepped-clause-answers : goal.returns-in-Stepped-clause-answers
returns-in-Stepped-clause-answers c =
    turn_answers c.args.p c.args.self.now c.execute.new.self c.requires.runs c.in-Stepped.ensures.stands turn.Stepped
    (law_at c.args.p c.args.self.now c.execute.new.self c.requires.runs c.in-Stepped.ensures.stands Stepped c.in-Stepped.ensures.answers)

pub returns-in-Stepped-clause-stands : goal.returns-in-Stepped-clause-stands
returns-in-Stepped-clause-stands c =
    turn_stands c.args.p c.args.self.now c.execute.new.self c.requires.runs c.in-Stepped.ensures.stands turn.Stepped
    (law_at c.args.p c.args.self.now c.execute.new.self c.requires.runs c.in-Stepped.ensures.stands Stepped c.in-Stepped.ensures.answers)

pub returns-in-Stepped-clause-ample : goal.returns-in-Stepped-clause-ample
returns-in-Stepped-clause-ample c = amply_taken c.args.p c.args.self.now turn.Stepped (returns-in-Stepped-clause-answers c)

pub returns-in-Fault-clause-answers : goal.returns-in-Fault-clause-answers
returns-in-Fault-clause-answers c =
    turn_answers c.args.p c.args.self.now c.execute.new.self c.requires.runs c.in-Fault.ensures.stands (turn.Faulted c.in-Fault.kind c.in-Fault.address)
    (law_at c.args.p c.args.self.now c.execute.new.self c.requires.runs c.in-Fault.ensures.stands (Fault c.in-Fault.kind c.in-Fault.address) c.in-Fault.ensures.answers)

pub returns-in-Fault-clause-stands : goal.returns-in-Fault-clause-stands
returns-in-Fault-clause-stands c =
    turn_stands c.args.p c.args.self.now c.execute.new.self c.requires.runs c.in-Fault.ensures.stands (turn.Faulted c.in-Fault.kind c.in-Fault.address)
    (law_at c.args.p c.args.self.now c.execute.new.self c.requires.runs c.in-Fault.ensures.stands (Fault c.in-Fault.kind c.in-Fault.address) c.in-Fault.ensures.answers)

pub returns-in-Fault-clause-ample : goal.returns-in-Fault-clause-ample
returns-in-Fault-clause-ample c = amply_taken c.args.p c.args.self.now (turn.Faulted c.in-Fault.kind c.in-Fault.address) (returns-in-Fault-clause-answers c)

pub returns-in-Full-clause-answers : goal.returns-in-Full-clause-answers
returns-in-Full-clause-answers c =
    turn_answers c.args.p c.args.self.now c.execute.new.self c.requires.runs c.in-Full.ensures.stands (turn.Full c.in-Full.units c.in-Full.limit)
    (law_at c.args.p c.args.self.now c.execute.new.self c.requires.runs c.in-Full.ensures.stands (Full c.in-Full.units c.in-Full.limit) c.in-Full.ensures.answers)

pub returns-in-Full-clause-stands : goal.returns-in-Full-clause-stands
returns-in-Full-clause-stands c =
    turn_stands c.args.p c.args.self.now c.execute.new.self c.requires.runs c.in-Full.ensures.stands (turn.Full c.in-Full.units c.in-Full.limit)
    (law_at c.args.p c.args.self.now c.execute.new.self c.requires.runs c.in-Full.ensures.stands (Full c.in-Full.units c.in-Full.limit) c.in-Full.ensures.answers)

pub returns-in-Full-clause-ample : goal.returns-in-Full-clause-ample
returns-in-Full-clause-ample c = amply_taken c.args.p c.args.self.now (turn.Full c.in-Full.units c.in-Full.limit) (returns-in-Full-clause-answers c)
