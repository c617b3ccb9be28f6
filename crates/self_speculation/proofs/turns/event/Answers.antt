use Rattle.std.proofs.Common.{◌∙◌}
use Rattle.rv_execute.specs.declared.outcome.Outcome.TheVariants.{Fault, Full, Stepped}
use Rattle.ovl_io.specs.declared.turn.Turn.TheVariants as turn
use Rattle.self_speculation.specs.RequestLaws.{pairs_then, places_pairs}
use Rattle.self_speculation.proofs.Eventing.{asked_answers, asked_stands, law_at, still_asks, turn_answers, turn_stands}
use Rattle.self_speculation.proofs.turns.event.Goals as goal

pub answer_whole-requires-clause-runs : goal.answer_whole-requires-clause-runs
answer_whole-requires-clause-runs c =
    still_asks c.args.calls c.args.p c.args.machine.now c.execute.new.self c.requires.runs c.in-Asked.ensures.stands c.in-Asked.ensures.answers

pub answer_whole-requires-clause-there : goal.answer_whole-requires-clause-there
answer_whole-requires-clause-there c = c.in-Asked.ensures.places.spaces c.args.p ∙ c.requires.there

pub answer_whole-requires-clause-none_awaits : goal.answer_whole-requires-clause-none_awaits
answer_whole-requires-clause-none_awaits c = c.in-Asked.ensures.places.awaiting c.args.p ∙ c.requires.none_awaits

pub answer_whole-requires-clause-kept : goal.answer_whole-requires-clause-kept
answer_whole-requires-clause-kept c = (places_pairs c.args.machine.now c.execute.new.self c.in-Asked.ensures.places).kept c.args.p c.requires.kept

pub returns-in-Asked-clause-answers : goal.returns-in-Asked-clause-answers
returns-in-Asked-clause-answers c =
    asked_answers c.args.calls c.args.p c.args.machine.now c.execute.new.self c.requires.runs c.in-Asked.ensures.stands c.in-Asked.ensures.answers c.answer_whole.result c.answer_whole.new.machine c.answer_whole.ensures.answers

pub returns-in-Asked-clause-stands : goal.returns-in-Asked-clause-stands
returns-in-Asked-clause-stands c =
    asked_stands c.args.calls c.args.p c.args.machine.now c.execute.new.self c.requires.runs c.in-Asked.ensures.stands c.in-Asked.ensures.answers c.answer_whole.result c.answer_whole.new.machine c.answer_whole.ensures.answers

pub returns-in-Asked-clause-pairs : goal.returns-in-Asked-clause-pairs
returns-in-Asked-clause-pairs c =
    pairs_then c.args.machine.now c.execute.new.self c.answer_whole.new.machine (places_pairs c.args.machine.now c.execute.new.self c.in-Asked.ensures.places) c.answer_whole.ensures.pairs

pub returns-in-Stepped-clause-answers : goal.returns-in-Stepped-clause-answers
returns-in-Stepped-clause-answers c =
    turn_answers c.args.calls c.args.p c.args.machine.now c.execute.new.self c.requires.runs c.in-Stepped.ensures.stands turn.Stepped
    (law_at c.args.calls c.args.p c.args.machine.now c.execute.new.self c.requires.runs c.in-Stepped.ensures.stands Stepped c.in-Stepped.ensures.answers)

pub returns-in-Stepped-clause-stands : goal.returns-in-Stepped-clause-stands
returns-in-Stepped-clause-stands c =
    turn_stands c.args.calls c.args.p c.args.machine.now c.execute.new.self c.requires.runs c.in-Stepped.ensures.stands turn.Stepped
    (law_at c.args.calls c.args.p c.args.machine.now c.execute.new.self c.requires.runs c.in-Stepped.ensures.stands Stepped c.in-Stepped.ensures.answers)

pub returns-in-Stepped-clause-pairs : goal.returns-in-Stepped-clause-pairs
returns-in-Stepped-clause-pairs c = places_pairs c.args.machine.now c.execute.new.self c.in-Stepped.ensures.places

pub returns-in-Fault-clause-answers : goal.returns-in-Fault-clause-answers
returns-in-Fault-clause-answers c =
    turn_answers c.args.calls c.args.p c.args.machine.now c.execute.new.self c.requires.runs c.in-Fault.ensures.stands (turn.Faulted c.in-Fault.kind c.in-Fault.address)
    (law_at c.args.calls c.args.p c.args.machine.now c.execute.new.self c.requires.runs c.in-Fault.ensures.stands (Fault c.in-Fault.kind c.in-Fault.address) c.in-Fault.ensures.answers)

pub returns-in-Fault-clause-stands : goal.returns-in-Fault-clause-stands
returns-in-Fault-clause-stands c =
    turn_stands c.args.calls c.args.p c.args.machine.now c.execute.new.self c.requires.runs c.in-Fault.ensures.stands (turn.Faulted c.in-Fault.kind c.in-Fault.address)
    (law_at c.args.calls c.args.p c.args.machine.now c.execute.new.self c.requires.runs c.in-Fault.ensures.stands (Fault c.in-Fault.kind c.in-Fault.address) c.in-Fault.ensures.answers)

pub returns-in-Fault-clause-pairs : goal.returns-in-Fault-clause-pairs
returns-in-Fault-clause-pairs c = places_pairs c.args.machine.now c.execute.new.self c.in-Fault.ensures.places

pub returns-in-Full-clause-answers : goal.returns-in-Full-clause-answers
returns-in-Full-clause-answers c =
    turn_answers c.args.calls c.args.p c.args.machine.now c.execute.new.self c.requires.runs c.in-Full.ensures.stands (turn.Full c.in-Full.units c.in-Full.limit)
    (law_at c.args.calls c.args.p c.args.machine.now c.execute.new.self c.requires.runs c.in-Full.ensures.stands (Full c.in-Full.units c.in-Full.limit) c.in-Full.ensures.answers)

pub returns-in-Full-clause-stands : goal.returns-in-Full-clause-stands
returns-in-Full-clause-stands c =
    turn_stands c.args.calls c.args.p c.args.machine.now c.execute.new.self c.requires.runs c.in-Full.ensures.stands (turn.Full c.in-Full.units c.in-Full.limit)
    (law_at c.args.calls c.args.p c.args.machine.now c.execute.new.self c.requires.runs c.in-Full.ensures.stands (Full c.in-Full.units c.in-Full.limit) c.in-Full.ensures.answers)

pub returns-in-Full-clause-pairs : goal.returns-in-Full-clause-pairs
returns-in-Full-clause-pairs c = places_pairs c.args.machine.now c.execute.new.self c.in-Full.ensures.places
