use Rattle.std.proofs.Common.{ap, sym, ◌∙◌}
use Rattle.machine_core.specs.Kept.{room_at, runs_at}
use Rattle.machine_core.specs.Laws.{room_shown, runs_shown}
use Rattle.machine_core.specs.Machine.{Machine}
use Rattle.machine_core.proofs.machine.Machine.answer.Goals as goal

pub answer_turn-requires-clause-runs : goal.answer_turn-requires-clause-runs
answer_turn-requires-clause-runs c =
    ap (λ (m : Machine). runs_at m.processes c.args.p) c.self.view_is ∙ sym (runs_shown c.args.self.now c.args.p) ∙ c.requires.runs

pub answer_turn-requires-clause-room : goal.answer_turn-requires-clause-room
answer_turn-requires-clause-room c =
    c.requires.room ∙ room_shown c.args.self.now c.args.p ∙ ap (λ (m : Machine). room_at m.processes c.args.p) (sym c.self.view_is)

pub returns-clause-answers : goal.returns-clause-answers
returns-clause-answers c = rw (← c.self.view_is) (c.answer_turn.ensures.answers c.self.inside.extension)

pub returns-clause-stands : goal.returns-clause-stands
returns-clause-stands c = rw (← c.self.view_is) (c.answer_turn.ensures.changed c.self.inside.extension).stands

pub returns-clause-others : goal.returns-clause-others
returns-clause-others c = rw (← c.self.view_is) (c.answer_turn.ensures.changed c.self.inside.extension).others

pub returns-clause-places : goal.returns-clause-places
returns-clause-places c = rw (← c.self.view_is) (c.answer_turn.ensures.changed c.self.inside.extension).places
