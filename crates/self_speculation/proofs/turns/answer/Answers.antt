use Rattle.std.proofs.Common.{subst, sym, inl, inr}
use Rattle.translation_cache.specs.Absent.{HasNone}
use Rattle.ovl_io.specs.declared.turn.Turn.{Turn}
use Rattle.machine_core.specs.Machine.{wholes}
use Rattle.machine_core.specs.BareTurns.{turn_with}
use Rattle.machine_core.specs.Turns.{after_asked}
use Rattle.machine_core.specs.Absent.{none_after_asked}
use Rattle.machine_core.specs.PermsLaws.{asked_leaves, perms_after}
use Rattle.machine_core.specs.Laws.{like_itself}
use Rattle.self_speculation.specs.Requests.{IsAnswer, turn_of_answer}
use Rattle.self_speculation.specs.Taken.{AnswersRequest}
use Rattle.self_speculation.specs.PermsLaws.{call_keeps}
use Rattle.self_speculation.proofs.Answering.{finds_call, finds_none, none_after_row, quiet_call}
use Rattle.self_speculation.proofs.turns.answer.Goals as goal

-- a request of its own

pub returns-in-Some-clause-answers : goal.returns-in-Some-clause-answers
returns-in-Some-clause-answers c =
    let done = c.answer_call in
    let came = turn_of_answer done.result in
    subst (λ (t : Turn). AnswersRequest c.args.calls c.args.p (wholes c.args.machine.now) t (wholes done.new.machine)) (sym (c.turn.ensures c.args.bytes.now))
    (finds_call c.args.calls c.args.p c.args.machine.now c.in-Some.asked.0 c.in-Some.asked.1 came done.new.machine c.in-Some.ensures done.ensures.answers)

pub returns-in-Some-clause-others : goal.returns-in-Some-clause-others
returns-in-Some-clause-others c = let (process, there, does) = c.answer_call.ensures.answers in does.others

pub returns-in-Some-clause-pairs : goal.returns-in-Some-clause-pairs
returns-in-Some-clause-pairs c = let (process, there, does) = c.answer_call.ensures.answers in does.pairs

pub returns-in-Some-clause-unseen : goal.returns-in-Some-clause-unseen
returns-in-Some-clause-unseen c =
    let done = c.answer_call in
    let (process, there, does) = done.ensures.answers in
    none_after_row c.args.p c.in-Some.asked.1 process c.in-Some.asked.0 c.args.machine.now (turn_of_answer done.result) done.new.machine does

pub returns-in-Some-clause-perms : goal.returns-in-Some-clause-perms
returns-in-Some-clause-perms c =
    let done = c.answer_call in
    let (process, there, does) = done.ensures.answers in
    call_keeps c.args.p c.in-Some.asked.1 process c.in-Some.asked.0 c.args.machine.now (turn_of_answer done.result) done.new.machine does

pub returns-in-Some-clause-came : goal.returns-in-Some-clause-came
returns-in-Some-clause-came c =
    let done = c.answer_call in
    let (process, there, does) = done.ensures.answers in
    subst (IsAnswer c.args.p c.args.machine.now) (sym (c.turn.ensures c.args.bytes.now))
    (inr (quiet_call c.args.p c.in-Some.asked.1 process c.in-Some.asked.0 c.args.machine.now (turn_of_answer done.result) done.new.machine does))

-- what the machine answers to every process

pub returns-in-None-clause-answers : goal.returns-in-None-clause-answers
returns-in-None-clause-answers c =
    let old = wholes c.args.machine.now in
    finds_none c.args.calls c.args.p c.args.machine.now (turn_with c.answer.result c.answer.new.bytes) c.answer.new.self c.in-None.ensures (c.answer.ensures.answers old (like_itself old)) (c.answer.ensures.stands old (like_itself old))

pub returns-in-None-clause-unseen : goal.returns-in-None-clause-unseen
returns-in-None-clause-unseen c q other none =
    let old = wholes c.args.machine.now in
    subst (HasNone q) (sym (c.answer.ensures.stands old (like_itself old)).translations) (none_after_asked q c.args.p other old none)

pub returns-in-None-clause-perms : goal.returns-in-None-clause-perms
returns-in-None-clause-perms c =
    let old = wholes c.args.machine.now in
    perms_after c.args.machine.now c.answer.new.self c.args.p (after_asked old c.args.p) c.requires.runs
    (asked_leaves c.args.p old) (c.answer.ensures.stands old (like_itself old))

pub returns-in-None-clause-came : goal.returns-in-None-clause-came
returns-in-None-clause-came c = let old = wholes c.args.machine.now in inl (c.answer.ensures.answers old (like_itself old))
