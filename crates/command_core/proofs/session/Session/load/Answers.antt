use Rattle.std.proofs.Common.{subst, sym, ◌∙◌}
use Rattle.machine_core.specs.Machine.{spaces_of}
use Rattle.command_core.specs.State.{registry_of}
use Rattle.command_core.specs.Sessions.{InSession}
use Rattle.command_core.specs.Kept.{checkpoints_in, shown_session, shown_state, spaces_kept}
use Rattle.command_core.specs.Giving.{GivesChange}
use Rattle.command_core.specs.Changes.{answer_of, load_row}
use Rattle.report_text.specs.declared.answer.Answer.TheVariants.{Loaded, Refused}
use Rattle.report_text.specs.declared.answer.Code.TheVariants.{NumbersUsed}
use Rattle.command_core.specs.Ample.{amply_loaded}
use Rattle.command_core.specs.LikeLaws.{gives_as, registered_same}
use Rattle.command_core.specs.Rows.{registered}
use Rattle.command_core.proofs.Breaks.{breaks_kept, breaks_loaded}
use Rattle.command_core.proofs.Numbers.{next_is, taken_free}
use Rattle.command_core.proofs.Loadings.{comes_used, gives_loaded, gives_other, runs_loaded, session_other}
use Rattle.command_core.proofs.Places.{free_number, free_same, next_same, none_before, session_load}
use Rattle.command_core.proofs.Rows.{gives_kept}
use Rattle.command_core.proofs.Wanting.{load_keeps_all, told_keeps}
use Rattle.command_core.proofs.session.Session.load.Goals as goal

pub load-requires-clause-number : goal.load-requires-clause-number
load-requires-clause-number c =
    let s = c.self.inside in
    let free = free_number s.machine (spaces_kept s.checkpoints) s.numbers c.in-Some.p c.self.invariant.0 (taken_free s.numbers c.least.result c.in-Some.p c.least.ensures c.in-Some.is) in
    (free.2, free.3)

pub load-requires-clause-no_space : goal.load-requires-clause-no_space
load-requires-clause-no_space c =
    let s = c.self.inside in
    let free = free_number s.machine (spaces_kept s.checkpoints) s.numbers c.in-Some.p c.self.invariant.0 (taken_free s.numbers c.least.result c.in-Some.p c.least.ensures c.in-Some.is) in
    free.0

pub load-requires-clause-no_process : goal.load-requires-clause-no_process
load-requires-clause-no_process c =
    let s = c.self.inside in
    let free = free_number s.machine (spaces_kept s.checkpoints) s.numbers c.in-Some.p c.self.invariant.0 (taken_free s.numbers c.least.result c.in-Some.p c.least.ensures c.in-Some.is) in
    none_before s.machine (spaces_kept s.checkpoints) s.numbers c.in-Some.p c.self.invariant.0 free.0

pub take-requires-clause-low : goal.take-requires-clause-low
take-requires-clause-low c =
    let s = c.self.inside in
    let free = free_number s.machine (spaces_kept s.checkpoints) s.numbers c.in-Some.p c.self.invariant.0 (taken_free s.numbers c.least.result c.in-Some.p c.least.ensures c.in-Some.is) in
    free.3

pub take-requires-clause-free : goal.take-requires-clause-free
take-requires-clause-free c = taken_free c.self.inside.numbers c.least.result c.in-Some.p c.least.ensures c.in-Some.is

pub invariant_of-self : goal.invariant_of-self
invariant_of-self c =
    let s = c.self.inside in
    let free = free_number s.machine (spaces_kept s.checkpoints) s.numbers c.in-Some.p c.self.invariant.0 (taken_free s.numbers c.least.result c.in-Some.p c.least.ensures c.in-Some.is) in
    let loaded = c.in-Ok-load.ensures.loads.2 in (
      session_load s.machine c.load.new.self (spaces_kept s.checkpoints) s.numbers c.take.new.self c.in-Some.p c.args.file.now c.self.invariant.0 free.0 free.1 c.take.ensures c.in-Ok.ensures.taken loaded,
      c.self.invariant.1,
      breaks_loaded s.machine c.load.new.self s.breakpoints c.in-Some.p c.args.file.now loaded c.self.invariant.2,
    )

pub invariant_of-self-in-Err-load : goal.invariant_of-self-in-Err-load
invariant_of-self-in-Err-load c =
    let s = c.self.inside in
    let keeps = session_other c.args.file.now s.machine c.load.new.self (checkpoints_in (spaces_of s.machine) s.checkpoints) s.breakpoints c.in-Some.p c.in-Ok.ensures.taken (sym (next_is s.machine s.checkpoints s.breakpoints s.numbers c.self.invariant.0 c.least.result c.least.ensures) ∙ c.in-Some.is) c.in-Err-load.error c.in-Err-load.ensures.loads in
    (keeps.session (spaces_kept s.checkpoints) s.numbers c.self.invariant.0, c.self.invariant.1, breaks_kept s.machine c.load.new.self s.breakpoints keeps.stay c.self.invariant.2)

pub returns-in-Ok-load-clause-runs : goal.returns-in-Ok-load-clause-runs
returns-in-Ok-load-clause-runs c =
    let s = c.self.inside in
    runs_loaded c.args.file.now s.machine c.load.new.self (checkpoints_in (spaces_of s.machine) s.checkpoints) s.breakpoints c.in-Some.p c.in-Ok.ensures.taken (sym (next_is s.machine s.checkpoints s.breakpoints s.numbers c.self.invariant.0 c.least.result c.least.ensures) ∙ c.in-Some.is)
    c.in-Ok-load.pages c.entry.result c.in-Ok-load.ensures.loads

pub returns-in-Ok-load-clause-gives : goal.returns-in-Ok-load-clause-gives
returns-in-Ok-load-clause-gives c =
    let file = c.args.file.now in
    let s = c.self.inside in
    let old = s.machine in
    let new = c.load.new.self in
    let answer = Loaded c.in-Some.p c.in-Ok-load.pages c.entry.result in
    let free = free_number s.machine (spaces_kept s.checkpoints) s.numbers c.in-Some.p c.self.invariant.0 (taken_free s.numbers c.least.result c.in-Some.p c.least.ensures c.in-Some.is) in
    subst (λ (s : InSession). GivesChange (load_row file (registry_of s.state)) s.state (Loaded c.in-Some.p c.in-Ok-load.pages c.entry.result)
    (shown_state c.load.new.self c.self.inside.checkpoints c.self.inside.breakpoints)) c.self.view_is
    (gives_kept (load_row file) old new s.checkpoints s.breakpoints (next_same old new (spaces_kept s.checkpoints) c.in-Some.p c.self.invariant.0.free free.0 c.in-Ok-load.ensures.loads.2.others) answer
    (gives_loaded file old new (checkpoints_in (spaces_of old) s.checkpoints) s.breakpoints c.in-Some.p c.in-Ok.ensures.taken (sym (next_is s.machine s.checkpoints s.breakpoints s.numbers c.self.invariant.0 c.least.result c.least.ensures) ∙ c.in-Some.is)
    (c.self.invariant.2 c.in-Some.p (none_before s.machine (spaces_kept s.checkpoints) s.numbers c.in-Some.p c.self.invariant.0 free.0)) c.in-Ok-load.pages c.entry.result c.in-Ok-load.ensures.loads (c.entry.ensures ∙ c.in-Ok.ensures.entry)))

pub returns-clause-gives : goal.returns-clause-gives
returns-clause-gives c =
    let file = c.args.file.now in
    let s = c.self.inside in
    let old = s.machine in
    let new = c.load.new.self in
    let kept = checkpoints_in (spaces_of old) s.checkpoints in
    let e = c.in-Err-load.error in
    let keeps = session_other file old new kept s.breakpoints c.in-Some.p c.in-Ok.ensures.taken (sym (next_is s.machine s.checkpoints s.breakpoints s.numbers c.self.invariant.0 c.least.result c.least.ensures) ∙ c.in-Some.is) e c.in-Err-load.ensures.loads in
    let given = gives_other file old new kept s.breakpoints c.in-Some.p c.in-Ok.ensures.taken (sym (next_is s.machine s.checkpoints s.breakpoints s.numbers c.self.invariant.0 c.least.result c.least.ensures) ∙ c.in-Some.is) e c.in-Err-load.ensures.loads in
    subst (λ (s : InSession). GivesChange (load_row file (registry_of s.state)) s.state c.not_made.result (shown_state c.load.new.self c.self.inside.checkpoints c.self.inside.breakpoints)) c.self.view_is
    (gives_kept (load_row file) old new s.checkpoints s.breakpoints (free_same old new (spaces_kept s.checkpoints) keeps.free c.self.invariant.0.free) c.not_made.result
    (subst (λ a. GivesChange (load_row file (registry_of (shown_state c.self.inside.machine c.self.inside.checkpoints c.self.inside.breakpoints)))
    (shown_state c.self.inside.machine c.self.inside.checkpoints c.self.inside.breakpoints) a
    (record { wholes = (shown_state c.load.new.self c.self.inside.checkpoints c.self.inside.breakpoints).wholes; checkpoints = checkpoints_in (spaces_of c.self.inside.machine) c.self.inside.checkpoints; breakpoints = c.self.inside.breakpoints }))
    (sym c.not_made.ensures) given))

pub returns-in-Ok-load-clause-stands : goal.returns-in-Ok-load-clause-stands
returns-in-Ok-load-clause-stands c =
    gives_as (registered (load_row c.args.file.now)) (registered_same (load_row c.args.file.now)) c.args.self.now (shown_session c.load.new.self c.self.inside.checkpoints c.self.inside.breakpoints c.self.inside.modes)
    (Loaded c.in-Some.p c.in-Ok-load.pages c.entry.result) (returns-in-Ok-load-clause-gives c)

pub returns-clause-stands : goal.returns-clause-stands
returns-clause-stands c =
    gives_as (registered (load_row c.args.file.now)) (registered_same (load_row c.args.file.now)) c.args.self.now (shown_session c.load.new.self c.self.inside.checkpoints c.self.inside.breakpoints c.self.inside.modes)
    c.not_made.result (returns-clause-gives c)

pub returns-clause-ample : goal.returns-clause-ample
returns-clause-ample c =
    amply_loaded c.args.file.now c.args.self.now
    (shown_session c.load.new.self c.self.inside.checkpoints c.self.inside.breakpoints c.self.inside.modes) c.not_made.result (returns-clause-stands c)

pub returns-clause-want : goal.returns-clause-want
returns-clause-want c =
    let s = c.self.inside in
    let new = c.load.new.self in
    told_keeps c.args.self.now (shown_session s.machine s.checkpoints s.breakpoints s.modes) (shown_session new s.checkpoints s.breakpoints s.modes)
    c.not_made.result (answer_of c.in-Err-load.error) c.self.view_is c.not_made.ensures
    (load_keeps_all s.machine new s.checkpoints s.breakpoints s.modes c.in-Some.p c.args.file.now c.in-Err-load.error c.in-Err-load.ensures.loads)

-- no number is free

pub returns-in-None-clause-gives : goal.returns-in-None-clause-gives
returns-in-None-clause-gives c =
    let s = c.self.inside in
    let file = c.args.file.now in
    subst (λ (s : InSession). GivesChange (load_row file (registry_of s.state)) s.state (Refused NumbersUsed) s.state) c.self.view_is
    (comes_used file (shown_state s.machine s.checkpoints s.breakpoints) c.in-Ok.ensures.taken
    (sym (next_is s.machine s.checkpoints s.breakpoints s.numbers c.self.invariant.0 c.least.result c.least.ensures) ∙ c.in-None.is))

pub returns-in-None-clause-stands : goal.returns-in-None-clause-stands
returns-in-None-clause-stands c =
    gives_as (registered (load_row c.args.file.now)) (registered_same (load_row c.args.file.now)) c.args.self.now c.args.self.now (Refused NumbersUsed) (returns-in-None-clause-gives c)
