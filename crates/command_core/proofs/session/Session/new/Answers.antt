use Rattle.std.proofs.Common.{ap, subst, sym, ◌∙◌, false, []}
use Rattle.std.specs.Ordering.{nat_cmp}
use Rattle.std.specs.FinMap.{empty, get, get-empty}
use Rattle.breakpoints.specs.Breakpoints.{Breaks}
use Rattle.machine_core.specs.Machine.{Wholes}
use Rattle.command_core.specs.State.{State, fresh}
use Rattle.command_core.specs.Sessions.{Bases, InSession, IsSession, free_blocks_of}
use Rattle.command_core.specs.Kept.{shown_session, shown_state, spaces_kept}
use Rattle.command_core.specs.LikeLaws.{states_same}
use Rattle.command_core.proofs.Places.{no_bases, session_start, wholes_start}
use Rattle.command_core.proofs.session.Session.new.Goals as goal

pub returns-clause-session : goal.returns-clause-session
returns-clause-session c =
    let machine = c.in_ok-new.field-0 in
    let started : Wholes → Bases → InSession = λ w bases. record {
      state = record { wholes = w; checkpoints = []; breakpoints = empty };
      modes = record { frames = c.args.frames; quantum = c.args.quantum; extension = false; calls = false };
      bases = bases;
      free_blocks = free_blocks_of machine.memory.pages.store.blocks;
    } in
    let all = wholes_start machine (record { frames = c.args.frames; quantum = c.args.quantum; extension = false; calls = false }) c.in_ok-new.ensures.spaces c.in_ok-new.ensures.processes c.in_ok-new.ensures.extension c.in_ok-new.ensures.lists in
    let none = no_bases machine (record { frames = c.args.frames; quantum = c.args.quantum; extension = false; calls = false }) c.in_ok-new.ensures.spaces c.in_ok-new.ensures.processes c.in_ok-new.ensures.extension in
    ap (λ xs. shown_session c.in_ok-new.field-0 xs c.new-3.result (record { frames = c.args.frames; quantum = c.args.quantum; extension = false; calls = false })) c.new-2.ensures
    ∙ ap (λ (breaks : Breaks). shown_session c.in_ok-new.field-0 [] breaks (record { frames = c.args.frames; quantum = c.args.quantum; extension = false; calls = false })) c.new-3.ensures
    ∙ λ i. started (all i) (none i)

pub returns-clause-stands : goal.returns-clause-stands
returns-clause-stands c =
    let started : Wholes → State = λ w. record { wholes = w; checkpoints = []; breakpoints = empty } in
    states_same _ (fresh (record { frames = c.args.frames; quantum = c.args.quantum; extension = false; calls = false }))
    (ap (λ xs. shown_state c.in_ok-new.field-0 xs c.new-3.result) c.new-2.ensures
    ∙ ap (λ (breaks : Breaks). shown_state c.in_ok-new.field-0 [] breaks) c.new-3.ensures
    ∙ ap started (wholes_start c.in_ok-new.field-0 (record { frames = c.args.frames; quantum = c.args.quantum; extension = false; calls = false }) c.in_ok-new.ensures.spaces c.in_ok-new.ensures.processes c.in_ok-new.ensures.extension c.in_ok-new.ensures.lists))

pub invariant_of-result : goal.invariant_of-result
invariant_of-result c =
    let numbers = c.in_ok-new-2.field-0 in (
      subst (λ xs. IsSession c.in_ok-new.field-0 (spaces_kept xs) numbers) (sym c.new-2.ensures)
          (session_start c.in_ok-new.field-0 (record { frames = c.args.frames; quantum = c.args.quantum; extension = false; calls = false }) c.in_ok-new.ensures.spaces c.in_ok-new.ensures.processes c.in_ok-new.ensures.extension
          numbers c.in_ok-new-2.ensures c.in_ok-new.ensures.lists),
      c.requires.quantum,
      λ p gone. ap (λ (breaks : Breaks). get breaks p) c.new-3.ensures ∙ get-empty nat_cmp p,
    )
