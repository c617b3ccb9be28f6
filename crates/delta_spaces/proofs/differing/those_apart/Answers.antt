use Rattle.std.proofs.Common.{subst, sym, ◌∙◌}
use Rattle.overlay_pages.specs.State.{memory_of}
use Rattle.overlay_memory.specs.View.{state_of}
use Rattle.delta_spaces.specs.Gathered.{differs}
use Rattle.delta_spaces.proofs.Looked.{IsLooking, looked_all, looking_none, looking_past, looking_with, next_low, same_bytes}
use Rattle.delta_spaces.proofs.differing.those_apart.Goals as goal

pub looking-init : goal.looking-init
looking-init c =
    subst (IsLooking (differs (memory_of (state_of c.args.mem.now) c.args.saved) (memory_of (state_of c.args.mem.now) c.args.base) c.args.page) c.args.may _ _) (sym c.empty-lines.ensures)
    (looking_none _ c.args.may _ c.iter-line-items.ensures.are (c.into_iter-line-iterator.ensures.into_iter_gives ∙ c.iter-line-items.ensures.lines))

pub is_different-requires-clause-line : goal.is_different-requires-clause-line
is_different-requires-clause-line c = next_low _ c.args.may c.looking.yielded _ c.looking.lines c.in-Some.line c.next.new.self c.in-Some.ensures.steps c.looking.invariant

pub with-lines-requires : goal.with-lines-requires
with-lines-requires c = next_low _ c.args.may c.looking.yielded _ c.looking.lines c.in-Some.line c.next.new.self c.in-Some.ensures.steps c.looking.invariant

pub looking-preserved-then-is_different : goal.looking-preserved-then-is_different
looking-preserved-then-is_different c =
    subst (IsLooking (differs (memory_of (state_of c.args.mem.now) c.args.saved) (memory_of (state_of c.args.mem.now) c.args.base) c.args.page) c.args.may _ _) (sym c.with-lines.ensures.lines)
    (looking_with _ c.args.may c.looking.yielded _ c.looking.lines c.in-Some.line c.next.new.self c.in-Some.ensures.steps c.looking.invariant
    (sym c.is_different.ensures ∙ c.if-is_different.true))

pub looking-preserved : goal.looking-preserved
looking-preserved c =
    looking_past _ c.args.may c.looking.yielded _ c.looking.lines c.in-Some.line c.next.new.self c.in-Some.ensures.steps c.looking.invariant
    (sym c.is_different.ensures ∙ c.if-is_different.false)

pub returns-clause-lines : goal.returns-clause-lines
returns-clause-lines c =
    looked_all _ c.args.may c.looking.yielded _ c.looking.lines c.looking.invariant c.in-None.ensures.steps.0 (λ line low absent. same_bytes _ _ (c.requires.same line low absent))
