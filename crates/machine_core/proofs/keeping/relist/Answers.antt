use Rattle.std.proofs.Common.{arith, sym, subst, ◌∙◌}
use Rattle.ascending_numbers.specs.Numbers.{IsListed}
use Rattle.machine_core.proofs.Listed.{listed_below, relisted, room_for}
use Rattle.machine_core.proofs.keeping.relist.Goals as goal

pub put-requires-clause-below : goal.put-requires-clause-below
put-requires-clause-below c =
    room_for c.args.processes.now c.args.running.now c.args.p c.requires (sym c.runs_in.ensures ∙ c.if-runs_in.true)

pub put-requires-clause-all_below : goal.put-requires-clause-all_below
put-requires-clause-all_below c =
    listed_below c.args.processes.now c.args.running.now c.args.p c.requires (sym c.runs_in.ensures ∙ c.if-runs_in.true)

pub returns-then-runs_in : goal.returns-then-runs_in
returns-then-runs_in c =
    let put = c.put.ensures in
    relisted c.args.processes.now c.args.running.now c.args.p c.requires c.put.new.self
    (subst (λ b. IsListed c.args.p b c.args.running.now.items c.put.new.self.items) (sym c.if-runs_in.true ∙ c.runs_in.ensures) put.listed) put.room

pub returns-else-runs_in : goal.returns-else-runs_in
returns-else-runs_in c =
    let taken = c.take.ensures in
    relisted c.args.processes.now c.args.running.now c.args.p c.requires c.take.new.self
    (subst (λ b. IsListed c.args.p b c.args.running.now.items c.take.new.self.items) (sym c.if-runs_in.false ∙ c.runs_in.ensures) taken.listed)
    (omega (arith, taken.room))
