use Rattle.std.proofs.Common.{sym, ap, ◌∙◌}
use Rattle.std.specs.Option.{option_map}
use Rattle.round_robin.proofs.Choices.{first_choice, missed, found_again, none_exactly}
use Rattle.round_robin.proofs.turns.RoundRobin.next.Goals as goal

pub returns-in-None-clause-number : goal.returns-in-None-clause-number
returns-in-None-clause-number c =
    first_choice c.args.self.now c.args.running.now c.self.inside.quantum c.copied.result
    (sym c.self.view_is ∙ ap (λ o. record { quantum = c.self.inside.quantum; last = option_map (λ l. record { number = l.number; had = l.had }) o }) c.in-None.is)
    c.requires (c.copied.ensures ∙ c.first.ensures.value)

pub returns-in-Err-clause-number : goal.returns-in-Err-clause-number
returns-in-Err-clause-number c =
    missed c.args.self.now c.args.running.now c.self.inside.quantum c.in-Some.last.number c.in-Some.last.had c.in-Err.i c.at_or_first-in-Err.result
    (sym c.self.view_is ∙ ap (λ o. record { quantum = c.self.inside.quantum; last = option_map (λ l. record { number = l.number; had = l.had }) o }) c.in-Some.is)
    c.requires c.in-Err.ensures.position c.at_or_first-in-Err.ensures

pub returns-in-Err-clause-none : goal.returns-in-Err-clause-none
returns-in-Err-clause-none c = none_exactly c.args.running.now c.in-Err.i c.at_or_first-in-Err.result c.at_or_first-in-Err.ensures

pub returns-else-last-self-clause-number : goal.returns-else-last-self-clause-number
returns-else-last-self-clause-number c =
    found_again c.args.self.now c.args.running.now c.self.inside.quantum c.in-Some.last.number c.in-Some.last.had c.in-Ok.i c.at_or_first.result
    (sym c.self.view_is ∙ ap (λ o. record { quantum = c.self.inside.quantum; last = option_map (λ l. record { number = l.number; had = l.had }) o }) c.in-Some.is)
    c.requires c.in-Ok.ensures.position c.if-last-self.false c.at_or_first.ensures
