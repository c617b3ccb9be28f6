use Rattle.std.proofs.Common.{◌≡◌, sym, ap, ◌∙◌, arith}
use Rattle.machine_core.specs.Access.{lists_lent}
use Rattle.machine_core.specs.Ahead.{ahead}
use Rattle.machine_core.proofs.Ahead.{ahead_none, ahead_paid}
use Rattle.machine_core.proofs.view.View.pay.Goals as goal
use Rattle.translation_cache.specs.Translations.{with_hits}

pub returns-then-self-gt0-clause-lists : goal.returns-then-self-gt0-clause-lists
returns-then-self-gt0-clause-lists c =
    c.count_fronts.ensures.translations ∙ ap (λ n. with_hits n (lists_lent c.args.self.now)) c.from.ensures
    ∙ ahead_paid c.args.self.now.hand.owed (lists_lent c.args.self.now) (omega (arith, c.if-self-gt0.true))

pub returns-else-self-gt0-clause-lists : goal.returns-else-self-gt0-clause-lists
returns-else-self-gt0-clause-lists c =
    let none : 0 ≡ c.args.self.now.hand.owed = omega (arith, c.if-self-gt0.false) in
    sym (ahead_none (lists_lent c.args.self.now)) ∙ ap (λ n. ahead n (lists_lent c.args.self.now)) none
