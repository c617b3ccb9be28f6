use Rattle.std.proofs.Common.{◌∙◌, ap}
use Rattle.std.specs.FinMap as map
use Rattle.breakpoints.specs.Breakpoints.{Breaks}
use Rattle.breakpoints.proofs.Sets.{none_there, put_back}
use Rattle.breakpoints.proofs.by_process.Breakpoints.add.Goals as goal

pub returns-in-Some-clause-kept : goal.returns-in-Some-clause-kept
returns-in-Some-clause-kept c =
    rw (← c.self.view_is) (put_back c.self.inside.by_process c.args.p c.in-Some.addresses.now c.add.new.self c.add.result c.in-Some.ensures.value c.add.ensures.kept)

pub returns-in-None-clause-there : goal.returns-in-None-clause-there
returns-in-None-clause-there c there =
    absurd (none_there c.args.self.now c.args.p c.args.address (c.in-None.ensures.value ∙ ap (λ (b : Breaks). map.get b c.args.p) c.self.view_is) there)
