use Rattle.std.specs.Prelude.{[]}
use Rattle.command_core.specs.Changes.{row_in}
use Rattle.command_core.specs.Ample.{amply_changed}
use Rattle.command_core.specs.LikeLaws.{gives_as, row_same}
use Rattle.command_core.proofs.session.Session.change.Goals as goal

pub returns-clause-stands : goal.returns-clause-stands
returns-clause-stands c =
    gives_as (row_in [] c.args.command.now) (row_same [] c.args.command.now) c.args.self.now c.do_row.new.self c.do_row.result c.do_row.ensures.gives

pub returns-clause-ample : goal.returns-clause-ample
returns-clause-ample c = amply_changed [] c.args.command.now c.args.self.now c.do_row.new.self c.do_row.result (returns-clause-stands c)
