use Rattle.std.proofs.Common.{subst}
use Rattle.workload.specs.Script.{made_script}
use Rattle.workload.specs.File.{made_file}
use Rattle.overlay_top.specs.Ends.{EndsMade}
use Rattle.overlay_top.proofs.Chosen.{ends_made, memory_made, no_rise, outcome_made}
use Rattle.overlay_top.proofs.top.run_made.Goals as goal

pub returns-in-Ok-clause-ends : goal.returns-in-Ok-clause-ends
returns-in-Ok-clause-ends g c =
    subst (λ outcome. EndsMade g.K.Sink outcome c.args.sink.now c.run_script.new.sink c.run_script.result)
    (outcome_made c.args.settings _ _ (made_script c.args.seed) made_file c.in-Ok.ensures.script c.in-Ok.ensures.file)
    (ends_made _ _ g.K.Sink _ _ _ _ c.run_script.result no_rise no_rise c.run_script.ensures.other (c.run_script.ensures.ends tt tt))

pub returns-in-Err-clause-ends : goal.returns-in-Err-clause-ends
returns-in-Err-clause-ends g c = memory_made g.K.Sink _ c.args.sink.now
