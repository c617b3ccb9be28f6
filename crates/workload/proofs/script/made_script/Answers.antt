use Rattle.std.proofs.Common.{◌∙◌, ap, arith, string_bytes, ℕ, Vec, Global}
use Rattle.workload.proofs.Rounds.{all_done, none_done, one_more}
use Rattle.workload.proofs.script.made_script.Goals as goal

pub rounds-init : goal.rounds-init
rounds-init c =
    none_done c.args.seed c.new-draws.result.state c.draw.new.self.state c.draw.result (string_bytes c.new-script.result) (string_bytes c.write_first.new.script)
    c.new-draws.ensures c.draw.ensures.state c.draw.ensures.drawn c.new-script.ensures.bytes c.in_ok-write_first.ensures

pub rounds-preserved : goal.rounds-preserved
rounds-preserved c =
    one_more c.args.seed c.rounds._round c.rounds.draws.state c.draw-a.new.self.state c.draw-b.new.self.state c.draw-c.new.self.state
    c.draw-a.result c.draw-b.result c.draw-c.result (string_bytes c.rounds.script) (string_bytes c.write_command.new.script) (string_bytes c.push_str.new.self)
    c.rounds.invariant c.draw-a.ensures.state c.draw-a.ensures.drawn c.draw-b.ensures.state c.draw-b.ensures.drawn c.draw-c.ensures.state c.draw-c.ensures.drawn
    c.in_ok-write_command.ensures c.in_ok-push_str.ensures.bytes

pub returns : goal.returns
returns c =
    all_done c.args.seed c.rounds._round c.rounds.draws.state (string_bytes c.rounds.script) c.into_bytes.result.items c.rounds.invariant (omega arith)
    (ap (λ (bytes : Vec ℕ Global). bytes.items) c.into_bytes.ensures.value ∙ c.in_ok-push_str-2.ensures.bytes)
