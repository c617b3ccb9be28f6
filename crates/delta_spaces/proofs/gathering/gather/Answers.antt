use Rattle.std.proofs.Common.{ap, ◌∙◌}
use Rattle.overlay_pages.specs.State.{memory_of}
use Rattle.overlay_memory.specs.View.{state_of}
use Rattle.delta_image.specs.Applied.{applied}
use Rattle.delta_image.specs.AppliedLaws.{applied_gathered}
use Rattle.delta_spaces.proofs.Lines.{is_memory}
use Rattle.delta_spaces.proofs.Whole.{fit_ascend, fit_few}
use Rattle.delta_spaces.proofs.gathering.gather.Goals as goal

pub returns-clause-back : goal.returns-clause-back
returns-clause-back c =
    ap (λ pages. applied (record { state = c.args.state; regs = c.args.regs.now; pages = pages }) (memory_of (state_of c.args.mem.now) c.args.base)) (c.new.ensures ∙ c.in_ok-pages.ensures)
    ∙ applied_gathered c.args.state c.args.regs.now (memory_of (state_of c.args.mem.now) c.args.saved) (memory_of (state_of c.args.mem.now) c.args.base)
    (is_memory c.args.mem.now.pages c.has_space-here.ensures.joined c.args.saved)

pub returns-clause-few : goal.returns-clause-few
returns-clause-few c =
    fit_few (memory_of (state_of c.args.mem.now) c.args.saved) (memory_of (state_of c.args.mem.now) c.args.base) _ (c.new.ensures ∙ c.in_ok-pages.ensures)

pub returns-clause-pages : goal.returns-clause-pages
returns-clause-pages c =
    fit_ascend (memory_of (state_of c.args.mem.now) c.args.saved) (memory_of (state_of c.args.mem.now) c.args.base) _ (c.new.ensures ∙ c.in_ok-pages.ensures)
    (is_memory c.args.mem.now.pages c.has_space-here.ensures.joined c.args.saved)
