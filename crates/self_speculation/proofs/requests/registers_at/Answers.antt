use Rattle.std.proofs.Common.{◌+◌, ◌-◌, ◌/◌, ◌%◌, ◌^◌, ap, subst, ◌∙◌}
use Rattle.sizes.specs.declared.TheConstants.{PAGE_BYTES}
use Rattle.overlay_memory.specs.Joined.{page_low}
use Rattle.overlay_memory.specs.View.{TranslatedView}
use Rattle.overlay_pages.specs.View.{IsJoined}
use Rattle.rv_execute.specs.Registers.{with_pc}
use Rattle.self_speculation.proofs.Requesting.{back_at}
use Rattle.self_speculation.proofs.requests.registers_at.Goals as goal

pub returns : goal.returns
returns c = record {
  at = λ before behind there.
      let memory = c.args.machine.now.memory in
      let joined = subst (λ (m : TranslatedView). IsJoined m.pages) c.memory.ensures c.next_overlaid-overlaid.ensures.joined in
      c.set_pc.ensures ∙ ap (λ n. with_pc c.args.behind.now ((n + (2 ^ 64 - 4)) % 2 ^ 64)) c.pc.ensures ∙ back_at c.args.behind.now before behind (page_low memory.pages joined c.args.p (before.pc / PAGE_BYTES) there);
}
