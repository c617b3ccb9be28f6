use Rattle.std.proofs.Common.{sym, ◌∙◌}
use Rattle.overlay_pages.specs.State.{memory_of}
use Rattle.overlay_memory.specs.View.{state_of, translations_of}
use Rattle.machine_core.proofs.Requests.{write_beside, write_none}
use Rattle.machine_core.proofs.guest.write.Goals as goal

pub returns-then-descriptor-ne2-clause-lists : goal.returns-then-descriptor-ne2-clause-lists
returns-then-descriptor-ne2-clause-lists c =
    write_beside c.args.p c.args.process.now.regs (memory_of (state_of c.args.memory.now) c.args.p) (translations_of c.args.memory.now)
    c.get-descriptor.result c.get-descriptor.ensures.value c.if-descriptor-ne1.true c.if-descriptor-ne2.true

pub returns-then-count-eq0-clause-lists : goal.returns-then-count-eq0-clause-lists
returns-then-count-eq0-clause-lists c =
    write_none c.args.p c.args.process.now.regs (memory_of (state_of c.args.memory.now) c.args.p) (translations_of c.args.memory.now)
    (sym c.requires.room ∙ c.if-count-eq0.true)
