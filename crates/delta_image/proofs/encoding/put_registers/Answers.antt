use Rattle.std.proofs.Common.{◌≡◌, ◌++◌, arith, rules}
use Rattle.std.specs.Int.{w64, to_le_bytes}
use Rattle.std.proofs.lemmas.Result.{on_ok_weaker}
use Rattle.delta_image.specs.Fine.{IsWord}
use Rattle.delta_image.proofs.Registers.{are_registers, registers_put}
use Rattle.delta_image.proofs.encoding.put_registers.Goals as goal

pub returns-clause-fine : goal.returns-clause-fine
returns-clause-fine c =
    let pc : IsWord c.args.regs.now.pc = omega (arith, c.pc.ensures) in
    let are = are_registers c.args.regs.now c.x.result.now c.x.ensures.values c.x.ensures.count c.x.ensures.zero pc c.put_words.ensures.words in
    on_ok_weaker c.put_words.result (λ _. are) c.put_words.ensures.bytes

pub returns-clause-bytes : goal.returns-clause-bytes
returns-clause-bytes c =
    let first : c.extend_from_slice.new.self.items ≡ c.args.out.now.items ++ to_le_bytes w64 c.args.regs.now.pc = search rules in
    on_ok_weaker c.put_words.result
    (registers_put c.args.regs.now c.x.result.now c.args.out.now.items c.extend_from_slice.new.self.items _ c.x.ensures.values c.x.ensures.count first)
    c.put_words.ensures.bytes
