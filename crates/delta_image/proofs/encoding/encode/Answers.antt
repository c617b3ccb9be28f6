use Rattle.std.proofs.Common.{◌≡◌, ◌++◌, length, rules}
use Rattle.std.specs.Int.{w32, to_le_bytes}
use Rattle.delta_image.specs.declared.encoding.TheConstants.{MAGIC}
use Rattle.delta_image.specs.Image.{pages_part, registers_part, state_part}
use Rattle.delta_image.specs.Fine.{AreRegisters}
use Rattle.delta_image.proofs.Images.{one_image, put_image}
use Rattle.delta_image.proofs.encoding.encode.Goals as goal

is_image : goal.returns-clause-image
is_image c =
    let d = c.args.d.now in
    let regs : AreRegisters d.regs = search rules in
    let first : c.extend_from_slice.new.self.items ≡ MAGIC = search rules in
    let second : c.put_state.new.out.items ≡ c.extend_from_slice.new.self.items ++ state_part d.state = search rules in
    let third : c.put_registers.new.out.items ≡ c.put_state.new.out.items ++ registers_part d.regs = search rules in
    let fourth : c.extend_from_slice-2.new.self.items ≡ c.put_registers.new.out.items ++ to_le_bytes w32 (length c.as_slice-pages.result.now) = search rules in
    let same : length c.as_slice-pages.result.now ≡ length d.pages = search rules in
    let fifth : c.put_pages.new.out.items ≡ c.extend_from_slice-2.new.self.items ++ pages_part d.pages = search rules in
    put_image d _ _ _ _ _ (length c.as_slice-pages.result.now) c.put_state.ensures.fine regs c.requires.few c.requires.pages c.length_of.ensures.whole first second third
    fourth same fifth

pub returns-clause-image : goal.returns-clause-image
returns-clause-image c = is_image c

pub returns-clause-only : goal.returns-clause-only
returns-clause-only c = λ other is. one_image c.put_pages.new.out.items other c.args.d.now is (is_image c)
