use Rattle.std.proofs.Common.{rules, ◌≡◌, ◌+◌, ◌-◌, ◌%◌, length, take, drop, sym, ap, ◌∙◌, arith, refl}
use Rattle.byteorder.specs.Endian.{little_number}
use Rattle.ovl_io.specs.Permissions.{executable}
use Rattle.rv_execute.proofs.CodePages.{allows_outside, denied_first, denied_inside, bytes_inside}
use Rattle.rv_mul.proofs.tests.CodePageGuestMemory.fetch.Goals as goal

pub returns-then-address-eq16-clause-answer : goal.returns-then-address-eq16-clause-answer
returns-then-address-eq16-clause-answer c =
    let bytes = c.args.self.now.bytes in
    let a = c.args.address in
    let at = a % 4096 in
    let whole : length bytes ≡ 4096 = search rules in
    let is : a ≡ 65536 + at = omega arith in
    let count : at + 4 - at ≡ 4 = omega arith in (
      denied_inside bytes executable a 4 refl (omega arith) (omega arith),
      c.read_u32.ensures ∙ ap (little_number 4) (ap (λ k. take k (drop at bytes)) count ∙ sym (bytes_inside bytes a at 4 whole is (omega arith))),
    )

pub returns-else-address-eq16-clause-answer : goal.returns-else-address-eq16-clause-answer
returns-else-address-eq16-clause-answer c =
    let bytes = c.args.self.now.bytes in
    let a = c.args.address in
    denied_first bytes executable a 4 (allows_outside bytes executable a (λ e. omega (arith, e))) (omega arith)
