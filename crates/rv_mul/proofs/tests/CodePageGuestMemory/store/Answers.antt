use Rattle.std.proofs.Common.{length, arith, refl}
use Rattle.ovl_io.specs.Permissions.{writable}
use Rattle.rv_execute.proofs.CodePages.{allows_outside, denied_first, denied_inside, denied_beyond, is_some}
use Rattle.rv_mul.proofs.tests.CodePageGuestMemory.store.Goals as goal

pub returns-then-address-ne16-clause-answer : goal.returns-then-address-ne16-clause-answer
returns-then-address-ne16-clause-answer c =
    let bytes = c.args.self.now.bytes in
    let a = c.args.address in
    (denied_first bytes writable a (length c.args.bytes.now) (allows_outside bytes writable a (λ e. omega (arith, e))) (is_some (length c.args.bytes.now) c.requires.count), refl)

pub returns-then-bytes-address-clause-answer : goal.returns-then-bytes-address-clause-answer
returns-then-bytes-address-clause-answer c =
    (denied_inside c.args.self.now.bytes writable c.args.address (length c.args.bytes.now) refl (omega arith) (omega arith), refl)

pub returns-else-bytes-address-clause-answer : goal.returns-else-bytes-address-clause-answer
returns-else-bytes-address-clause-answer c =
    (denied_beyond c.args.self.now.bytes writable c.args.address (length c.args.bytes.now) refl (omega arith) (omega arith) (omega arith), refl)
