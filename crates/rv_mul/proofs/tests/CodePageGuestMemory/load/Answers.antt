use Rattle.std.proofs.Common.{length}
use Rattle.ovl_io.specs.Permissions.{readable}
use Rattle.rv_execute.proofs.CodePages.{allows_no_load, denied_first, is_some}
use Rattle.rv_mul.proofs.tests.CodePageGuestMemory.load.Goals as goal

pub returns-clause-answer : goal.returns-clause-answer
returns-clause-answer c =
    denied_first c.args.self.now.bytes readable c.args.address (length c.args.into.now) (allows_no_load c.args.self.now.bytes c.args.address) (is_some (length c.args.into.now) c.requires.count)
