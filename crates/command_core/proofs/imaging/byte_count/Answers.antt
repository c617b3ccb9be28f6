use Rattle.std.proofs.Common.{arith}
use Rattle.command_core.proofs.Exporting.{all_bytes}
use Rattle.command_core.proofs.imaging.byte_count.Goals as goal

pub returns-clause-fit : goal.returns-clause-fit
returns-clause-fit c = all_bytes c.args.bytes.now (λ i. omega (arith, c.type_inv.bytes i))
