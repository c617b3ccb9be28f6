use Rattle.std.proofs.Common.{refl}
use Rattle.line_store.specs.Lines.{zero_lines}
use Rattle.line_store.proofs.region.zero_page.Goals as goal

pub returns : goal.returns
unfolding zero_lines
returns c = refl
