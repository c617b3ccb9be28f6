use Rattle.std.specs.Prelude.{◌≡◌}
use Rattle.line_store.specs.Lines.{with_copied}
use Rattle.line_store.proofs.region.copy_apart.Given as goal

abbrev pub invariant-copying : goal.invariant-copying
invariant-copying l = l.lines ≡ with_copied l.fn.lines l.from l.to l.i
