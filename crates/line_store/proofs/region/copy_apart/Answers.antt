use Rattle.std.proofs.Common.{◌≡◌, ◌+◌, drop, set, ap, ◌∙◌, arith}
use Rattle.std.proofs.lemmas.List.Edits.{paste_none}
use Rattle.line_store.specs.Lines.{line_of, with_copied}
use Rattle.line_store.specs.LineLaws.{more_copied}
use Rattle.line_store.proofs.region.copy_apart.Goals as goal

pub copying-init : goal.copying-init
copying-init c = paste_none c.args.lines.now c.args.to (drop c.args.from c.args.lines.now)

pub copying-preserved : goal.copying-preserved
copying-preserved c =
    ap (λ l. set l (c.args.to + c.copying.i) (line_of l (c.args.from + c.copying.i))) c.copying.invariant
    ∙ more_copied c.args.lines.now c.args.from c.args.to c.copying.i c.args.n c.copying-test.true c.requires.source c.requires.target c.requires.apart

pub returns : goal.returns
returns c =
    let all : c.copying.i ≡ c.args.n = omega (arith, c.copying-test.false, c.copying.auto.i-end) in
    c.copying.invariant ∙ ap (with_copied c.args.lines.now c.args.from c.args.to) all
