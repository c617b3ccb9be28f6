use Rattle.std.proofs.Common.{arith}
use Rattle.line_store.proofs.Kept.{grown_same}
use Rattle.line_store.proofs.region.reach.Goals as goal

pub returns-then-as_slice-end-clause-same : goal.returns-then-as_slice-end-clause-same
returns-then-as_slice-end-clause-same c =
    grown_same c.args.lines.now.items c.grow.new.self.items c.args.count c.min.result c.grow.ensures.items
    (omega (arith, c.args.lines.now.fits.0, c.args.lines.now.fits.1, c.requires.room)) (omega (arith, c.min.ensures))
