use Rattle.std.proofs.Common.{◌≡◌, ℕ, List, take, map}
use Rattle.ovl_io.specs.Outside.{AsksFor}
use Rattle.script_text.specs.Given.{asks}
use Rattle.overlay_top.specs.Outcome.{modes_of, named}
use Rattle.overlay_top.proofs.Runs.{SessionHasRun}
use Rattle.overlay_top.proofs.running.run.Given as goal

-- the commands so far are done, and reported where the sink tells its bytes
abbrev pub invariant-running : goal.invariant-running
invariant-running g l = record {
  same : l.report.sink.ghost_name ≡ l.fn.report.sink.ghost_name;
  modes : l.session.modes ≡ modes_of l.fn.settings;
  shelf : g.H.Shelf.faults l.shelf ≡ g.H.Shelf.faults l.fn.shelf;
  sink : g.K.Sink.faults l.report.sink.now ≡ g.K.Sink.faults l.fn.report.sink.now;
  kept : g.H.Shelf.tells → (other : List ℕ) → g.H.Shelf.files l.shelf other ≡ g.H.Shelf.files l.fn.shelf other;
  asked : AsksFor g.H.Shelf.fetched (named (take l.command-index (map asks l.commands))) l.fn.shelf l.shelf;
  runs : g.H.Shelf.tells →
      SessionHasRun l.fn.settings l.commands l.command-index (g.H.Shelf.files l.fn.shelf) l.session.state g.K.Sink.tells (g.K.Sink.taken l.fn.report.sink.now) (g.K.Sink.taken l.report.sink.now);
}
