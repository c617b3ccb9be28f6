use Rattle.std.proofs.Common.{◌<◌, ◌≤◌, ◌+◌, ◌∙◌, ap, refl, subst, sym, arith, length, map}
use Rattle.std.proofs.lemmas.List.{drop_all, length-map}
use Rattle.command_core.specs.Sessions.{InSession, called_session, extended_session}
use Rattle.script_text.specs.Given.{asks}
use Rattle.overlay_top.proofs.Asks.{asked_at, fetches_next}
use Rattle.overlay_top.proofs.Errors.{by_err, shelf_behind, sink_behind}
use Rattle.overlay_top.proofs.Runs.{all_done, none_run, step, stop}
use Rattle.overlay_top.specs.Outside.{ShelfBy, SinkBy}
use Rattle.overlay_top.specs.declared.running.Halt.{Halt}
use Rattle.std.specs.Prelude.{Result}
use Rattle.overlay_top.proofs.running.run.Goals as goal

pub running-init : goal.running-init
running-init g c = record {
  same = refl;
  modes = ap (λ (s : InSession). s.modes) (c.set_calls.ensures.set ∙ ap (called_session c.args.settings.calls)
      (c.set_extension.ensures.set ∙ ap (extended_session c.args.settings.extension) c.in_ok-session.ensures.session));
  shelf = refl;
  sink = refl;
  kept = λ tells other. refl;
  asked = refl;
  runs = λ tells.
      none_run c.args.settings c.args.commands.now (g.H.Shelf.files c.args.shelf.now) c.set_calls.new.self.state g.K.Sink.tells (g.K.Sink.taken c.args.report.now.sink.now)
      (ap (λ (s : InSession). s.state) (c.set_calls.ensures.set ∙ ap (called_session c.args.settings.calls)
      (c.set_extension.ensures.set ∙ ap (extended_session c.args.settings.extension) c.in_ok-session.ensures.session)));
}

pub returns-in_err-perform-clause-ends : goal.returns-in_err-perform-clause-ends
returns-in_err-perform-clause-ends g c tells =
    let all = c.args.commands.now in
    let index = c.running.command-index in
    let command = c.command-item.result in
    let below : index < length (map asks all) = omega (arith, c.running-test.true, length-map all asks) in
    stop c.args.settings c.running.session.modes g.H.Shelf g.K.Sink c.from_residual-in_err-perform.result c.in_err-perform.field-0.0 all index command
    (g.H.Shelf.files c.args.shelf.now) (g.H.Shelf.files c.running.shelf) c.running.session.state
    c.args.shelf.now c.perform.new.shelf c.args.report.now.sink.now c.running.report.sink.now c.perform.new.report.sink.now
    c.running.invariant.modes (by_err c.from_residual-in_err-perform.result c.in_err-perform.field-0.0 c.from_residual-in_err-perform.ensures)
    c.running-test.true c.command-item.is (c.running.invariant.kept tells) (c.running.invariant.runs tells)
    (c.in_err-perform.ensures.given tells) (c.in_err-perform.ensures.lacks tells) (c.in_err-perform.ensures.sends tells) c.in_err-perform.ensures.failed
    (fetches_next g.H.Shelf.fetched (map asks all) index (asks command) c.args.shelf.now c.running.shelf c.perform.new.shelf below
    (asked_at asks all index command c.running-test.true c.command-item.is) c.running.invariant.asked c.in_err-perform.ensures.fetched)

pub returns-in_err-perform-clause-asked : goal.returns-in_err-perform-clause-asked
returns-in_err-perform-clause-asked g c =
    let all = c.args.commands.now in
    let index = c.running.command-index in
    let command = c.command-item.result in
    let below : index < length (map asks all) = omega (arith, c.running-test.true, length-map all asks) in (
      index + 1,
      fetches_next g.H.Shelf.fetched (map asks all) index (asks command) c.args.shelf.now c.running.shelf c.perform.new.shelf below
          (asked_at asks all index command c.running-test.true c.command-item.is) c.running.invariant.asked c.in_err-perform.ensures.fetched,
    )

pub running-preserved : goal.running-preserved
running-preserved g c =
    let all = c.args.commands.now in
    let index = c.running.command-index in
    let command = c.command-item.result in
    let below : index < length (map asks all) = omega (arith, c.running-test.true, length-map all asks) in
    record {
      same = c.in_ok-perform.ensures.same ∙ c.running.invariant.same;
      modes = c.in_ok-perform.ensures.modes ∙ c.running.invariant.modes;
      shelf = c.in_ok-perform.ensures.shelf ∙ c.running.invariant.shelf;
      sink = c.in_ok-perform.ensures.sink ∙ c.running.invariant.sink;
      kept = λ tells other. c.in_ok-perform.ensures.kept tells other ∙ c.running.invariant.kept tells other;
      asked =
          fetches_next g.H.Shelf.fetched (map asks all) index (asks command) c.args.shelf.now c.running.shelf c.perform.new.shelf below
          (asked_at asks all index command c.running-test.true c.command-item.is) c.running.invariant.asked c.in_ok-perform.ensures.fetched;
      runs = λ tells.
          step c.args.settings c.running.session.modes all index command (g.H.Shelf.files c.args.shelf.now) (g.H.Shelf.files c.running.shelf)
          c.running.session.state c.perform.new.session.state g.K.Sink.tells (g.K.Sink.taken c.args.report.now.sink.now) (g.K.Sink.taken c.running.report.sink.now)
          (g.K.Sink.taken c.perform.new.report.sink.now) c.running.invariant.modes c.running-test.true c.command-item.is (c.running.invariant.kept tells) (c.running.invariant.runs tells)
          (c.in_ok-perform.ensures.given tells) (c.in_ok-perform.ensures.sends tells) (c.in_ok-perform.ensures.after tells);
    }

pub returns-in_err-perform-clause-shelf : goal.returns-in_err-perform-clause-shelf
returns-in_err-perform-clause-shelf g c =
    subst (λ (r : Result (Unit {0}) Halt). ShelfBy g.H.Shelf c.args.shelf.now c.perform.new.shelf r)
    (sym (by_err c.from_residual-in_err-perform.result c.in_err-perform.field-0.0 c.from_residual-in_err-perform.ensures))
    (shelf_behind g.H.Shelf c.args.shelf.now c.running.shelf c.perform.new.shelf c.in_err-perform.field-0.0 c.running.invariant.shelf c.in_err-perform.ensures.shelf)

pub returns-in_err-perform-clause-sink : goal.returns-in_err-perform-clause-sink
returns-in_err-perform-clause-sink g c =
    subst (λ (r : Result (Unit {0}) Halt). SinkBy g.K.Sink c.args.report.now.sink.now c.perform.new.report.sink.now r)
    (sym (by_err c.from_residual-in_err-perform.result c.in_err-perform.field-0.0 c.from_residual-in_err-perform.ensures))
    (sink_behind g.K.Sink c.args.report.now.sink.now c.running.report.sink.now c.perform.new.report.sink.now c.in_err-perform.field-0.0 c.running.invariant.sink
    c.in_err-perform.ensures.sink)

-- all commands are done
pub returns-clause-ends : goal.returns-clause-ends
returns-clause-ends g c tells =
    let all = c.args.commands.now in
    let index = c.running.command-index in
    let last : length all ≤ index = (let end = c.running-test.false in omega (arith, end)) in
    all_done c.args.settings g.H.Shelf g.K.Sink all index (g.H.Shelf.files c.args.shelf.now) c.running.session.state c.args.shelf.now c.running.shelf
    c.args.report.now.sink.now c.running.report.sink.now last (drop_all index all last) (c.running.invariant.runs tells) c.running.invariant.asked
