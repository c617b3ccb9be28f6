use Rattle.std.proofs.Common.{◌<◌, ◌≤◌, ◌∙◌, ap, sym, subst, refl, arith, Ok, Err, inr, [], length, ℕ, Vec, Global}
use Rattle.std.specs.Prelude.{map}
use Rattle.sizes.specs.declared.TheConstants.{MOST_SCRIPT_BYTES, MOST_SCRIPT_LINES}
use Rattle.overlay_top.specs.declared.status.Status.TheVariants.{TooLong, Done}
use Rattle.script_text.specs.Given.{asks}
use Rattle.overlay_top.specs.Outcome.{ended, run_all, names_asked, names_said, said, said_outcome}
use Rattle.overlay_top.specs.Reading.{IsUnread}
use Rattle.overlay_top.specs.Ends.{Ends, SaysAt, world_of}
use Rattle.overlay_top.specs.Ends.Ends.{SourceFailed, Whole}
use Rattle.overlay_top.proofs.Calls.{commands_ended, commands_halted, ends_as, long_left, nothing, no_memory, read_it, read_long, read_none, refused, refused_says, said_long, said_many, said_small, taken_whole}
use Rattle.overlay_top.proofs.top.run_script.Goals as goal

pub returns-in-Err-Failed-clause-ends : goal.returns-in-Err-Failed-clause-ends
returns-in-Err-Failed-clause-ends g c s h =
    SourceFailed (c.in-Err-Failed.ensures.cause (ap Err c.in-Err-Failed.field-0-is)) refl refl
    (subst (λ e. IsUnread {Script = Vec ℕ Global} (g.S.Source.left c.args.script.now) (g.S.Source.left c.read_script.new.source) (Err e)) c.in-Err-Failed.field-0-is
    (c.in-Err-Failed.ensures.unread s))

pub returns-in-Err-TooLong-clause-ends : goal.returns-in-Err-TooLong-clause-ends
returns-in-Err-TooLong-clause-ends g c s h =
    let left = g.S.Source.left c.args.script.now in
    let unread = subst (λ e. IsUnread {Script = Vec ℕ Global} left (g.S.Source.left c.read_script.new.source) (Err e)) c.in-Err-TooLong.field-0-is
    (c.in-Err-TooLong.ensures.unread s) in
    let long = long_left left unread.0 _ unread.1 unread.2 in
    let says = said_long left long in
    ends_as g.S.Source g.H.Shelf g.K.Sink _ (ended [] TooLong) _ [] _ _ TooLong
    (ap (λ says. said_outcome c.args.settings says (g.H.Shelf.files c.args.shelf.now)) says) (ap names_said says)
    (Whole (c.in-Err-TooLong.ensures.no_fault (read_long c.in-Err-TooLong.field-0 c.in-Err-TooLong.field-0-is)) refl refl (inr (long, unread)) refl (nothing g.K.Sink c.args.sink.now))

pub returns-then-line_count-gt-MOST_SCRIPT_LINES-clause-ends : goal.returns-then-line_count-gt-MOST_SCRIPT_LINES-clause-ends
returns-then-line_count-gt-MOST_SCRIPT_LINES-clause-ends g c s h =
    let left = g.S.Source.left c.args.script.now in
    let bytes = c.as_slice-bytes.result.now in
    let is = c.as_slice-bytes.ensures.value ∙ (c.in-Ok.ensures.read s).0 in
    let small : length bytes ≤ MOST_SCRIPT_BYTES = omega (arith, c.as_slice-bytes.ensures.len, c.in-Ok.ensures.small) in
    let many : MOST_SCRIPT_LINES < c.line_count.result = omega (arith, c.if-line_count-gt-MOST_SCRIPT_LINES.true) in
    let says = said_many left bytes c.line_count.result is small c.line_count.ensures many in
    ends_as g.S.Source g.H.Shelf g.K.Sink _ (ended [] TooLong) _ [] _ _ TooLong
    (ap (λ says. said_outcome c.args.settings says (g.H.Shelf.files c.args.shelf.now)) says) (ap names_said says)
    (Whole (c.in-Ok.ensures.no_fault (read_it c.in-Ok.bytes)) refl refl (taken_whole left bytes _ is small (c.in-Ok.ensures.read s).1) refl
    (nothing g.K.Sink c.args.sink.now))

pub returns-in-Err-Memory-clause-ends : goal.returns-in-Err-Memory-clause-ends
returns-in-Err-Memory-clause-ends g c s h = no_memory g.S.Source g.H.Shelf g.K.Sink _ _ c.args.script.now c.read_script.new.source c.args.shelf.now c.args.sink.now
    (c.in-Err-Memory.ensures.no_fault (read_none c.in-Err-Memory.field-0 c.in-Err-Memory.field-0-is))

pub returns-in-Err-clause-ends : goal.returns-in-Err-clause-ends
returns-in-Err-clause-ends g c s h =
    let bytes = c.as_slice-bytes.result.now in
    let is = c.as_slice-bytes.ensures.value ∙ (c.in-Ok.ensures.read s).0 in
    let small : length bytes ≤ MOST_SCRIPT_BYTES = omega (arith, c.as_slice-bytes.ensures.len, c.in-Ok.ensures.small) in
    let few : c.line_count.result ≤ MOST_SCRIPT_LINES = omega (arith, c.if-line_count-gt-MOST_SCRIPT_LINES.false) in
    let left = g.S.Source.left c.args.script.now in
    let files = g.H.Shelf.files c.args.shelf.now in
    subst (λ sink. Ends g.S.Source g.H.Shelf g.K.Sink (said_outcome c.args.settings (said left) files) (names_asked left) (world_of c.args.script.now c.args.shelf.now c.args.sink.now)
    (world_of c.read_script.new.source c.args.shelf.now sink) c.refuse.result) (sym (c.sink-1.given.1 (sym c.refuse.ensures.same))) (
    refused c.args.settings g.S.Source g.H.Shelf g.K.Sink c.in-Err.error bytes c.line_count.result (g.H.Shelf.files c.args.shelf.now) c.args.script.now c.read_script.new.source c.args.shelf.now
    c.args.sink.now c.refuse.new.report.sink.now c.refuse.result (c.in-Ok.ensures.no_fault (read_it c.in-Ok.bytes)) (c.in-Ok.ensures.read s).1 is small c.line_count.ensures few c.in-Err.ensures.parses c.refuse.ensures.refuses)

pub returns-in-Err-clause-says : goal.returns-in-Err-clause-says
returns-in-Err-clause-says g c s =
    let bytes = c.as_slice-bytes.result.now in
    let is = c.as_slice-bytes.ensures.value ∙ (c.in-Ok.ensures.read s).0 in
    let small : length bytes ≤ MOST_SCRIPT_BYTES = omega (arith, c.as_slice-bytes.ensures.len, c.in-Ok.ensures.small) in
    let few : c.line_count.result ≤ MOST_SCRIPT_LINES = omega (arith, c.if-line_count-gt-MOST_SCRIPT_LINES.false) in
    subst (λ sink. SaysAt g.K.Sink (g.S.Source.left c.args.script.now) c.args.sink.now sink c.refuse.result) (sym (c.sink-1.given.1 (sym c.refuse.ensures.same))) (
    refused_says g.K.Sink c.in-Err.error (g.S.Source.left c.args.script.now) bytes c.line_count.result c.args.sink.now c.refuse.new.report.sink.now c.refuse.result is small c.line_count.ensures few c.in-Err.ensures.parses
    c.refuse.ensures.refuses)

pub returns-in-Ok-run-clause-ends : goal.returns-in-Ok-run-clause-ends
returns-in-Ok-run-clause-ends g c s h =
    let left = g.S.Source.left c.args.script.now in
    let files = g.H.Shelf.files c.args.shelf.now in
    let bytes = c.as_slice-bytes.result.now in
    let commands = c.as_slice.result.now in
    let is = c.as_slice-bytes.ensures.value ∙ (c.in-Ok.ensures.read s).0 in
    let small : length bytes ≤ MOST_SCRIPT_BYTES = omega (arith, c.as_slice-bytes.ensures.len, c.in-Ok.ensures.small) in
    let few : c.line_count.result ≤ MOST_SCRIPT_LINES = omega (arith, c.if-line_count-gt-MOST_SCRIPT_LINES.false) in
    let says = said_small left bytes c.line_count.result (Ok commands) is small c.line_count.ensures few (c.in-Ok-parse.ensures.parses ∙ ap Ok (sym c.as_slice.ensures.value)) in
    let none = (c.in-Ok.ensures.read s).1 in
    let sink_is = c.sink-2-1.given.1 (sym c.in-Ok-run.ensures.same) in
    subst (λ sink. Ends g.S.Source g.H.Shelf g.K.Sink (said_outcome c.args.settings (said left) files) (names_asked left) (world_of c.args.script.now c.args.shelf.now c.args.sink.now)
    (world_of c.read_script.new.source c.run.new.shelf sink) Done) (sym sink_is) (
    ends_as g.S.Source g.H.Shelf g.K.Sink _ (run_all c.args.settings commands files) _ (map asks commands) _ _ Done
    (ap (λ says. said_outcome c.args.settings says files) says) (ap names_said says)
    (commands_ended g.S.Source g.H.Shelf g.K.Sink _ _ _ _ (c.in-Ok.ensures.no_fault (read_it c.in-Ok.bytes)) (taken_whole left bytes _ is small none) c.in-Ok-run.ensures.shelf c.in-Ok-run.ensures.sink
    (c.in-Ok-run.ensures.ends h)))

pub returns-clause-ends : goal.returns-clause-ends
returns-clause-ends g c s h =
    let left = g.S.Source.left c.args.script.now in
    let files = g.H.Shelf.files c.args.shelf.now in
    let bytes = c.as_slice-bytes.result.now in
    let commands = c.as_slice.result.now in
    let is = c.as_slice-bytes.ensures.value ∙ (c.in-Ok.ensures.read s).0 in
    let small : length bytes ≤ MOST_SCRIPT_BYTES = omega (arith, c.as_slice-bytes.ensures.len, c.in-Ok.ensures.small) in
    let few : c.line_count.result ≤ MOST_SCRIPT_LINES = omega (arith, c.if-line_count-gt-MOST_SCRIPT_LINES.false) in
    let says = said_small left bytes c.line_count.result (Ok commands) is small c.line_count.ensures few (c.in-Ok-parse.ensures.parses ∙ ap Ok (sym c.as_slice.ensures.value)) in
    let none = (c.in-Ok.ensures.read s).1 in
    let ends = commands_halted g.S.Source g.H.Shelf g.K.Sink c.in-Err-run.halt _ _ _ _ (c.in-Ok.ensures.no_fault (read_it c.in-Ok.bytes)) (taken_whole left bytes _ is small none) none
    c.in-Err-run.ensures.shelf c.in-Err-run.ensures.sink (c.in-Err-run.ensures.ends h) in
    let sink_is = c.sink-2-1.given.1 (sym c.in-Err-run.ensures.same) in
    subst (λ sink. Ends g.S.Source g.H.Shelf g.K.Sink (said_outcome c.args.settings (said left) files) (names_asked left) (world_of c.args.script.now c.args.shelf.now c.args.sink.now)
    (world_of c.read_script.new.source c.run.new.shelf sink) c.status_of.result) (sym sink_is) (
    ends_as g.S.Source g.H.Shelf g.K.Sink _ (run_all c.args.settings commands files) _ (map asks commands) _ _ c.status_of.result
    (ap (λ says. said_outcome c.args.settings says files) says) (ap names_said says) (subst (Ends _ _ _ _ _ _ _) (sym c.status_of.ensures) ends))
