use Rattle.std.proofs.Common.{map, string_bytes, subst, Err}
use Rattle.overlay_top.specs.declared.status.Status.TheVariants.{BadWords, NoMemory}
use Rattle.overlay_top.specs.Outcome.{run_asking, run_outcome}
use Rattle.overlay_top.specs.Words.{ReadsWords, settings_of}
use Rattle.overlay_top.specs.Ends.{world_of}
use Rattle.overlay_top.proofs.Chosen.{asks_none, asks_set, complete_as, ends_refused, ends_set, memory_as, memory_takes, no_seed, says_set, seed_is, takes_set, told_both, told_made, words_take}
use Rattle.overlay_top.proofs.Codes.{other_number}
use Rattle.overlay_top.proofs.InOrder.{done_in_order, in_order_done, with_done}
use Rattle.overlay_top.proofs.Unbounded.{as_unbounded}
use Rattle.overlay_top.proofs.top.run_program.Goals as goal

-- The words set something.

pub returns-in-Ok-clause-headline : goal.returns-in-Ok-clause-headline
returns-in-Ok-clause-headline g c s h = (
  c.run_chosen.result,
  c.code.ensures,
  ends_set (map string_bytes c.args.words.now) c.in-Ok.settings (g.S.Source.left c.args.script.now) c.in-Ok.ensures.reads g.S.Source g.H.Shelf g.K.Sink
      (g.H.Shelf.files c.args.shelf.now) _ _ c.run_chosen.result (c.run_chosen.ensures.ends (told_both c.in-Ok.settings.seed s h)),
)

pub returns-in-Ok-clause-unbounded : goal.returns-in-Ok-clause-unbounded
returns-in-Ok-clause-unbounded g c s h =
    as_unbounded g.S.Source g.H.Shelf g.K.Sink (map string_bytes c.args.words.now) (g.S.Source.left c.args.script.now) (g.H.Shelf.files c.args.shelf.now)
    _ _ _ _ (returns-in-Ok-clause-headline g c s h)

pub returns-in-Ok-clause-made : goal.returns-in-Ok-clause-made
returns-in-Ok-clause-made g c some = (
  c.run_chosen.result,
  c.code.ensures,
  ends_set (map string_bytes c.args.words.now) c.in-Ok.settings (g.S.Source.left c.args.script.now) c.in-Ok.ensures.reads g.S.Source g.H.Shelf g.K.Sink
      (g.H.Shelf.files c.args.shelf.now) _ _ c.run_chosen.result
      (c.run_chosen.ensures.ends (told_made g.S.Source.tells g.H.Shelf.tells c.in-Ok.settings.seed (seed_is (map string_bytes c.args.words.now) c.in-Ok.settings c.in-Ok.ensures.reads some))),
)

pub returns-in-Ok-clause-made_unread : goal.returns-in-Ok-clause-made_unread
returns-in-Ok-clause-made_unread g c some =
    other_number c.code.result c.run_chosen.result c.code.ensures
    (c.run_chosen.ensures.read (seed_is (map string_bytes c.args.words.now) c.in-Ok.settings c.in-Ok.ensures.reads some))

pub returns-in-Ok-clause-takes : goal.returns-in-Ok-clause-takes
returns-in-Ok-clause-takes g c s = (
  c.run_chosen.result,
  c.code.ensures,
  takes_set (map string_bytes c.args.words.now) c.in-Ok.settings (g.S.Source.left c.args.script.now) c.in-Ok.ensures.reads g.S.Source g.H.Shelf _ _ c.run_chosen.result
      (c.run_chosen.ensures.takes s),
)

pub returns-in-Ok-clause-says : goal.returns-in-Ok-clause-says
returns-in-Ok-clause-says g c s = (
  c.run_chosen.result,
  c.code.ensures,
  says_set (map string_bytes c.args.words.now) c.in-Ok.settings (g.S.Source.left c.args.script.now) c.in-Ok.ensures.reads g.K.Sink _ _ c.run_chosen.result
      (c.run_chosen.ensures.says s),
)

pub returns-in-Ok-clause-asked : goal.returns-in-Ok-clause-asked
returns-in-Ok-clause-asked g c s =
    asks_set (map string_bytes c.args.words.now) c.in-Ok.settings (g.S.Source.left c.args.script.now) c.in-Ok.ensures.reads g.H.Shelf _ _ (c.run_chosen.ensures.asked s)

pub returns-in-Ok-clause-complete : goal.returns-in-Ok-clause-complete
returns-in-Ok-clause-complete g c s h =
    let words = map string_bytes c.args.words.now in
    let left = g.S.Source.left c.args.script.now in
    complete_as g.S.Source g.H.Shelf g.K.Sink (run_outcome words left (g.H.Shelf.files c.args.shelf.now)) (run_asking words left) _ _ c.run_chosen.result c.code.result c.code.ensures
    (ends_set words c.in-Ok.settings left c.in-Ok.ensures.reads g.S.Source g.H.Shelf g.K.Sink
    (g.H.Shelf.files c.args.shelf.now) _ _ c.run_chosen.result (c.run_chosen.ensures.ends (told_both c.in-Ok.settings.seed s h)))

pub returns-in-Ok-clause-in_order : goal.returns-in-Ok-clause-in_order
returns-in-Ok-clause-in_order g c s h order =
    returns-in-Ok-clause-complete g c s h
    (in_order_done (settings_of (map string_bytes c.args.words.now)) (g.S.Source.left c.args.script.now) (g.H.Shelf.files c.args.shelf.now) order)

pub returns-in-Ok-clause-status0 : goal.returns-in-Ok-clause-status0
returns-in-Ok-clause-status0 g c s h none =
    let words = map string_bytes c.args.words.now in
    let left = g.S.Source.left c.args.script.now in
    let files = g.H.Shelf.files c.args.shelf.now in
    done_in_order (settings_of words) left files
    (with_done g.S.Source g.H.Shelf g.K.Sink (run_outcome words left files) (run_asking words left) _ _ c.code.result (returns-in-Ok-clause-headline g c s h) none)

-- They aren't the command's.

pub returns-in-Err-Refused-clause-headline : goal.returns-in-Err-Refused-clause-headline
returns-in-Err-Refused-clause-headline g c s h =
    let words = map string_bytes c.args.words.now in
    let refused = subst (λ error. ReadsWords words (Err error)) c.in-Err-Refused.field-0-is c.in-Err-Refused.ensures.reads in (
      BadWords,
      c.code-in-Err-Refused.ensures,
      ends_refused words (g.S.Source.left c.args.script.now) g.S.Source g.H.Shelf g.K.Sink (g.H.Shelf.files c.args.shelf.now) _ refused,
    )

pub returns-in-Err-Refused-clause-unbounded : goal.returns-in-Err-Refused-clause-unbounded
returns-in-Err-Refused-clause-unbounded g c s h =
    as_unbounded g.S.Source g.H.Shelf g.K.Sink (map string_bytes c.args.words.now) (g.S.Source.left c.args.script.now) (g.H.Shelf.files c.args.shelf.now)
    _ _ _ _ (returns-in-Err-Refused-clause-headline g c s h)

pub returns-in-Err-Refused-clause-made : goal.returns-in-Err-Refused-clause-made
returns-in-Err-Refused-clause-made g c some =
    let words = map string_bytes c.args.words.now in
    absurd (no_seed words (subst (λ error. ReadsWords words (Err error)) c.in-Err-Refused.field-0-is c.in-Err-Refused.ensures.reads) some)

pub returns-in-Err-Refused-clause-takes : goal.returns-in-Err-Refused-clause-takes
returns-in-Err-Refused-clause-takes g c s = (
  BadWords,
  c.code-in-Err-Refused.ensures,
  words_take g.S.Source g.H.Shelf (run_asking (map string_bytes c.args.words.now) (g.S.Source.left c.args.script.now)) (world_of c.args.script.now c.args.shelf.now c.args.sink.now),
)

pub returns-in-Err-Refused-clause-asked : goal.returns-in-Err-Refused-clause-asked
returns-in-Err-Refused-clause-asked g c s = asks_none g.H.Shelf (run_asking (map string_bytes c.args.words.now) (g.S.Source.left c.args.script.now)) c.args.shelf.now

-- There was no memory to read them.

pub returns-in-Err-Memory-clause-headline : goal.returns-in-Err-Memory-clause-headline
returns-in-Err-Memory-clause-headline g c s h =
    (NoMemory, c.code-in-Err-Memory.ensures, memory_as g.S.Source g.H.Shelf g.K.Sink _ _ c.args.script.now c.args.shelf.now c.args.sink.now)

pub returns-in-Err-Memory-clause-unbounded : goal.returns-in-Err-Memory-clause-unbounded
returns-in-Err-Memory-clause-unbounded g c s h =
    as_unbounded g.S.Source g.H.Shelf g.K.Sink (map string_bytes c.args.words.now) (g.S.Source.left c.args.script.now) (g.H.Shelf.files c.args.shelf.now)
    _ _ _ _ (returns-in-Err-Memory-clause-headline g c s h)

pub returns-in-Err-Memory-clause-made : goal.returns-in-Err-Memory-clause-made
returns-in-Err-Memory-clause-made g c some =
    (NoMemory, c.code-in-Err-Memory.ensures, memory_as g.S.Source g.H.Shelf g.K.Sink _ _ c.args.script.now c.args.shelf.now c.args.sink.now)

pub returns-in-Err-Memory-clause-takes : goal.returns-in-Err-Memory-clause-takes
returns-in-Err-Memory-clause-takes g c s = (
  NoMemory,
  c.code-in-Err-Memory.ensures,
  memory_takes g.S.Source g.H.Shelf (run_asking (map string_bytes c.args.words.now) (g.S.Source.left c.args.script.now)) (world_of c.args.script.now c.args.shelf.now c.args.sink.now),
)

pub returns-in-Err-Memory-clause-asked : goal.returns-in-Err-Memory-clause-asked
returns-in-Err-Memory-clause-asked g c s = asks_none g.H.Shelf (run_asking (map string_bytes c.args.words.now) (g.S.Source.left c.args.script.now)) c.args.shelf.now
