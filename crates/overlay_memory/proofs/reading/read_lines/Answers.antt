use Rattle.std.proofs.Common.{◌+◌, ◌-◌, length, take, drop, arith, length-drop}
use Rattle.std.proofs.lemmas.List.{length-take-le}
use Rattle.overlay_pages.specs.State.{memory_of}
use Rattle.overlay_pages.specs.View.{state_of}
use Rattle.overlay_memory.proofs.ReadSoFar.{read_more, read_refused}
use Rattle.overlay_memory.proofs.reading.read_lines.Goals as goal

pub reading-preserved : goal.reading-preserved
reading-preserved c =
    let into = c.reading.into in
    let done = c.reading.done in
    let n = c.min-n.result in
    let so_far = c.reading.invariant in
    let piece = c.read_line.new.into in
    let least = c.min-n.ensures in
    let count = length-take-le (done + n - done) (drop done into) (omega (arith, length-drop done into, so_far.within, least)) in
    read_more (memory_of (state_of c.args.pages.now) c.args.space) c.args.need.0 c.args.address into piece _ done n (length (take (done + n - done) (drop done into)))
    so_far c.in-Ok.ensures.kept (omega (arith, count)) c.in-Ok.ensures.access c.in-Ok.ensures.bytes c.in-Ok.ensures.low (omega (arith, least))

pub returns-in-Err-clause-access : goal.returns-in-Err-clause-access
returns-in-Err-clause-access c =
    let into = c.reading.into in
    let done = c.reading.done in
    let n = c.min-n.result in
    let so_far = c.reading.invariant in
    let least = c.min-n.ensures in
    let same = c.reading.auto.into in
    let count = length-take-le (done + n - done) (drop done into) (omega (arith, length-drop done into, so_far.within, least)) in
    read_refused (state_of c.args.pages.now) c.args.space c.args.need.0 c.args.address done (length (take (done + n - done) (drop done into)))
    (length c.args.into.now) c.in-Err.error
    so_far.allowed (omega (arith, count, so_far.within, least, same)) c.in-Err.ensures.access
