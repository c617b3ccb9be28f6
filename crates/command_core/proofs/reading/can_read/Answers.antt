use Rattle.std.proofs.Common.{◌≡◌, ◌+◌, ◌≤◌, ap, sym, ◌∙◌, arith}
use Rattle.std.specs.Prelude.{length, take}
use Rattle.std.proofs.lemmas.List.{length-take-le}
use Rattle.ovl_io.specs.Memory.{first_denied}
use Rattle.overlay_pages.specs.State.{memory_of}
use Rattle.overlay_memory.specs.View.{state_of}
use Rattle.command_core.proofs.Bytes.{ends_low, look_err, look_ok, look_on}
use Rattle.command_core.proofs.reading.can_read.Goals as goal

pub returns-in-Err-clause-looks : goal.returns-in-Err-clause-looks
returns-in-Err-clause-looks c =
    let memory = memory_of (state_of c.args.memory.now) c.args.p in
    let from = c.args.address + c.from.result in
    let piece = length (take c.min-piece.result c.looking.buffer) in
    let long : piece ≡ c.min-piece.result = length-take-le c.min-piece.result c.looking.buffer (omega (arith, c.min-piece.ensures, c.from.array_long)) in
    let next : from ≡ c.args.address + c.looking.done = omega (arith, c.from.ensures) in
    let within : c.looking.done + piece ≤ c.args.n = omega (arith, c.looking-test.true, c.min-piece.ensures, long) in
    look_err memory c.args.address from c.looking.done piece c.args.n c.in-Err.code next within c.looking.invariant.none c.in-Err.ensures.looks

pub looking-preserved : goal.looking-preserved
looking-preserved c =
    let memory = memory_of (state_of c.args.memory.now) c.args.p in
    let from = c.args.address + c.from.result in
    let piece = length (take c.min-piece.result c.looking.buffer) in
    let long : piece ≡ c.min-piece.result = length-take-le c.min-piece.result c.looking.buffer (omega (arith, c.min-piece.ensures, c.from.array_long)) in
    let next : from ≡ c.args.address + c.looking.done = omega (arith, c.from.ensures) in
    let within : c.looking.done + c.min-piece.result ≤ c.args.n = omega (arith, c.looking-test.true, c.min-piece.ensures) in
    let here = look_ok (first_denied memory 0 from piece) c.in-Ok.ensures.looks in
    let none = look_on memory c.args.address from c.looking.done c.min-piece.result c.args.n next within
    c.looking.invariant.none (sym (ap (first_denied memory 0 from) long) ∙ here) in
    record {
      none = none;
      low = ends_low c.args.memory.now c.args.p c.args.address (c.looking.done + c.min-piece.result) c.has_space.ensures.joined none;
      within = within;
    }
