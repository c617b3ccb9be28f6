use Rattle.std.proofs.Common.{length, refl}
use Rattle.rv_execute.specs.Calls.{load_at}
use Rattle.machine_core.proofs.Viewing.{unchanged_front}
use Rattle.machine_core.proofs.view.ViewGuestMemory.load.Goals as goal

pub returns-then-load_front-clause-answer : goal.returns-then-load_front-clause-answer
returns-then-load_front-clause-answer c =
    let done = c.if-load_front.true in (c.load_front.ensures.access done, c.load_front.ensures.bytes done)

pub returns-then-load_front-clause-made : goal.returns-then-load_front-clause-made
returns-then-load_front-clause-made c =
    let fits = c.is_aligned.ensures c.if-is_aligned.true in
    let done = c.if-load_front.true in
    unchanged_front c.args.self.now _ refl refl (load_at c.args.address (length c.args.into.now)) fits.0 fits.1 (c.load_front.ensures.front done) refl c.load_front.ensures.same
    (c.load_front.ensures.translations done)
