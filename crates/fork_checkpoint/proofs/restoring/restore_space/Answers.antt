use Rattle.std.proofs.Common.{◌≤◌, subst, ◌∙◌, refl}
use Rattle.overlay_pages.specs.Changes.{limit_of}
use Rattle.overlay_memory.specs.View.{state_of}
use Rattle.fork_checkpoint.proofs.Shares.{has_restored}
use Rattle.fork_checkpoint.proofs.restoring.restore_space.Goals as goal

pub returns-in-Some-clause-copies : goal.returns-in-Some-clause-copies
returns-in-Some-clause-copies c = record {
  needed_is = c.in-Some.ensures.needed_is ∙ c.units_restored-needed.ensures.sum;
  limit_is = c.in-Some.ensures.limit_is;
  over = c.in-Some.ensures.over;
  kept = refl;
}

pub refill_space-requires-clause-fits : goal.refill_space-requires-clause-fits
refill_space-requires-clause-fits c = subst (λ n. n ≤ limit_of (state_of c.args.mem.now)) c.units_restored-needed.ensures.sum c.in_default.ensures

pub returns-in-Ok-clause-copies : goal.returns-in-Ok-clause-copies
returns-in-Ok-clause-copies c = (
  subst (λ n. n ≤ limit_of (state_of c.args.mem.now)) c.units_restored-needed.ensures.sum c.in_default.ensures,
  has_restored (state_of c.args.mem.now) (state_of c.refill_space.new.mem) c.args.saved c.args.into c.requires.unmarked c.in-Ok.ensures.refills,
)

pub returns-in-Err-clause-copies : goal.returns-in-Err-clause-copies
returns-in-Err-clause-copies c = (subst (λ n. n ≤ limit_of (state_of c.args.mem.now)) c.units_restored-needed.ensures.sum c.in_default.ensures, c.in-Err.ensures.refills)
