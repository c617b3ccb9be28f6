use Rattle.frame_pool.specs.Counts.{none_shared}
use Rattle.frame_pool.proofs.pool.FramePool.new.Goals as goal

pub returns-clause-none : goal.returns-clause-none
unfolding none_shared
returns-clause-none c = c.in_ok-counts.ensures.items_if_clones_equal (λ y h. h)
