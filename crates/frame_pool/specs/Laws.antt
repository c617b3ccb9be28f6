use Rattle.std.proofs.Common.{◌≡◌, ℕ, ◌+◌, ◌-◌, ◌<◌, List, length}
use Rattle.std.proofs.lemmas.List.{get_or-replicate, get_or-set_same, get_or-set_other}
use Rattle.frame_pool.specs.Counts.{none_shared, sharers_of, held, released}

-- Laws of the counts, for the crates above.

-- at first no page names any frame
pub none_at : (frames frame : ℕ) → frame < frames → sharers_of (none_shared frames) frame ≡ 0
unfolding none_shared
none_at frames frame there = get_or-replicate frames frame 0 0 there

-- a page more, or fewer, names that frame, and as many name each other one
pub held_here : (counts : List ℕ) (frame : ℕ) → frame < length counts → sharers_of (held counts frame) frame ≡ sharers_of counts frame + 1
held_here counts frame there = get_or-set_same counts frame _ 0 there

pub held_other : (counts : List ℕ) (frame other : ℕ) → (other ≡ frame → ⊥) → sharers_of (held counts frame) other ≡ sharers_of counts other
held_other counts frame other differ = get_or-set_other counts frame other _ 0 differ

pub released_here : (counts : List ℕ) (frame : ℕ) → frame < length counts → sharers_of (released counts frame) frame ≡ sharers_of counts frame - 1
released_here counts frame there = get_or-set_same counts frame _ 0 there

pub released_other : (counts : List ℕ) (frame other : ℕ) → (other ≡ frame → ⊥) → sharers_of (released counts frame) other ≡ sharers_of counts other
released_other counts frame other differ = get_or-set_other counts frame other _ 0 differ
