use Rattle.std.specs.Prelude.{ℕ, zero, suc, ◌+◌, ◌*◌, ◌/◌, ◌%◌, ◌^◌}

-- The draws of a seed, by a linear congruential generator with the multiplier and the increment of Knuth's MMIX.

abbrev pub next_state : ℕ → ℕ
next_state state = (state * 6364136223846793005 + 1442695040888963407) % 2 ^ 64

-- the state after so many steps from the seed
unfoldable pub state_drawn : ℕ → ℕ → ℕ
state_drawn seed zero = seed
state_drawn seed (suc steps) = next_state (state_drawn seed steps)

-- what is drawn in a state: its high 31 bits
abbrev pub drawn_in : ℕ → ℕ
drawn_in state = state / 2 ^ 33

-- draw k of a seed, from 1
abbrev pub draw : ℕ → ℕ → ℕ
draw seed k = drawn_in (state_drawn seed k)
