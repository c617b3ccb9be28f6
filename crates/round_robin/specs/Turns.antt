use Rattle.std.specs.Prelude.{ℕ, zero, suc, ◌+◌, ◌-◌, ◌==◌, ◌&&◌, min, nat_lt, Bool, List, [], ◌∷◌, Option, Some, None, if◌then◌else◌}
use Rattle.std.specs.List.{filter, list_any}
use Rattle.std.specs.Option.{option_or}

-- The order of turns. A number goes on while it is running and has had fewer turns than the quantum since it
-- was last chosen anew. Otherwise a number is chosen anew: the least running one above the last one, else the
-- least running one. At the start the least running one is chosen anew.

abbrev pub lesser : ℕ → Option ℕ → ℕ
lesser n None = n
lesser n (Some m) = min n m

-- the least of some numbers
abbrev pub least : List ℕ → Option ℕ
least [] = None
least (n ∷ ns) = Some (lesser n (least ns))

-- the least of those that are above one
abbrev pub least_above : ℕ → List ℕ → Option ℕ
least_above p numbers = least (filter (λ n. nat_lt p n) numbers)

-- The number of the last turn, and how many turns it has had since it was last chosen anew.
pub record Last : Type 0 where
  pub number : ℕ
  pub had : ℕ

-- Where the turns stand: the quantum, and the last number; none at the start.
pub record Turns : Type 0 where
  pub quantum : ℕ
  pub last : Option Last

abbrev pub goes_on : ℕ → Last → List ℕ → Bool
goes_on quantum last running = nat_lt last.had quantum && list_any (λ n. n == last.number) running

abbrev pub next_after : ℕ → Option Last → List ℕ → Option ℕ
next_after quantum None running = least running
next_after quantum (Some last) running =
    if goes_on quantum last running then Some last.number else option_or (least_above last.number running) (least running)

-- the number whose turn is next, of those that are running
abbrev pub next_number : Turns → List ℕ → Option ℕ
next_number turns running = next_after turns.quantum turns.last running

-- how many turns a number, whose turn is next, has had since it was last chosen anew: none where that is now
abbrev pub had_before : ℕ → Option Last → ℕ → ℕ
had_before quantum None p = 0
had_before quantum (Some last) p = if p == last.number && nat_lt last.had quantum then last.had else 0

-- where the turns stand where a number was the last, and has had so many
abbrev pub with_turns : ℕ → ℕ → Turns → Turns
with_turns p had turns = record { quantum = turns.quantum; last = Some (record { number = p; had = had }) }

-- where they stand after a turn of a number
abbrev pub after_turn_of : ℕ → Turns → Turns
after_turn_of p turns = with_turns p (had_before turns.quantum turns.last p + 1) turns

-- how many turns a number, whose turn is next, has until another one's may be
abbrev pub left_for : ℕ → Turns → ℕ
left_for p turns = turns.quantum - had_before turns.quantum turns.last p

-- where the turns stand after so many of one number
abbrev pub after_turns_of : ℕ → ℕ → Turns → Turns
after_turns_of zero p turns = turns
after_turns_of (suc n) p turns = after_turns_of n p (after_turn_of p turns)
