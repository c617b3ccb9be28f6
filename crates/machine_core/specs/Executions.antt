use Rattle.std.specs.Prelude.{◌≡◌, ℕ, zero, suc, ◌+◌, ◌-◌, ◌<◌, ◌≤◌, Bool, if◌then◌else◌, Option}
use Rattle.std.specs.Borrow.{Bor}
use Rattle.std.specs.Option.{option_copied, option_map_or, unwrap_or}
use Rattle.std.specs.FinSet.{contains, empty}
use Rattle.breakpoints.specs.Breakpoints.{Addresses}
use Rattle.rv_execute.specs.declared.outcome.Outcome.{Outcome}
use Rattle.rv_execute.specs.declared.outcome.Outcome.TheVariants.{Stepped, Asked, Fault, Full}
use Rattle.machine_core.specs.Machine.{Wholes}
use Rattle.machine_core.specs.Turns.{AreLikeGuests, Guest, executed, guest_at, outcome_of, with_guest}

-- Executions of one process, one after the other, up to one that is no step, or that leaves the pc at one of some
-- addresses: how many steps there were, the process after them, what came of the last execution, and the process after it.
pub record Executions : Type 0 where
  pub steps : ℕ
  pub before : Guest
  pub outcome : Outcome
  pub after : Guest

-- executions that differ in the numbers of origins alone
pub record AreLikeExecutions (a b : Executions) : Type 0 where
  pub steps : a.steps ≡ b.steps
  pub before : AreLikeGuests a.before b.before
  pub outcome_is : a.outcome ≡ b.outcome
  pub after : AreLikeGuests a.after b.after

-- the addresses that are handed over, if any are
abbrev pub stops_in : Option (Bor Addresses) → Addresses
stops_in stops = unwrap_or (option_copied stops) empty

abbrev pub no_execution : Guest → Executions
no_execution guest = record { steps = 0; before = guest; outcome = Stepped; after = guest }

-- one that is no step
abbrev pub last_execution : Outcome → Guest → Guest → Executions
last_execution outcome guest next = record { steps = 0; before = guest; outcome = outcome; after = next }

-- a step, and the others, unless it leaves the pc at a stop
abbrev pub stopped_execution : Guest → Executions
stopped_execution next = record { steps = 1; before = next; outcome = Stepped; after = next }

abbrev pub more_executions : Executions → Executions
more_executions others = record others { steps = others.steps + 1 }

abbrev pub is_at_stop : Addresses → Guest → Bool
is_at_stop stops guest = contains stops guest.process.registers.pc

-- one execution, and, where it is a step, the others
abbrev pub first_execution : Addresses → Outcome → Guest → Guest → Executions → Executions
first_execution stops Stepped guest next others = if is_at_stop stops next then stopped_execution next else more_executions others
first_execution stops Asked guest next others = last_execution Asked guest next
first_execution stops (Fault kind address) guest next others = last_execution (Fault kind address) guest next
first_execution stops (Full units limit) guest next others = last_execution (Full units limit) guest next

-- so many at most
abbrev pub executions : Addresses → ℕ → ℕ → Guest → Executions
executions stops p zero guest = no_execution guest
executions stops p (suc most) guest =
    first_execution stops (outcome_of p guest) guest (executed p guest) (executions stops p most (executed p guest))

-- so many steps before others
abbrev pub after_steps : ℕ → Executions → Executions
after_steps k others = record others { steps = k + others.steps }

-- the last one of all, up to the numbers of origins, and how many were steps
pub record EndsWith (all : Executions) (k : ℕ) (o : Outcome) (after : Guest) : Type 0 where
  pub steps : k ≡ all.steps
  pub outcome_is : o ≡ all.outcome
  pub after_is : AreLikeGuests after all.after

-- those behind a step, which may have left the pc at a stop
abbrev pub resumed : Addresses → ℕ → ℕ → Guest → Executions
resumed stops p most guest = if is_at_stop stops guest then no_execution guest else executions stops p most guest

-- how many steps it was of which that came
abbrev pub steps_in : Outcome → ℕ
steps_in Stepped = 1
steps_in Asked = 0
steps_in (Fault kind address) = 0
steps_in (Full units limit) = 0

-- What the first of them come to, up to one behind which it isn't known yet whether pc is at a stop, or to one that is no step.
abbrev pub Comes : Addresses → ℕ → ℕ → Guest → ℕ → Outcome → Guest → Type 0
Comes stops p most guest n Stepped next = (n ≤ most) × AreLikeExecutions (after_steps n (resumed stops p (most - n) next)) (executions stops p most guest)
Comes stops p most guest n Asked next = (n ≤ most) × EndsWith (executions stops p most guest) n Asked next
Comes stops p most guest n (Fault kind address) next = (n ≤ most) × EndsWith (executions stops p most guest) n (Fault kind address) next
Comes stops p most guest n (Full units limit) next = (n ≤ most) × EndsWith (executions stops p most guest) n (Full units limit) next

-- what comes from a state comes from another one too
abbrev pub ComesFrom : ℕ → Guest → ℕ → Guest → Type 0
ComesFrom p now q first =
    (stops : Addresses) (most n : ℕ) (o : Outcome) (next : Guest) → 0 < most → (o ≡ Stepped → 0 < n) → Comes stops p most now n o next
    → Comes stops q most first n o next

-- of a process that may be there: how many were steps, and what came of the last one
abbrev pub steps_of : Addresses → ℕ → ℕ → Option Guest → ℕ
steps_of stops p most found = option_map_or (λ guest. (executions stops p most guest).steps) found 0

abbrev pub last_outcome : Addresses → ℕ → ℕ → Option Guest → Outcome
last_outcome stops p most found = option_map_or (λ guest. (executions stops p most guest).outcome) found Stepped

-- the process after them
abbrev pub all_executed : Addresses → ℕ → ℕ → Guest → Guest
all_executed stops p most guest = (executions stops p most guest).after

abbrev pub after_executions : Addresses → ℕ → Wholes → ℕ → Wholes
after_executions stops most state p =
    option_map_or (λ guest. with_guest state p (all_executed stops p most guest)) (guest_at state p) state

abbrev pub steps_to : Addresses → ℕ → Wholes → ℕ → ℕ
steps_to stops most state p = steps_of stops p most (guest_at state p)

abbrev pub came_to_last : Addresses → ℕ → Wholes → ℕ → Outcome
came_to_last stops most state p = last_outcome stops p most (guest_at state p)
