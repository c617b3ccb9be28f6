use Rattle.std.specs.Prelude.{◌≡◌, ℕ, List, get_or, Option, Some, None}
use Rattle.std.specs.Box.{with_value}
use Rattle.std.specs.Ordering.{nat_cmp}
use Rattle.std.specs.FinMap.{FinMap}
use Rattle.number_maps.specs.Slots.{slotted}
use Rattle.by_number.specs.declared.slots.Slot.{Slot}
use Rattle.by_number.specs.declared.slots.Slot.TheVariants.{Empty, Full}

-- What the slots hold, as the values that they stand for. No public clause cites this module.

module _ {T : Type 0} where
  -- the value of a slot
  abbrev pub value_of : Slot T → Option T
  value_of Empty = None
  value_of (Full box) = Some box.value

  -- the slot after its value was written
  abbrev pub slot_with : Slot T → T → Slot T
  slot_with Empty value = Empty
  slot_with (Full box) value = Full (with_value box value)

  -- the slot of a number, which is empty where there is none; and its value
  abbrev pub slot_at : List (Slot T) → ℕ → Slot T
  slot_at slots n = get_or slots n Empty

  abbrev pub value_at : List (Slot T) → ℕ → Option T
  value_at slots n = value_of (slot_at slots n)

  -- the values by number
  unfoldable pub values : List (Slot T) → FinMap nat_cmp T
  values slots = slotted (λ n slot. value_of slot) slots

  -- a number has this value, and each other slot is as it was
  pub record IsEdited (old new : List (Slot T)) (n : ℕ) (value : Option T) : Type 0 where
    pub value_is : value_at new n ≡ value
    pub others : (q : ℕ) → (q ≡ n → ⊥) → slot_at new q ≡ slot_at old q
