use Rattle.std.proofs.Common.{◌≡◌, ℕ, ◌<◌, true, List, [], length, get_or, set, Option, Some, None, refl, sym, ap, ◌∙◌, inl, inr}
use Rattle.std.specs.Option.{is_some}
use Rattle.std.specs.Ordering.{nat_cmp}
use Rattle.std.specs.FinMap.{empty, get, get-empty, insert, remove}
use Rattle.std.proofs.lemmas.Bool.{cases_lt}
use Rattle.std.proofs.lemmas.List.{get_or-set_same, get_or-set_other, get_or_past}
use Rattle.std.proofs.lemmas.Option.{get_or_from_slice_get, slice_get_read}
use Rattle.number_maps.specs.Keys.{alike, by_key, get_other, get_same, removed_other, removed_same}
use Rattle.number_maps.specs.Slots.{get_slotted}
use Rattle.by_number.specs.declared.slots.Slot.{Slot}
use Rattle.by_number.specs.declared.slots.Slot.TheVariants.{Empty, Full}
use Rattle.by_number.specs.Values.{IsNextValue}
use Rattle.by_number.specs.Slots.{IsEdited, slot_at, slot_with, value_at, value_of, values}

-- What a change of slots is to their values.

module _ {T : Type 0} where
  pub get_values : (slots : List (Slot T)) (q : ℕ) → get (values slots) q ≡ value_at slots q
  unfolding values
  get_values slots q = get_slotted (λ n slot. value_of slot) Empty (λ n. refl) slots q

  pub no_values : (slots : List (Slot T)) → slots ≡ [] → values slots ≡ empty
  no_values slots none =
      alike _ _ (λ q. get_values slots q ∙ ap (λ (s : List (Slot T)). value_at s q) none ∙ sym (get-empty {X = T} nat_cmp q))

  pub values_put : (old new : List (Slot T)) (n : ℕ) (value : T) → IsEdited old new n (Some value) → values new ≡ insert (values old) n value
  values_put old new n value edited = alike _ _ (λ q. get_values new q ∙ by_key q n
      (λ same. ap (value_at new) same ∙ edited.value_is ∙ sym (get_same (values old) n q value same))
      (λ other. ap value_of (edited.others q other) ∙ sym (get_values old q) ∙ sym (get_other (values old) n q value other)))

  pub values_removed : (old new : List (Slot T)) (n : ℕ) → IsEdited old new n None → values new ≡ remove (values old) n
  values_removed old new n edited = alike _ _ (λ q. get_values new q ∙ by_key q n
      (λ same. ap (value_at new) same ∙ edited.value_is ∙ sym (removed_same (values old) n q same))
      (λ other. ap value_of (edited.others q other) ∙ sym (get_values old q) ∙ sym (removed_other (values old) n q other)))

  pub values_same : (old new : List (Slot T)) → ((q : ℕ) → slot_at new q ≡ slot_at old q) → values new ≡ values old
  values_same old new same = alike _ _ (λ q. get_values new q ∙ ap value_of (same q) ∙ sym (get_values old q))

  -- a number that has a value has a slot
  pub has_slot : (slots : List (Slot T)) (n : ℕ) → is_some (value_at slots n) ≡ true → n < length slots
  has_slot slots n has = elim (cases_lt n (length slots)) [
    | inl below ↦ below
    | inr past ↦ absurd (let none = ap (λ (slot : Slot T). is_some (value_of slot)) (get_or_past slots n Empty past) in cc)
  ]

  -- a slot that was read
  pub slot_is : (slots : List (Slot T)) (n : ℕ) (slot : Slot T) → n < length slots → slot ≡ get_or slots n slot → slot_at slots n ≡ slot
  slot_is slots n slot within read = get_or_from_slice_get slots n slot Empty (slice_get_read slots (length slots) n slot refl within read)

  -- the value of a slot that has one is written
  value_with : (slot : Slot T) (value : T) → is_some (value_of slot) ≡ true → value_of (slot_with slot value) ≡ Some value
  value_with Empty value has = cc
  value_with (Full box) value has = refl

  pub values_written : (slots : List (Slot T)) (n : ℕ) (slot : Slot T) (value : T) → n < length slots → is_some (value_of slot) ≡ true
      → values (set slots n (slot_with slot value)) ≡ insert (values slots) n value
  values_written slots n slot value within has = values_put slots _ n value (record {
    value_is = ap value_of (get_or-set_same slots n (slot_with slot value) Empty within) ∙ value_with slot value has;
    others = λ q other. get_or-set_other slots n q (slot_with slot value) Empty other;
  })

-- the next number by one function is that by another that answers alike
pub next_alike : {T : Type 0} (f g : ℕ → Option T) (from : ℕ) (r : Option ℕ) → ((q : ℕ) → g q ≡ f q) → IsNextValue f from r → IsNextValue g from r
next_alike f g from None same next = λ q le. same q ∙ next q le
next_alike f g from (Some n) same next =
    (next.0, ap is_some (same n) ∙ next.1, λ q le below. same q ∙ next.2 q le below)
