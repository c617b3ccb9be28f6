use Rattle.std.specs.Prelude.{◌≡◌, ℕ, zero, suc, ◌+◌, ◌≤◌, ◌<◌, Bool, true, false, cond, List, [], ◌∷◌, length, Option, Some, None, refl}
use Rattle.std.proofs.Common.{get_or, sym, ap, ◌∙◌, arith}
use Rattle.std.specs.List.{cons_option}
use Rattle.std.specs.Option.{option_map}
use Rattle.std.specs.Ordering.{nat_cmp}
use Rattle.std.specs.Cmp.{nat_cmp_total}
use Rattle.std.specs.FinMap.{FinMap, find, from_entries, get, get-from_entries, len, len-empty, len-insert, contains_key}
use Rattle.number_maps.specs.Keys.{differs, ties}

-- A list of slots seen as a map: what the slot at a place has, under the number of the place.

abbrev pub slot_entries : {X Y : Type 0} → (ℕ → X → Option Y) → ℕ → List X → List (ℕ × Y)
slot_entries view k [] = []
slot_entries view k (slot ∷ slots) = cons_option (option_map (λ y. (k, y)) (view k slot)) (slot_entries view (suc k) slots)

unfoldable pub slotted : {X Y : Type 0} → (ℕ → X → Option Y) → List X → FinMap nat_cmp Y
slotted view slots = from_entries (slot_entries view 0 slots)

module _ {X Y : Type 0} (view : ℕ → X → Option Y) where
  find_below : (k : ℕ) (slots : List X) (q : ℕ) → q < k → find nat_cmp q (slot_entries view k slots) ≡ None
  find_below k [] q below = refl
  find_below k (slot ∷ slots) q below = headed (view k slot) ∙ find_below (suc k) slots q (omega arith)
    where
      headed : (o : Option Y) → find nat_cmp q (cons_option (option_map (λ y. (k, y)) o) (slot_entries view (suc k) slots)) ≡ find nat_cmp q (slot_entries view (suc k) slots)
      headed None = refl
      headed (Some y) = ap (λ b. cond b (Some y) (find nat_cmp q (slot_entries view (suc k) slots))) (differs q k (λ e. absurd (omega arith)))

  find_slot : (d : X) → ((k : ℕ) → view k d ≡ None) → (k : ℕ) (slots : List X) (j : ℕ) → find nat_cmp (k + j) (slot_entries view k slots) ≡ view (k + j) (get_or slots j d)
  find_slot d none k [] j = sym (none (k + j))
  find_slot d none k (slot ∷ slots) zero = headed (view k slot) ∙ ap (λ n. view n slot) same
    where
      same : k ≡ k + zero
      same = omega arith

      rest : List (ℕ × Y)
      rest = slot_entries view (suc k) slots

      headed : (o : Option Y) → find nat_cmp (k + zero) (cons_option (option_map (λ y. (k, y)) o) rest) ≡ o
      headed None = find_below (suc k) slots (k + zero) (omega arith)
      headed (Some y) = ap (λ b. cond b (Some y) (find nat_cmp (k + zero) rest)) (ties (k + zero) k (omega arith))
  find_slot d none k (slot ∷ slots) (suc j) =
      headed (view k slot) ∙ ap (λ q. find nat_cmp q rest) next ∙ find_slot d none (suc k) slots j ∙ ap (λ n. view n (get_or slots j d)) (sym next)
    where
      rest : List (ℕ × Y)
      rest = slot_entries view (suc k) slots

      next : k + suc j ≡ suc k + j
      next = omega arith

      headed : (o : Option Y) → find nat_cmp (k + suc j) (cons_option (option_map (λ y. (k, y)) o) rest) ≡ find nat_cmp (k + suc j) rest
      headed None = refl
      headed (Some y) = ap (λ b. cond b (Some y) (find nat_cmp (k + suc j) rest)) (differs (k + suc j) k (λ e. absurd (omega arith)))

  -- what it has under a number: what the slot there has, where a slot that isn't there has nothing
  pub get_slotted : (d : X) → ((k : ℕ) → view k d ≡ None) → (slots : List X) (q : ℕ) → get (slotted view slots) q ≡ view q (get_or slots q d)
  unfolding slotted
  get_slotted d none slots q =
      let same : zero + q ≡ q = omega arith in
      get-from_entries nat_cmp_total _ q ∙ ap (λ n. find nat_cmp n (slot_entries view 0 slots)) (sym same) ∙ find_slot d none 0 slots q
      ∙ ap (λ n. view n (get_or slots q d)) same

  len_entries : (es : List (ℕ × Y)) → len (from_entries {R = nat_cmp} es) ≤ length es
  len_entries [] = let none = len-empty nat_cmp Y in omega (arith, none)
  len_entries (e ∷ es) = more (contains_key (from_entries es) e.0) _ (len-insert nat_cmp_total (from_entries es) e.0 e.1) (len_entries es)
    where
      more : (b : Bool) (n : ℕ) → n ≡ cond b (len (from_entries {R = nat_cmp} es)) (len (from_entries {R = nat_cmp} es) + 1) → len (from_entries {R = nat_cmp} es) ≤ length es → n ≤ length (e ∷ es)
      more true n is rest = omega (arith, is, rest)
      more false n is rest = omega (arith, is, rest)

  length_entries : (k : ℕ) (slots : List X) → length (slot_entries view k slots) ≤ length slots
  length_entries k [] = omega arith
  length_entries k (slot ∷ slots) = more (view k slot) (length_entries (suc k) slots)
    where
      more : (o : Option Y) → length (slot_entries view (suc k) slots) ≤ length slots
          → length (cons_option (option_map (λ y. (k, y)) o) (slot_entries view (suc k) slots)) ≤ length (slot ∷ slots)
      more None rest = omega (arith, rest)
      more (Some y) rest = omega (arith, rest)

  -- it has at most as many values as there are slots
  pub len_slotted : (slots : List X) → len (slotted view slots) ≤ length slots
  unfolding slotted
  len_slotted slots = let one = len_entries (slot_entries view 0 slots) in let two = length_entries 0 slots in omega (arith, one, two)
