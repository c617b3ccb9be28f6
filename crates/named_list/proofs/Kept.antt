use Rattle.std.proofs.Common.{◌≡◌, ℕ, zero, suc, ◌+◌, ◌<◌, ◌≤◌, Bool, true, false, cond, List, [], ◌∷◌, ◌++◌, length, get_or, remove, slice_get, Option, Some, None, sym, ap, subst, ◌∙◌, refl, inl, inr, arith}
use Rattle.std.specs.List.{AllByRecursion, IsDistinct}
use Rattle.std.specs.Option.{is_some, option_map, unwrap_or}
use Rattle.std.specs.HashMap.{HashMap, UpdatesBy}
use Rattle.std.specs.Map.{keys_of, lookup, remove_entry}
use Rattle.std.proofs.lemmas.Bool.{cases_lt}
use Rattle.std.proofs.lemmas.Cmp.{nat_list_eq_equiv}
use Rattle.std.proofs.lemmas.List.{length-map, map-append}
use Rattle.std.proofs.lemmas.Option.{slice_get-get_or, slice_get-map}
use Rattle.std.proofs.lemmas.Map.{lookup-remove_entry}
use Rattle.std.proofs.lemmas.Map.Entries.{place_from_lookup}
use Rattle.std.proofs.lemmas.Map.Keys.{IsDistinct-push}
use Rattle.std.proofs.lemmas.Map.Made.{is_some-lookup}
use Rattle.indexmap.proofs.SetLemmas.{map-remove}
use Rattle.number_maps.specs.Rows.{IsAt, IsGap, RowsRise}
use Rattle.number_maps.specs.RowLaws.{rise_remove}
use Rattle.named_list.specs.Listed.{IsListed, entries_of, numbers_of}
use Rattle.named_list.specs.Places.{IsFirstNamed}
use Rattle.named_list.proofs.Places.{first_rest, first_value, first_within}
use Rattle.named_list.proofs.Told.{found_here, found_later, none_alike, same, told_edited, told_push}

-- What rows that rise stand for, and what a change of them is to the entries and to the numbers by name.

-- what is so of all stays so when one goes
all_others : {X : Type 0} (P : X → Type 0) (xs : List X) (i : ℕ) → AllByRecursion P xs → AllByRecursion P (remove xs i)
all_others P [] zero h = h
all_others P [] (suc i) h = h
all_others P (x ∷ xs) zero h = h.1
all_others P (x ∷ xs) (suc i) h = (h.0, all_others P xs i h.1)

distinct_others : {X : Type 0} (eq : X → X → Bool) (xs : List X) (i : ℕ) → IsDistinct eq xs → IsDistinct eq (remove xs i)
unfolding IsDistinct
distinct_others eq [] zero h = h
distinct_others eq [] (suc i) h = h
distinct_others eq (x ∷ xs) zero h = h.1
distinct_others eq (x ∷ xs) (suc i) h = (all_others (λ y. eq x y ≡ false) xs i h.0, distinct_others eq xs i h.1)

module _ {B : Type 0} (name : B → List ℕ) where
  -- the names are the same beside values and beside numbers
  names_alike : {V : Type 0} (value : B → V) (rows : List (ℕ × B)) → keys_of (numbers_of name rows) ≡ keys_of (entries_of name value rows)
  names_alike value [] = refl
  names_alike value (row ∷ rows) = ap (λ names. name row.1 ∷ names) (names_alike value rows)

  -- The row of the number that a name has is the first one with that name.

  told_at : (rows : List (ℕ × B)) (i : ℕ) (k : List ℕ) (n : ℕ) → slice_get (numbers_of name rows) i ≡ Some (k, n) → IsAt rows n i
  told_at [] i k n is = cc
  told_at (row ∷ rows) zero k n is = record { there = omega arith; has = ap (λ o. unwrap_or (option_map (λ e. e.1) o) 0) is }
  told_at (row ∷ rows) (suc i) k n is = let at = told_at rows i k n is in record { there = omega (arith, at.there); has = at.has }

  has_row : (rows : List (ℕ × B)) (q : List ℕ) (n : ℕ) → lookup (same q) (numbers_of name rows) ≡ Some n → (i : ℕ) × IsAt rows n i
  has_row rows q n told = let p = place_from_lookup (same q) (numbers_of name rows) n told in (p.0, told_at rows p.0 p.1 n p.2)

  not_gap : (rows : List (ℕ × B)) (q : List ℕ) (n i : ℕ) → lookup (same q) (numbers_of name rows) ≡ Some n → IsGap rows n i → ⊥
  not_gap rows q n i told gap =
      let row = has_row rows q n told in
      elim (cases_lt row.0 i) [
        | inl less ↦ omega (arith, gap.before row.0 less, row.1.has)
        | inr more ↦ omega (arith, gap.behind row.0 more row.1.there, row.1.has)
      ]

  least_at : (from : ℕ) (rows : List (ℕ × B)) (n i : ℕ) → RowsRise from rows → IsAt rows n i → from ≤ n
  least_at from [] n i rise at = absurd (omega (arith, at.there))
  least_at from (row ∷ rows) n zero rise at = omega (arith, rise.0, at.has)
  least_at from (row ∷ rows) n (suc i) rise at =
      omega (arith, least_at (row.0 + 1) rows n i rise.1 (record { there = omega (arith, at.there); has = at.has }), rise.0)

  first_at : (from : ℕ) (rows : List (ℕ × B)) (q : List ℕ) (n i : ℕ) → RowsRise from rows → lookup (same q) (numbers_of name rows) ≡ Some n → IsAt rows n i
      → IsFirstNamed q (keys_of (numbers_of name rows)) i
  first_at from [] q n i rise told at = cc
  first_at from (row ∷ rows) q n zero rise told at = by (same q (name row.1)) refl
    where
      by : (b : Bool) → same q (name row.1) ≡ b → same q (name row.1) ≡ true
      by true is = is
      by false is =
          let later = has_row rows q n (found_later _ row.0 (lookup (same q) (numbers_of name rows)) (Some n) is told) in
          absurd (omega (arith, least_at (row.0 + 1) rows n later.0 rise.1 later.1, at.has))
  first_at from (row ∷ rows) q n (suc i) rise told at =
      let rest : IsAt rows n i = record { there = omega (arith, at.there); has = at.has } in
      by rest (λ later. first_at (row.0 + 1) rows q n i rise.1 later rest) (same q (name row.1)) refl
    where
      by : IsAt rows n i → (lookup (same q) (numbers_of name rows) ≡ Some n → IsFirstNamed q (keys_of (numbers_of name rows)) i)
          → (b : Bool) → same q (name row.1) ≡ b → (same q (name row.1) ≡ false) × IsFirstNamed q (keys_of (numbers_of name rows)) i
      by rest first true is =
          absurd (omega (arith, least_at (row.0 + 1) rows n i rise.1 rest, found_here _ row.0 n (lookup (same q) (numbers_of name rows)) is told))
      by rest first false is = (is, first (found_later _ row.0 (lookup (same q) (numbers_of name rows)) (Some n) is told))

  -- One row more, whose number is the next one.

  rise_push : (from : ℕ) (rows : List (ℕ × B)) (n : ℕ) (b : B) → RowsRise from rows → from ≤ n → AllByRecursion (λ row. row.0 < n) rows
      → RowsRise from (rows ++ (n, b) ∷ [])
  rise_push from [] n b rise low below = (low, tt)
  rise_push from (row ∷ rows) n b rise low below = (rise.0, rise_push (row.0 + 1) rows n b rise.1 (omega (arith, below.0)) below.1)

  below_push : (rows : List (ℕ × B)) (n : ℕ) (b : B) → AllByRecursion (λ row. row.0 < n) rows → AllByRecursion (λ row. row.0 < n + 1) (rows ++ (n, b) ∷ [])
  below_push [] n b below = (omega arith, tt)
  below_push (row ∷ rows) n b below = (omega (arith, below.0), below_push rows n b below.1)

  module _ {K : Type 0} (bytes : K → List ℕ) where
    -- what a map of numbers has under a name
    abbrev told_in : List (K × ℕ) → List ℕ → Option ℕ
    told_in numbers q = lookup (λ key. same q (bytes key)) numbers

    listed_push : (old new : List (K × ℕ)) (rows : List (ℕ × B)) (n : ℕ) (b : B) → IsListed name bytes old rows n
        → lookup (same (name b)) (numbers_of name rows) ≡ None → ((q : List ℕ) → told_in new q ≡ cond (same (name b) q) (Some n) (told_in old q))
        → IsListed name bytes new (rows ++ (n, b) ∷ []) (n + 1)
    listed_push old new rows n b listed none edited = record {
      rise = rise_push 0 rows n b listed.rise (omega arith) listed.below;
      below = below_push rows n b listed.below;
      distinct = subst (IsDistinct same) (sym (ap keys_of more ∙ map-append (λ e. e.0) (numbers_of name rows) ((name b, n) ∷ [])))
          (IsDistinct-push nat_list_eq_equiv (keys_of (numbers_of name rows)) (name b) listed.distinct
          (sym (is_some-lookup (same (name b)) (numbers_of name rows)) ∙ ap is_some none));
      told = λ q. edited q ∙ ap (cond (same (name b) q) (Some n)) (listed.told q)
          ∙ sym (ap (lookup (same q)) more ∙ told_push (numbers_of name rows) (name b) n q none);
    }
      where
        more : numbers_of name (rows ++ (n, b) ∷ []) ≡ numbers_of name rows ++ (name b, n) ∷ []
        more = map-append (λ row. (name row.1, row.0)) rows ((n, b) ∷ [])

    listed_remove : (old new : List (K × ℕ)) (rows : List (ℕ × B)) (next i : ℕ) (q : List ℕ) → IsListed name bytes old rows next → i < length rows
        → IsFirstNamed q (keys_of (numbers_of name rows)) i → ((p : List ℕ) → told_in new p ≡ cond (same q p) None (told_in old p))
        → IsListed name bytes new (remove rows i) next
    listed_remove old new rows next i q listed within first edited = record {
      rise = rise_remove 0 rows i listed.rise within;
      below = all_others (λ row. row.0 < next) rows i listed.below;
      distinct = subst (IsDistinct same) (sym (ap keys_of fewer ∙ map-remove (λ e. e.0) (numbers_of name rows) i))
          (distinct_others same (keys_of (numbers_of name rows)) i listed.distinct);
      told = λ p. edited p ∙ ap (cond (same q p) None) (listed.told p)
          ∙ sym (ap (lookup (same p)) (fewer ∙ sym (first_rest q (numbers_of name rows) i first))
          ∙ lookup-remove_entry nat_list_eq_equiv (same q) (λ x y h. nat_list_eq_equiv.congr q x y h) p (numbers_of name rows) listed.distinct);
    }
      where
        fewer : numbers_of name (remove rows i) ≡ remove (numbers_of name rows) i
        fewer = map-remove (λ row. (name row.1, row.0)) rows i

    -- no entries
    pub listed_none : (numbers : List (K × ℕ)) (rows : List (ℕ × B)) → numbers ≡ [] → rows ≡ [] → IsListed name bytes numbers rows 0
    unfolding IsDistinct
    listed_none numbers rows no_numbers no_rows =
        subst (λ ns. IsListed name bytes ns rows 0) (sym no_numbers)
        (subst (λ rs. IsListed name bytes [] rs 0) (sym no_rows) (record { rise = tt; below = tt; distinct = tt; told = λ q. refl }))

  -- Rows and the entries that they stand for.

  module _ {V : Type 0} (value : B → V) (rows : List (ℕ × B)) (entries : List (List ℕ × V)) (view : entries_of name value rows ≡ entries) where
    -- where a name's number has its row, the name stands
    module _ {K : Type 0} (bytes : K → List ℕ) (numbers : List (K × ℕ)) (next : ℕ) (listed : IsListed name bytes numbers rows next) (q : List ℕ) where
      pub none_found : None ≡ told_in bytes numbers q → lookup (same q) entries ≡ None
      none_found none =
          ap (lookup (same q)) (sym view)
          ∙ none_alike q (numbers_of name rows) (entries_of name value rows) (names_alike value rows) (sym (listed.told q) ∙ sym none)

      pub no_gap : (n i : ℕ) → Some n ≡ told_in bytes numbers q → IsGap rows n i → ⊥
      no_gap n i told gap = not_gap rows q n i (sym (listed.told q) ∙ sym told) gap

      pub found : (n i : ℕ) → Some n ≡ told_in bytes numbers q → IsAt rows n i → IsFirstNamed q (keys_of entries) i
      found n i told at =
          subst (λ names. IsFirstNamed q names i) (names_alike value rows ∙ ap keys_of view)
          (first_at 0 rows q n i listed.rise (sym (listed.told q) ∙ sym told) at)

    -- what stands there, and what is left without it
    module _ (q : List ℕ) (i : ℕ) (first : IsFirstNamed q (keys_of entries) i) where
      abbrev entry_of : ℕ × B → List ℕ × V
      entry_of row = (name row.1, value row.1)

      abbrev value_of : Option (List ℕ × V) → Option V
      value_of entry = option_map (λ e. e.1) entry

      pub place_within : i < length rows
      place_within = omega (arith, first_within q entries i first, ap length view, length-map rows entry_of)

      pub place_value : (row : ℕ × B) → row ≡ get_or rows i row → Some (value row.1) ≡ lookup (same q) entries
      place_value row is =
          sym (first_value q entries i first ∙ ap (λ es. value_of (slice_get es i)) (sym view)
          ∙ ap value_of (slice_get-map entry_of rows i ∙ ap (option_map entry_of) (slice_get-get_or rows i row place_within ∙ ap Some (sym is))))

      pub place_rest : (rest : List (ℕ × B)) → rest ≡ remove rows i → entries_of name value rest ≡ remove_entry (same q) entries
      place_rest rest is =
          ap (entries_of name value) is ∙ map-remove entry_of rows i ∙ ap (λ es. remove es i) view ∙ sym (first_rest q entries i first)

      pub listed_rest : {K S : Type 0} (bytes : K → List ℕ) (old new : HashMap K ℕ S) (rest : List (ℕ × B)) (next : ℕ)
          → IsListed name bytes old.entries rows next → UpdatesBy (λ x y. same (bytes x) (bytes y)) (λ key. same q (bytes key)) old new None
          → rest ≡ remove rows i → IsListed name bytes new.entries rest next
      listed_rest bytes old new rest next listed edit is =
          subst (λ rs. IsListed name bytes new.entries rs next) (sym is)
          (listed_remove bytes old.entries new.entries rows next i q listed place_within
          (subst (λ names. IsFirstNamed q names i) (sym (names_alike value rows ∙ ap keys_of view)) first) (told_edited bytes old new q None edit))

    -- what one more leaves, under a name that no entry has
    pub listed_more : {K S : Type 0} (bytes : K → List ℕ) (old new : HashMap K ℕ S) (more : List (ℕ × B)) (n : ℕ) (b : B) (q key : List ℕ)
        → IsListed name bytes old.entries rows n → lookup (same q) entries ≡ None → name b ≡ q → key ≡ q
        → UpdatesBy (λ x y. same (bytes x) (bytes y)) (λ k. same key (bytes k)) old new (Some n) → more ≡ rows ++ (n, b) ∷ []
        → IsListed name bytes new.entries more (n + 1)
    listed_more bytes old new more n b q key listed absent named keyed edit is =
        let none = none_alike q entries (numbers_of name rows) (sym (names_alike value rows ∙ ap keys_of view)) absent in
        subst (λ rs. IsListed name bytes new.entries rs (n + 1)) (sym is)
        (listed_push bytes old.entries new.entries rows n b listed (ap (λ k. lookup (same k) (numbers_of name rows)) named ∙ none)
        (λ p. told_edited bytes old new key (Some n) edit p ∙ ap (λ k. cond (same k p) (Some n) (told_in bytes old.entries p)) (keyed ∙ sym named)))
