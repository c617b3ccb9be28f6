use Rattle.std.proofs.Common.{◌≡◌, ℕ, ◌+◌, ◌-◌, ◌*◌, ◌%◌, ◌<◌, ◌≤◌, inl, inr, true, zero, suc, List, [], ◌∷◌, length, get_or, slice_set, replicate, Option, Some, None, subst, sym, ap, refl, ◌∙◌, arith}
use Rattle.std.specs.Prelude.{◌⊎◌}
use Rattle.std.specs.Int.{IsNextPowerOfTwo}
use Rattle.std.specs.Option.{is_some, option_map}
use Rattle.std.specs.Ordering.{nat_cmp}
use Rattle.std.specs.FinMap.{FinMap, empty, get, insert, remove, len, len-empty}
use Rattle.std.proofs.lemmas.Bool.{cases_eq, false≢true}
use Rattle.std.proofs.lemmas.List.{get_or-replicate, length-set, length-replicate, length-map, get_or-set_same, get_or-set_other}
use Rattle.sizes.specs.declared.TheConstants.{FRAME_UNITS, MOST_FRAMES}
use Rattle.number_maps.specs.Values.{remove_absent}
use Rattle.overlay_mapping_table.specs.declared.entry.Entry.{Entry}
use Rattle.overlay_mapping_table.specs.Homes.{home_number, IsWay}
use Rattle.overlay_mapping_table.specs.Rows.{rows_of, map_of_slots, no_rows, StandOnce, AreInOrder, HasWay}
use Rattle.overlay_mapping_table.specs.Probes.{AreNow, AreSound, WouldStandAt, StandsAt}
use Rattle.overlay_mapping_table.specs.Table.{NamedEntries, HasRoomFor, AreThoseOf, NoneIsEmptyBefore}
use Rattle.overlay_mapping_table.specs.Kept.{AreTableSlots, names_of}
use Rattle.overlay_mapping_table.proofs.Contents.{IsOwn, none_of, same_key, apart_put, by_slot, counted, got, got_none, len_put, len_over, len_take, map_put, map_of_none, some_row, spared}
use Rattle.overlay_mapping_table.proofs.Searching.{not_bare, within}

-- Tables, by their slots.

module _ (slots : List (Option (ℕ × Entry))) (count room : ℕ) (kept : AreTableSlots slots count room) where
  -- fewer rows than slots
  pub fewer : (length (rows_of slots) < length slots) × (length (rows_of slots) ≡ count)
  fewer =
      let same = counted slots kept.apart in
      (omega (arith, same, kept.counted, kept.few, kept.some, kept.size.1), omega (arith, same, kept.counted))

  pub sound : AreSound slots
  sound =
      record {
        power = kept.size.0;
        most = omega (arith, kept.size.2, kept.most);
        apart = kept.apart;
        order = kept.order;
        spare = let e = spared slots fewer.0 in (e.0, record { inside = e.1; bare = e.2 });
      }

  -- what is kept after a change
  pub kept_now : (new : List (Option (ℕ × Entry))) (entries : FinMap nat_cmp Entry) (now : ℕ) → AreNow slots new entries → now ≡ len entries → now ≤ room
      → AreTableSlots new now room
  kept_now new entries now is counts few =
      record {
        size = subst (IsNextPowerOfTwo (2 * room)) (sym is.size) kept.size;
        apart = is.apart;
        order = is.order;
        counted = counts ∙ sym (ap len is.map);
        few = few;
        some = kept.some;
        most = kept.most;
      }

-- What a table has.

has_there : (slots : List (Option (ℕ × Entry))) (entries : FinMap nat_cmp Entry) (name at : ℕ) → map_of_slots slots ≡ entries → StandOnce slots
    → (there : StandsAt slots name at) → get entries name ≡ Some there.value
has_there slots entries name at same apart there =
    ap (λ (m : FinMap nat_cmp Entry). get m name) (sym same) ∙ got slots name at there.value apart there.is

pub lacks : (slots : List (Option (ℕ × Entry))) (entries : FinMap nat_cmp Entry) (name place : ℕ) → map_of_slots slots ≡ entries → WouldStandAt slots name place
    → None ≡ get entries name
lacks slots entries name place same gap =
    sym (ap (λ (m : FinMap nat_cmp Entry). get m name) (sym same) ∙ got_none slots name gap.absent)

pub got_there : (slots : List (Option (ℕ × Entry))) (entries : FinMap nat_cmp Entry) (name at : ℕ) (value : Option Entry)
    → map_of_slots slots ≡ entries → StandOnce slots → StandsAt slots name at
    → value ≡ option_map (λ (row : ℕ × Entry). row.1) (get_or slots at None) → value ≡ get entries name
got_there slots entries name at value same apart there read =
    read ∙ ap (option_map (λ (row : ℕ × Entry). row.1)) there.is ∙ sym (has_there slots entries name at same apart there)

pub stands_lacking : (slots : List (Option (ℕ × Entry))) (entries : FinMap nat_cmp Entry) (name place : ℕ) → map_of_slots slots ≡ entries
    → WouldStandAt slots name place
    → entries ≡ remove entries name
stands_lacking slots entries name place same gap = sym (remove_absent entries name (sym (lacks slots entries name place same gap)))

-- What is kept afterwards, and what it stands for.

module _ (slots : List (Option (ℕ × Entry))) (count room : ℕ) (kept : AreTableSlots slots count room) (name : ℕ) (e : Entry) where
  -- another value under a name moves no row
  module _ (at : ℕ) (there : StandsAt slots name at) where
    abbrev over : List (Option (ℕ × Entry))
    over = slice_set slots at (Some (name, e))

    as_before : (place w : ℕ) → HasWay (length slots) over place w → HasWay (length slots) slots place w
    as_before place w has = by (cases_eq (place % length slots) at)
      where
        by : (place % length slots ≡ at) ⊎ (place % length slots ≡ at → ⊥) → HasWay (length slots) slots place w
        by (inl here) =
            let now = sym (ap (λ i. get_or over i None) here ∙ get_or-set_same slots at (Some (name, e)) None there.inside) ∙ has.is in
            record {
              name = name;
              value = there.value;
              is = ap (λ i. get_or slots i None) here ∙ there.is;
              way = subst (λ k. IsWay (length slots) (home_number k) w place) (sym (same_key name has.name e has.value now)) has.way;
            }
        by (inr away) =
            record {
              name = has.name;
              value = has.value;
              is = sym (get_or-set_other slots at (place % length slots) (Some (name, e)) None away) ∙ has.is;
              way = has.way;
            }

    and_after : (place w : ℕ) → HasWay (length slots) slots place w → HasWay (length slots) over place w
    and_after place w has = by (cases_eq (place % length slots) at)
      where
        by : (place % length slots ≡ at) ⊎ (place % length slots ≡ at → ⊥) → HasWay (length slots) over place w
        by (inl here) =
            let was = sym there.is ∙ sym (ap (λ i. get_or slots i None) here) ∙ has.is in
            record {
              name = name;
              value = e;
              is = ap (λ i. get_or over i None) here ∙ get_or-set_same slots at (Some (name, e)) None there.inside;
              way = subst (λ k. IsWay (length slots) (home_number k) w place) (sym (same_key name has.name there.value has.value was)) has.way;
            }
        by (inr away) =
            record {
              name = has.name;
              value = has.value;
              is = get_or-set_other slots at (place % length slots) (Some (name, e)) None away ∙ has.is;
              way = has.way;
            }

    pub over_now : (new : List (Option (ℕ × Entry))) → new ≡ slice_set slots at (Some (name, e)) → AreNow slots new (insert (map_of_slots slots) name e)
    over_now new is =
        subst (λ ss. AreNow slots ss (insert (map_of_slots slots) name e)) (sym is) (record {
          size = length-set slots at (Some (name, e));
          apart = apart_put slots name at e own kept.apart;
          order = subst (λ n. AreInOrder n over) (sym (length-set slots at (Some (name, e)))) order;
          map = map_put slots name at e own kept.apart;
        })
      where
        own : IsOwn slots name at
        own =
            record {
              inside = there.inside;
              mine = λ q y is. sym (same_key name q there.value y (sym there.is ∙ is));
              only = λ i y is. kept.apart name y there.value i at is there.is;
            }

        order : AreInOrder (length slots) over
        order place w i has before le =
            let led = kept.order place w i (as_before place w has) before le in (led.0, and_after i led.0 led.1, led.2)

    pub kept_over : (new : List (Option (ℕ × Entry))) → new ≡ slice_set slots at (Some (name, e)) → AreTableSlots new count room
    kept_over new is =
        kept_now slots count room kept new (insert (map_of_slots slots) name e) count (over_now new is)
        (kept.counted ∙ sym (len_over (map_of_slots slots) name e there.value (got slots name at there.value kept.apart there.is))) kept.few

    pub stands_over : (entries : FinMap nat_cmp Entry) (new : List (Option (ℕ × Entry))) → map_of_slots slots ≡ entries
        → new ≡ slice_set slots at (Some (name, e)) → map_of_slots new ≡ insert entries name e
    stands_over entries new same is = (over_now new is).map ∙ ap (λ (m : FinMap nat_cmp Entry). insert m name e) same

  -- there is room for one more, where there is room for the name
  pub room_left : (table : NamedEntries) (place : ℕ) → map_of_slots slots ≡ table.entries → room ≡ table.room → WouldStandAt slots name place → HasRoomFor table name
      → count < room
  room_left table place same same_room gap (inl some) =
      let none = lacks slots table.entries name place same gap in absurd (false≢true (ap is_some none ∙ some))
  room_left table place same same_room gap (inr less) = let lens = ap len same in omega (arith, less, lens, same_room, kept.counted)

  pub kept_put : (new : List (Option (ℕ × Entry))) (place : ℕ) → WouldStandAt slots name place → AreNow slots new (insert (map_of_slots slots) name e)
      → count < room → AreTableSlots new (count + 1) room
  kept_put new place gap now less =
      let more = len_put (map_of_slots slots) name e (got_none slots name gap.absent) in
      kept_now slots count room kept new (insert (map_of_slots slots) name e) (count + 1) now (omega (arith, kept.counted, more)) (omega (arith, less))

  pub stands_put : (entries : FinMap nat_cmp Entry) (new : List (Option (ℕ × Entry))) → map_of_slots slots ≡ entries
      → AreNow slots new (insert (map_of_slots slots) name e) → map_of_slots new ≡ insert entries name e
  stands_put entries new same now = now.map ∙ ap (λ (m : FinMap nat_cmp Entry). insert m name e) same

module _ (slots : List (Option (ℕ × Entry))) (count room : ℕ) (kept : AreTableSlots slots count room) (name at : ℕ) (there : StandsAt slots name at) where
  pub one_at_least : 1 ≤ count
  one_at_least =
      let some = some_row slots at (name, there.value) there.is in
      let same = (fewer slots count room kept).1 in
      omega (arith, some, same)

  pub kept_take : (new : List (Option (ℕ × Entry))) → AreNow slots new (remove (map_of_slots slots) name) → AreTableSlots new (count - 1) room
  kept_take new now =
      let less = len_take (map_of_slots slots) name there.value (got slots name at there.value kept.apart there.is) in
      kept_now slots count room kept new (remove (map_of_slots slots) name) (count - 1) now (omega (arith, kept.counted, less)) (omega (arith, kept.few))

  pub stands_take : (entries : FinMap nat_cmp Entry) (new : List (Option (ℕ × Entry))) → map_of_slots slots ≡ entries
      → AreNow slots new (remove (map_of_slots slots) name) → map_of_slots new ≡ remove entries name
  stands_take entries new same now = now.map ∙ ap (λ (m : FinMap nat_cmp Entry). remove m name) same

-- A new table.

pub kept_new : (slots : List (Option (ℕ × Entry))) (n room : ℕ) → slots ≡ no_rows n → IsNextPowerOfTwo (2 * room) n → 0 < room
    → room ≤ FRAME_UNITS * MOST_FRAMES → AreTableSlots slots 0 room
unfolding no_rows
kept_new slots n room is size some most =
    subst (λ ss. AreTableSlots ss 0 room) (sym is) (record {
      size = subst (IsNextPowerOfTwo (2 * room)) (sym (length-replicate n (none_of {X = Entry}))) size;
      apart = λ name x y i j one two. absurd (empty_at i (name, x) one);
      order = λ place w i has before le. absurd (empty_at (place % length (replicate n (none_of {X = Entry}))) (has.name, has.value) has.is);
      counted = let none = len-empty nat_cmp Entry in let same = ap len (map_of_none {X = Entry} n) in omega (arith, none, same);
      few = omega arith;
      some = some;
      most = most;
    })
  where
    empty_at : (i : ℕ) (row : ℕ × Entry) → get_or (replicate n (none_of {X = Entry})) i None ≡ Some row → ⊥
    empty_at i row there =
        let less = within (replicate n (none_of {X = Entry})) i row there in
        let none : get_or (replicate n (none_of {X = Entry})) i None ≡ None =
        get_or-replicate n i (none_of {X = Entry}) None (omega (arith, less, length-replicate n (none_of {X = Entry}))) in
        cc (none, there)

pub stands_new : (slots : List (Option (ℕ × Entry))) (n : ℕ) → slots ≡ no_rows n → map_of_slots slots ≡ empty
unfolding no_rows
stands_new slots n is = ap map_of_slots is ∙ map_of_none n

-- What the slots show.

name_at : (slots : List (Option (ℕ × Entry))) (i : ℕ) → get_or (names_of slots) i None ≡ option_map (λ (row : ℕ × Entry). row.0) (get_or slots i None)
name_at [] i = refl
name_at (slot ∷ slots) zero = refl
name_at (slot ∷ slots) (suc i) = name_at slots i

pub shown : (table : NamedEntries) (slots : List (Option (ℕ × Entry))) (i : ℕ) (name : Option ℕ) → names_of slots ≡ table.slots
    → name ≡ option_map (λ (row : ℕ × Entry). row.0) (get_or slots i None) → name ≡ get_or table.slots i None
shown table slots i name same read = read ∙ sym (name_at slots i) ∙ ap (λ (names : List (Option ℕ)). get_or names i None) same

row_of : (slot : Option (ℕ × Entry)) (name : ℕ) → option_map (λ (row : ℕ × Entry). row.0) slot ≡ Some name → (x : Entry) × (slot ≡ Some (name, x))
row_of None name is = absurd (cc (is))
row_of (Some row) name is = let same : row.0 ≡ name = cc (is) in (row.1, ap (λ (q : ℕ). some_of q row.1) same)
  where
    some_of : ℕ → Entry → Option (ℕ × Entry)
    some_of q x = Some (q, x)

some_name : (slot : Option (ℕ × Entry)) → (slot ≡ None → ⊥) → is_some (option_map (λ (row : ℕ × Entry). row.0) slot) ≡ true
some_name None other = absurd (other refl)
some_name (Some row) other = refl

module _ (slots : List (Option (ℕ × Entry))) (count room : ℕ) (kept : AreTableSlots slots count room) where
  row_at : (i name : ℕ) → get_or (names_of slots) i None ≡ Some name → (x : Entry) × (get_or slots i None ≡ Some (name, x))
  row_at i name is = row_of (get_or slots i None) name (sym (name_at slots i) ∙ is)

  pub those : AreThoseOf (names_of slots) (map_of_slots slots)
  those =
      record {
        there = λ at name is. let row = row_at at name is in ap is_some (got slots name at row.0 kept.apart row.1);
        each = λ name some. by_slot slots name
            (λ i x is. (i, name_at slots i ∙ ap (option_map (λ (row : ℕ × Entry). row.0)) is))
            (λ none. absurd (false≢true (sym (ap is_some (got_none slots name none)) ∙ some)));
        once = λ name i j one two.
            let first = row_at i name one in
            let second = row_at j name two in
            kept.apart name first.0 second.0 i j first.1 second.1;
      }

  pub ways : NoneIsEmptyBefore (names_of slots)
  ways at name steps j is less there before =
      let same = length-map slots (λ (slot : Option (ℕ × Entry)). option_map (λ (row : ℕ × Entry). row.0) slot) in
      subst (λ n. is_some (get_or (names_of slots) ((home_number name + j) % n) None) ≡ true) (sym same)
      (ap is_some (name_at slots ((home_number name + j) % length slots))
      ∙ some_name (get_or slots ((home_number name + j) % length slots) None)
      (taken (omega (arith, less, same)) (ap (λ n. (home_number name + steps) % n) (sym same) ∙ there)))
    where
      taken : steps < length slots → (home_number name + steps) % length slots ≡ at → get_or slots ((home_number name + j) % length slots) None ≡ None
          → ⊥
      taken less there none =
          let row = row_at at name is in
          let here : HasWay (length slots) slots (home_number name + steps) steps =
          record {
            name = name;
            value = row.0;
            is = ap (λ i. get_or slots i None) there ∙ row.1;
            way = record { same = refl; near = less };
          } in
          let led = kept.order (home_number name + steps) steps (home_number name + j) here (omega (arith, before)) (omega arith) in
          not_bare (length slots) slots led.0 (home_number name + j) (home_number name + j) led.1 none refl
