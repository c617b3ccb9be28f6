use Rattle.std.specs.Prelude.{◌≡◌, ℕ, zero, suc, ◌+◌, ◌-◌, ◌*◌, ◌==◌, ◌<◌, ◌≤◌, Bool, true, false, not, ◌&&◌, nat_eq, nat_lt, length, Option, Some, None, is_some, refl}
use Rattle.std.proofs.Common.{sym, ap, ◌∙◌, arith}
use Rattle.std.proofs.lemmas.Bool.Decides.{nat_tests}
use Rattle.std.specs.FinMap.{get, insert, remove, values}
use Rattle.sizes.specs.declared.TheConstants.{FRAME_UNITS, PAGE_END}
use Rattle.number_maps.specs.Values.{HasValue, any_at, no_values, sum_new}
use Rattle.ledger.specs.Ledger.{Holding, Ledger, Space, all_holdings, holding_at, pages_of}
use Rattle.ledger.specs.Units.{class, units}
use Rattle.ledger.specs.ClassLaws.{class_most, class_none}
use Rattle.ledger.specs.CopyLaws.{class_sum, units_space}
use Rattle.ledger.specs.PlaceLaws.{page_is, pages_kept}
use Rattle.ledger.specs.AloneLaws.{any_page, are, not_true}
use Rattle.ledger.specs.UnitLaws.{have, unused_in}
use Rattle.overlay_pages.specs.State.{PageState, State, books, held_page}
use Rattle.overlay_pages.specs.Changes.{limit_of}
use Rattle.space_maps.specs.Spaces.{page_in}
use Rattle.space_ledger.specs.Calls.{IsNextOwn}
use Rattle.ledger.specs.Changes.{has_own}
use Rattle.std.specs.Option.{option_map_or}
use Rattle.overlay_memory.specs.CountLaws.{class_there}
use Rattle.overlay_memory.specs.PageLaws.{held_there, there_of}
use Rattle.overlay_memory.specs.Room.{class_at}
use Rattle.overlay_memory.specs.Walked.{one_further}
use Rattle.fork_checkpoint.specs.Parts.{low_part, low_part_absent, low_part_all, low_part_more, low_part_none, low_part_past}
use Rattle.fork_checkpoint.specs.Copied.{ArePagesLow, with_copies}

-- The units with copies of overlays.

-- a space put in with some of the pages of another one
pub units_part : (ledger : Ledger) (from to : ℕ) (pages : Space) → (from ≡ to → ⊥)
    → ((r : ℕ) (y : Holding) → get pages r ≡ Some y → holding_at ledger from r ≡ Some y)
    → units (insert ledger to pages) ≡ units (remove ledger to) + class_sum (values pages)
units_part ledger from to pages differs part =
    units_space ledger to pages (not_true _ (λ some.
    let found : HasValue pages (λ y. unused_in (all_holdings (remove ledger to)) y.origin) = any_at (λ y. unused_in (all_holdings (remove ledger to)) y.origin) pages some in
    let had : have (all_holdings (remove ledger to)) found.value.origin ≡ true =
    any_page (λ (y : Holding). y.origin == found.value.origin) (remove ledger to) from found.key found.value
    (page_is (remove ledger to) from found.key ∙ ap (λ (m : Space). get m found.key) (pages_kept ledger to from differs) ∙ sym (page_is ledger from found.key) ∙ part found.key found.value found.there)
    (are found.value.origin found.value.origin refl) in
    unused_had (nat_eq found.value.origin 0) (have (all_holdings (remove ledger to)) found.value.origin) had found.passes))
  where
    unused_had : (z h : Bool) → h ≡ true → (not z && not h) ≡ true → ⊥
    unused_had true h e p = cc
    unused_had false true e p = cc
    unused_had false false e p = cc

-- the pages of a space below one
abbrev pub pages_until : State → ℕ → ℕ → Space
pages_until v space from = low_part (pages_of (books v) space) from

-- they are there in the state too
pub in_state : (v : State) (space r : ℕ) → is_some (get (pages_of (books v) space) r) ≡ true → is_some (page_in v space r) ≡ true
in_state v space r some = at (holding_at (books v) space r) refl (ap is_some (page_is (books v) space r) ∙ some)
  where
    at : (o : Option Holding) → holding_at (books v) space r ≡ o → is_some (holding_at (books v) space r) ≡ true → is_some (page_in v space r) ≡ true
    at None is h = let no = sym h ∙ ap is_some is in cc
    at (Some y) is h = ap is_some (there_of v space r y is).there

-- Pages without own lines add nothing.
module _ (v : State) (space : ℕ) where
  abbrev pages : Space
  pages = pages_of (books v) space

  none_at : (q : ℕ) → has_own (books v) space q ≡ false → (y : Holding) → get pages q ≡ Some y → class (length y.own) ≡ 0
  unfolding has_own
  none_at q none y at = ap class (empty_own (length y.own) (sym (ap (λ (o : Option Holding). option_map_or (λ holding. nat_lt 0 (length holding.own)) o false) (page_is (books v) space q ∙ at)) ∙ none)) ∙ class_none
    where
      empty_own : (n : ℕ) → nat_lt 0 n ≡ false → n ≡ 0
      empty_own n e = grind (arith, nat_tests)

  one_bare : (q : ℕ) → has_own (books v) space q ≡ false → class_sum (values (pages_until v space (q + 1))) ≡ class_sum (values (pages_until v space q))
  unfolding class_sum
  one_bare q none = at (get pages q) refl
    where
      at : (o : Option Holding) → get pages q ≡ o → class_sum (values (pages_until v space (q + 1))) ≡ class_sum (values (pages_until v space q))
      at None is = ap (λ (m : Space). class_sum (values m)) (sym (low_part_past pages q (q + 1) (omega arith) (λ r le lt. ap (get pages) (same r le lt) ∙ is)))
        where
          same : (r : ℕ) → q ≤ r → r < q + 1 → r ≡ q
          same r le lt = omega (arith, le, lt)
      at (Some y) is =
          let more = ap (λ (m : Space). class_sum (values m)) (low_part_more pages q q y is (λ r _. one_further q r)) in
          let one = sum_new (λ (y : Holding). class (length y.own)) (pages_until v space q) q y (low_part_absent pages q q (omega arith)) in
          let zero_class = none_at q none y is in
          omega (arith, more, one, zero_class)

  pub all_bare : (from n : ℕ) → ((q : ℕ) → from ≤ q → q < from + n → has_own (books v) space q ≡ false)
      → class_sum (values (pages_until v space (from + n))) ≡ class_sum (values (pages_until v space from))
  all_bare from zero none = ap (λ k. class_sum (values (pages_until v space k))) (none_more from)
    where
      none_more : (k : ℕ) → k + 0 ≡ k
      none_more k = omega arith
  all_bare from (suc n) none =
      ap (λ k. class_sum (values (pages_until v space k))) (one_more from n)
      ∙ one_bare (from + n) (none (from + n) (omega arith) (omega arith))
      ∙ all_bare from n (λ q le lt. none q le (omega (arith, lt)))
    where
      one_more : (k n : ℕ) → k + suc n ≡ (k + n) + 1
      one_more k n = omega arith

  pub bare_between : (from page : ℕ) → from ≤ page → ((q : ℕ) → from ≤ q → q < page → has_own (books v) space q ≡ false)
      → class_sum (values (pages_until v space page)) ≡ class_sum (values (pages_until v space from))
  bare_between from page le none =
      ap (λ k. class_sum (values (pages_until v space k))) (sym back) ∙ all_bare from (page - from) (λ q ge lt. none q ge (omega (arith, lt, le)))
    where
      back : from + (page - from) ≡ page
      back = omega (arith, le)

-- The units with copies of the overlays below a page.
pub record IsSumming (v : State) (space kept units_kept from : ℕ) : Type 0 where
  pub sum : units_kept ≡ kept + class_sum (values (pages_until v space from))
  pub low : from ≤ PAGE_END
  pub few : units_kept ≤ limit_of v + FRAME_UNITS * from

pub summing_none : (v : State) (space kept : ℕ) → kept ≤ limit_of v → IsSumming v space kept kept 0
unfolding class_sum
summing_none v space kept fits =
    let none : class_sum (values (pages_until v space 0)) ≡ 0 = ap (λ (m : Space). class_sum (values m)) (low_part_none (pages_of (books v) space)) ∙ ap class_sum no_values in record {
      sum = omega (arith, none);
      low = omega arith;
      few = omega (arith, fits);
    }

pub summing_few : (v : State) (space kept n from page : ℕ) → IsSumming v space kept n from → from ≤ page → n ≤ limit_of v + FRAME_UNITS * page
summing_few v space kept n from page h le = let few = h.few in omega (arith, few, le)

pub summing_more : (v : State) (space kept n from page m : ℕ) (x : PageState) → IsSumming v space kept n from → IsNextOwn (books v) space from (Some page) → page_in v space page ≡ Some x
    → m ≡ n + class_at v space page → page < PAGE_END → IsSumming v space kept m (page + 1)
unfolding class_sum
summing_more v space kept n from page m x h next there sum low =
    let held = held_page v.zero_frame x in
    let had = held_there v space page x there in
    let between = bare_between v space from page next.0 next.2 in
    let more : class_sum (values (pages_until v space (page + 1))) ≡ class_sum (values (insert (pages_until v space page) page held)) =
    ap (λ (m : Space). class_sum (values m)) (low_part_more (pages_of (books v) space) page page held (sym (page_is (books v) space page) ∙ had) (λ r _. one_further page r)) in
    let one : class_sum (values (insert (pages_until v space page) page held)) ≡ class_sum (values (pages_until v space page)) + class (length x.own) =
    sum_new (λ (y : Holding). class (length y.own)) (pages_until v space page) page held (low_part_absent (pages_of (books v) space) page page (omega arith)) in
    let segment = class_there v space page held had in
    let most = class_most (length x.own) in
    let so_far = h.sum in
    let few = summing_few v space kept n from page h next.0 in record {
      sum = omega (arith, sum, more, one, segment, so_far, between);
      low = omega arith;
      few = omega (arith, few, sum, segment, most);
    }

pub summed_all : (v : State) (space kept n from : ℕ) → IsSumming v space kept n from → ArePagesLow v space → IsNextOwn (books v) space from None
    → n ≡ with_copies kept v space
summed_all v space kept n from h low none =
    let rest = bare_between v space from PAGE_END h.low (λ q le lt. none q le) in
    let all : class_sum (values (pages_until v space PAGE_END)) ≡ class_sum (values (pages_of (books v) space)) =
    ap (λ (m : Space). class_sum (values m)) (low_part_all (pages_of (books v) space) PAGE_END (λ r some. below r (low r (in_state v space r some)))) in
    let so_far = h.sum in
    omega (arith, so_far, rest, all)
  where
    below : (r : ℕ) → r < PAGE_END → nat_lt r PAGE_END ≡ true
    below r lt = grind (arith, nat_tests)
