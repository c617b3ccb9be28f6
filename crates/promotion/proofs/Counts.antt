use Rattle.std.specs.Prelude.{◌≡◌, ℕ, ◌+◌, ◌-◌, ◌*◌, ◌<◌, ◌≤◌, ◌&&◌, Bool, true, false, cond, not, nat_lt, List, length, Some, None, refl}
use Rattle.std.proofs.Common.{sym, ap, ◌∙◌, arith}
use Rattle.std.proofs.lemmas.Bool.Decides.{nat_tests}
use Rattle.std.specs.Option.{option_map}
use Rattle.sizes.specs.declared.TheConstants.{FRAME_UNITS, PAGE_END}
use Rattle.ledger.specs.Ledger.{Holding, Ledger, holding_at, is_alone, with_page}
use Rattle.ledger.specs.Changes.{has_own, settled}
use Rattle.ledger.specs.Events.{Settle, ledger_after}
use Rattle.ledger.specs.Units.{class, units}
use Rattle.ledger.specs.AlikeUnits.{units_alike}
use Rattle.ledger.specs.ClassLaws.{class_none}
use Rattle.ledger.specs.UnitLaws.{units_at}
use Rattle.space_maps.specs.Spaces.{page_in}
use Rattle.space_ledger.specs.Calls.{IsNextOwn}
use Rattle.overlay_pages.specs.State.{PageState, State, books, held_page}
use Rattle.overlay_pages.specs.Changes.{limit_of}
use Rattle.overlay_memory.specs.ApartLaws.{ArePagesApart, origins_apart}
use Rattle.overlay_memory.specs.CountLaws.{class_is, class_there, has_own_is}
use Rattle.overlay_memory.specs.PageLaws.{HasPage, has_page, held_there, own_there}
use Rattle.overlay_memory.specs.Room.{class_at, event_units}
use Rattle.overlay_memory.specs.Walked.{one_further}
use Rattle.promotion.specs.Counted.{new_frame_at}
use Rattle.promotion.specs.Fates.{AreTurned, none_altered}
use Rattle.promotion.specs.FateLaws.{alike_altered, alone_stays, here}
use Rattle.promotion.specs.FateFolds.{after_settle, both_tests, retold, settle_acts, settle_idle, stepped}
use Rattle.promotion.specs.FateUnits.{settled_units}
use Rattle.promotion.specs.Walks.{at_first, not_yet, passed, passed_all}

-- The units after pages are settled, page by page.

-- the frame that it needs
pub frame_is : (v : State) (space page : ℕ) (own alone : Bool) → has_own (books v) space page ≡ own → is_alone (books v) space page ≡ alone
    → new_frame_at v space page ≡ cond (own && not alone) FRAME_UNITS 0
unfolding new_frame_at
frame_is v space page own alone e f = λ i. cond (e i && not (f i)) FRAME_UNITS 0

frame_most : (v : State) (space page : ℕ) → new_frame_at v space page ≤ FRAME_UNITS
unfolding new_frame_at
frame_most v space page = most (has_own (books v) space page && not (is_alone (books v) space page))
  where
    most : (b : Bool) → cond b FRAME_UNITS 0 ≤ FRAME_UNITS
    most true = omega arith
    most false = omega arith

-- without own lines, or alone, it needs none
pub needs_none : (v : State) (space page n : ℕ) → has_own (books v) space page ≡ nat_lt 0 n → n ≡ 0 → new_frame_at v space page ≡ 0
needs_none v space page n own none = frame_is v space page false (is_alone (books v) space page) (own ∙ ap (nat_lt 0) none) refl

pub needs_no_other : (v : State) (space page : ℕ) → is_alone (books v) space page ≡ true → new_frame_at v space page ≡ 0
needs_no_other v space page alone = frame_is v space page (has_own (books v) space page) true refl alone ∙ at (has_own (books v) space page)
  where
    at : (b : Bool) → cond (b && false) FRAME_UNITS 0 ≡ 0
    at true = refl
    at false = refl

pub needs_one : (v : State) (space page n : ℕ) → has_own (books v) space page ≡ nat_lt 0 n → (n ≡ 0 → ⊥) → is_alone (books v) space page ≡ false → new_frame_at v space page ≡ FRAME_UNITS
needs_one v space page n own some alone = frame_is v space page true false (own ∙ above) alone
  where
    above : nat_lt 0 n ≡ true
    above = grind (arith, nat_tests)

-- The units with the page settled, by its own lines.
module _ (v : State) (space page n : ℕ) (own : List ℕ) (count segment : ℕ) (lines : option_map (λ (x : PageState). x.own) (page_in v space page) ≡ Some own)
    (count_is : count ≡ length own) (segment_is : segment ≡ class count) (enough : class_at v space page ≤ n) where
  same_class : class_at v space page ≡ segment
  same_class = class_is v space page own count lines count_is ∙ sym segment_is

  pub enough_for : segment ≤ n
  enough_for = let same = same_class in omega (arith, same, enough)

  pub sum_alone : is_alone (books v) space page ≡ true → n - segment + class_at v space page ≡ n + new_frame_at v space page
  sum_alone alone = let same = same_class in let none = needs_no_other v space page alone in let le = enough_for in omega (arith, same, none, le)

  pub sum_shared : (count ≡ 0 → ⊥) → is_alone (books v) space page ≡ false → n + FRAME_UNITS - segment + class_at v space page ≡ n + new_frame_at v space page
  sum_shared some shared =
      let same = same_class in
      let one = needs_one v space page count (has_own_is v space page own count lines count_is) some shared in
      let le = enough_for in omega (arith, same, one, le)

pub sum_bare : (v : State) (space page n : ℕ) (own : List ℕ) (count : ℕ) → option_map (λ (x : PageState). x.own) (page_in v space page) ≡ Some own
    → count ≡ length own → count ≡ 0 → n + class_at v space page ≡ n + new_frame_at v space page
sum_bare v space page n own count lines count_is none =
    let same = class_is v space page own count lines count_is ∙ ap class none ∙ class_none in
    let zero_frame = needs_none v space page count (has_own_is v space page own count lines count_is) none in
    omega (arith, same, zero_frame)

-- The pages below a number were settled, in some ledger that is counted.
pub record IsCounting (v : State) (space units_kept from : ℕ) : Type 0 where
  pub so_far : Ledger
  pub altered : AreTurned (both_tests (has_own (books v) space) (λ r. nat_lt r from)) (is_alone (books v) space) (books v) so_far space
  pub units_is : units_kept ≡ units so_far
  pub low : from ≤ PAGE_END
  pub few : units_kept ≤ limit_of v + FRAME_UNITS * from

pub counting_none : (v : State) (space n : ℕ) → n ≡ units (books v) → units (books v) ≤ limit_of v → IsCounting v space n 0
counting_none v space n is fits = record {
  so_far = books v;
  altered = retold (λ r. false) (both_tests (has_own (books v) space) (λ r. nat_lt r 0)) (is_alone (books v) space) (books v) (books v) space
      (none_altered (is_alone (books v) space) (books v) space) (λ r x at. at_first (has_own (books v) space) r);
  units_is = is;
  low = omega arith;
  few = omega (arith, is, fits);
}

module _ (v : State) (space n from page : ℕ) (apart : ArePagesApart v space) (h : IsCounting v space n from)
    (next : IsNextOwn (books v) space from (Some page)) where
  abbrev before : Ledger
  before = books v

  p : HasPage v space page
  p = has_page v space page (own_there v space page next.1)

  abbrev held : Holding
  held = held_page v.zero_frame p.x

  had : holding_at before space page ≡ Some held
  had = held_there v space page p.x p.there

  -- those between have no own lines
  reached : AreTurned (both_tests (has_own before space) (λ r. nat_lt r page)) (is_alone before space) before h.so_far space
  reached = retold _ _ (is_alone before space) before h.so_far space h.altered (λ r y was. passed (has_own before space) from page r next.0 (next.2 r))

  unaltered : both_tests (has_own before space) (λ r. nat_lt r page) page ≡ false
  unaltered = not_yet (has_own before space) page page (omega arith)

  now_has : holding_at h.so_far space page ≡ Some held
  now_has = here (both_tests (has_own before space) (λ r. nat_lt r page)) before h.so_far space page held (origins_apart v space apart) reached unaltered had

  -- its segment is among the units
  pub segment_there : class_at v space page ≤ n
  segment_there =
      let sum = units_at h.so_far space page held now_has in
      let is = class_there v space page held had in
      let kept = h.units_is in
      omega (arith, sum, is, kept)

  pub counted_few : n ≤ limit_of v + FRAME_UNITS * page
  counted_few = let few = h.few in let low = next.0 in omega (arith, few, low)

  pub counting_more : (m : ℕ) → m + class_at v space page ≡ n + new_frame_at v space page → page < PAGE_END → IsCounting v space m (page + 1)
  counting_more m sum low = record {
    so_far = cond (has_own before space page) (settled before h.so_far space page) h.so_far;
    altered = retold _ _ (is_alone before space) before _ space
        (stepped (has_own before space) (is_alone before space) before space (λ now k. settled before now space k) (settle_idle before space)
        (λ now k y e there. settle_acts before now space k y there) (λ r. nat_lt r page) h.so_far page reached)
        (λ r w was. ap (λ b. has_own before space r && b) (one_further page r));
    units_is = is_sum ∙ sym (ap (λ b. units (cond b (settled before h.so_far space page) h.so_far)) next.1);
    low = omega arith;
    few = let few = counted_few in let at_most = frame_most v space page in omega (arith, few, sum, at_most);
  }
    where
      for_one : (b : Bool) → is_alone before space page ≡ b → new_frame_at v space page ≡ cond b 0 FRAME_UNITS
      for_one true e = frame_is v space page true true next.1 e
      for_one false e = frame_is v space page true false next.1 e

      is_sum : m ≡ units (settled before h.so_far space page)
      is_sum =
          let act = settle_acts before h.so_far space page held now_has in
          let stays : is_alone h.so_far space page ≡ is_alone before space page =
          alone_stays (both_tests (has_own before space) (λ r. nat_lt r page)) before h.so_far space page held (origins_apart v space apart) reached unaltered had in
          let units_are : units (with_page h.so_far space page act.z) + class (length p.x.own) ≡ units h.so_far + cond (is_alone before space page) 0 FRAME_UNITS =
          settled_units h.so_far space page held act.z (is_alone before space page) now_has stays act.own act.kept act.fresh in
          let frame = for_one (is_alone before space page) refl in
          let segment = class_there v space page held had in
          let kept = h.units_is in
          let put = ap units act.put in
          omega (arith, sum, units_are, frame, segment, kept, put)

pub counted_all : (v : State) (space n from : ℕ) → IsCounting v space n from → IsNextOwn (books v) space from None → n ≡ event_units (Settle space) v
counted_all v space n from h none =
    h.units_is
    ∙ units_alike h.so_far (ledger_after (Settle space) (books v))
    (alike_altered (has_own (books v) space) (is_alone (books v) space) (books v) h.so_far (ledger_after (Settle space) (books v)) space
    (retold _ _ (is_alone (books v) space) (books v) h.so_far space h.altered (λ r x at. passed_all (has_own (books v) space) from r (none r)))
    (after_settle (books v) space))
