use Rattle.std.specs.Prelude.{◌≡◌, ℕ, ◌+◌, ◌==◌, ◌≤◌, Bool, true, false, not, ◌&&◌, nat_eq, List, [], length, Option, Some, None, refl}
use Rattle.std.proofs.Common.{sym, ap, ◌∙◌, arith}
use Rattle.std.proofs.lemmas.Bool.{and_parts}
use Rattle.std.specs.List.{list_any}
use Rattle.std.specs.Option.{option_map, option_map_or, unwrap_or}
use Rattle.std.specs.FinMap.{values}
use Rattle.number_maps.specs.Values.{HasValue, any_at, any_from}
use Rattle.ledger.specs.Ledger.{Holding, Ledger, is_alone, is_unused, holding_at, pages_of, without_page}
use Rattle.ledger.specs.Units.{class, units}
use Rattle.ledger.specs.Changes.{is_origin_here, own_of, rebased}
use Rattle.ledger.specs.Alike.{AreAlike}
use Rattle.ledger.specs.PlaceLaws.{gone_other, page_is, put_other}
use Rattle.ledger.specs.ClassLaws.{class_le}
use Rattle.ledger.specs.UnitLaws.{frame_for, units_changed}
use Rattle.ledger.specs.AloneLaws.{not_true, origin_of, same_test, unused_parts}
use Rattle.ledger.specs.AlikeLaws.{IsPair, alike_altered, one_origin, pair_of}
use Rattle.ledger.specs.RowLaws.{rebased_absent, rebased_there}

-- A page that gets the origin of another one.

-- every other page stays
pub rebased_beside : (space from : ℕ) (l : Ledger) (page other : ℕ) (lines : List ℕ) (q r : ℕ) → (q ≡ space → r ≡ page → ⊥)
    → holding_at (rebased space from l page other lines) q r ≡ holding_at l q r
rebased_beside space from l page other lines q r differs = by_page (holding_at l from other) refl
  where
    by_page : (found : Option Holding) → holding_at l from other ≡ found → holding_at (rebased space from l page other lines) q r ≡ holding_at l q r
    by_page None absent = ap (λ (m : Ledger). holding_at m q r) (rebased_absent space from l page other lines absent)
    by_page (Some y) there =
        ap (λ (m : Ledger). holding_at m q r) (rebased_there space from l page other lines y there) ∙ put_other l space page (record { origin = y.origin; own = lines }) q r differs

-- an origin that another page has isn't unused without this one
shared_then : (l : Ledger) (space page from other : ℕ) (y : Holding) → (from ≡ space → other ≡ page → ⊥) → holding_at l from other ≡ Some y
    → is_unused (without_page l space page) y.origin ≡ false
shared_then l space page from other y differs at = not_true _ (λ unused.
    let had = origin_of (without_page l space page) from other y (gone_other l space page from other differs ∙ at) in
    let parts = unused_parts (without_page l space page) y.origin unused in
    let none = parts.1 in cc)

frames : (alone unused : Bool) → alone ≡ true → unused ≡ false → frame_for alone ≡ frame_for unused + 16
unfolding frame_for
frames true false h k = refl
frames false u h k = cc
frames true true h k = cc

-- 31 lines take half as much as a frame
few_lines : class 31 ≡ 8
unfolding class
few_lines = refl

-- a page that was alone gives up its frame for at most 31 own lines, so that the units fall by at least 8
pub rebased_units : (space from : ℕ) (l : Ledger) (page other : ℕ) (lines : List ℕ) (x y : Holding) → (from ≡ space → other ≡ page → ⊥)
    → holding_at l space page ≡ Some x → holding_at l from other ≡ Some y → is_alone l space page ≡ true → length lines ≤ 31
    → units (rebased space from l page other lines) + 8 ≤ units l
rebased_units space from l page other lines x y differs there at alone few =
    let is = ap units (rebased_there space from l page other lines y at) in
    let changed = units_changed l space page x (record { origin = y.origin; own = lines }) there in
    let gives = frames (is_alone l space page) (is_unused (without_page l space page) y.origin) alone (shared_then l space page from other y differs at) in
    let most = class_le (length lines) 31 few in
    let eight = few_lines in omega (arith, is, changed, gives, most, eight)

-- Whether some page of a space has the origin of a page.

here_is : (l : Ledger) (space from other : ℕ) (y : Holding) → holding_at l from other ≡ Some y
    → is_origin_here l space from other ≡ (not (nat_eq y.origin 0) && list_any (λ (page : Holding). page.origin == y.origin) (values (pages_of l space)))
unfolding is_origin_here
here_is l space from other y at =
    ap (λ (o : Option Holding). option_map_or (λ holding. not (holding.origin == 0) && list_any (λ page. page.origin == holding.origin) (values (pages_of l space))) o false) at

nowhere_here : (l : Ledger) (space from other : ℕ) → holding_at l from other ≡ None → is_origin_here l space from other ≡ false
unfolding is_origin_here
nowhere_here l space from other absent =
    ap (λ (o : Option Holding). option_map_or (λ holding. not (holding.origin == 0) && list_any (λ page. page.origin == holding.origin) (values (pages_of l space))) o false) absent

-- a page of the space that has it
pub record HasOriginHere (l : Ledger) (space from other : ℕ) : Type 0 where
  pub theirs : Holding
  pub at : holding_at l from other ≡ Some theirs
  pub not_zero : nat_eq theirs.origin 0 ≡ false
  pub page : ℕ
  pub holding : Holding
  pub there : holding_at l space page ≡ Some holding
  pub same : nat_eq holding.origin theirs.origin ≡ true

pub here_at : (l : Ledger) (space from other : ℕ) → is_origin_here l space from other ≡ true → HasOriginHere l space from other
here_at l space from other here = by_page (holding_at l from other) refl
  where
    not_not : (b : Bool) → not b ≡ true → b ≡ false
    not_not true h = cc
    not_not false h = refl

    by_page : (found : Option Holding) → holding_at l from other ≡ found → HasOriginHere l space from other
    by_page None absent = let no = sym here ∙ nowhere_here l space from other absent in cc
    by_page (Some y) at =
        let parts = and_parts _ _ (sym (here_is l space from other y at) ∙ here) in
        let found : HasValue (pages_of l space) (λ (page : Holding). page.origin == y.origin) = any_at (λ (page : Holding). page.origin == y.origin) (pages_of l space) parts.1 in
        record {
          theirs = y;
          at = at;
          not_zero = not_not (nat_eq y.origin 0) parts.0;
          page = found.key;
          holding = found.value;
          there = page_is l space found.key ∙ found.there;
          same = found.passes;
        }

pub at_here : (l : Ledger) (space from other page : ℕ) (x y : Holding) → holding_at l from other ≡ Some y → nat_eq y.origin 0 ≡ false → holding_at l space page ≡ Some x
    → nat_eq x.origin y.origin ≡ true → is_origin_here l space from other ≡ true
at_here l space from other page x y at some there same =
    here_is l space from other y at
    ∙ ap (λ b. not b && list_any (λ (page : Holding). page.origin == y.origin) (values (pages_of l space))) some
    ∙ any_from (λ (page : Holding). page.origin == y.origin) (pages_of l space) page x (sym (page_is l space page) ∙ there) same

-- alike ledgers have the same there
here_too : (a b : Ledger) → AreAlike a b → (space from other : ℕ) → is_origin_here a space from other ≡ true → is_origin_here b space from other ≡ true
here_too a b alike space from other here =
    let has : HasOriginHere a space from other = here_at a space from other here in
    let theirs : IsPair a b from other has.theirs = pair_of a b from other has.theirs alike has.at in
    let ours : IsPair a b space has.page has.holding = pair_of a b space has.page has.holding alike has.there in
    at_here b space from other has.page ours.other theirs.other theirs.there (sym theirs.zero_same ∙ has.not_zero) ours.there
    (sym (one_origin b space has.page from other ours.other theirs.other ours.there theirs.there) ∙ sym (alike.shared space has.page from other)
    ∙ one_origin a space has.page from other has.holding has.theirs has.there has.at ∙ has.same)

pub alike_here : (a b : Ledger) → AreAlike a b → (space from other : ℕ) → is_origin_here a space from other ≡ is_origin_here b space from other
alike_here a b alike space from other = same_test _ _ (here_too a b alike space from other) (here_too b a (alike_altered a b alike) space from other)

-- own lines
pub own_there : (l : Ledger) (space page : ℕ) (x : Holding) → holding_at l space page ≡ Some x → own_of l space page ≡ x.own
unfolding own_of
own_there l space page x there = ap (λ (o : Option Holding). option_map_or (λ holding. holding.own) o []) there

pub alike_own_of : (a b : Ledger) → AreAlike a b → (space page : ℕ) → own_of a space page ≡ own_of b space page
unfolding own_of
alike_own_of a b alike space page = told (holding_at a space page) ∙ ap (λ (o : Option (List ℕ)). unwrap_or o []) (alike.own space page) ∙ sym (told (holding_at b space page))
  where
    told : (o : Option Holding) → option_map_or (λ (holding : Holding). holding.own) o [] ≡ unwrap_or (option_map (λ (holding : Holding). holding.own) o) []
    told None = refl
    told (Some x) = refl
