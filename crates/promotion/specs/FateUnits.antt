use Rattle.std.specs.Prelude.{◌≡◌, ℕ, ◌+◌, ◌≤◌, Bool, true, false, cond, nat_eq, ◌&&◌, ◌||◌, List, [], ◌∷◌, length, Option, Some, None, is_some, refl}
use Rattle.std.proofs.Common.{sym, ap, subst, ◌∙◌, arith}
use Rattle.std.specs.List.{fold}
use Rattle.std.specs.FinMap.{keys}
use Rattle.sizes.specs.declared.TheConstants.{FRAME_UNITS}
use Rattle.ledger.specs.Ledger.{Holding, Ledger, is_alone, is_unused, holding_at, pages_of, with_page, without_page}
use Rattle.ledger.specs.Changes.{has_own, settled}
use Rattle.ledger.specs.Events.{Settle, ledger_after}
use Rattle.ledger.specs.Units.{class, units}
use Rattle.ledger.specs.PlaceLaws.{put_again}
use Rattle.ledger.specs.AlikeUnits.{units_alike}
use Rattle.ledger.specs.ClassLaws.{class_most, class_none}
use Rattle.ledger.specs.UnitLaws.{alone_is, frame_for, units_changed}
use Rattle.overlay_memory.specs.ApartLaws.{AreOriginsApart}
use Rattle.promotion.specs.Fates.{AreTurned, IsFate, bare_is}
use Rattle.promotion.specs.FateLaws.{alike_altered, alone_stays}
use Rattle.promotion.specs.FateFolds.{IsActed, after_settle, all_folded_from, both_tests, or_page, own_found, settle_acts, settle_idle, stepped}

-- The units while pages are settled.

no_own : (z : Holding) → z.own ≡ [] → class (length z.own) ≡ 0
no_own z e = ap (λ (l : List ℕ). class (length l)) e ∙ class_none

-- a page that is settled gives its segment back, and needs a frame where it wasn't alone
pub settled_units : (now : Ledger) (space page : ℕ) (x z : Holding) (alone : Bool) → holding_at now space page ≡ Some x → is_alone now space page ≡ alone
    → z.own ≡ [] → (alone ≡ true → z.origin ≡ x.origin) → (alone ≡ false → is_unused (without_page now space page) z.origin ≡ true)
    → units (with_page now space page z) + class (length x.own) ≡ units now + cond alone 0 FRAME_UNITS
unfolding frame_for
settled_units now space page x z true at alone own kept fresh =
    let change = units_changed now space page x z at in
    let none = no_own z own in
    let frame : frame_for (is_unused (without_page now space page) z.origin) ≡ frame_for (is_alone now space page) =
    ap (λ o. frame_for (is_unused (without_page now space page) o)) (kept refl) ∙ sym (ap frame_for (alone_is now space page x at)) in
    omega (arith, change, none, frame)
settled_units now space page x z false at alone own kept fresh =
    let change = units_changed now space page x z at in
    let none = no_own z own in
    let new : frame_for (is_unused (without_page now space page) z.origin) ≡ FRAME_UNITS = ap frame_for (fresh refl) in
    let old : frame_for (is_alone now space page) ≡ 0 = ap frame_for alone in
    omega (arith, change, none, new, old)

-- one that is alone now may get another origin
pub moved_units : (now : Ledger) (space page : ℕ) (x z : Holding) → holding_at now space page ≡ Some x → is_alone now space page ≡ true → x.own ≡ []
    → z.own ≡ [] → is_unused (without_page now space page) z.origin ≡ true → units (with_page now space page z) ≡ units now
unfolding frame_for
moved_units now space page x z at alone bare own fresh =
    let change = units_changed now space page x z at in
    let none = no_own z own in
    let was = no_own x bare in
    let new : frame_for (is_unused (without_page now space page) z.origin) ≡ frame_for (is_alone now space page) = ap frame_for (fresh ∙ sym alone) in
    omega (arith, change, none, was, new)

-- While pages are settled of which those that are alone were settled first, units never fall.
module _ (before : Ledger) (space : ℕ) (apart : AreOriginsApart before space) where
  abbrev alone : ℕ → Bool
  alone page = is_alone before space page

  abbrev settle_one : Ledger → ℕ → Ledger
  settle_one now k = cond (has_own before space k) (settled before now space k) now

  rises : (done : ℕ → Bool) (now : Ledger) (k : ℕ) → AreTurned (both_tests (has_own before space) done) alone before now space
      → ((r : ℕ) → alone r ≡ true → done r ≡ true) → units now ≤ units (settle_one now k)
  rises done now k h first = by_own (has_own before space k) refl
    where
      altered_by : (x : Holding) → holding_at before space k ≡ Some x → has_own before space k ≡ true → units now ≤ units (settled before now space k)
      altered_by x had own =
          let f = h.pages k x had in
          let act = settle_acts before now space k f.is f.there in
          subst (λ (l : Ledger). units now ≤ units l) (sym act.put) (at (alone k) (done k) refl refl f.is f.there act (both_is (done k) refl f.fate))
        where
          both_is : (d : Bool) → done k ≡ d → IsFate (both_tests (has_own before space) done k) (alone k) now space k x (h.pages k x had).is → IsFate d (alone k) now space k x (h.pages k x had).is
          both_is d e fate = subst (λ b. IsFate b (alone k) now space k x (h.pages k x had).is) (ap (λ b. b && done k) own ∙ e) fate

          at : (b d : Bool) → alone k ≡ b → done k ≡ d → (y : Holding) → holding_at now space k ≡ Some y → (act : IsActed (alone k) now (settled before now space k) space k y)
              → IsFate d (alone k) now space k x y → units now ≤ units (with_page now space k act.z)
          at b d e g y there act fate = cases b d e g (subst (λ c. IsFate d c now space k x y) e fate)
            where
              cases : (b d : Bool) → alone k ≡ b → done k ≡ d → IsFate d b now space k x y → units now ≤ units (with_page now space k act.z)
              cases true true e g fate =
                  let same : act.z ≡ y = bare_is act.z x.origin act.own (act.kept e ∙ ap (λ (v : Holding). v.origin) fate) ∙ sym fate in
                  let is : units (with_page now space k act.z) ≡ units now = ap (λ (v : Holding). units (with_page now space k v)) same ∙ ap units (put_again now space k y there) in
                  omega (arith, is)
              cases true false e g fate = let no = sym (first k e) ∙ g in cc
              cases false true e g fate = let is = moved_units now space k y act.z there fate.1 fate.0 act.own (act.fresh e) in omega (arith, is)
              cases false false e g fate =
                  let unaltered : both_tests (has_own before space) done k ≡ false = ap (λ b. b && done k) own ∙ g in
                  let stays : is_alone now space k ≡ false = alone_stays (both_tests (has_own before space) done) before now space k x apart h unaltered had ∙ e in
                  let sum = settled_units now space k y act.z false there stays act.own (λ no. cc) (λ _. act.fresh e) in
                  let most = class_most (length y.own) in
                  omega (arith, sum, most)

      by_own : (b : Bool) → has_own before space k ≡ b → units now ≤ units (cond b (settled before now space k) now)
      by_own false e = omega arith
      by_own true e = by_page (holding_at before space k) refl
        where
          by_page : (o : Option Holding) → holding_at before space k ≡ o → units now ≤ units (settled before now space k)
          by_page None had = let no = sym (own_found before space k e) ∙ ap is_some had in cc
          by_page (Some x) had = altered_by x had e

  all_rise : (ks : List ℕ) (done : ℕ → Bool) (now : Ledger) → AreTurned (both_tests (has_own before space) done) alone before now space
      → ((r : ℕ) → alone r ≡ true → done r ≡ true) → units now ≤ units (fold settle_one now ks)
  all_rise [] done now h first = omega arith
  all_rise (k ∷ ks) done now h first =
      let one = rises done now k h first in
      let rest = all_rise ks (or_page done k) (settle_one now k)
      (stepped (has_own before space) alone before space (λ now k. settled before now space k) (settle_idle before space) (λ now k y e at. settle_acts before now space k y at) done now k h)
      (λ r e. ap (λ b. b || nat_eq r k) (first r e)) in
      omega (arith, one, rest)

  -- so those on the way are at most those after the event
  pub few_on_the_way : (done : ℕ → Bool) (now : Ledger) → AreTurned (both_tests (has_own before space) done) alone before now space
      → ((r : ℕ) → alone r ≡ true → done r ≡ true) → units now ≤ units (ledger_after (Settle space) before)
  few_on_the_way done now h first =
      let le = all_rise (keys (pages_of before space)) done now h first in
      let ended : AreTurned (has_own before space) alone before (fold settle_one now (keys (pages_of before space))) space =
      all_folded_from (has_own before space) alone before space (λ now k. settled before now space k) (settle_idle before space)
      (λ now k y e at. settle_acts before now space k y at) done now h in
      let end : units (fold settle_one now (keys (pages_of before space))) ≡ units (ledger_after (Settle space) before) =
      units_alike _ _ (alike_altered (has_own before space) alone before (fold settle_one now (keys (pages_of before space))) (ledger_after (Settle space) before) space ended (after_settle before space)) in
      omega (arith, le, end)

  -- and with each page that is still to be settled there is room for its frame
  pub room_on_the_way : (done : ℕ → Bool) (now : Ledger) → AreTurned (both_tests (has_own before space) done) alone before now space
      → ((r : ℕ) → alone r ≡ true → done r ≡ true) → (k : ℕ) (y : Holding) → has_own before space k ≡ true → alone k ≡ false
      → holding_at now space k ≡ Some y → is_alone now space k ≡ false → units now + FRAME_UNITS ≤ units (ledger_after (Settle space) before) + class (length y.own)
  room_on_the_way done now h first k y own shared there shared_now =
      let act = settle_acts before now space k y there in
      let sum : units (with_page now space k act.z) + class (length y.own) ≡ units now + FRAME_UNITS =
      settled_units now space k y act.z false there shared_now act.own (λ no. cc) (λ _. act.fresh shared) in
      let le = few_on_the_way (or_page done k) (settle_one now k)
      (stepped (has_own before space) alone before space (λ now k. settled before now space k) (settle_idle before space) (λ now k y e at. settle_acts before now space k y at) done now k h)
      (λ r e. ap (λ b. b || nat_eq r k) (first r e)) in
      let put : units (settle_one now k) ≡ units (with_page now space k act.z) = ap (λ b. units (cond b (settled before now space k) now)) own ∙ ap units act.put in
      omega (arith, sum, le, put)
