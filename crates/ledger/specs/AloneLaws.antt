use Rattle.std.specs.Prelude.{◌≡◌, ℕ, ◌==◌, Bool, true, false, not, ◌&&◌, ◌||◌, nat_eq, List, [], ◌∷◌, Option, Some, None, is_some, refl}
use Rattle.std.proofs.Common.{sym, ap, ◌∙◌, arith}
use Rattle.std.proofs.lemmas.Bool.Decides.{nat_tests}
use Rattle.std.proofs.lemmas.List.Folds.{list_any-append}
use Rattle.std.specs.List.{flat_map, list_any}
use Rattle.std.specs.Option.{option_map_or}
use Rattle.std.specs.FinMap.{get, insert, remove, values}
use Rattle.number_maps.specs.Keys.{by_key, get_same, get_other}
use Rattle.number_maps.specs.Values.{HasValue, any_at}
use Rattle.ledger.specs.Ledger.{Holding, Space, Ledger, all_holdings, has_origin, is_alone, is_unused, holding_at, pages_of, with_page, without_page}
use Rattle.ledger.specs.PlaceLaws.{page_cut, page_is, pages_there, put_again, put_here, put_other, gone_here, gone_other, gone_over, by_place, same_ledger}
use Rattle.ledger.specs.UnitLaws.{alone_is}

-- Which pages there are with an origin, and when a page is alone.

-- a page at a place that passes a test
pub record HasSuchPage (ledger : Ledger) (test : Holding → Bool) : Type 0 where
  pub space : ℕ
  pub page : ℕ
  pub holding : Holding
  pub there : holding_at ledger space page ≡ Some holding
  pub passes : test holding ≡ true

any_in_spaces : (test : Holding → Bool) (spaces : List Space)
    → list_any test (flat_map (λ (space : Space). values space) spaces) ≡ list_any (λ (space : Space). list_any test (values space)) spaces
any_in_spaces test [] = refl
any_in_spaces test (space ∷ spaces) =
    list_any-append test (values space) (flat_map (λ (space : Space). values space) spaces) ∙ ap (λ b. list_any test (values space) || b) (any_in_spaces test spaces)

-- where some page passes a test, there is one at a place
pub page_that : (ledger : Ledger) (test : Holding → Bool) → list_any test (all_holdings ledger) ≡ true → HasSuchPage ledger test
unfolding all_holdings
page_that ledger test some =
    let outer : HasValue ledger (λ (space : Space). list_any test (values space)) = any_at (λ (space : Space). list_any test (values space)) ledger (sym (any_in_spaces test (values ledger)) ∙ some) in
    let inner : HasValue outer.value test = any_at test outer.value outer.passes in
    record {
      space = outer.key;
      page = inner.key;
      holding = inner.value;
      there = page_is ledger outer.key inner.key ∙ ap (λ (m : Space). get m inner.key) (pages_there ledger outer.key outer.value outer.there) ∙ inner.there;
      passes = inner.passes;
    }

swap : (a b c : Bool) → (a || (b || c)) ≡ (b || (a || c))
swap true true c = refl
swap true false c = refl
swap false b c = refl

-- whether some page passes, with one put at a place
pub any_with : (test : Holding → Bool) (ledger : Ledger) (space page : ℕ) (x : Holding)
    → list_any test (all_holdings (with_page ledger space page x)) ≡ (test x || list_any test (all_holdings (without_page ledger space page)))
any_with test ledger space page x =
    let cut = page_cut ledger space page in
    ap (list_any test) (cut.put_in x) ∙ list_any-append test cut.front (x ∷ cut.back)
    ∙ swap (list_any test cut.front) (test x) (list_any test cut.back)
    ∙ ap (λ b. test x || b) (sym (ap (list_any test) cut.gone ∙ list_any-append test cut.front cut.back))

-- a page that passes shows that some does
pub any_page : (test : Holding → Bool) (ledger : Ledger) (space page : ℕ) (x : Holding) → holding_at ledger space page ≡ Some x → test x ≡ true
    → list_any test (all_holdings ledger) ≡ true
any_page test ledger space page x there passes =
    ap (λ (l : Ledger). list_any test (all_holdings l)) (sym (put_again ledger space page x there)) ∙ any_with test ledger space page x
    ∙ ap (λ b. b || list_any test (all_holdings (without_page ledger space page))) passes

-- which origins there are with a page put at a place
pub origin_with : (ledger : Ledger) (space page : ℕ) (x : Holding) (origin : ℕ)
    → has_origin (with_page ledger space page x) origin ≡ (nat_eq x.origin origin || has_origin (without_page ledger space page) origin)
unfolding has_origin
origin_with ledger space page x origin = any_with (λ holding. holding.origin == origin) ledger space page x

pub origin_of : (ledger : Ledger) (space page : ℕ) (x : Holding) → holding_at ledger space page ≡ Some x → has_origin ledger x.origin ≡ true
unfolding has_origin
origin_of ledger space page x there = any_page (λ holding. holding.origin == x.origin) ledger space page x there (grind (arith, nat_tests))

-- the same page in a ledger without another
pub holder : (ledger : Ledger) (origin : ℕ) → has_origin ledger origin ≡ true → HasSuchPage ledger (λ holding. holding.origin == origin)
unfolding has_origin
holder ledger origin had = page_that ledger (λ holding. holding.origin == origin) had

-- an unused origin isn't 0 and no page has it
pub unused_parts : (ledger : Ledger) (origin : ℕ) → is_unused ledger origin ≡ true → (nat_eq origin 0 ≡ false) × (has_origin ledger origin ≡ false)
unfolding is_unused
unused_parts ledger origin h = apart (nat_eq origin 0) (has_origin ledger origin) h
  where
    apart : (a b : Bool) → (not a && not b) ≡ true → (a ≡ false) × (b ≡ false)
    apart true b h = cc
    apart false true h = cc
    apart false false h = (refl, refl)

pub unused_from : (ledger : Ledger) (origin : ℕ) → nat_eq origin 0 ≡ false → has_origin ledger origin ≡ false → is_unused ledger origin ≡ true
unfolding is_unused
unused_from ledger origin isnt none = ap (λ b. not b && not (has_origin ledger origin)) isnt ∙ ap not none

-- two tests are equal where each shows the other
pub same_test : (a b : Bool) → (a ≡ true → b ≡ true) → (b ≡ true → a ≡ true) → a ≡ b
same_test true b to from = sym (to refl)
same_test false true to from = from refl
same_test false false to from = refl

pub not_true : (b : Bool) → (b ≡ true → ⊥) → b ≡ false
not_true true h = absurd (h refl)
not_true false h = refl

-- What it says that a page is alone.

pub record IsAlone (ledger : Ledger) (space page : ℕ) : Type 0 where
  pub holding : Holding
  pub there : holding_at ledger space page ≡ Some holding
  pub not_zero : nat_eq holding.origin 0 ≡ false
  pub others : (q r : ℕ) (other : Holding) → (q ≡ space → r ≡ page → ⊥) → holding_at ledger q r ≡ Some other → nat_eq other.origin holding.origin ≡ false

pub contradicts : (l : Ledger) (origin : ℕ) → list_any (λ (holding : Holding). holding.origin == origin) (all_holdings l) ≡ true → has_origin l origin ≡ false → ⊥
unfolding has_origin
contradicts l origin had none = let no = sym had ∙ none in cc

pub nowhere : (ledger : Ledger) (space page : ℕ) → holding_at ledger space page ≡ None → is_alone ledger space page ≡ false
unfolding is_alone
nowhere ledger space page absent = ap (λ (o : Option Holding). option_map_or (λ holding. is_unused (without_page ledger space page) holding.origin) o false) absent

pub alone_apart : (ledger : Ledger) (space page : ℕ) → is_alone ledger space page ≡ true → IsAlone ledger space page
alone_apart ledger space page alone = by_page (holding_at ledger space page) refl
  where
    by_page : (found : Option Holding) → holding_at ledger space page ≡ found → IsAlone ledger space page
    by_page None absent = let no = sym alone ∙ nowhere ledger space page absent in cc
    by_page (Some x) is =
        let parts = unused_parts (without_page ledger space page) x.origin (sym (alone_is ledger space page x is) ∙ alone) in
        let rest : Ledger = without_page ledger space page in record {
          holding = x;
          there = is;
          not_zero = parts.0;
          others = λ q r other differs there. not_true (nat_eq other.origin x.origin) (λ same.
              let had = any_page (λ (holding : Holding). holding.origin == x.origin) rest q r other (gone_other ledger space page q r differs ∙ there) same in
              let none = parts.1 in contradicts rest x.origin had none);
        }

pub apart_alone : (ledger : Ledger) (space page : ℕ) → IsAlone ledger space page → is_alone ledger space page ≡ true
apart_alone ledger space page alone =
    let rest : Ledger = without_page ledger space page in
    alone_is ledger space page alone.holding alone.there
    ∙ unused_from rest alone.holding.origin alone.not_zero (not_true (has_origin rest alone.holding.origin) (λ had.
    let found : HasSuchPage rest (λ holding. holding.origin == alone.holding.origin) = holder rest alone.holding.origin had in
    by_place space page found.space found.page
    (λ s p. let no = ap is_some (sym found.there ∙ gone_here ledger space page found.space found.page s p) in cc)
    (λ differs. let isnt = alone.others found.space found.page found.holding differs (sym (gone_other ledger space page found.space found.page differs) ∙ found.there) in
    let is = found.passes in cc)))

-- Whether another page is alone stays where a page gets another origin, if that page has neither.

pub are : (a b : ℕ) → a ≡ b → nat_eq a b ≡ true
are a b same = grind (arith, nat_tests)

pub arent : (a b : ℕ) → (a ≡ b → ⊥) → nat_eq a b ≡ false
arent a b other = not_true (nat_eq a b) (λ h. other (grind (arith, nat_tests)))

-- which spaces there are with a page put, or taken away
pub spaces_with : (ledger : Ledger) (space page : ℕ) (x : Holding) (q : ℕ) → is_some (get (with_page ledger space page x) q) ≡ (nat_eq q space || is_some (get ledger q))
unfolding with_page
spaces_with ledger space page x q = by_key q space
    (λ same. ap is_some (get_same ledger space q (insert (pages_of ledger space) page x) same) ∙ ap (λ b. b || is_some (get ledger q)) (sym (are q space same)))
    (λ other. ap is_some (get_other ledger space q (insert (pages_of ledger space) page x) other) ∙ ap (λ b. b || is_some (get ledger q)) (sym (arent q space other)))

pub spaces_without : (ledger : Ledger) (space page q : ℕ) → is_some (get (without_page ledger space page) q) ≡ (nat_eq q space || is_some (get ledger q))
unfolding without_page
spaces_without ledger space page q = by_key q space
    (λ same. ap is_some (get_same ledger space q (remove (pages_of ledger space) page) same) ∙ ap (λ b. b || is_some (get ledger q)) (sym (are q space same)))
    (λ other. ap is_some (get_other ledger space q (remove (pages_of ledger space) page) other) ∙ ap (λ b. b || is_some (get ledger q)) (sym (arent q space other)))

-- a page put at one place and one taken away at another
pub gone_with : (ledger : Ledger) (space page q r : ℕ) (x : Holding) → (q ≡ space → r ≡ page → ⊥)
    → without_page (with_page ledger space page x) q r ≡ with_page (without_page ledger q r) space page x
gone_with ledger space page q r x differs =
    same_ledger _ _
    (λ s. spaces_without (with_page ledger space page x) q r s ∙ ap (λ b. nat_eq s q || b) (spaces_with ledger space page x s)
    ∙ swap (nat_eq s q) (nat_eq s space) (is_some (get ledger s))
    ∙ ap (λ b. nat_eq s space || b) (sym (spaces_without ledger q r s)) ∙ sym (spaces_with (without_page ledger q r) space page x s))
    (λ s p. by_place q r s p
    (λ ss pp. gone_here (with_page ledger space page x) q r s p ss pp
    ∙ sym (put_other (without_page ledger q r) space page x s p (λ a b. differs (sym ss ∙ a) (sym pp ∙ b)) ∙ gone_here ledger q r s p ss pp))
    (λ d. gone_other (with_page ledger space page x) q r s p d ∙ by_place space page s p
    (λ ss pp. put_here ledger space page x s p ss pp ∙ sym (put_here (without_page ledger q r) space page x s p ss pp))
    (λ e. put_other ledger space page x s p e ∙ sym (put_other (without_page ledger q r) space page x s p e ∙ gone_other ledger q r s p d))))

unused_with : (ledger : Ledger) (space page : ℕ) (x : Holding) (origin : ℕ)
    → is_unused (with_page ledger space page x) origin ≡ (not (origin == 0) && not (nat_eq x.origin origin || has_origin (without_page ledger space page) origin))
unfolding is_unused
unused_with ledger space page x origin = ap (λ b. not (origin == 0) && not b) (origin_with ledger space page x origin)

alone_with : (ledger : Ledger) (space page q r : ℕ) (x z : Holding) → (q ≡ space → r ≡ page → ⊥) → holding_at ledger q r ≡ Some z
    → is_alone (with_page ledger space page x) q r
    ≡ (not (z.origin == 0) && not (nat_eq x.origin z.origin || has_origin (without_page (without_page ledger q r) space page) z.origin))
alone_with ledger space page q r x z differs there =
    alone_is (with_page ledger space page x) q r z (put_other ledger space page x q r differs ∙ there)
    ∙ ap (λ (l : Ledger). is_unused l z.origin) (gone_with ledger space page q r x differs)
    ∙ unused_with (without_page ledger q r) space page x z.origin

pub alone_kept : (ledger : Ledger) (space page q r : ℕ) (x y z : Holding) → (q ≡ space → r ≡ page → ⊥) → holding_at ledger space page ≡ Some x
    → holding_at ledger q r ≡ Some z → nat_eq y.origin z.origin ≡ nat_eq x.origin z.origin
    → is_alone (with_page ledger space page y) q r ≡ is_alone ledger q r
alone_kept ledger space page q r x y z differs there at same =
    alone_with ledger space page q r y z differs at
    ∙ ap (λ b. not (z.origin == 0) && not (b || has_origin (without_page (without_page ledger q r) space page) z.origin)) same
    ∙ sym (alone_with ledger space page q r x z differs at)
    ∙ ap (λ (l : Ledger). is_alone l q r) (put_again ledger space page x there)

-- where a page's origin stays, the same pages are alone
pub alone_same : (ledger : Ledger) (space page : ℕ) (x y : Holding) → holding_at ledger space page ≡ Some x → y.origin ≡ x.origin → (q r : ℕ)
    → is_alone (with_page ledger space page y) q r ≡ is_alone ledger q r
alone_same ledger space page x y there same q r = by_page (holding_at ledger q r) refl
  where
    here : (q ≡ space) → (r ≡ page) → is_alone (with_page ledger space page y) q r ≡ is_alone ledger q r
    here s p =
        alone_is (with_page ledger space page y) q r y (put_here ledger space page y q r s p)
        ∙ ap (λ a. is_unused (without_page (with_page ledger space page y) a r) y.origin) s
        ∙ ap (λ a. is_unused (without_page (with_page ledger space page y) space a) y.origin) p
        ∙ ap (λ (l : Ledger). is_unused l y.origin) (gone_over ledger space page y)
        ∙ ap (λ o. is_unused (without_page ledger space page) o) same
        ∙ sym (alone_is ledger space page x there)
        ∙ ap (λ a. is_alone ledger a page) (sym s) ∙ ap (λ a. is_alone ledger q a) (sym p)

    by_page : (found : Option Holding) → holding_at ledger q r ≡ found → is_alone (with_page ledger space page y) q r ≡ is_alone ledger q r
    by_page None absent = by_place space page q r here
        (λ differs. nowhere (with_page ledger space page y) q r (put_other ledger space page y q r differs ∙ absent) ∙ sym (nowhere ledger q r absent))
    by_page (Some z) is = by_place space page q r here
        (λ differs. alone_kept ledger space page q r x y z differs there is (ap (λ o. nat_eq o z.origin) same))

-- an origin that no page has is one that no other page has
pub unused_without : (ledger : Ledger) (space page origin : ℕ) → is_unused ledger origin ≡ true → is_unused (without_page ledger space page) origin ≡ true
unused_without ledger space page origin unused =
    let parts = unused_parts ledger origin unused in
    unused_from (without_page ledger space page) origin parts.0 (not_true _ (λ had.
    let found : HasSuchPage (without_page ledger space page) (λ holding. holding.origin == origin) = holder (without_page ledger space page) origin had in
    by_place space page found.space found.page
    (λ s p. let no = ap is_some (sym found.there ∙ gone_here ledger space page found.space found.page s p) in cc)
    (λ differs. contradicts ledger origin
    (any_page (λ (holding : Holding). holding.origin == origin) ledger found.space found.page found.holding (sym (gone_other ledger space page found.space found.page differs) ∙ found.there) found.passes)
    parts.1)))

-- a ledger without a page that isn't there
pub without_absent : (ledger : Ledger) (space page : ℕ) → is_some (get ledger space) ≡ true → holding_at ledger space page ≡ None → without_page ledger space page ≡ ledger
without_absent ledger space page there absent = same_ledger _ _
    (λ s. spaces_without ledger space page s ∙ by_key s space
    (λ same. ap (λ b. b || is_some (get ledger s)) (are s space same) ∙ sym there ∙ ap (λ n. is_some (get ledger n)) (sym same))
    (λ other. ap (λ b. b || is_some (get ledger s)) (arent s space other)))
    (λ s p. by_place space page s p
    (λ ss pp. gone_here ledger space page s p ss pp ∙ sym absent ∙ ap (λ n. holding_at ledger n page) (sym ss) ∙ ap (holding_at ledger s) (sym pp))
    (λ d. gone_other ledger space page s p d))

-- Where a page gets an origin that no page has, another one is alone as before, unless both had one origin; and it doesn't cease to be.

pub zero_shared : (ledger : Ledger) (space page : ℕ) (x : Holding) → holding_at ledger space page ≡ Some x → nat_eq x.origin 0 ≡ true → is_alone ledger space page ≡ false
zero_shared ledger space page x there zero =
    not_true _ (λ alone.
    let parts = unused_parts (without_page ledger space page) x.origin (sym (alone_is ledger space page x there) ∙ alone) in
    let no = sym zero ∙ parts.0 in cc)

module _ (ledger : Ledger) (space page q r : ℕ) (x y z : Holding) (differs : q ≡ space → r ≡ page → ⊥) (there : holding_at ledger space page ≡ Some x)
    (at : holding_at ledger q r ≡ Some z) (new : is_unused ledger y.origin ≡ true) where
  new_differs : nat_eq y.origin z.origin ≡ false
  new_differs = not_true _ (λ same.
      contradicts ledger y.origin (any_page (λ (holding : Holding). holding.origin == y.origin) ledger q r z at (grind (arith, nat_tests))) (unused_parts ledger y.origin new).1)

  pub alone_beside : (nat_eq x.origin z.origin ≡ true → nat_eq x.origin 0 ≡ true) → is_alone (with_page ledger space page y) q r ≡ is_alone ledger q r
  alone_beside apart = by_zero (nat_eq z.origin 0) refl
    where
      unlike : nat_eq z.origin 0 ≡ false → nat_eq x.origin z.origin ≡ false
      unlike some = not_true _ (λ same. let zero = apart same in let no = some in absurd (grind (arith, nat_tests)))

      by_zero : (b : Bool) → nat_eq z.origin 0 ≡ b → is_alone (with_page ledger space page y) q r ≡ is_alone ledger q r
      by_zero true e = zero_shared (with_page ledger space page y) q r z (put_other ledger space page y q r differs ∙ at) e ∙ sym (zero_shared ledger q r z at e)
      by_zero false e = alone_kept ledger space page q r x y z differs there at (new_differs ∙ sym (unlike e))

  pub alone_still : is_alone ledger q r ≡ true → is_alone (with_page ledger space page y) q r ≡ true
  alone_still alone =
      let apart : IsAlone ledger q r = alone_apart ledger q r alone in
      alone_kept ledger space page q r x y z differs there at (new_differs ∙ sym (unlike apart)) ∙ alone
    where
      unlike : IsAlone ledger q r → nat_eq x.origin z.origin ≡ false
      unlike apart =
          ap (nat_eq x.origin) (ap (λ (o : Option Holding). option_map_or (λ (holding : Holding). holding.origin) o 0) (sym at ∙ apart.there))
          ∙ apart.others space page x (λ s p. differs (sym s) (sym p)) there

-- no two pages of a space have one origin, but for 0
abbrev pub AreOriginsApart : Ledger → ℕ → Type 0
AreOriginsApart ledger space = (p q : ℕ) (x y : Holding) → holding_at ledger space p ≡ Some x → holding_at ledger space q ≡ Some y
    → x.origin ≡ y.origin → nat_eq x.origin 0 ≡ false → p ≡ q
