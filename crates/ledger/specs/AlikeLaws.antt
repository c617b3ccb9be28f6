use Rattle.std.specs.Prelude.{◌≡◌, ℕ, ◌==◌, true, false, ◌||◌, nat_eq, List, Option, Some, None, is_some, refl}
use Rattle.std.proofs.Common.{sym, ap, ◌∙◌, arith}
use Rattle.std.proofs.lemmas.Bool.Decides.{nat_tests}
use Rattle.std.specs.Option.{option_map, option_map_or}
use Rattle.ledger.specs.Ledger.{Holding, Ledger, is_alone, is_unused, holding_at, with_page, without_page}
use Rattle.ledger.specs.Alike.{AreAlike, have_one_origin, own_at}
use Rattle.ledger.specs.PlaceLaws.{put_here, put_other, gone_other, by_place}
use Rattle.ledger.specs.AloneLaws.{IsAlone, alone_apart, apart_alone, any_page, contradicts, not_true, same_test, spaces_with, unused_parts}

-- What keeps ledgers alike, and what alike ledgers have in common.

pub alike_itself : (a : Ledger) → AreAlike a a
alike_itself a = record { spaces = λ s. refl; own = λ s p. refl; zero_at = λ s p. refl; shared = λ s p q r. refl }

pub alike_altered : (a b : Ledger) → AreAlike a b → AreAlike b a
alike_altered a b h = record {
  spaces = λ s. sym (h.spaces s);
  own = λ s p. sym (h.own s p);
  zero_at = λ s p. sym (h.zero_at s p);
  shared = λ s p q r. sym (h.shared s p q r);
}

pub alike_chain : (a b c : Ledger) → AreAlike a b → AreAlike b c → AreAlike a c
alike_chain a b c h k = record {
  spaces = λ s. h.spaces s ∙ k.spaces s;
  own = λ s p. h.own s p ∙ k.own s p;
  zero_at = λ s p. h.zero_at s p ∙ k.zero_at s p;
  shared = λ s p q r. h.shared s p q r ∙ k.shared s p q r;
}

-- A page that is there in one is there in the other.

pub record IsPair (a b : Ledger) (space page : ℕ) (x : Holding) : Type 0 where
  pub other : Holding
  pub there : holding_at b space page ≡ Some other
  pub own_same : x.own ≡ other.own
  pub zero_same : nat_eq x.origin 0 ≡ nat_eq other.origin 0

some_own : (x y : List ℕ) → Some x ≡ Some y → x ≡ y
some_own x y e = ap (λ (o : Option (List ℕ)). option_map_or (λ (l : List ℕ). l) o x) e

pub pair_of : (a b : Ledger) (space page : ℕ) (x : Holding) → AreAlike a b → holding_at a space page ≡ Some x → IsPair a b space page x
pair_of a b space page x alike there = by_page (holding_at b space page) refl
  where
    own_x : own_at a space page ≡ Some x.own
    own_x = ap (option_map (λ holding. holding.own)) there

    by_page : (found : Option Holding) → holding_at b space page ≡ found → IsPair a b space page x
    by_page None absent = let no = ap is_some (sym own_x ∙ alike.own space page ∙ ap (option_map (λ holding. holding.own)) absent) in cc
    by_page (Some y) is = record {
      other = y;
      there = is;
      own_same = some_own x.own y.own (sym own_x ∙ alike.own space page ∙ ap (option_map (λ holding. holding.own)) is);
      zero_same = sym (ap (λ (o : Option Holding). option_map_or (λ holding. holding.origin == 0) o false) there) ∙ alike.zero_at space page
          ∙ ap (λ (o : Option Holding). option_map_or (λ holding. holding.origin == 0) o false) is;
    }

pub absent_too : (a b : Ledger) (space page : ℕ) → AreAlike a b → holding_at a space page ≡ None → holding_at b space page ≡ None
absent_too a b space page alike absent = by_page (holding_at b space page) refl
  where
    by_page : (found : Option Holding) → holding_at b space page ≡ found → holding_at b space page ≡ None
    by_page None is = is
    by_page (Some y) is =
        let no = ap is_some (sym (ap (option_map (λ (holding : Holding). holding.own)) is) ∙ sym (alike.own space page) ∙ ap (option_map (λ (holding : Holding). holding.own)) absent) in cc

-- whether two pages that are there have one origin
pub one_origin : (a : Ledger) (s p q r : ℕ) (x y : Holding) → holding_at a s p ≡ Some x → holding_at a q r ≡ Some y
    → have_one_origin (holding_at a s p) (holding_at a q r) ≡ nat_eq x.origin y.origin
one_origin a s p q r x y there at = ap (λ o. have_one_origin o (holding_at a q r)) there ∙ ap (have_one_origin (Some x)) at

-- the same pages are alone
alone_too : (a b : Ledger) (space page : ℕ) → AreAlike a b → is_alone a space page ≡ true → is_alone b space page ≡ true
alone_too a b space page alike alone =
    let apart : IsAlone a space page = alone_apart a space page alone in
    let pair : IsPair a b space page apart.holding = pair_of a b space page apart.holding alike apart.there in
    apart_alone b space page (record {
      holding = pair.other;
      there = pair.there;
      not_zero = sym pair.zero_same ∙ apart.not_zero;
      others = λ q r other differs there.
          let back : IsPair b a q r other = pair_of b a q r other (alike_altered a b alike) there in
          sym (one_origin b q r space page other pair.other there pair.there) ∙ sym (alike.shared q r space page)
          ∙ one_origin a q r space page back.other apart.holding back.there apart.there ∙ apart.others q r back.other differs back.there;
    })

pub alike_alone : (a b : Ledger) → AreAlike a b → (space page : ℕ) → is_alone a space page ≡ is_alone b space page
alike_alone a b alike space page = same_test _ _ (alone_too a b space page alike) (alone_too b a space page (alike_altered a b alike))

-- A page put on both sides.

eq_itself : (n : ℕ) → nat_eq n n ≡ true
eq_itself n = grind (arith, nat_tests)

eq_altered : (a b : ℕ) → nat_eq a b ≡ nat_eq b a
eq_altered a b = grind (arith, nat_tests)

one_altered : (a b : Option Holding) → have_one_origin a b ≡ have_one_origin b a
one_altered None None = refl
one_altered None (Some y) = refl
one_altered (Some x) None = refl
one_altered (Some x) (Some y) = eq_altered x.origin y.origin

found_used : (l : Ledger) (q r : ℕ) (w : Holding) (origin : ℕ) → holding_at l q r ≡ Some w → nat_eq w.origin origin ≡ true → is_unused l origin ≡ true → ⊥
found_used l q r w origin there same unused =
    contradicts l origin (any_page (λ (holding : Holding). holding.origin == origin) l q r w there same) (unused_parts l origin unused).1

-- what goes by places alone
module _ (a b : Ledger) (space page : ℕ) (x y : Holding) where
  put_both : {T : Type 0} (f : Option Holding → T) → f (Some x) ≡ f (Some y) → ((q r : ℕ) → f (holding_at a q r) ≡ f (holding_at b q r)) → (q r : ℕ)
      → f (holding_at (with_page a space page x) q r) ≡ f (holding_at (with_page b space page y) q r)
  put_both f here others q r = by_place space page q r
      (λ s p. ap f (put_here a space page x q r s p) ∙ here ∙ ap f (sym (put_here b space page y q r s p)))
      (λ d. ap f (put_other a space page x q r d) ∙ others q r ∙ ap f (sym (put_other b space page y q r d)))

  pub alike_put : AreAlike a b → x.own ≡ y.own → nat_eq x.origin 0 ≡ nat_eq y.origin 0
      → ((q r : ℕ) → (q ≡ space → r ≡ page → ⊥) → have_one_origin (Some x) (holding_at a q r) ≡ have_one_origin (Some y) (holding_at b q r))
      → AreAlike (with_page a space page x) (with_page b space page y)
  alike_put alike own zero_same shared = record {
    spaces = λ s. spaces_with a space page x s ∙ ap (λ c. nat_eq s space || c) (alike.spaces s) ∙ sym (spaces_with b space page y s);
    own = put_both (option_map (λ holding. holding.own)) (ap Some own) alike.own;
    zero_at = put_both (λ o. option_map_or (λ holding. holding.origin == 0) o false) zero_same alike.zero_at;
    shared = λ s p q r. by_place space page s p
        (λ ss pp. by_place space page q r
        (λ qq rr. both (put_here a space page x s p ss pp) (put_here a space page x q r qq rr) ∙ eq_itself x.origin ∙ sym (eq_itself y.origin)
        ∙ sym (both (put_here b space page y s p ss pp) (put_here b space page y q r qq rr)))
        (λ d. both (put_here a space page x s p ss pp) (put_other a space page x q r d) ∙ shared q r d
        ∙ sym (both (put_here b space page y s p ss pp) (put_other b space page y q r d))))
        (λ e. by_place space page q r
        (λ qq rr. both (put_other a space page x s p e) (put_here a space page x q r qq rr) ∙ one_altered (holding_at a s p) (Some x) ∙ shared s p e
        ∙ one_altered (Some y) (holding_at b s p) ∙ sym (both (put_other b space page y s p e) (put_here b space page y q r qq rr)))
        (λ d. both (put_other a space page x s p e) (put_other a space page x q r d) ∙ alike.shared s p q r
        ∙ sym (both (put_other b space page y s p e) (put_other b space page y q r d))));
  }
    where
      both : {o p u v : Option Holding} → o ≡ u → p ≡ v → have_one_origin o p ≡ have_one_origin u v
      both h k = λ i. have_one_origin (h i) (k i)

  -- both have origin 0
  pub alike_zero : AreAlike a b → x.own ≡ y.own → x.origin ≡ 0 → y.origin ≡ 0 → AreAlike (with_page a space page x) (with_page b space page y)
  alike_zero alike own x0 y0 = alike_put alike own (ap (λ o. nat_eq o 0) (x0 ∙ sym y0)) (λ q r d.
      with_zero x x0 (holding_at a q r) ∙ alike.zero_at q r ∙ sym (with_zero y y0 (holding_at b q r)))
    where
      with_zero : (z : Holding) → z.origin ≡ 0 → (o : Option Holding) → have_one_origin (Some z) o ≡ option_map_or (λ holding. holding.origin == 0) o false
      with_zero z z0 None = refl
      with_zero z z0 (Some w) = ap (λ n. nat_eq n w.origin) z0 ∙ eq_altered 0 w.origin

  -- both have an origin that no other page has
  pub alike_new : AreAlike a b → x.own ≡ y.own → is_unused (without_page a space page) x.origin ≡ true → is_unused (without_page b space page) y.origin ≡ true
      → AreAlike (with_page a space page x) (with_page b space page y)
  alike_new alike own x_new y_new = alike_put alike own
      ((unused_parts (without_page a space page) x.origin x_new).0 ∙ sym (unused_parts (without_page b space page) y.origin y_new).0)
      (λ q r d. not_shared a x x_new q r d ∙ sym (not_shared b y y_new q r d))
    where
      not_shared : (l : Ledger) (z : Holding) → is_unused (without_page l space page) z.origin ≡ true → (q r : ℕ) → (q ≡ space → r ≡ page → ⊥)
          → have_one_origin (Some z) (holding_at l q r) ≡ false
      not_shared l z z_new q r d = by_page (holding_at l q r) refl
        where
          by_page : (found : Option Holding) → holding_at l q r ≡ found → have_one_origin (Some z) (holding_at l q r) ≡ false
          by_page None is = ap (have_one_origin (Some z)) is
          by_page (Some w) is =
              ap (have_one_origin (Some z)) is
              ∙ not_true (nat_eq z.origin w.origin) (λ same. found_used (without_page l space page) q r w z.origin (gone_other l space page q r d ∙ is) (eq_altered w.origin z.origin ∙ same) z_new)

  -- both have the origin that a page has on its side
  pub alike_shared : AreAlike a b → x.own ≡ y.own → (s p : ℕ) (u v : Holding) → holding_at a s p ≡ Some u → holding_at b s p ≡ Some v → x.origin ≡ u.origin → y.origin ≡ v.origin
      → AreAlike (with_page a space page x) (with_page b space page y)
  alike_shared alike own s p u v at_a at_b x_same y_same = alike_put alike own
      (ap (λ o. nat_eq o 0) x_same ∙ zero_of ∙ ap (λ o. nat_eq o 0) (sym y_same))
      (λ q r d. of_place a x u s p x_same at_a q r ∙ alike.shared s p q r ∙ sym (of_place b y v s p y_same at_b q r))
    where
      zero_of : nat_eq u.origin 0 ≡ nat_eq v.origin 0
      zero_of =
          sym (ap (λ (o : Option Holding). option_map_or (λ holding. holding.origin == 0) o false) at_a) ∙ alike.zero_at s p
          ∙ ap (λ (o : Option Holding). option_map_or (λ holding. holding.origin == 0) o false) at_b

      of_place : (l : Ledger) (z w : Holding) (s p : ℕ) → z.origin ≡ w.origin → holding_at l s p ≡ Some w → (q r : ℕ)
          → have_one_origin (Some z) (holding_at l q r) ≡ have_one_origin (holding_at l s p) (holding_at l q r)
      of_place l z w s p same at q r = by_other (holding_at l q r) ∙ ap (λ o. have_one_origin o (holding_at l q r)) (sym at)
        where
          by_other : (o : Option Holding) → have_one_origin (Some z) o ≡ have_one_origin (Some w) o
          by_other None = refl
          by_other (Some k) = ap (λ n. nat_eq n k.origin) same

  -- both keep the origin that the page has
  pub alike_own : AreAlike a b → x.own ≡ y.own → (u v : Holding) → holding_at a space page ≡ Some u → holding_at b space page ≡ Some v → x.origin ≡ u.origin → y.origin ≡ v.origin
      → AreAlike (with_page a space page x) (with_page b space page y)
  alike_own alike own u v at_a at_b x_same y_same = alike_shared alike own space page u v at_a at_b x_same y_same
