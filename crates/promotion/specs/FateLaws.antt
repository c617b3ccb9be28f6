use Rattle.std.specs.Prelude.{◌≡◌, ℕ, ◌==◌, Bool, true, false, nat_eq, ◌&&◌, Option, Some, None, is_some, refl}
use Rattle.std.proofs.Common.{sym, ap, subst, ◌∙◌, arith}
use Rattle.std.proofs.lemmas.Bool.Decides.{nat_tests}
use Rattle.std.specs.Option.{option_map, option_map_or}
use Rattle.number_maps.specs.Keys.{by_key}
use Rattle.ledger.specs.Ledger.{Holding, Ledger, is_alone, holding_at}
use Rattle.ledger.specs.Alike.{AreAlike, have_one_origin, is_zero_at, own_at}
use Rattle.ledger.specs.PlaceLaws.{by_place}
use Rattle.ledger.specs.AloneLaws.{IsAlone, alone_apart, apart_alone, are, arent, not_true, same_test}
use Rattle.overlay_memory.specs.ApartLaws.{AreOriginsApart}
use Rattle.overlay_memory.specs.PageLaws.{some_is}
use Rattle.promotion.specs.Fates.{AreTurned, HasFate, IsFate}

-- What is alone in a ledger in which pages were settled, and when two such are alike.

eq_altered : (a b : ℕ) → nat_eq a b ≡ nat_eq b a
eq_altered a b = grind (arith, nat_tests)

fate_at : (b c : Bool) (now : Ledger) (space page : ℕ) (w z : Holding) → HasFate b c now space page w → holding_at now space page ≡ Some z → IsFate b c now space page w z
fate_at b c now space page w z f at = subst (λ (v : Holding). IsFate b c now space page w v) (some_is f.is z (sym f.there ∙ at)) f.fate

-- a page that wasn't altered yet is alone where it was before
module _ (t : ℕ → Bool) (before now : Ledger) (space page : ℕ) (x : Holding) (apart : AreOriginsApart before space)
    (h : AreTurned t (is_alone before space) before now space) (unaltered : t page ≡ false) (was : holding_at before space page ≡ Some x) where
  pub here : holding_at now space page ≡ Some x
  here =
      let f = h.pages page x was in
      f.there ∙ ap Some (by_turn (t page) (is_alone before space page) f.is unaltered f.fate)
    where
      by_turn : (b c : Bool) (z : Holding) → b ≡ false → IsFate b c now space page x z → z ≡ x
      by_turn false c z e fate = fate
      by_turn true c z e fate = cc

  beside : (r : ℕ) (other : Holding) → (r ≡ page → ⊥) → nat_eq x.origin 0 ≡ false → holding_at before space r ≡ Some other → nat_eq other.origin x.origin ≡ false
  beside r other differs some there =
      not_true (nat_eq other.origin x.origin)
      (λ e. differs (sym (apart page r x other was there (sym (same other.origin x.origin e)) some)))
    where
      same : (m n : ℕ) → nat_eq m n ≡ true → m ≡ n
      same m n e = grind (arith, nat_tests)

  was_alone : is_alone now space page ≡ true → is_alone before space page ≡ true
  was_alone alone =
      let a : IsAlone now space page = alone_apart now space page alone in
      let same : x ≡ a.holding = some_is x a.holding (sym here ∙ a.there) in
      apart_alone before space page (record {
        holding = x;
        there = was;
        not_zero = ap (λ (z : Holding). nat_eq z.origin 0) same ∙ a.not_zero;
        others = λ q r other differs there. by_key q space
            (λ s. beside r other (λ p. differs s p) (ap (λ (z : Holding). nat_eq z.origin 0) same ∙ a.not_zero) (ap (λ n. holding_at before n r) (sym s) ∙ there))
            (λ d. ap (λ (z : Holding). nat_eq other.origin z.origin) same ∙ a.others q r other differs (h.others q r d ∙ there));
      })

  is_apart : (r : ℕ) (other : Holding) → (r ≡ page → ⊥) → nat_eq x.origin 0 ≡ false → holding_at now space r ≡ Some other
      → (o : Option Holding) → holding_at before space r ≡ o → nat_eq other.origin x.origin ≡ false
  is_apart r other differs some there None had = let no = sym (ap is_some there) ∙ ap is_some (h.absent r had) in cc
  is_apart r other differs some there (Some w) had =
      by_turn (t r) (is_alone before space r) (fate_at (t r) (is_alone before space r) now space r w other (h.pages r w had) there)
    where
      by_turn : (b c : Bool) → IsFate b c now space r w other → nat_eq other.origin x.origin ≡ false
      by_turn false c fate = ap (λ (v : Holding). nat_eq v.origin x.origin) fate ∙ beside r w differs some had
      by_turn true true fate = ap (λ (v : Holding). nat_eq v.origin x.origin) fate ∙ beside r w differs some had
      by_turn true false fate =
          let a : IsAlone now space r = alone_apart now space r fate.1 in
          eq_altered other.origin x.origin
          ∙ ap (λ (v : Holding). nat_eq x.origin v.origin) (some_is other a.holding (sym there ∙ a.there))
          ∙ a.others space page x (λ _ e. differs (sym e)) here

  is_alone_now : is_alone before space page ≡ true → is_alone now space page ≡ true
  is_alone_now alone =
      let a : IsAlone before space page = alone_apart before space page alone in
      let same : x ≡ a.holding = some_is x a.holding (sym was ∙ a.there) in
      let some : nat_eq x.origin 0 ≡ false = ap (λ (z : Holding). nat_eq z.origin 0) same ∙ a.not_zero in
      apart_alone now space page (record {
        holding = x;
        there = here;
        not_zero = some;
        others = λ q r other differs there. by_key q space
            (λ s. let there_now : holding_at now space r ≡ Some other = ap (λ n. holding_at now n r) (sym s) ∙ there in
            is_apart r other (λ p. differs s p) some there_now (holding_at before space r) refl)
            (λ d. ap (λ (z : Holding). nat_eq other.origin z.origin) same ∙ a.others q r other differs (sym (h.others q r d) ∙ there));
      })

  pub alone_stays : is_alone now space page ≡ is_alone before space page
  alone_stays = same_test _ _ was_alone is_alone_now

-- Two ledgers in which the same pages were settled are alike.

-- how a place's origin stands in both: as before, or alone in both
data Origins (before a b : Ledger) (s p : ℕ) : Type 0 where
  same : option_map (λ (h : Holding). h.origin) (holding_at a s p) ≡ option_map (λ (h : Holding). h.origin) (holding_at before s p)
      → option_map (λ (h : Holding). h.origin) (holding_at b s p) ≡ option_map (λ (h : Holding). h.origin) (holding_at before s p) → Origins before a b s p
  fresh : is_alone a s p ≡ true → is_alone b s p ≡ true → Origins before a b s p

abbrev origin_at : Ledger → ℕ → ℕ → Option ℕ
origin_at l s p = option_map (λ (h : Holding). h.origin) (holding_at l s p)

abbrev eq_some : Option ℕ → Option ℕ → Bool
eq_some None n = false
eq_some (Some m) None = false
eq_some (Some m) (Some n) = m == n

by_origins : (o u : Option Holding) → have_one_origin o u ≡ eq_some (option_map (λ (h : Holding). h.origin) o) (option_map (λ (h : Holding). h.origin) u)
by_origins None u = refl
by_origins (Some x) None = refl
by_origins (Some x) (Some y) = refl

zero_origin : (o : Option Holding) → option_map_or (λ (h : Holding). h.origin == 0) o false ≡ option_map_or (λ n. n == 0) (option_map (λ (h : Holding). h.origin) o) false
zero_origin None = refl
zero_origin (Some x) = refl

one_altered_round : (o u : Option Holding) → have_one_origin o u ≡ have_one_origin u o
one_altered_round None None = refl
one_altered_round None (Some y) = refl
one_altered_round (Some x) None = refl
one_altered_round (Some x) (Some y) = eq_altered x.origin y.origin

-- a page that is alone shares with itself alone
alone_shares : (l : Ledger) (s p q r : ℕ) → is_alone l s p ≡ true → have_one_origin (holding_at l s p) (holding_at l q r) ≡ (nat_eq q s && nat_eq r p)
alone_shares l s p q r alone =
    let a : IsAlone l s p = alone_apart l s p alone in
    by_place s p q r
    (λ ss pp. ap (have_one_origin (holding_at l s p)) (ap (λ n. holding_at l n r) ss ∙ ap (holding_at l s) pp)
    ∙ itself (holding_at l s p) (ap is_some a.there) ∙ sym (ap (λ b. b && nat_eq r p) (are q s ss) ∙ are r p pp))
    (λ d. ap (λ o. have_one_origin o (holding_at l q r)) a.there ∙ other_page a d (holding_at l q r) refl ∙ sym (elsewhere d))
  where
    itself : (o : Option Holding) → is_some o ≡ true → have_one_origin o o ≡ true
    itself None h = cc
    itself (Some x) h = are x.origin x.origin refl

    other_page : (a : IsAlone l s p) → (q ≡ s → r ≡ p → ⊥) → (o : Option Holding) → holding_at l q r ≡ o → have_one_origin (Some a.holding) (holding_at l q r) ≡ false
    other_page a d None is = ap (have_one_origin (Some a.holding)) is
    other_page a d (Some y) is = ap (have_one_origin (Some a.holding)) is ∙ eq_altered a.holding.origin y.origin ∙ a.others q r y d is

    elsewhere : (q ≡ s → r ≡ p → ⊥) → (nat_eq q s && nat_eq r p) ≡ false
    elsewhere d = by_key q s
        (λ ss. ap (λ b. b && nat_eq r p) (are q s ss) ∙ arent r p (d ss))
        (λ e. ap (λ b. b && nat_eq r p) (arent q s e))

module _ (t u : ℕ → Bool) (before a b : Ledger) (space : ℕ) (h : AreTurned t u before a space) (k : AreTurned t u before b space) where
  origins_in : (p : ℕ) (o : Option Holding) → holding_at before space p ≡ o → Origins before a b space p
  origins_in p None had = same (ap origin (h.absent p had) ∙ sym (ap origin had)) (ap origin (k.absent p had) ∙ sym (ap origin had))
    where
      origin : Option Holding → Option ℕ
      origin o = option_map (λ (h : Holding). h.origin) o
  origins_in p (Some x) had = by_turn (t p) (u p) (h.pages p x had) (k.pages p x had)
    where
      by_turn : (c d : Bool) → HasFate c d a space p x → HasFate c d b space p x → Origins before a b space p
      by_turn false d f g = same (to_before a f.is f.there (ap (λ (v : Holding). v.origin) f.fate)) (to_before b g.is g.there (ap (λ (v : Holding). v.origin) g.fate))
        where
          to_before : (l : Ledger) (z : Holding) → holding_at l space p ≡ Some z → z.origin ≡ x.origin → origin_at l space p ≡ origin_at before space p
          to_before l z at e = ap (option_map (λ (h : Holding). h.origin)) at ∙ ap Some e ∙ sym (ap (option_map (λ (h : Holding). h.origin)) had)
      by_turn true true f g = same (to_before a f.is f.there (ap (λ (v : Holding). v.origin) f.fate)) (to_before b g.is g.there (ap (λ (v : Holding). v.origin) g.fate))
        where
          to_before : (l : Ledger) (z : Holding) → holding_at l space p ≡ Some z → z.origin ≡ x.origin → origin_at l space p ≡ origin_at before space p
          to_before l z at e = ap (option_map (λ (h : Holding). h.origin)) at ∙ ap Some e ∙ sym (ap (option_map (λ (h : Holding). h.origin)) had)
      by_turn true false f g = fresh f.fate.1 g.fate.1

  origins_at : (s p : ℕ) → Origins before a b s p
  origins_at s p = by_key s space
      (λ e. subst (λ n. Origins before a b n p) (sym e) (origins_in p (holding_at before space p) refl))
      (λ d. same (ap (option_map (λ (h : Holding). h.origin)) (h.others s p d)) (ap (option_map (λ (h : Holding). h.origin)) (k.others s p d)))

  shared_at : (s p q r : ℕ) → Origins before a b s p → Origins before a b q r
      → have_one_origin (holding_at a s p) (holding_at a q r) ≡ have_one_origin (holding_at b s p) (holding_at b q r)
  shared_at s p q r (fresh x y) other = alone_shares a s p q r x ∙ sym (alone_shares b s p q r y)
  shared_at s p q r (same x y) (fresh v w) =
      one_altered_round (holding_at a s p) (holding_at a q r) ∙ alone_shares a q r s p v ∙ sym (alone_shares b q r s p w) ∙ one_altered_round (holding_at b q r) (holding_at b s p)
  shared_at s p q r (same x y) (same v w) =
      by_origins (holding_at a s p) (holding_at a q r) ∙ (λ i. eq_some ((x ∙ sym y) i) ((v ∙ sym w) i)) ∙ sym (by_origins (holding_at b s p) (holding_at b q r))

  zero_both : (s p : ℕ) → Origins before a b s p → is_zero_at a s p ≡ is_zero_at b s p
  zero_both s p (same x y) =
      zero_origin (holding_at a s p) ∙ ap (λ o. option_map_or (λ n. n == 0) o false) (x ∙ sym y) ∙ sym (zero_origin (holding_at b s p))
  zero_both s p (fresh x y) = isnt a x ∙ sym (isnt b y)
    where
      isnt : (l : Ledger) → is_alone l s p ≡ true → is_zero_at l s p ≡ false
      isnt l alone =
          let i : IsAlone l s p = alone_apart l s p alone in
          ap (λ (o : Option Holding). option_map_or (λ (h : Holding). h.origin == 0) o false) i.there ∙ i.not_zero

  own_both : (p : ℕ) (o : Option Holding) → holding_at before space p ≡ o → own_at a space p ≡ own_at b space p
  own_both p None had = ap (option_map (λ (h : Holding). h.own)) (h.absent p had ∙ sym (k.absent p had))
  own_both p (Some x) had = by_turn (t p) (u p) (h.pages p x had) (k.pages p x had)
    where
      joined : (z w : Holding) → holding_at a space p ≡ Some z → holding_at b space p ≡ Some w → z.own ≡ w.own → own_at a space p ≡ own_at b space p
      joined z w at_a at_b e = ap (option_map (λ (h : Holding). h.own)) at_a ∙ ap Some e ∙ sym (ap (option_map (λ (h : Holding). h.own)) at_b)

      by_turn : (c d : Bool) → HasFate c d a space p x → HasFate c d b space p x → own_at a space p ≡ own_at b space p
      by_turn false d f g = joined f.is g.is f.there g.there (ap (λ (v : Holding). v.own) (f.fate ∙ sym g.fate))
      by_turn true true f g = joined f.is g.is f.there g.there (ap (λ (v : Holding). v.own) (f.fate ∙ sym g.fate))
      by_turn true false f g = joined f.is g.is f.there g.there (f.fate.0 ∙ sym g.fate.0)

  pub alike_altered : AreAlike a b
  alike_altered = record {
    spaces = λ s. h.spaces s ∙ sym (k.spaces s);
    own = λ s p. by_key s space
        (λ e. subst (λ n. own_at a n p ≡ own_at b n p) (sym e) (own_both p (holding_at before space p) refl))
        (λ d. ap (option_map (λ (h : Holding). h.own)) (h.others s p d ∙ sym (k.others s p d)));
    zero_at = λ s p. zero_both s p (origins_at s p);
    shared = λ s p q r. shared_at s p q r (origins_at s p) (origins_at q r);
  }
