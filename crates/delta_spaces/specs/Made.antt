use Rattle.std.specs.Prelude.{◌≡◌, ℕ, Bool, true, false, ◌||◌, nat_eq, [], Option, Some, None, is_some, refl}
use Rattle.std.proofs.Common.{◌⊎◌, inl, inr, sym, ap, subst, ◌∙◌, arith}
use Rattle.std.proofs.lemmas.Bool.Decides.{nat_tests}
use Rattle.std.specs.Option.{option_map, option_map_or}
use Rattle.std.specs.FinMap.{empty, get, insert}
use Rattle.number_maps.specs.Keys.{by_key, get_other, get_same}
use Rattle.ledger.specs.Ledger.{Holding, Ledger, has_origin, holding_at, is_alone, is_unused, with_page, without_page}
use Rattle.ledger.specs.Alike.{AreAlike, have_one_origin, is_zero_at, own_at}
use Rattle.ledger.specs.AloneLaws.{IsAlone, alone_apart, any_page, apart_alone, are, arent, contradicts, not_true, spaces_with, unused_parts, zero_shared}
use Rattle.ledger.specs.Changes.{without_own}
use Rattle.ledger.specs.PlaceLaws.{by_place, gone_other, gone_over, no_page, page_is, pages_beside, pages_put, put_here, put_other}
use Rattle.ledger.specs.UnitLaws.{alone_is}

-- A space is made in a ledger: each of its pages holds what it is to hold, or it is settled, which is to be alone without own lines.

pub record IsSettledAt (l : Ledger) (space page : ℕ) : Type 0 where
  pub alone : is_alone l space page ≡ true
  pub none : own_at l space page ≡ Some []

pub record IsMade (before l : Ledger) (to : ℕ) (want : ℕ → Option Holding) (done : ℕ → Bool) : Type 0 where
  pub spaces : (q : ℕ) → is_some (get l q) ≡ (nat_eq q to || is_some (get before q))
  pub others : (q r : ℕ) → (q ≡ to → ⊥) → holding_at l q r ≡ holding_at before q r
  pub held : (r : ℕ) → done r ≡ false → holding_at l to r ≡ want r
  pub settled : (r : ℕ) → done r ≡ true → IsSettledAt l to r

-- Two ledgers in which the same was made are alike.

by_test : {P : Type 0} (b : Bool) → (b ≡ true → P) → (b ≡ false → P) → P
by_test true yes_ no_ = yes_ refl
by_test false yes_ no_ = no_ refl

-- a page that is alone has its origin for itself
alone_pair : (l : Ledger) (s p q r : ℕ) → is_alone l s p ≡ true → (q ≡ s → r ≡ p → ⊥)
    → (have_one_origin (holding_at l s p) (holding_at l q r) ≡ false) × (have_one_origin (holding_at l q r) (holding_at l s p) ≡ false)
alone_pair l s p q r alone differs =
    let apart = alone_apart l s p alone in
    let pair = by_other (holding_at l q r) refl apart in (
      ap (λ (o : Option Holding). have_one_origin o (holding_at l q r)) apart.there ∙ pair.0,
      ap (have_one_origin (holding_at l q r)) apart.there ∙ pair.1,
    )
  where
    turned : (a b : ℕ) → nat_eq b a ≡ false → nat_eq a b ≡ false
    turned a b e = grind (arith, nat_tests)

    by_other : (o : Option Holding) → holding_at l q r ≡ o → (apart : IsAlone l s p)
        → (have_one_origin (Some apart.holding) (holding_at l q r) ≡ false) × (have_one_origin (holding_at l q r) (Some apart.holding) ≡ false)
    by_other None at apart = (ap (have_one_origin (Some apart.holding)) at, ap (λ (o : Option Holding). have_one_origin o (Some apart.holding)) at)
    by_other (Some y) at apart =
        let isnt = apart.others q r y differs at in (
          ap (have_one_origin (Some apart.holding)) at ∙ turned apart.holding.origin y.origin isnt,
          ap (λ (o : Option Holding). have_one_origin o (Some apart.holding)) at ∙ isnt,
        )

alone_itself : (l : Ledger) (s p : ℕ) → is_alone l s p ≡ true → have_one_origin (holding_at l s p) (holding_at l s p) ≡ true
alone_itself l s p alone =
    let apart = alone_apart l s p alone in
    ap (λ (o : Option Holding). have_one_origin o o) apart.there ∙ are apart.holding.origin apart.holding.origin refl

alone_not_zero : (l : Ledger) (s p : ℕ) → is_alone l s p ≡ true → is_zero_at l s p ≡ false
alone_not_zero l s p alone =
    let apart = alone_apart l s p alone in
    ap (λ (o : Option Holding). option_map_or (λ holding. nat_eq holding.origin 0) o false) apart.there ∙ apart.not_zero

module _ (before a b : Ledger) (to : ℕ) (want : ℕ → Option Holding) (done : ℕ → Bool) (is : IsMade before a to want done) (too : IsMade before b to want done) where
  -- a place is held in both alike, or it is settled in both
  by_state : {P : Type 0} (s p : ℕ) → (holding_at a s p ≡ holding_at b s p → P)
      → (is_alone a s p ≡ true → is_alone b s p ≡ true → own_at a s p ≡ own_at b s p → P) → P
  by_state s p same both = by_key s to
      (λ here. by_test (done p)
      (λ e. both
      (ap (λ q. is_alone a q p) here ∙ (is.settled p e).alone) (ap (λ q. is_alone b q p) here ∙ (too.settled p e).alone)
      (ap (λ q. own_at a q p) here ∙ (is.settled p e).none ∙ sym (ap (λ q. own_at b q p) here ∙ (too.settled p e).none)))
      (λ e. same (ap (λ q. holding_at a q p) here ∙ is.held p e ∙ sym (ap (λ q. holding_at b q p) here ∙ too.held p e))))
      (λ other. same (is.others s p other ∙ sym (too.others s p other)))

  pub same_made : AreAlike a b
  same_made = record {
    spaces = λ q. is.spaces q ∙ sym (too.spaces q);
    own = λ s p. by_state s p (λ same. ap (option_map (λ (x : Holding). x.own)) same) (λ one two own. own);
    zero_at = λ s p. by_state s p (λ same. ap (λ (o : Option Holding). option_map_or (λ holding. nat_eq holding.origin 0) o false) same)
        (λ one two own. alone_not_zero a s p one ∙ sym (alone_not_zero b s p two));
    shared = λ s p q r. by_state s p
        (λ same. by_state q r
        (λ other. ap (λ (o : Option Holding). have_one_origin o (holding_at a q r)) same ∙ ap (have_one_origin (holding_at b s p)) other)
        (λ one two own. (pair q r s p one two).1))
        (λ one two own. (pair s p q r one two).0);
  }
    where
      pair : (s p q r : ℕ) → is_alone a s p ≡ true → is_alone b s p ≡ true
          → (have_one_origin (holding_at a s p) (holding_at a q r) ≡ have_one_origin (holding_at b s p) (holding_at b q r))
          × (have_one_origin (holding_at a q r) (holding_at a s p) ≡ have_one_origin (holding_at b q r) (holding_at b s p))
      pair s p q r one two = by_place s p q r
          (λ qs rp. let both = itself s p one two in (
            ap (λ m. have_one_origin (holding_at a s p) (holding_at a m r)) qs ∙ ap (λ m. have_one_origin (holding_at a s p) (holding_at a s m)) rp ∙ both
                ∙ sym (ap (λ m. have_one_origin (holding_at b s p) (holding_at b m r)) qs ∙ ap (λ m. have_one_origin (holding_at b s p) (holding_at b s m)) rp),
            ap (λ m. have_one_origin (holding_at a m r) (holding_at a s p)) qs ∙ ap (λ m. have_one_origin (holding_at a s m) (holding_at a s p)) rp ∙ both
                ∙ sym (ap (λ m. have_one_origin (holding_at b m r) (holding_at b s p)) qs ∙ ap (λ m. have_one_origin (holding_at b s m) (holding_at b s p)) rp),
          ))
          (λ differs.
          let at_a = alone_pair a s p q r one differs in
          let at_b = alone_pair b s p q r two differs in (at_a.0 ∙ sym at_b.0, at_a.1 ∙ sym at_b.1))
        where
          itself : (s p : ℕ) → is_alone a s p ≡ true → is_alone b s p ≡ true
              → have_one_origin (holding_at a s p) (holding_at a s p) ≡ have_one_origin (holding_at b s p) (holding_at b s p)
          itself s p one two = alone_itself a s p one ∙ sym (alone_itself b s p two)

-- What a page is to hold is of origin 0, or of an origin that another space has.
pub record IsHad (before : Ledger) (to : ℕ) (origin : ℕ) : Type 0 where
  pub space : ℕ
  pub page : ℕ
  pub holding : Holding
  pub other : space ≡ to → ⊥
  pub there : holding_at before space page ≡ Some holding
  pub is : holding.origin ≡ origin

abbrev pub IsOld : Ledger → ℕ → ℕ → Type 0
IsOld before to origin = (nat_eq origin 0 ≡ true) ⊎ IsHad before to origin

-- Steps.

module _ (before l : Ledger) (to : ℕ) (want : ℕ → Option Holding) (done : ℕ → Bool) (is : IsMade before l to want done) where
  -- where the same is to be held
  pub made_by : (more : ℕ → Option Holding) (also : ℕ → Bool) → ((r : ℕ) → also r ≡ done r) → ((r : ℕ) → done r ≡ false → more r ≡ want r) → IsMade before l to more also
  made_by more also same holds = record {
    spaces = is.spaces;
    others = is.others;
    held = λ r e. is.held r (sym (same r) ∙ e) ∙ sym (holds r (sym (same r) ∙ e));
    settled = λ r e. is.settled r (sym (same r) ∙ e);
  }

  had_at : (origin : ℕ) → IsHad before to origin → has_origin l origin ≡ true
  unfolding has_origin
  had_at origin had =
      any_page (λ (holding : Holding). nat_eq holding.origin origin) l had.space had.page had.holding (is.others had.space had.page had.other ∙ had.there) (are had.holding.origin origin had.is)

  spaces_put : (page : ℕ) (x : Holding) (q : ℕ) → is_some (get (with_page l to page x) q) ≡ (nat_eq q to || is_some (get before q))
  spaces_put page x q = spaces_with l to page x q ∙ ap (λ b. nat_eq q to || b) (is.spaces q) ∙ twice (nat_eq q to) (is_some (get before q))
    where
      twice : (a b : Bool) → (a || (a || b)) ≡ (a || b)
      twice true b = refl
      twice false b = refl

  others_put : (page : ℕ) (x : Holding) (q r : ℕ) → (q ≡ to → ⊥) → holding_at (with_page l to page x) q r ≡ holding_at before q r
  others_put page x q r other = put_other l to page x q r (λ s _. other s) ∙ is.others q r other

  -- a page that is settled still is where another one gets an origin that isn't its own
  still_settled : (page : ℕ) (x : Holding) (r : ℕ) → (r ≡ page → ⊥) → IsSettledAt l to r
      → ((z : Holding) → holding_at l to r ≡ Some z → nat_eq z.origin 0 ≡ false → nat_eq x.origin z.origin ≡ false) → IsSettledAt (with_page l to page x) to r
  still_settled page x r other so unlike =
      let apart = alone_apart l to r so.alone in
      let stays : holding_at (with_page l to page x) to r ≡ holding_at l to r = put_other l to page x to r (λ _ p. other p) in record {
        alone = apart_alone (with_page l to page x) to r (record {
          holding = apart.holding;
          there = stays ∙ apart.there;
          not_zero = apart.not_zero;
          others = λ q p y differs at. by_place to page q p
              (λ s e. let same = ap (λ (o : Option Holding). option_map_or (λ (h : Holding). h.origin) o 0) (sym at ∙ put_here l to page x q p s e) in
              ap (λ n. nat_eq n apart.holding.origin) same ∙ unlike apart.holding apart.there apart.not_zero)
              (λ apart_too. apart.others q p y differs (sym (put_other l to page x q p apart_too) ∙ at));
        });
        none = ap (option_map (λ (h : Holding). h.own)) stays ∙ so.none;
      }

  -- an old origin is that of no page which is settled
  old_unlike : (x : Holding) → IsOld before to x.origin → (r : ℕ) → IsSettledAt l to r → (z : Holding) → holding_at l to r ≡ Some z → nat_eq z.origin 0 ≡ false
      → nat_eq x.origin z.origin ≡ false
  old_unlike x (inl zero) r so z at some = not_true _ (λ same. absurd (grind (arith, nat_tests)))
  old_unlike x (inr had) r so z at some =
      let apart = alone_apart l to r so.alone in
      let same = ap (λ (o : Option Holding). option_map_or (λ (h : Holding). h.origin) o 0) (sym at ∙ apart.there) in
      ap (λ n. nat_eq n z.origin) (sym had.is) ∙ ap (nat_eq had.holding.origin) same
      ∙ apart.others had.space had.page had.holding (λ s _. had.other s) (is.others had.space had.page had.other ∙ had.there)

  -- a page is put that is to be held
  pub made_put : (page : ℕ) (x : Holding) (more : ℕ → Option Holding) (also : ℕ → Bool) → IsOld before to x.origin → more page ≡ Some x → also page ≡ false
      → ((r : ℕ) → (r ≡ page → ⊥) → (more r ≡ want r) × (also r ≡ done r)) → IsMade before (with_page l to page x) to more also
  made_put page x more also old is_to isnt same = record {
    spaces = spaces_put page x;
    others = others_put page x;
    held = λ r e. by_key r page
        (λ here. put_here l to page x to r refl here ∙ sym is_to ∙ ap more (sym here))
        (λ other. put_other l to page x to r (λ _ p. other p) ∙ is.held r (sym (same r other).1 ∙ e) ∙ sym (same r other).0);
    settled = λ r e. by_key r page
        (λ here. let no = sym e ∙ ap also here ∙ isnt in absurd cc)
        (λ other. let so = is.settled r (sym (same r other).1 ∙ e) in still_settled page x r other so (old_unlike x old r so));
  }

  -- a page is put that is settled
  pub made_settled : (page origin : ℕ) (more : ℕ → Option Holding) (also : ℕ → Bool) → is_unused (without_page l to page) origin ≡ true → also page ≡ true
      → ((r : ℕ) → (r ≡ page → ⊥) → (more r ≡ want r) × (also r ≡ done r)) → IsMade before (with_page l to page (without_own origin)) to more also
  made_settled page origin more also unused are_so same = record {
    spaces = spaces_put page (without_own origin);
    others = others_put page (without_own origin);
    held = λ r e. by_key r page
        (λ here. let no = sym e ∙ ap also here ∙ are_so in absurd cc)
        (λ other. put_other l to page (without_own origin) to r (λ _ p. other p) ∙ is.held r (sym (same r other).1 ∙ e) ∙ sym (same r other).0);
    settled = λ r e. by_key r page
        (λ here. subst (IsSettledAt (with_page l to page (without_own origin)) to) (sym here) new)
        (λ other. still_settled page (without_own origin) r other (is.settled r (sym (same r other).1 ∙ e)) (unlike r other));
  }
    where
      at_page : holding_at (with_page l to page (without_own origin)) to page ≡ Some (without_own origin)
      at_page = put_here l to page (without_own origin) to page refl refl

      new : IsSettledAt (with_page l to page (without_own origin)) to page
      new = record {
        alone = alone_is (with_page l to page (without_own origin)) to page (without_own origin) at_page
            ∙ ap (λ (m : Ledger). is_unused m origin) (gone_over l to page (without_own origin)) ∙ unused;
        none = ap (option_map (λ (h : Holding). h.own)) at_page;
      }

      unlike : (r : ℕ) → (r ≡ page → ⊥) → (z : Holding) → holding_at l to r ≡ Some z → nat_eq z.origin 0 ≡ false → nat_eq origin z.origin ≡ false
      unlike r other z at some = not_true _ (λ same.
          contradicts (without_page l to page) origin
          (any_page (λ (h : Holding). nat_eq h.origin origin) (without_page l to page) to r z (gone_other l to page to r (λ _ p. other p) ∙ at) (grind (arith, nat_tests)))
          (unused_parts (without_page l to page) origin unused).1)

  -- a page that is held of an old origin isn't alone
  pub old_shared : (page : ℕ) (x : Holding) → holding_at l to page ≡ Some x → IsOld before to x.origin → is_alone l to page ≡ false
  old_shared page x at (inl zero) = zero_shared l to page x at zero
  old_shared page x at (inr had) = not_true _ (λ alone.
      let apart = alone_apart l to page alone in
      let same = ap (λ (o : Option Holding). option_map_or (λ (h : Holding). h.origin) o 0) (sym at ∙ apart.there) in
      let isnt = apart.others had.space had.page had.holding (λ s _. had.other s) (is.others had.space had.page had.other ∙ had.there) in
      let no = sym (are had.holding.origin apart.holding.origin (had.is ∙ same)) ∙ isnt in cc)

-- at first: an empty space
pub made_none : (before : Ledger) (to : ℕ) → IsMade before (insert before to empty) to (λ _. None) (λ _. false)
made_none before to = record {
  spaces = λ q. by_key q to
      (λ same. ap is_some (get_same before to q empty same) ∙ sym (ap (λ b. b || is_some (get before q)) (are q to same)))
      (λ other. ap is_some (get_other before to q empty other) ∙ sym (ap (λ b. b || is_some (get before q)) (arent q to other)));
  others = λ q r other. page_is (insert before to empty) q r ∙ ap (λ m. get m r) (pages_beside before to empty q other) ∙ sym (page_is before q r);
  held = λ r e. page_is (insert before to empty) to r ∙ ap (λ m. get m r) (pages_put before to empty to refl) ∙ no_page r;
  settled = λ r e. absurd cc;
}
