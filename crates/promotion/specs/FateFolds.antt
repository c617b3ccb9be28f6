use Rattle.std.specs.Prelude.{◌≡◌, ℕ, suc, ◌==◌, ◌⊎◌, Bool, true, false, cond, nat_eq, nat_le, nat_lt, ◌&&◌, ◌||◌, List, [], ◌∷◌, map, length, Option, Some, None, is_some, refl}
use Rattle.std.proofs.Common.{sym, ap, subst, ◌∙◌, arith, inl, inr}
use Rattle.std.proofs.lemmas.Bool.Decides.{nat_tests}
use Rattle.std.specs.List.{fold, list_any}
use Rattle.std.specs.Option.{option_map_or}
use Rattle.std.specs.Ordering.{nat_cmp, is_eq}
use Rattle.std.specs.FinMap.{entries, get-entries, keys}
use Rattle.std.specs.FinMap.Entries.{find}
use Rattle.number_maps.specs.Keys.{by_key, tied}
use Rattle.ledger.specs.Ledger.{Holding, Ledger, is_alone, is_unused, holding_at, pages_of, with_page, without_page}
use Rattle.ledger.specs.Alike.{AreAlike}
use Rattle.ledger.specs.Changes.{cleared, each_page, has_own, is_large, settled, without_own}
use Rattle.ledger.specs.Events.{Commit, Discard, Settle, SettlePage, ledger_after}
use Rattle.ledger.specs.Origins.{new_origin}
use Rattle.ledger.specs.PlaceLaws.{page_is, same_ledger}
use Rattle.ledger.specs.AloneLaws.{unused_without}
use Rattle.ledger.specs.OriginLaws.{new_is_unused}
use Rattle.ledger.specs.StoreLaws.{large_absent, large_there}
use Rattle.ledger.specs.RowLaws.{changed_absent, changed_there}
use Rattle.overlay_memory.specs.ApartLaws.{AreOriginsApart}
use Rattle.overlay_memory.specs.PageLaws.{own_absent, own_is}
use Rattle.promotion.specs.Settled.{without_alone}
use Rattle.promotion.specs.Fates.{AreTurned, HasFate, IsFate, bare_is, fate_same, none_altered, one_altered}
use Rattle.promotion.specs.FateLaws.{alike_altered, alone_stays}

-- The ledger after an event that settles pages, and its units on the way.

-- the same, said with another test of which pages were settled
pub retold : (t u a : ℕ → Bool) (before now : Ledger) (space : ℕ) → AreTurned t a before now space
    → ((r : ℕ) (x : Holding) → holding_at before space r ≡ Some x → u r ≡ t r) → AreTurned u a before now space
retold t u a before now space h same = record {
  spaces = h.spaces;
  others = h.others;
  absent = h.absent;
  pages = λ r x at. let f = h.pages r x at in record { is = f.is; there = f.there; fate = fate_same (u r) (t r) (a r) (a r) now space r x f.is (same r x at) refl f.fate };
}

-- what is done to a page: it loses its own lines, and keeps its origin, or gets one that no other page has
pub record IsActed (keeps : Bool) (now after : Ledger) (space page : ℕ) (y : Holding) : Type 0 where
  pub z : Holding
  pub put : after ≡ with_page now space page z
  pub own : z.own ≡ []
  pub kept : keeps ≡ true → z.origin ≡ y.origin
  pub fresh : keeps ≡ false → is_unused (without_page now space page) z.origin ≡ true

abbrev pub or_page : (ℕ → Bool) → ℕ → ℕ → Bool
or_page done page r = done r || nat_eq r page

abbrev pub both_tests : (ℕ → Bool) → (ℕ → Bool) → ℕ → Bool
both_tests test done r = test r && done r

or_false : (b : Bool) → (b || false) ≡ b
or_false true = refl
or_false false = refl

or_true : (b : Bool) → (b || true) ≡ true
or_true true = refl
or_true false = refl

and_true : (b : Bool) → (b && true) ≡ b
and_true true = refl
and_true false = refl

and_false : (b : Bool) → (b && false) ≡ false
and_false true = refl
and_false false = refl

pub are_same : (r k : ℕ) → r ≡ k → nat_eq r k ≡ true
are_same r k e = grind (arith, nat_tests)

pub arent_same : (r k : ℕ) → (r ≡ k → ⊥) → nat_eq r k ≡ false
arent_same r k d = by_test (nat_eq r k) refl
  where
    by_test : (b : Bool) → nat_eq r k ≡ b → nat_eq r k ≡ false
    by_test false e = e
    by_test true e = absurd (d (is_same e))
      where
        is_same : nat_eq r k ≡ true → r ≡ k
        is_same e = grind (arith, nat_tests)

-- Something is done to each page of a space that passes a test.
module _ (test a : ℕ → Bool) (before : Ledger) (space : ℕ) (act : Ledger → ℕ → Ledger)
    (idle : (now : Ledger) (k : ℕ) → holding_at now space k ≡ None → act now k ≡ now)
    (acts : (now : Ledger) (k : ℕ) (y : Holding) → test k ≡ true → holding_at now space k ≡ Some y → IsActed (a k) now (act now k) space k y) where
  pub step : Ledger → ℕ → Ledger
  step now k = cond (test k) (act now k) now

  pub stepped : (done : ℕ → Bool) (now : Ledger) (k : ℕ) → AreTurned (both_tests test done) a before now space
      → AreTurned (both_tests test (or_page done k)) a before (cond (test k) (act now k) now) space
  stepped done now k h = by_test (test k) refl
    where
      apart : (r : ℕ) → (r ≡ k → ⊥) → both_tests test (or_page done k) r ≡ both_tests test done r
      apart r other = ap (λ b. test r && (done r || b)) (arent_same r k other) ∙ ap (λ b. test r && b) (or_false (done r))

      turn : test k ≡ true → (o : Option Holding) → holding_at before space k ≡ o → AreTurned (both_tests test (or_page done k)) a before (act now k) space
      turn e None had =
          subst (λ (l : Ledger). AreTurned (both_tests test (or_page done k)) a before l space) (sym (idle now k (h.absent k had)))
          (retold (both_tests test done) (both_tests test (or_page done k)) a before now space h
          (λ r x at. apart r (λ same. let no = sym (ap is_some at) ∙ ap (λ n. is_some (holding_at before space n)) same ∙ ap is_some had in cc)))
      turn e (Some x) had =
          let f = h.pages k x had in
          let s = acts now k f.is e f.there in
          subst (λ (l : Ledger). AreTurned (both_tests test (or_page done k)) a before l space) (sym s.put)
          (one_altered (both_tests test done) (both_tests test (or_page done k)) a before now space k x f.is s.z h had f.there
          (ap (λ b. b && (done k || nat_eq k k)) e ∙ ap (λ b. done k || b) (are_same k k refl) ∙ or_true (done k))
          apart s.own (λ keeps. s.kept keeps ∙ kept keeps (both_tests test done k) f.is f.fate) s.fresh)
        where
          kept : a k ≡ true → (b : Bool) (w : Holding) → IsFate b (a k) now space k x w → w.origin ≡ x.origin
          kept keeps b w fate = at b (a k) w keeps fate
            where
              at : (b c : Bool) (w : Holding) → c ≡ true → IsFate b c now space k x w → w.origin ≡ x.origin
              at false c w e fate = ap (λ (v : Holding). v.origin) fate
              at true true w e fate = ap (λ (v : Holding). v.origin) fate
              at true false w e fate = cc

      by_test : (b : Bool) → test k ≡ b → AreTurned (both_tests test (or_page done k)) a before (cond b (act now k) now) space
      by_test true e = turn e (holding_at before space k) refl
      by_test false e = retold (both_tests test done) (both_tests test (or_page done k)) a before now space h (λ r x at. by_key r k
          (λ same. ap (λ n. both_tests test (or_page done k) n) same ∙ ap (λ b. b && (done k || nat_eq k k)) e ∙ sym (ap (λ b. b && done k) e) ∙ sym (ap (λ n. both_tests test done n) same))
          (λ other. apart r other))

  pub folded : (ks : List ℕ) (done : ℕ → Bool) (now : Ledger) → AreTurned (both_tests test done) a before now space
      → AreTurned (both_tests test (λ r. done r || list_any (λ k. nat_eq r k) ks)) a before (fold (λ l k. cond (test k) (act l k) l) now ks) space
  folded [] done now h = retold _ _ a before now space h (λ r x at. ap (λ b. test r && b) (or_false (done r)))
  folded (k ∷ ks) done now h =
      retold _ _ a before _ space (folded ks (or_page done k) _ (stepped done now k h)) (λ r x at. ap (λ b. test r && b) (associate (done r) (nat_eq r k) (list_any (λ n. nat_eq r n) ks)))
    where
      associate : (x y z : Bool) → (x || (y || z)) ≡ ((x || y) || z)
      associate true y z = refl
      associate false y z = refl

  -- to each page of the space, also where some were settled before
  pub all_folded_from : (done : ℕ → Bool) (now : Ledger) → AreTurned (both_tests test done) a before now space
      → AreTurned test a before (fold (λ l k. cond (test k) (act l k) l) now (keys (pages_of before space))) space
  all_folded_from done now h =
      retold _ _ a before _ space (folded (keys (pages_of before space)) done now h)
      (λ r x at. sym (ap (λ b. test r && (done r || b)) (in_keys r x at) ∙ ap (λ b. test r && b) (or_true (done r)) ∙ and_true (test r)))
    where
      in_entries : (es : List (ℕ × Holding)) (r : ℕ) (x : Holding) → find nat_cmp r es ≡ Some x → list_any (λ k. nat_eq r k) (map (λ (e : ℕ × Holding). e.0) es) ≡ true
      in_entries [] r x is = cc
      in_entries (e ∷ es) r x is = by_tie (is_eq (nat_cmp r e.0)) refl is (λ rest. in_entries es r x rest)
        where
          by_tie : (b : Bool) → is_eq (nat_cmp r e.0) ≡ b → cond b (Some e.1) (find nat_cmp r es) ≡ Some x
              → (find nat_cmp r es ≡ Some x → list_any (λ k. nat_eq r k) (map (λ (e : ℕ × Holding). e.0) es) ≡ true)
              → (nat_eq r e.0 || list_any (λ k. nat_eq r k) (map (λ (e : ℕ × Holding). e.0) es)) ≡ true
          by_tie true t h rest = ap (λ b. b || list_any (λ k. nat_eq r k) (map (λ (e : ℕ × Holding). e.0) es)) (are_same r e.0 (tied r e.0 t))
          by_tie false t h rest = ap (λ b. nat_eq r e.0 || b) (rest h) ∙ or_true (nat_eq r e.0)

      in_keys : (r : ℕ) (x : Holding) → holding_at before space r ≡ Some x → list_any (λ k. nat_eq r k) (keys (pages_of before space)) ≡ true
      in_keys r x at = in_entries (entries (pages_of before space)) r x (sym (get-entries (pages_of before space) r) ∙ sym (page_is before space r) ∙ at)

  pub all_folded : AreTurned test a before (each_page before space (λ l k. cond (test k) (act l k) l)) space
  unfolding each_page
  all_folded = all_folded_from (λ r. false) before (retold _ _ a before before space (none_altered a before space) (λ r x at. and_false (test r)))

-- The events.

-- a page that has own lines is there
pub own_found : (before : Ledger) (space k : ℕ) → has_own before space k ≡ true → is_some (holding_at before space k) ≡ true
unfolding has_own
own_found before space k e = by_page (holding_at before space k) e
  where
    by_page : (o : Option Holding) → option_map_or (λ (holding : Holding). nat_lt 0 (length holding.own)) o false ≡ true → is_some o ≡ true
    by_page None h = cc
    by_page (Some x) h = refl

-- settling a page acts so
pub settle_acts : (before now : Ledger) (space k : ℕ) (y : Holding) → holding_at now space k ≡ Some y
    → IsActed (is_alone before space k) now (settled before now space k) space k y
unfolding settled
settle_acts before now space k y at = record {
  z = without_own (cond (is_alone before space k) y.origin (new_origin now));
  put = changed_there (λ holding. without_own (cond (is_alone before space k) holding.origin (new_origin now))) now space k y at;
  own = refl;
  kept = λ e. ap (λ b. cond b y.origin (new_origin now)) e;
  fresh = λ e. ap (λ b. is_unused (without_page now space k) (cond b y.origin (new_origin now))) e ∙ unused_without now space k (new_origin now) (new_is_unused now);
}

pub settle_idle : (before : Ledger) (space : ℕ) (now : Ledger) (k : ℕ) → holding_at now space k ≡ None → settled before now space k ≡ now
unfolding settled
settle_idle before space now k none = changed_absent (λ holding. without_own (cond (is_alone before space k) holding.origin (new_origin now))) now space k none

pub clear_idle : (space : ℕ) (now : Ledger) (k : ℕ) → holding_at now space k ≡ None → cleared now space k ≡ now
unfolding cleared
clear_idle space now k none = changed_absent (λ holding. without_own holding.origin) now space k none

pub clear_acts : (now : Ledger) (space k : ℕ) (y : Holding) (keeps : Bool) → keeps ≡ true → holding_at now space k ≡ Some y → IsActed keeps now (cleared now space k) space k y
unfolding cleared
clear_acts now space k y keeps always at = record {
  z = without_own y.origin;
  put = changed_there (λ holding. without_own holding.origin) now space k y at;
  own = refl;
  kept = λ e. refl;
  fresh = λ e. let no = sym always ∙ e in cc;
}

pub after_settle : (before : Ledger) (space : ℕ) → AreTurned (has_own before space) (is_alone before space) before (ledger_after (Settle space) before) space
after_settle before space =
    all_folded (has_own before space) (is_alone before space) before space (λ now k. settled before now space k) (settle_idle before space)
    (λ now k y e at. settle_acts before now space k y at)

pub after_settle_page : (before : Ledger) (space page : ℕ)
    → AreTurned (λ r. has_own before space r && (r == page)) (is_alone before space) before (ledger_after (SettlePage space page) before) space
after_settle_page before space page =
    stepped (has_own before space) (is_alone before space) before space (λ now k. settled before now space k) (settle_idle before space)
    (λ now k y e at. settle_acts before now space k y at) (λ r. false) before page
    (retold _ _ (is_alone before space) before before space (none_altered (is_alone before space) before space) (λ r x at. and_false (has_own before space r)))

pub discard_turns : (before : Ledger) (space : ℕ) → AreTurned (λ r. true) (λ r. true) before (ledger_after (Discard space) before) space
discard_turns before space =
    all_folded (λ r. true) (λ r. true) before space (λ now k. cleared now space k) (clear_idle space)
    (λ now k y e at. clear_acts now space k y true refl at)

-- where each page that is alone lost its own lines
pub alone_turns : (before : Ledger) (space : ℕ) → AreTurned (is_alone before space) (is_alone before space) before (without_alone space before) space
unfolding without_alone
alone_turns before space =
    all_folded (is_alone before space) (is_alone before space) before space (λ now k. cleared now space k) (clear_idle space)
    (λ now k y e at. clear_acts now space k y (is_alone before space k) e at)

pub after_commit : (before : Ledger) (space : ℕ)
    → AreTurned (λ r. is_alone before space r || is_large before space r) (is_alone before space) before (ledger_after (Commit space) before) space
after_commit before space =
    all_folded (λ r. is_alone before space r || is_large before space r) (is_alone before space) before space
    (λ now k. settled before now space k) (settle_idle before space) (λ now k y e at. settle_acts before now space k y at)

-- what a test of own lines says
pub none_own : (xs : List ℕ) → nat_lt 0 (length xs) ≡ false → xs ≡ []
none_own [] e = refl
none_own (x ∷ xs) e = absurd (some (length xs) e)
  where
    some : (n : ℕ) → nat_lt 0 (suc n) ≡ false → ⊥
    some n e = grind (arith, nat_tests)

-- a page without own lines hasn't 32
pub bare_small : (l : Ledger) (space r : ℕ) → has_own l space r ≡ false → is_large l space r ≡ false
bare_small l space r bare = by_page (holding_at l space r) refl
  where
    by_page : (o : Option Holding) → holding_at l space r ≡ o → is_large l space r ≡ false
    by_page None is = large_absent l space r is
    by_page (Some x) is = large_there l space r x is ∙ ap (λ (own : List ℕ). nat_le 32 (length own)) (none_own x.own (sym (own_is l space r x is) ∙ bare))

-- the same, where pages that are alone and have no own lines are said to be settled too
pub widened : (t u a : ℕ → Bool) (before now : Ledger) (space : ℕ) → AreTurned t a before now space
    → ((r : ℕ) (x : Holding) → holding_at before space r ≡ Some x → (u r ≡ t r) ⊎ ((t r ≡ false) × (a r ≡ true) × (x.own ≡ []))) → AreTurned u a before now space
widened t u a before now space h same = record {
  spaces = h.spaces;
  others = h.others;
  absent = h.absent;
  pages = λ r x at. let f = h.pages r x at in record { is = f.is; there = f.there; fate = by_way r x f.is f.fate (same r x at) };
}
  where
    by_way : (r : ℕ) (x is : Holding) → IsFate (t r) (a r) now space r x is → (u r ≡ t r) ⊎ ((t r ≡ false) × (a r ≡ true) × (x.own ≡ [])) → IsFate (u r) (a r) now space r x is
    by_way r x is fate (inl e) = fate_same (u r) (t r) (a r) (a r) now space r x is e refl fate
    by_way r x is fate (inr e) = at (u r) (a r) e.1
      where
        kept : is ≡ x
        kept = subst (λ b. IsFate b (a r) now space r x is) e.0 fate

        at : (b c : Bool) → c ≡ true → IsFate b c now space r x is
        at false c alone = kept
        at true true alone = kept ∙ bare_is x x.origin e.2 refl
        at true false alone = cc

-- where each page that was settled kept its origin, there is one such ledger
pub same_altered : (t a : ℕ → Bool) (before l m : Ledger) (space : ℕ) → AreTurned t a before l space → AreTurned t a before m space
    → ((r : ℕ) → t r ≡ true → a r ≡ true) → l ≡ m
same_altered t a before l m space h k keeps = same_ledger l m (λ q. h.spaces q ∙ sym (k.spaces q)) (λ q r. by_key q space
    (λ same. ap (λ n. holding_at l n r) same ∙ by_page r (holding_at before space r) refl ∙ sym (ap (λ n. holding_at m n r) same))
    (λ d. h.others q r d ∙ sym (k.others q r d)))
  where
    equal : (b c : Bool) (r : ℕ) (x y z : Holding) → (b ≡ true → c ≡ true) → IsFate b c l space r x y → IsFate b c m space r x z → y ≡ z
    equal false c r x y z always f g = f ∙ sym g
    equal true true r x y z always f g = f ∙ sym g
    equal true false r x y z always f g = let no = always refl in cc

    by_page : (r : ℕ) (o : Option Holding) → holding_at before space r ≡ o → holding_at l space r ≡ holding_at m space r
    by_page r None had = h.absent r had ∙ sym (k.absent r had)
    by_page r (Some x) had =
        let f = h.pages r x had in
        let g = k.pages r x had in
        f.there ∙ ap Some (equal (t r) (a r) r x f.is g.is (keeps r) f.fate g.fate) ∙ sym g.there

-- After each page that is alone was settled, none that is alone has own lines, and settling the space comes to the same.
module _ (before : Ledger) (space : ℕ) (apart : AreOriginsApart before space) where
  abbrev middle : Ledger
  middle = without_alone space before

  committed : AreTurned (is_alone before space) (is_alone before space) before middle space
  committed = alone_turns before space

  pub none_alone : (r : ℕ) → is_alone (without_alone space before) space r ≡ true → has_own (without_alone space before) space r ≡ false
  none_alone r alone = by_page (holding_at before space r) refl
    where
      by_page : (o : Option Holding) → holding_at before space r ≡ o → has_own middle space r ≡ false
      by_page None had = own_absent middle space r (committed.absent r had)
      by_page (Some x) had = by_alone (is_alone before space r) refl
        where
          by_alone : (b : Bool) → is_alone before space r ≡ b → has_own middle space r ≡ false
          by_alone true e =
              let f = committed.pages r x had in
              own_is middle space r f.is f.there ∙ ap (λ (l : List ℕ). nat_lt 0 (length l)) (bare (is_alone before space r) e f.is f.fate)
            where
              bare : (b : Bool) → b ≡ true → (w : Holding) → IsFate b b middle space r x w → w.own ≡ []
              bare true e w fate = ap (λ (v : Holding). v.own) fate
              bare false e w fate = cc
          by_alone false e = let no = sym alone ∙ alone_stays (is_alone before space) before middle space r x apart committed e had ∙ e in cc

  twice : AreTurned (has_own before space) (is_alone before space) before (ledger_after (Settle space) middle) space
  twice = record {
    spaces = λ q. last.spaces q ∙ committed.spaces q;
    others = λ q r d. last.others q r d ∙ committed.others q r d;
    absent = λ r none. last.absent r (committed.absent r none);
    pages = λ r x had. page r x had (is_alone before space r) refl;
  }
    where
      after : Ledger
      after = ledger_after (Settle space) middle

      last : AreTurned (has_own middle space) (is_alone middle space) middle after space
      last = after_settle middle space

      page : (r : ℕ) (x : Holding) → holding_at before space r ≡ Some x → (b : Bool) → is_alone before space r ≡ b → HasFate (has_own before space r) (is_alone before space r) after space r x
      page r x had true e =
          let f = committed.pages r x had in
          let g = last.pages r f.is f.there in
          let first : f.is ≡ without_own x.origin = bare (is_alone before space r) e f.is f.fate in
          let none : has_own middle space r ≡ false = own_is middle space r f.is f.there ∙ ap (λ (v : Holding). nat_lt 0 (length v.own)) first in
          let second : g.is ≡ f.is = stays (has_own middle space r) none g.is g.fate in record {
            is = g.is;
            there = g.there;
            fate = fate_same (has_own before space r) (has_own before space r) (is_alone before space r) true after space r x g.is refl e
                (by_own (has_own before space r) refl g.is (second ∙ first));
          }
        where
          bare : (b : Bool) → b ≡ true → (w : Holding) → IsFate b b middle space r x w → w ≡ without_own x.origin
          bare true e w fate = fate
          bare false e w fate = cc

          stays : (b : Bool) → b ≡ false → (w : Holding) → IsFate b (is_alone middle space r) after space r (committed.pages r x had).is w → w ≡ (committed.pages r x had).is
          stays false e w fate = fate
          stays true e w fate = cc

          by_own : (b : Bool) → has_own before space r ≡ b → (w : Holding) → w ≡ without_own x.origin → IsFate b true after space r x w
          by_own true e w is = is
          by_own false e w is = is ∙ sym (bare_is x x.origin (none_own x.own (sym (own_is before space r x had) ∙ e)) refl)
      page r x had false e =
          let f = committed.pages r x had in
          let g = last.pages r f.is f.there in
          let first : f.is ≡ x = kept (is_alone before space r) e f.is f.fate in
          let at : holding_at middle space r ≡ Some x = f.there ∙ ap Some first in
          let own : has_own middle space r ≡ has_own before space r = own_is middle space r x at ∙ sym (own_is before space r x had) in
          let alone : is_alone middle space r ≡ is_alone before space r = alone_stays (is_alone before space) before middle space r x apart committed e had in record {
            is = g.is;
            there = g.there;
            fate = fate_same (has_own before space r) (has_own middle space r) (is_alone before space r) (is_alone middle space r) after space r x g.is (sym own) (sym alone)
                (subst (λ (v : Holding). IsFate (has_own middle space r) (is_alone middle space r) after space r v g.is) first g.fate);
          }
        where
          kept : (b : Bool) → b ≡ false → (w : Holding) → IsFate b b middle space r x w → w ≡ x
          kept false e w fate = fate
          kept true e w fate = cc

  pub commits_first : AreAlike (ledger_after (Settle space) (without_alone space before)) (ledger_after (Settle space) before)
  commits_first =
      alike_altered (has_own before space) (is_alone before space) before (ledger_after (Settle space) middle)
      (ledger_after (Settle space) before) space twice (after_settle before space)
