use Rattle.std.specs.Prelude.{◌≡◌, ℕ, ◌+◌, ◌<◌, ◌≤◌, Bool, true, false, cond, not, ◌||◌, nat_eq, nat_lt, Option, Some, None, is_some, refl}
use Rattle.std.proofs.Common.{sym, ap, ◌∙◌, arith}
use Rattle.std.proofs.lemmas.Bool.Decides.{nat_tests}
use Rattle.std.specs.List.{sum_by}
use Rattle.std.specs.Option.{option_map}
use Rattle.std.specs.Ordering.{nat_cmp}
use Rattle.std.specs.FinMap.{FinMap, empty, get, get-empty, get-retain_keys, insert, nat_cmp-IsAntisymmetric, remove, retain_keys, values}
use Rattle.number_maps.specs.Cuts.{by_entries}
use Rattle.number_maps.specs.Keys.{alike, by_key, get_other, get_same, removed_other, removed_same}
use Rattle.number_maps.specs.Values.{sum_new}
use Rattle.number_maps.specs.Views.{get_viewed, viewed}

-- A map by number in two parts: below a number, and from it on.

unfoldable pub low_part : {X : Type 0} → FinMap nat_cmp X → ℕ → FinMap nat_cmp X
low_part m end = retain_keys m (λ q. nat_lt q end)

unfoldable pub high_part : {X : Type 0} → FinMap nat_cmp X → ℕ → FinMap nat_cmp X
high_part m end = retain_keys m (λ q. not (nat_lt q end))

pub low_part_at : {X : Type 0} (m : FinMap nat_cmp X) (end q : ℕ) → get (low_part m end) q ≡ cond (nat_lt q end) (get m q) None
unfolding low_part
low_part_at m end q = get-retain_keys m (λ n. nat_lt n end) q (λ x same. ap (λ (n : ℕ). nat_lt n end) (sym (nat_cmp-IsAntisymmetric q x same)))

pub high_part_at : {X : Type 0} (m : FinMap nat_cmp X) (end q : ℕ) → get (high_part m end) q ≡ cond (nat_lt q end) None (get m q)
unfolding high_part
high_part_at m end q =
    get-retain_keys m (λ n. not (nat_lt n end)) q (λ x same. ap (λ (n : ℕ). not (nat_lt n end)) (sym (nat_cmp-IsAntisymmetric q x same))) ∙ turn (nat_lt q end) (get m q)
  where
    turn : {Y : Type 0} (b : Bool) (o : Option Y) → cond (not b) o None ≡ cond b None o
    turn true o = refl
    turn false o = refl

none_low : (q : ℕ) → nat_lt q 0 ≡ false
none_low q = grind (arith, nat_tests)

either : {Y : Type 0} (b : Bool) (y : Y) → cond b y y ≡ y
either true y = refl
either false y = refl

-- At first all is in the high part, at last all in the low one.
pub low_part_none : {X : Type 0} (m : FinMap nat_cmp X) → low_part m 0 ≡ empty
low_part_none {X = X} m = alike _ _ (λ q. low_part_at m 0 q ∙ ap (λ b. cond b (get m q) None) (none_low q) ∙ sym (get-empty {X = X} nat_cmp q))

pub high_part_all : {X : Type 0} (m : FinMap nat_cmp X) → high_part m 0 ≡ m
high_part_all m = alike _ _ (λ q. high_part_at m 0 q ∙ ap (λ b. cond b None (get m q)) (none_low q))

module _ {X : Type 0} (m : FinMap nat_cmp X) (end : ℕ) (passed : (q : ℕ) → is_some (get m q) ≡ true → nat_lt q end ≡ true) where
  by_value : (q : ℕ) (o : Option X) → get m q ≡ o → (get (low_part m end) q ≡ o) × (get (high_part m end) q ≡ None)
  by_value q None is = (low_part_at m end q ∙ ap (λ o. cond (nat_lt q end) o None) is ∙ either (nat_lt q end) None, high_part_at m end q ∙ ap (cond (nat_lt q end) None) is ∙ either (nat_lt q end) None)
  by_value q (Some x) is =
      let low = passed q (ap is_some is) in
      (low_part_at m end q ∙ ap (λ b. cond b (get m q) None) low ∙ is, high_part_at m end q ∙ ap (λ b. cond b None (get m q)) low)

  pub low_part_all : low_part m end ≡ m
  low_part_all = alike _ _ (λ q. (by_value q (get m q) refl).0)

  pub high_part_none : high_part m end ≡ empty
  high_part_none = alike _ _ (λ q. (by_value q (get m q) refl).1 ∙ sym (get-empty {X = X} nat_cmp q))

-- The next key goes from one part to the other.
module _ {X : Type 0} (m : FinMap nat_cmp X) (from page : ℕ) (x : X) (there : get m page ≡ Some x)
    (next : (q : ℕ) → is_some (get m q) ≡ true → nat_lt q (page + 1) ≡ (nat_lt q from || nat_eq q page)) where
  low : nat_lt page (page + 1) ≡ true
  low = grind (arith, nat_tests)

  apart : (q : ℕ) → (q ≡ page → ⊥) → is_some (get m q) ≡ true → nat_lt q (page + 1) ≡ nat_lt q from
  apart q other some = next q some ∙ ap (λ b. nat_lt q from || b) (arent other) ∙ or_false (nat_lt q from)
    where
      arent : (q ≡ page → ⊥) → nat_eq q page ≡ false
      arent d = by_test (nat_eq q page) refl
        where
          is_same : nat_eq q page ≡ true → q ≡ page
          is_same e = grind (arith, nat_tests)

          by_test : (b : Bool) → nat_eq q page ≡ b → nat_eq q page ≡ false
          by_test false e = e
          by_test true e = absurd (d (is_same e))

      or_false : (b : Bool) → (b || false) ≡ b
      or_false true = refl
      or_false false = refl

  same_part : {Y : Type 0} (choose : Bool → Option X → Y) → ((b c : Bool) → choose b None ≡ choose c None) → (q : ℕ) → (q ≡ page → ⊥)
      → choose (nat_lt q (page + 1)) (get m q) ≡ choose (nat_lt q from) (get m q)
  same_part choose none q other = at (get m q) refl
    where
      at : (o : Option X) → get m q ≡ o → choose (nat_lt q (page + 1)) (get m q) ≡ choose (nat_lt q from) (get m q)
      at None is = ap (choose (nat_lt q (page + 1))) is ∙ none (nat_lt q (page + 1)) (nat_lt q from) ∙ sym (ap (choose (nat_lt q from)) is)
      at (Some y) is = ap (λ b. choose b (get m q)) (apart q other (ap is_some is))

  pub low_part_more : low_part m (page + 1) ≡ insert (low_part m from) page x
  low_part_more = alike _ _ (λ q. by_key q page
      (λ same. low_part_at m (page + 1) q ∙ ap (λ n. cond (nat_lt n (page + 1)) (get m n) None) same ∙ ap (λ b. cond b (get m page) None) low ∙ there
      ∙ sym (get_same (low_part m from) page q x same))
      (λ other. low_part_at m (page + 1) q ∙ same_part (λ b o. cond b o None) (λ b c. either b None ∙ sym (either c None)) q other ∙ sym (low_part_at m from q) ∙ sym (get_other (low_part m from) page q x other)))

  pub high_part_less : high_part m (page + 1) ≡ remove (high_part m from) page
  high_part_less = alike _ _ (λ q. by_key q page
      (λ same. high_part_at m (page + 1) q ∙ ap (λ n. cond (nat_lt n (page + 1)) None (get m n)) same ∙ ap (λ b. cond b None (get m page)) low ∙ sym (removed_same (high_part m from) page q same))
      (λ other. high_part_at m (page + 1) q ∙ same_part (λ b o. cond b None o) (λ b c. either b None ∙ sym (either c None)) q other ∙ sym (high_part_at m from q) ∙ sym (removed_other (high_part m from) page q other)))

-- What isn't there goes from one part to the other unseen.
module _ {X : Type 0} (m : FinMap nat_cmp X) (from to : ℕ) (le : from ≤ to) (none : (q : ℕ) → from ≤ q → q < to → get m q ≡ None) where
  unseen : {Y : Type 0} (choose : Bool → Option X → Y) → ((b c : Bool) → choose b None ≡ choose c None) → (q : ℕ)
      → choose (nat_lt q from) (get m q) ≡ choose (nat_lt q to) (get m q)
  unseen choose same q = by_test (nat_lt q from) (nat_lt q to) refl refl
    where
      between : nat_lt q from ≡ false → nat_lt q to ≡ true → get m q ≡ None
      between e f = none q above below
        where
          above : from ≤ q
          above = grind (arith, nat_tests)

          below : q < to
          below = grind (arith, nat_tests)

      both : (b c : Bool) → nat_lt q from ≡ b → nat_lt q to ≡ c → choose b (get m q) ≡ choose c (get m q) → choose (nat_lt q from) (get m q) ≡ choose (nat_lt q to) (get m q)
      both b c e f h = ap (λ k. choose k (get m q)) e ∙ h ∙ sym (ap (λ k. choose k (get m q)) f)

      by_test : (b c : Bool) → nat_lt q from ≡ b → nat_lt q to ≡ c → choose (nat_lt q from) (get m q) ≡ choose (nat_lt q to) (get m q)
      by_test true true e f = both true true e f refl
      by_test false false e f = both false false e f refl
      by_test false true e f = both false true e f (ap (choose false) (between e f) ∙ same false true ∙ sym (ap (choose true) (between e f)))
      by_test true false e f = let le_too = le in let yes : nat_lt q to ≡ true = grind (arith, nat_tests) in let no = sym yes ∙ f in cc

  pub low_part_past : low_part m from ≡ low_part m to
  low_part_past = alike _ _ (λ q. low_part_at m from q ∙ unseen (λ b o. cond b o None) (λ b c. either b None ∙ sym (either c None)) q ∙ sym (low_part_at m to q))

  pub high_part_past : high_part m from ≡ high_part m to
  high_part_past = alike _ _ (λ q. high_part_at m from q ∙ unseen (λ b o. cond b None o) (λ b c. either b None ∙ sym (either c None)) q ∙ sym (high_part_at m to q))

pub low_part_absent : {X : Type 0} (m : FinMap nat_cmp X) (from page : ℕ) → from ≤ page → get (low_part m from) page ≡ None
low_part_absent m from page le = low_part_at m from page ∙ ap (λ b. cond b (get m page) None) above
  where
    above : nat_lt page from ≡ false
    above = grind (arith, nat_tests)

pub high_part_there : {X : Type 0} (m : FinMap nat_cmp X) (from page : ℕ) → from ≤ page → get (high_part m from) page ≡ get m page
high_part_there m from page le = high_part_at m from page ∙ ap (λ b. cond b None (get m page)) above
  where
    above : nat_lt page from ≡ false
    above = grind (arith, nat_tests)

-- what the high part has is in the map, from the number on
pub high_part_some : {X : Type 0} (m : FinMap nat_cmp X) (from q : ℕ) → is_some (get (high_part m from) q) ≡ true → (from ≤ q) × (is_some (get m q) ≡ true)
high_part_some m from q some = by_test (nat_lt q from) refl
  where
    above : nat_lt q from ≡ false → from ≤ q
    above e = grind (arith, nat_tests)

    by_test : (b : Bool) → nat_lt q from ≡ b → (from ≤ q) × (is_some (get m q) ≡ true)
    by_test true e = let no = sym some ∙ ap is_some (high_part_at m from q ∙ ap (λ b. cond b None (get m q)) e) in cc
    by_test false e = (above e, sym (ap is_some (high_part_at m from q ∙ ap (λ b. cond b None (get m q)) e)) ∙ some)

-- a map seen in another way
pub viewed_low_part : {X Y : Type 0} (view : ℕ → X → Y) (m : FinMap nat_cmp X) (end : ℕ) → viewed view (low_part m end) ≡ low_part (viewed view m) end
viewed_low_part {X = X} view m end = alike _ _ (λ q.
    get_viewed view (low_part m end) q ∙ ap (option_map (view q)) (low_part_at m end q) ∙ pass q (nat_lt q end) ∙ ap (λ o. cond (nat_lt q end) o None) (sym (get_viewed view m q))
    ∙ sym (low_part_at (viewed view m) end q))
  where
    pass : (q : ℕ) (b : Bool) → option_map (view q) (cond b (get m q) None) ≡ cond b (option_map (view q) (get m q)) None
    pass q true = refl
    pass q false = refl

-- a sum over a part is at most that over all
pub sum_low_part : {X : Type 0} (f : X → ℕ) (end : ℕ) (m : FinMap nat_cmp X) → sum_by f (values (low_part m end)) ≤ sum_by f (values m)
sum_low_part {X = X} f end = by_entries (λ m. sum_by f (values (low_part m end)) ≤ sum_by f (values m)) none more
  where
    empty_below : low_part (empty {X = X} {R = nat_cmp}) end ≡ empty
    empty_below = alike _ _ (λ q. low_part_at empty end q ∙ pass (nat_lt q end) (get empty q) (get-empty {X = X} nat_cmp q) ∙ sym (get-empty {X = X} nat_cmp q))
      where
        pass : (b : Bool) (o : Option X) → o ≡ None → cond b o None ≡ None
        pass true o e = e
        pass false o e = refl

    none : sum_by f (values (low_part (empty {X = X} {R = nat_cmp}) end)) ≤ sum_by f (values (empty {X = X} {R = nat_cmp}))
    none = let same = ap (λ (n : FinMap nat_cmp X). sum_by f (values n)) empty_below in omega (arith, same)

    put_in : (m : FinMap nat_cmp X) (k : ℕ) (x : X) → nat_lt k end ≡ true → low_part (insert m k x) end ≡ insert (low_part m end) k x
    put_in m k x e = alike _ _ (λ q. by_key q k
        (λ same. low_part_at (insert m k x) end q ∙ ap (λ n. cond (nat_lt n end) (get (insert m k x) n) None) same ∙ ap (λ b. cond b (get (insert m k x) k) None) e
        ∙ get_same m k k x refl ∙ sym (get_same (low_part m end) k q x same))
        (λ other. low_part_at (insert m k x) end q ∙ ap (λ o. cond (nat_lt q end) o None) (get_other m k q x other) ∙ sym (low_part_at m end q) ∙ sym (get_other (low_part m end) k q x other)))

    left_out : (m : FinMap nat_cmp X) (k : ℕ) (x : X) → nat_lt k end ≡ false → low_part (insert m k x) end ≡ low_part m end
    left_out m k x e = alike _ _ (λ q. by_key q k
        (λ same. low_part_at (insert m k x) end q ∙ ap (λ b. cond b (get (insert m k x) q) None) (ap (λ n. nat_lt n end) same ∙ e)
        ∙ sym (low_part_at m end q ∙ ap (λ b. cond b (get m q) None) (ap (λ n. nat_lt n end) same ∙ e)))
        (λ other. low_part_at (insert m k x) end q ∙ ap (λ o. cond (nat_lt q end) o None) (get_other m k q x other) ∙ sym (low_part_at m end q)))

    more : (m : FinMap nat_cmp X) (k : ℕ) (x : X) → get m k ≡ None → sum_by f (values (low_part m end)) ≤ sum_by f (values m)
        → sum_by f (values (low_part (insert m k x) end)) ≤ sum_by f (values (insert m k x))
    more m k x absent le = by_test (nat_lt k end) refl
      where
        whole : sum_by f (values (insert m k x)) ≡ sum_by f (values m) + f x
        whole = sum_new f m k x absent

        none_there : (b : Bool) → cond b (get m k) None ≡ None
        none_there true = absent
        none_there false = refl

        by_test : (b : Bool) → nat_lt k end ≡ b → sum_by f (values (low_part (insert m k x) end)) ≤ sum_by f (values (insert m k x))
        by_test true e =
            let put = ap (λ (n : FinMap nat_cmp X). sum_by f (values n)) (put_in m k x e) in
            let part = sum_new f (low_part m end) k x (low_part_at m end k ∙ none_there (nat_lt k end)) in
            let all = whole in
            omega (arith, put, part, all, le)
        by_test false e = let out = ap (λ (n : FinMap nat_cmp X). sum_by f (values n)) (left_out m k x e) in let all = whole in omega (arith, out, all, le)
