use Rattle.space_ledger.proofs.Common.{◌≡◌, ℕ, zero, suc, ◌+◌, ◌-◌, ◌^◌, ◌≤◌, ◌<◌, Bool, true, false, cond, nat_le, nat_lt, Some, None, is_some, IsSome, refl, nat_cmp, sym, ap, subst, ◌∙◌, arith, nat_tests, nat_cmp_total, empty, empty_of_len, get, get-retain_keys, insert, len, len-empty, len-insert, len-remove, nat_cmp-IsAntisymmetric, remove}
use Rattle.space_ledger.proofs.Pages.{alike, Pages, IsMapped, PageEntry}
use Rattle.space_ledger.proofs.Views.{SpaceTable, HasMapped, IsCounted, IsLeast, OverlaidSpace, pages_below, pages_from}
use Rattle.space_ledger.proofs.Keys.{gone_at, none_at, put_at}

-- the pages that a space is seen to have
pub table_is : {a b : OverlaidSpace} → a ≡ b → a.table ≡ b.table
table_is same = ap (λ (s : OverlaidSpace). s.table) same

-- A table in two parts: the pages below one, and those from it on.

pub below_at : (t : Pages) (end q : ℕ) → get (pages_below t end) q ≡ cond (nat_lt q end) (get t q) None
unfolding pages_below
below_at t end q = get-retain_keys t (λ page. nat_lt page end) q (λ x same. ap (λ (n : ℕ). nat_lt n end) (sym (nat_cmp-IsAntisymmetric q x same)))

pub from_at : (t : Pages) (end q : ℕ) → get (pages_from t end) q ≡ cond (nat_le end q) (get t q) None
unfolding pages_from
from_at t end q = get-retain_keys t (λ page. nat_le end page) q (λ x same. ap (λ (n : ℕ). nat_le end n) (sym (nat_cmp-IsAntisymmetric q x same)))

pub no_page : (q : ℕ) → get (empty {X = PageEntry} {R = nat_cmp}) q ≡ None
no_page q = none_at q

pub ruleset places = (below_at, from_at, put_at, gone_at, no_page)

-- a page of the space is in the table
pub in_table : (t : Pages) (end q : ℕ) → IsSome (get (pages_below t end) q) → IsSome (get t q)
in_table t end q there = grind (arith, nat_tests, places)

-- the two parts of a table with a page set
pub below_put : (t : Pages) (end page : ℕ) (x : PageEntry) → IsSome (get (pages_below t end) page) → pages_below (insert t page x) end ≡ insert (pages_below t end) page x
below_put t end page x there = alike _ _ (λ q. grind (arith, nat_tests, places))

pub from_put : (t : Pages) (end page : ℕ) (x : PageEntry) → IsSome (get (pages_below t end) page) → pages_from (insert t page x) end ≡ pages_from t end
from_put t end page x there = alike _ _ (λ q. grind (arith, nat_tests, places))

-- where none awaits, the pages are the table
pub all_inside : (t : Pages) (end : ℕ) → pages_from t end ≡ empty → pages_below t end ≡ t
all_inside t end settled = alike _ _ (λ q. let none = ap (λ (m : Pages). get m q) settled in grind (arith, nat_tests, places, none))

-- a table none of whose pages reaches the end
pub below_all : (t : Pages) (end : ℕ) → ((q : ℕ) → end ≤ q → get t q ≡ None) → pages_below t end ≡ t
below_all t end few = alike _ _ (λ q. let none = few q in grind (arith, nat_tests, places, none))

pub from_none : (t : Pages) (end : ℕ) → ((q : ℕ) → end ≤ q → get t q ≡ None) → pages_from t end ≡ empty
from_none t end few = alike _ _ (λ q. let none = few q in grind (arith, nat_tests, places, none))

-- all await
pub below_none : (t : Pages) → pages_below t 0 ≡ empty
below_none t = alike _ _ (λ q. grind (arith, nat_tests, places))

pub from_all : (t : Pages) → pages_from t 0 ≡ t
from_all t = alike _ _ (λ q. grind (arith, nat_tests, places))

-- there is no page
pub below_empty : (end : ℕ) → pages_below empty end ≡ empty
below_empty end = alike _ _ (λ q. grind (arith, nat_tests, places))

pub from_empty : (end : ℕ) → pages_from empty end ≡ empty
from_empty end = alike _ _ (λ q. grind (arith, nat_tests, places))

-- what a space is seen to have
abbrev pub split : Pages → ℕ → Bool → SpaceTable
split t end mark = record { pages = pages_below t end; awaiting = pages_from t end; speculating = mark }

pub same_space : {a b c d : Pages} {m n : Bool} → a ≡ b → c ≡ d → m ≡ n
    → ◌≡◌ {A = SpaceTable} (record { pages = a; awaiting = c; speculating = m }) (record { pages = b; awaiting = d; speculating = n })
same_space p q r i = record { pages = p i; awaiting = q i; speculating = r i }

-- a table of which no page awaits, mapped: its pages don't reach the end
pub mapped : (old new : Pages) (end from n count : ℕ) (entry : PageEntry) (mark : Bool) (s : SpaceTable) → split old end mark ≡ s → s.awaiting ≡ empty
    → IsMapped old from n entry new → len new ≡ len old + n → from + n ≤ 2 ^ 36 → IsCounted old end count → HasMapped s from n entry (split new (2 ^ 64 - 1) mark) × IsCounted new (2 ^ 64 - 1) (count + n)
mapped old new end from n count entry mark s is settled_s made more low kept =
    let settled = ap (λ (k : SpaceTable). k.awaiting) is ∙ settled_s in
    let small = kept.reach in
    let far : (q : ℕ) → 2 ^ 64 - 1 ≤ q → get new q ≡ None = λ q high.
    let none = ap (λ (m : Pages). get m q) settled in let here = made q in grind (arith, nat_tests, places, none, here, small, low) in
    let was = all_inside old end settled in
    let now = below_all new (2 ^ 64 - 1) far in
    let was_count = ap len was in
    let now_count = ap len now in
    let counted = kept.pages in (
      subst (λ k. HasMapped k from n entry (split new (2 ^ 64 - 1) mark)) is (record {
        pages = λ q. let here = made q in grind (arith, nat_tests, was, now, here);
        count = omega (arith, more, was_count, now_count);
        awaiting = from_none new (2 ^ 64 - 1) far ∙ sym settled;
        mark = refl;
      }),
      record { pages = omega (arith, counted, more, was_count, now_count); reach = omega arith },
    )

-- how many pages there are with one set, and without one
pub count_put : (m : Pages) (page : ℕ) (x : PageEntry) → len (insert m page x) ≡ cond (is_some (get m page)) (len m) (len m + 1)
count_put m page x = len-insert nat_cmp_total m page x

-- the least page that awaits becomes one of the space's
module _ (t : Pages) (end page : ℕ) (least : IsLeast (pages_from t end) page) where
  pub is_waiting : end ≤ page
  is_waiting = let there = least.there in grind (arith, nat_tests, places, there)

  module _ (entry : PageEntry) (is : get t page ≡ Some entry) where
    pub below_shared : pages_below t (page + 1) ≡ insert (pages_below t end) page entry
    below_shared = alike _ _ (λ q. let low = least.least q in let there = least.there in grind (arith, nat_tests, places, low, there, is))

    pub count_shared : len (pages_below t (page + 1)) ≡ len (pages_below t end) + 1
    count_shared = let size = ap len below_shared in let wait = is_waiting in grind (arith, nat_tests, places, count_put, size, wait)

    pub from_shared : pages_from t (page + 1) ≡ remove (pages_from t end) page
    from_shared = alike _ _ (λ q. let low = least.least q in let there = least.there in grind (arith, nat_tests, places, low, there, is))

pub count_gone : (m : Pages) (page : ℕ) → IsSome (get m page) → len (remove m page) ≡ len m - 1
count_gone m page there = len-remove nat_cmp_total m page ∙ ap (λ (b : Bool). cond b (len m - 1) (len m)) there

pub some_count : (m : Pages) (page : ℕ) → IsSome (get m page) → 0 < len m
some_count m page there = by_count (len m) refl
  where
    by_count : (n : ℕ) → len m ≡ n → 0 < len m
    by_count zero none = let no = sym there ∙ ap (λ (m : Pages). is_some (get m page)) (empty_of_len m none) ∙ ap is_some (no_page page) in cc
    by_count (suc n) some = omega (arith, some)

pub ruleset parts = (places, in_table, below_put, from_put, all_inside, below_none, from_all, below_empty, from_empty, len-empty, is_waiting, below_shared, count_shared, from_shared, count_put)
