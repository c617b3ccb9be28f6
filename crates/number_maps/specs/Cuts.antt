use Rattle.std.specs.Prelude.{◌≡◌, ℕ, Bool, true, false, cond, ◌&&◌, T, List, [], ◌∷◌, ◌++◌, Some, None, is_some, refl}
use Rattle.std.proofs.Common.{sym, ap, subst, ◌∙◌}
use Rattle.std.specs.Ordering.{nat_cmp, is_eq, is_lt}
use Rattle.std.specs.declared.cmp.Ordering.{Ordering}
use Rattle.std.specs.declared.cmp.Ordering.TheVariants.{Less, Equal, Greater}
use Rattle.std.specs.Cmp.{nat_cmp_total}
use Rattle.std.specs.FinMap.{FinMap, empty, entries, entries_sorted, entries-insert, from_entries, get, get-entries, get-from_entries, insert, remove}
use Rattle.std.specs.FinMap.Entries.{find, put, below_all, is_sorted, by_order}
use Rattle.number_maps.specs.Keys.{alike, by_key, get_same, get_other, removed_same, removed_other}

-- The entries of a map, as those before a key, the key's, and those behind it: wherever a key is put, the other entries
-- stand in the same order round it.

pub record Cut {X : Type 0} (m : FinMap nat_cmp X) (k : ℕ) : Type 0 where
  pub front : List (ℕ × X)
  pub back : List (ℕ × X)
  pub gone : entries (remove m k) ≡ front ++ back
  pub put_in : (x : X) → entries (insert m k x) ≡ front ++ ((k, x) ∷ back)

record ListCut {X : Type 0} (k : ℕ) (es : List (ℕ × X)) : Type 0 where
  front : List (ℕ × X)
  back : List (ℕ × X)
  whole : es ≡ front ++ back
  put_in : (x : X) → put nat_cmp k x es ≡ front ++ ((k, x) ∷ back)

cut_list : {X : Type 0} (k : ℕ) (es : List (ℕ × X)) → find nat_cmp k es ≡ None → ListCut k es
cut_list k [] absent = record { front = []; back = []; whole = refl; put_in = λ x. refl }
cut_list {X = X} k (e ∷ es) absent = at (nat_cmp k e.0) refl (λ none. cut_list k es none)
  where
    at : (o : Ordering) → nat_cmp k e.0 ≡ o → (find nat_cmp k es ≡ None → ListCut k es) → ListCut k (e ∷ es)
    at Less is rest = record {
      front = [];
      back = e ∷ es;
      whole = refl;
      put_in = λ x. ap (λ o. by_order o ((k, x) ∷ (e ∷ es)) ((e.0, x) ∷ es) (e ∷ put nat_cmp k x es)) is;
    }
    at Equal is rest =
        let found = ap is_some (sym (ap (λ o. cond (is_eq o) (Some e.1) (find nat_cmp k es)) is) ∙ absent) in cc
    at Greater is rest =
        let cut = rest (sym (ap (λ o. cond (is_eq o) (Some e.1) (find nat_cmp k es)) is) ∙ absent) in record {
          front = e ∷ cut.front;
          back = cut.back;
          whole = ap (λ (l : List (ℕ × X)). e ∷ l) cut.whole;
          put_in = λ x. ap (λ o. by_order o ((k, x) ∷ (e ∷ es)) ((e.0, x) ∷ es) (e ∷ put nat_cmp k x es)) is ∙ ap (λ (l : List (ℕ × X)). e ∷ l) (cut.put_in x);
        }

-- a map with a key put in is the map without it, with the key put in
pub insert_removed : {X : Type 0} (m : FinMap nat_cmp X) (k : ℕ) (x : X) → insert (remove m k) k x ≡ insert m k x
insert_removed m k x = alike _ _ (λ q. by_key q k
    (λ same. get_same (remove m k) k q x same ∙ sym (get_same m k q x same))
    (λ other. get_other (remove m k) k q x other ∙ removed_other m k q other ∙ sym (get_other m k q x other)))

pub cut_at : {X : Type 0} (m : FinMap nat_cmp X) (k : ℕ) → Cut m k
cut_at {X = X} m k =
    let cut = cut_list k (entries (remove m k)) (sym (get-entries (remove m k) k) ∙ removed_same m k k refl) in record {
      front = cut.front;
      back = cut.back;
      gone = cut.whole;
      put_in = λ x. ap entries (sym (insert_removed m k x)) ∙ entries-insert nat_cmp_total (remove m k) k x ∙ cut.put_in x;
    }

-- What holds of no entries, and of one more at a new key, holds of every map.

first : (a b : Bool) → T (a && b) → T a
first true b h = tt
first false b h = h

second : (a b : Bool) → T (a && b) → T b
second true b h = h
second false b h = absurd h

none_below : {X : Type 0} (k : ℕ) (es : List (ℕ × X)) → T (below_all nat_cmp k es) → find nat_cmp k es ≡ None
none_below k [] below = refl
none_below {X = X} k (e ∷ es) below =
    at (nat_cmp k e.0) (first _ _ below) ∙ none_below k es (second _ _ below)
  where
    at : (o : Ordering) → T (is_lt o) → cond (is_eq o) (Some e.1) (find nat_cmp k es) ≡ find nat_cmp k es
    at Less h = refl
    at Equal h = absurd h
    at Greater h = absurd h

pub by_entries : {X : Type 0} (P : FinMap nat_cmp X → Type 0) → P empty
    → ((m : FinMap nat_cmp X) (k : ℕ) (x : X) → get m k ≡ None → P m → P (insert m k x)) → (m : FinMap nat_cmp X) → P m
by_entries {X = X} P none more m = subst P made (go (entries m) (entries_sorted m))
  where
    made : from_entries (entries m) ≡ m
    made = alike _ _ (λ q. get-from_entries nat_cmp_total (entries m) q ∙ sym (get-entries m q))

    go : (es : List (ℕ × X)) → T (is_sorted nat_cmp es) → P (from_entries es)
    go [] sorted = none
    go (e ∷ es) sorted =
        more (from_entries es) e.0 e.1 (get-from_entries nat_cmp_total es e.0 ∙ none_below e.0 es (first _ _ sorted)) (go es (second _ _ sorted))
