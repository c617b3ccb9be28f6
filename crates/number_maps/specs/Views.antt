use Rattle.std.specs.Prelude.{◌≡◌, ℕ, Bool, true, false, cond, ◌&&◌, T, List, [], ◌∷◌, map, length, Option, Some, None, is_some, refl}
use Rattle.std.proofs.Common.{sym, ap, subst, ◌∙◌}
use Rattle.std.proofs.lemmas.List.{length-map}
use Rattle.std.specs.Option.{option_map}
use Rattle.std.specs.Ordering.{nat_cmp, is_eq, is_lt}
use Rattle.std.specs.Cmp.{nat_cmp_total}
use Rattle.std.specs.FinMap.{FinMap, empty, get-empty, insert, remove, entries, entries_sorted, entries-from_sorted, from_entries, from_sorted, get, get-entries, get-from_entries, get-from_sorted, keys, len, len-entries}
use Rattle.std.specs.FinMap.Entries.{find, below_all, is_sorted}
use Rattle.number_maps.specs.Keys.{alike, by_key, get_same, get_other, removed_same, removed_other, tied}

-- A map whose values are seen in another way, each by its key.

unfoldable pub viewed : {X Y : Type 0} → (ℕ → X → Y) → FinMap nat_cmp X → FinMap nat_cmp Y
viewed view m = from_entries (map (λ e. (e.0, view e.0 e.1)) (entries m))

module _ {X Y : Type 0} (view : ℕ → X → Y) where
  find_viewed : (es : List (ℕ × X)) (q : ℕ) → find nat_cmp q (map (λ e. (e.0, view e.0 e.1)) es) ≡ option_map (view q) (find nat_cmp q es)
  find_viewed [] q = refl
  find_viewed (e ∷ es) q = ap (cond (is_eq (nat_cmp q e.0)) (Some (view e.0 e.1))) (find_viewed es q) ∙ within (is_eq (nat_cmp q e.0)) refl
    where
      within : (b : Bool) → is_eq (nat_cmp q e.0) ≡ b
          → cond b (Some (view e.0 e.1)) (option_map (view q) (find nat_cmp q es)) ≡ option_map (view q) (cond b (Some e.1) (find nat_cmp q es))
      within true h = ap (λ k. Some (view k e.1)) (sym (tied q e.0 h))
      within false h = refl

  -- what it has at a key
  pub get_viewed : (m : FinMap nat_cmp X) (q : ℕ) → get (viewed view m) q ≡ option_map (view q) (get m q)
  unfolding viewed
  get_viewed m q = get-from_entries nat_cmp_total _ q ∙ find_viewed (entries m) q ∙ ap (option_map (view q)) (sym (get-entries m q))

  below_viewed : (k : ℕ) (es : List (ℕ × X)) → below_all nat_cmp k (map (λ e. (e.0, view e.0 e.1)) es) ≡ below_all nat_cmp k es
  below_viewed k [] = refl
  below_viewed k (e ∷ es) = ap (λ b. is_lt (nat_cmp k e.0) && b) (below_viewed k es)

  sorted_viewed : (es : List (ℕ × X)) → is_sorted nat_cmp (map (λ e. (e.0, view e.0 e.1)) es) ≡ is_sorted nat_cmp es
  sorted_viewed [] = refl
  sorted_viewed (e ∷ es) =
      ap (λ b. b && is_sorted nat_cmp (map (λ e. (e.0, view e.0 e.1)) es)) (below_viewed e.0 es) ∙ ap (λ b. below_all nat_cmp e.0 es && b) (sorted_viewed es)

  -- its entries, and how many there are
  pub entries_viewed : (m : FinMap nat_cmp X) → entries (viewed view m) ≡ map (λ e. (e.0, view e.0 e.1)) (entries m)
  unfolding viewed
  entries_viewed m =
      let es : List (ℕ × Y) = map (λ e. (e.0, view e.0 e.1)) (entries m) in
      let sorted : T (is_sorted nat_cmp es) = subst T (sym (sorted_viewed (entries m))) (entries_sorted m) in
      ap entries (alike (from_entries es) (from_sorted es) (λ q. get-from_entries nat_cmp_total es q ∙ sym (get-from_sorted nat_cmp es q sorted)))
      ∙ entries-from_sorted nat_cmp es sorted

  pub len_viewed : (m : FinMap nat_cmp X) → len (viewed view m) ≡ len m
  len_viewed m = len-entries (viewed view m) ∙ ap length (entries_viewed m) ∙ length-map (entries m) (λ e. (e.0, view e.0 e.1)) ∙ sym (len-entries m)

  keys_in : (es : List (ℕ × X)) → map (λ (e : ℕ × Y). e.0) (map (λ (e : ℕ × X). (e.0, view e.0 e.1)) es) ≡ map (λ (e : ℕ × X). e.0) es
  keys_in [] = refl
  keys_in (e ∷ es) = ap (λ (l : List ℕ). e.0 ∷ l) (keys_in es)

  pub keys_viewed : (m : FinMap nat_cmp X) → keys (viewed view m) ≡ keys m
  keys_viewed m = ap (map (λ (e : ℕ × Y). e.0)) (entries_viewed m) ∙ keys_in (entries m)

nothing_of : {X : Type 0} → ℕ → X → Unit {0}
nothing_of k x = tt

-- maps with values at the same keys have the same keys, in order
pub same_keys : {X Y : Type 0} (m : FinMap nat_cmp X) (n : FinMap nat_cmp Y) → ((q : ℕ) → is_some (get m q) ≡ is_some (get n q)) → keys m ≡ keys n
same_keys {X = X} {Y = Y} m n same =
    sym (keys_viewed nothing_of m)
    ∙ ap keys (alike (viewed nothing_of m) (viewed nothing_of n)
    (λ q. get_viewed nothing_of m q ∙ marks q (get m q) (get n q) (same q) ∙ sym (get_viewed nothing_of n q)))
    ∙ keys_viewed nothing_of n
  where
    marks : (q : ℕ) (a : Option X) (b : Option Y) → is_some a ≡ is_some b → option_map (nothing_of q) a ≡ option_map (nothing_of q) b
    marks q None None h = refl
    marks q None (Some y) h = cc
    marks q (Some x) None h = cc
    marks q (Some x) (Some y) h = refl

-- what was put in, and taken out, as it is seen
pub viewed_put : {X Y : Type 0} (view : ℕ → X → Y) (m : FinMap nat_cmp X) (k : ℕ) (x : X) → viewed view (insert m k x) ≡ insert (viewed view m) k (view k x)
viewed_put view m k x = alike _ _ (λ q. get_viewed view (insert m k x) q ∙ by_key q k
    (λ same. ap (option_map (view q)) (get_same m k q x same) ∙ ap (λ n. Some (view n x)) same ∙ sym (get_same (viewed view m) k q (view k x) same))
    (λ other. ap (option_map (view q)) (get_other m k q x other) ∙ sym (get_viewed view m q) ∙ sym (get_other (viewed view m) k q (view k x) other)))

pub viewed_gone : {X Y : Type 0} (view : ℕ → X → Y) (m : FinMap nat_cmp X) (k : ℕ) → viewed view (remove m k) ≡ remove (viewed view m) k
viewed_gone view m k = alike _ _ (λ q. get_viewed view (remove m k) q ∙ by_key q k
    (λ same. ap (option_map (view q)) (removed_same m k q same) ∙ sym (removed_same (viewed view m) k q same))
    (λ other. ap (option_map (view q)) (removed_other m k q other) ∙ sym (get_viewed view m q) ∙ sym (removed_other (viewed view m) k q other)))

pub viewed_empty : {X Y : Type 0} (view : ℕ → X → Y) → viewed view empty ≡ empty
viewed_empty {X = X} {Y = Y} view = alike _ _ (λ q. get_viewed view empty q ∙ ap (option_map (view q)) (get-empty {X = X} nat_cmp q) ∙ sym (get-empty {X = Y} nat_cmp q))

-- two ways to see the values that agree at each key
pub viewed_same : {X Y : Type 0} (f g : ℕ → X → Y) (m : FinMap nat_cmp X) → ((q : ℕ) (x : X) → get m q ≡ Some x → f q x ≡ g q x) → viewed f m ≡ viewed g m
viewed_same {X = X} f g m same = alike _ _ (λ q. get_viewed f m q ∙ at q (get m q) refl ∙ sym (get_viewed g m q))
  where
    at : (q : ℕ) (o : Option X) → get m q ≡ o → option_map (f q) (get m q) ≡ option_map (g q) (get m q)
    at q None is = ap (option_map (f q)) is ∙ sym (ap (option_map (g q)) is)
    at q (Some x) is = ap (option_map (f q)) is ∙ ap Some (same q x is) ∙ sym (ap (option_map (g q)) is)
