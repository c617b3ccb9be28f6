use Rattle.std.proofs.Common.{◌≡◌, ℕ, ◌||◌, Bool, true, false, cond, List, [], ◌∷◌, sym, ap, ◌∙◌, refl, Option, Some, None, Result, Ok, Err, OnErr}
use Rattle.std.specs.Prelude.{nat_eq, not, ◌&&◌}
use Rattle.std.specs.List.{list_any}
use Rattle.std.specs.Ordering.{nat_cmp}
use Rattle.std.specs.Cmp.{nat_cmp_total, nat_eq_equiv, unsigned_tied}
use Rattle.std.specs.Option.{unwrap_or}
use Rattle.std.specs.FinMap.{get, insert as put}
use Rattle.number_maps.specs.Keys.{insert_kept}
use Rattle.breakpoints.specs.Breakpoints.{Addresses, Breaks, has_break}
use Rattle.std.specs.FinSet.{contains, contains-empty, empty, contains-insert, contains-remove, from_list, insert, nat_cmp-IsAntisymmetric, remove, same_set}

-- A set of numbers as the list of its members.

pub has_is : (ks : List ℕ) (q : ℕ) → contains (from_list {R = nat_cmp} ks) q ≡ list_any (nat_eq q) ks
has_is [] q = contains-empty nat_cmp q
has_is (k ∷ ks) q = contains-insert nat_cmp_total (from_list ks) k q ∙ (λ i. unsigned_tied q k i || has_is ks q i)

or_is : (b x : Bool) → cond b true x ≡ (b || x)
or_is true x = refl
or_is false x = refl

and_is : (b x : Bool) → cond b false x ≡ (not b && x)
and_is true x = refl
and_is false x = refl

module _ (old new : List ℕ) (a : ℕ) where
  tie : (q : ℕ) → nat_eq a q ≡ nat_eq q a
  tie q = nat_eq_equiv.symm a q

  -- the set with one more
  pub set_added : ((q : ℕ) → list_any (nat_eq q) new ≡ cond (nat_eq a q) true (list_any (nat_eq q) old)) → from_list {R = nat_cmp} new ≡ insert (from_list old) a
  set_added has = same_set nat_cmp_total nat_cmp-IsAntisymmetric _ _ (λ q.
      has_is new q ∙ has q ∙ or_is (nat_eq a q) (list_any (nat_eq q) old)
      ∙ (λ i. tie q i || sym (has_is old q) i)
      ∙ sym (contains-insert nat_cmp_total (from_list old) a q ∙ ap (λ b. b || contains {R = nat_cmp} (from_list old) q) (unsigned_tied q a)))

  -- and without one
  pub set_removed : ((q : ℕ) → list_any (nat_eq q) new ≡ cond (nat_eq a q) false (list_any (nat_eq q) old)) → from_list {R = nat_cmp} new ≡ remove (from_list old) a
  set_removed has = same_set nat_cmp_total nat_cmp-IsAntisymmetric _ _ (λ q.
      has_is new q ∙ has q ∙ and_is (nat_eq a q) (list_any (nat_eq q) old)
      ∙ (λ i. not (tie q i) && sym (has_is old q) i)
      ∙ sym (contains-remove nat_cmp_total (from_list old) a q ∙ ap (λ b. not b && contains {R = nat_cmp} (from_list old) q) (unsigned_tied q a)))

-- Where nothing was added to the addresses of a process, each process has those that it had.
pub put_back : {T E : Type 0} (breaks : Breaks) (p : ℕ) (before after : Addresses) (result : Result T E) → Some before ≡ get breaks p → OnErr result (after ≡ before)
    → OnErr result (put breaks p after ≡ breaks)
put_back breaks p before after (Ok done) there same = tt
put_back breaks p before after (Err error) there same = ap (put breaks p) same ∙ insert_kept breaks p before (sym there)

-- A process that never had a breakpoint has none.
pub none_there : (breaks : Breaks) (p address : ℕ) → None ≡ get breaks p → has_break breaks p address ≡ true → ⊥
none_there breaks p address none there =
    let lacks : has_break breaks p address ≡ false = ap (λ (o : Option Addresses). contains (unwrap_or o empty) address) (sym none) ∙ contains-empty nat_cmp address in
    let both : false ≡ true = sym lacks ∙ there in cc
