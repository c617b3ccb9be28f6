use Rattle.std.specs.Prelude.{◌≡◌, ℕ, Bool, true, false, cond, Some, None, refl}
use Rattle.std.proofs.Common.{sym, ap, ◌∙◌}
use Rattle.std.specs.Ordering.{nat_cmp, is_eq}
use Rattle.std.specs.declared.cmp.Ordering.{Ordering}
use Rattle.std.specs.declared.cmp.Ordering.TheVariants.{Less, Equal, Greater}
use Rattle.std.specs.Cmp.{nat_cmp_total, nat_cmp_is}
use Rattle.std.specs.FinMap.{FinMap, get, insert, remove, get-insert, get-remove, same_map, nat_cmp-IsAntisymmetric}

-- Finite maps by number: what was put at a key and what was taken away, and when two maps are equal.

equal : (o : Ordering) → is_eq o ≡ true → o ≡ Equal
equal Less h = cc
equal Equal h = refl
equal Greater h = cc

-- keys that tie are equal, and equal keys tie
pub tied : (q k : ℕ) → is_eq (nat_cmp q k) ≡ true → q ≡ k
tied q k h = nat_cmp-IsAntisymmetric q k (equal (nat_cmp q k) h)

pub ties : (q k : ℕ) → q ≡ k → is_eq (nat_cmp q k) ≡ true
ties q k same = ap is_eq (sym (nat_cmp_is q k Equal same))

pub differs : (q k : ℕ) → (q ≡ k → ⊥) → is_eq (nat_cmp q k) ≡ false
differs q k other = by_test (is_eq (nat_cmp q k)) refl
  where
    by_test : (b : Bool) → is_eq (nat_cmp q k) ≡ b → b ≡ false
    by_test true h = absurd (other (tied q k h))
    by_test false h = refl

-- two ways to decide whether keys are equal
pub by_key : {P : Type 0} (q k : ℕ) → (q ≡ k → P) → ((q ≡ k → ⊥) → P) → P
by_key {P = P} q k same other = by_test (is_eq (nat_cmp q k)) refl
  where
    by_test : (b : Bool) → is_eq (nat_cmp q k) ≡ b → P
    by_test true h = same (tied q k h)
    by_test false h = other (λ e. let tie = ties q k e in let none = sym tie ∙ h in cc)

-- what was put at a key, and what other keys have
pub get_same : {X : Type 0} (m : FinMap nat_cmp X) (k q : ℕ) (x : X) → q ≡ k → get (insert m k x) q ≡ Some x
get_same {X = X} m k q x same = get-insert nat_cmp_total m k x q ∙ ap (λ (b : Bool). cond b (Some x) (get m q)) (ties q k same)

pub get_other : {X : Type 0} (m : FinMap nat_cmp X) (k q : ℕ) (x : X) → (q ≡ k → ⊥) → get (insert m k x) q ≡ get m q
get_other {X = X} m k q x other = get-insert nat_cmp_total m k x q ∙ ap (λ (b : Bool). cond b (Some x) (get m q)) (differs q k other)

-- maps that answer alike are equal
pub alike : {X : Type 0} (m n : FinMap nat_cmp X) → ((q : ℕ) → get m q ≡ get n q) → m ≡ n
alike m n h = same_map nat_cmp_total nat_cmp-IsAntisymmetric m n h

-- a key's value put again, and a value put over another
pub insert_kept : {X : Type 0} (m : FinMap nat_cmp X) (k : ℕ) (x : X) → get m k ≡ Some x → insert m k x ≡ m
insert_kept m k x there =
    alike _ _ (λ q. by_key q k (λ same. get_same m k q x same ∙ sym there ∙ ap (get m) (sym same)) (λ other. get_other m k q x other))

pub insert_over : {X : Type 0} (m : FinMap nat_cmp X) (k : ℕ) (x y : X) → insert (insert m k x) k y ≡ insert m k y
insert_over m k x y =
    alike _ _ (λ q. by_key q k
    (λ same. get_same (insert m k x) k q y same ∙ sym (get_same m k q y same))
    (λ other. get_other (insert m k x) k q y other ∙ get_other m k q x other ∙ sym (get_other m k q y other)))

-- what was taken away at a key, and what other keys have
pub removed_same : {X : Type 0} (m : FinMap nat_cmp X) (k q : ℕ) → q ≡ k → get (remove m k) q ≡ None
removed_same m k q same = get-remove nat_cmp_total m k q ∙ ap (λ (b : Bool). cond b None (get m q)) (ties q k same)

pub removed_other : {X : Type 0} (m : FinMap nat_cmp X) (k q : ℕ) → (q ≡ k → ⊥) → get (remove m k) q ≡ get m q
removed_other m k q other = get-remove nat_cmp_total m k q ∙ ap (λ (b : Bool). cond b None (get m q)) (differs q k other)
