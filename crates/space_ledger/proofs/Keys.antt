use Rattle.space_ledger.proofs.Common.{◌≡◌, ℕ, cond, nat_eq, Some, None, nat_cmp, sym, ap, ◌∙◌, FinMap, empty, get, get-empty, insert, remove}
use Rattle.space_ledger.proofs.Pages.{by_key, get_other, get_same, removed_other, removed_same}
use Rattle.space_ledger.proofs.Views.{are, arent}

-- What stands at a key of a map, by a test: with a value put, with one taken away, and of no value.

module _ {X : Type 0} where
  pub put_at : (m : FinMap nat_cmp X) (k : ℕ) (x : X) (q : ℕ) → get (insert m k x) q ≡ cond (nat_eq q k) (Some x) (get m q)
  put_at m k x q = by_key q k
      (λ same. get_same m k q x same ∙ sym (ap (λ b. cond b (Some x) (get m q)) (are q k same)))
      (λ other. get_other m k q x other ∙ sym (ap (λ b. cond b (Some x) (get m q)) (arent q k other)))

  pub gone_at : (m : FinMap nat_cmp X) (k q : ℕ) → get (remove m k) q ≡ cond (nat_eq q k) None (get m q)
  gone_at m k q = by_key q k
      (λ same. removed_same m k q same ∙ sym (ap (λ b. cond b None (get m q)) (are q k same)))
      (λ other. removed_other m k q other ∙ sym (ap (λ b. cond b None (get m q)) (arent q k other)))

  pub none_at : (q : ℕ) → get (empty {X = X} {R = nat_cmp}) q ≡ None
  none_at q = get-empty nat_cmp q
