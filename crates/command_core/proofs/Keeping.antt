use Rattle.std.proofs.Common.{◌≡◌, ℕ, Bool, true, false, cond, List, [], ◌∷◌, ◌++◌, sym, ap, subst, ◌∙◌, refl, Some, None}
use Rattle.std.specs.Prelude.{◌==◌, ◌||◌, nat_eq}
use Rattle.std.specs.List.{AllByRecursion, IsDistinct, list_any}
use Rattle.std.proofs.lemmas.Bool.{eq-eqb, ne_eqb}
use Rattle.std.specs.Option.{option_map}
use Rattle.space_maps.specs.Spaces.{space_in}
use lib.Pointwise.{pointwise}
use Rattle.overlay_pages.specs.State.{State}
use Rattle.machine_core.specs.Laws.{whole_by}
use Rattle.command_core.specs.declared.checkpoints.Kept.{Kept}
use Rattle.command_core.specs.State.{Checkpoint}
use Rattle.command_core.specs.Kept.{checkpoint_in, checkpoints_in, kept_but, kept_named, spaces_kept}
use Rattle.command_core.specs.Checkpoints.{checkpoint_named, checkpoints_but}

-- Checkpoints as they are kept and as they are shown, and the numbers of their spaces.

-- Numbers that rise.

pub each : (P Q : ℕ → Type 0) (qs : List ℕ) → ((q : ℕ) → P q → Q q) → AllByRecursion P qs → AllByRecursion Q qs
each P Q [] h all = tt
each P Q (q ∷ qs) h all = (h q all.0, each P Q qs h all.1)

pub each_more : (P : ℕ → Type 0) (qs : List ℕ) (q : ℕ) → AllByRecursion P qs → P q → AllByRecursion P (qs ++ q ∷ [])
each_more P [] q all h = (h, tt)
each_more P (x ∷ qs) q all h = (all.0, each_more P qs q all.1 h)

-- numbers that each stand once
pub none_twice : IsDistinct nat_eq []
unfolding IsDistinct
none_twice = tt

pub once_more : (qs : List ℕ) (n : ℕ) → AllByRecursion (λ q. q ≡ n → ⊥) qs → IsDistinct nat_eq qs → IsDistinct nat_eq (qs ++ n ∷ [])
unfolding IsDistinct
once_more [] n others once = (tt, tt)
once_more (q ∷ qs) n others once = (each_more (λ r. nat_eq q r ≡ false) qs n once.0 (ne_eqb q n others.0), once_more qs n others.1 once.1)

-- whether one stands among some, and one more
pub any_left : (q : ℕ) (qs : List ℕ) (n : ℕ) → list_any (λ x. x == q) qs ≡ true → list_any (λ x. x == q) (qs ++ n ∷ []) ≡ true
any_left q [] n has = cc
any_left q (x ∷ qs) n has = by_test (x == q) (any_left q qs n) has
  where
    by_test : (b : Bool) → (list_any (λ x. x == q) qs ≡ true → list_any (λ x. x == q) (qs ++ n ∷ []) ≡ true) → (b || list_any (λ x. x == q) qs) ≡ true
        → (b || list_any (λ x. x == q) (qs ++ n ∷ [])) ≡ true
    by_test true more h = refl
    by_test false more h = more h

pub any_last : (n : ℕ) (qs : List ℕ) → list_any (λ x. x == n) (qs ++ n ∷ []) ≡ true
any_last n [] = ap (λ b. b || false) (eq-eqb n n refl)
any_last n (x ∷ qs) = by_test (x == n) (any_last n qs)
  where
    by_test : (b : Bool) → list_any (λ x. x == n) (qs ++ n ∷ []) ≡ true → (b || list_any (λ x. x == n) (qs ++ n ∷ [])) ≡ true
    by_test true h = refl
    by_test false h = h

-- those that differ from the first aren't that one
all_beside : (P : ℕ → Type 0) (qs : List ℕ) (y n : ℕ) → y ≡ n → AllByRecursion (λ q. nat_eq y q ≡ false) qs → AllByRecursion P qs → AllByRecursion (λ q. P q × (q ≡ n → ⊥)) qs
all_beside P [] y n same apart all = tt
all_beside P (q ∷ qs) y n same apart all =
    ((all.0, λ e. let both : false ≡ true = sym apart.0 ∙ eq-eqb y q (same ∙ sym e) in cc), all_beside P qs y n same apart.1 all.1)

-- One that is found by its name.

module _ (name : List ℕ) where
  -- what holds of all spaces holds of its space
  pub found_has : (P : ℕ → Type 0) (xs : List Kept) (x : Kept) → AllByRecursion P (spaces_kept xs) → kept_named name xs ≡ Some x → P x.space
  found_has P [] x all is = cc
  found_has P (y ∷ xs) x all is = by_name (pointwise nat_eq name y.name) (found_has P xs x all.1) is
    where
      by_name : (b : Bool) → (kept_named name xs ≡ Some x → P x.space) → cond b (Some y) (kept_named name xs) ≡ Some x → P x.space
      by_name true rest e = let same : y ≡ x = cc in subst (λ (z : Kept). P z.space) same all.0
      by_name false rest e = rest e

  -- where none is found, none is taken away
  pub none_but : (xs : List Kept) → kept_named name xs ≡ None → kept_but name xs ≡ xs
  none_but [] none = refl
  none_but (y ∷ xs) none = by_name (pointwise nat_eq name y.name) (none_but xs) none
    where
      by_name : (b : Bool) → (kept_named name xs ≡ None → kept_but name xs ≡ xs) → cond b (Some y) (kept_named name xs) ≡ None
          → cond b xs (y ∷ kept_but name xs) ≡ y ∷ xs
      by_name true rest e = cc
      by_name false rest e = ap (λ zs. y ∷ zs) (rest e)

  -- the others stand once too
  each_but : (P : ℕ → Type 0) (xs : List Kept) → AllByRecursion P (spaces_kept xs) → AllByRecursion P (spaces_kept (kept_but name xs))
  each_but P [] all = tt
  each_but P (y ∷ xs) all = by_name (pointwise nat_eq name y.name) (each_but P xs all.1)
    where
      by_name : (b : Bool) → AllByRecursion P (spaces_kept (kept_but name xs)) → AllByRecursion P (spaces_kept (cond b xs (y ∷ kept_but name xs)))
      by_name true rest = all.1
      by_name false rest = (all.0, rest)

  pub once_but : (xs : List Kept) → IsDistinct nat_eq (spaces_kept xs) → IsDistinct nat_eq (spaces_kept (kept_but name xs))
  unfolding IsDistinct
  once_but [] once = tt
  once_but (y ∷ xs) once = by_name (pointwise nat_eq name y.name) (each_but (λ q. nat_eq y.space q ≡ false) xs once.0) (once_but xs once.1)
    where
      by_name : (b : Bool) → AllByRecursion (λ q. nat_eq y.space q ≡ false) (spaces_kept (kept_but name xs)) → IsDistinct nat_eq (spaces_kept (kept_but name xs))
          → IsDistinct nat_eq (spaces_kept (cond b xs (y ∷ kept_but name xs)))
      by_name true apart rest = once.1
      by_name false apart rest = (apart, rest)

  -- none of them has its space
  pub others_but : (P : ℕ → Type 0) (xs : List Kept) (x : Kept) → IsDistinct nat_eq (spaces_kept xs) → kept_named name xs ≡ Some x
      → AllByRecursion P (spaces_kept xs) → AllByRecursion (λ q. P q × (q ≡ x.space → ⊥)) (spaces_kept (kept_but name xs))
  unfolding IsDistinct
  others_but P [] x once is all = cc
  others_but P (y ∷ xs) x once is all = by_name (pointwise nat_eq name y.name) (λ e. others_but P xs x once.1 e all.1) is
    where
      by_name : (b : Bool) → (kept_named name xs ≡ Some x → AllByRecursion (λ q. P q × (q ≡ x.space → ⊥)) (spaces_kept (kept_but name xs)))
          → cond b (Some y) (kept_named name xs) ≡ Some x → AllByRecursion (λ q. P q × (q ≡ x.space → ⊥)) (spaces_kept (cond b xs (y ∷ kept_but name xs)))
      by_name true rest e = let same : y ≡ x = cc in all_beside P (spaces_kept xs) y.space x.space (ap (λ (z : Kept). z.space) same) once.0 all.1
      by_name false rest e =
          let apart = found_has (λ q. nat_eq y.space q ≡ false) xs x once.0 e in
          ((all.0, λ same. let both : false ≡ true = sym apart ∙ eq-eqb y.space x.space same in cc), rest e)

  -- and each other number that stood among them still does
  pub any_but : (q : ℕ) (xs : List Kept) (x : Kept) → kept_named name xs ≡ Some x → (q ≡ x.space → ⊥) → list_any (λ z. z == q) (spaces_kept xs) ≡ true
      → list_any (λ z. z == q) (spaces_kept (kept_but name xs)) ≡ true
  any_but q [] x is other has = cc
  any_but q (y ∷ xs) x is other has = by_name (pointwise nat_eq name y.name) (any_but q xs x) is
    where
      by_first : (b : Bool) → (list_any (λ z. z == q) (spaces_kept xs) ≡ true → list_any (λ z. z == q) (spaces_kept (kept_but name xs)) ≡ true)
          → (b || list_any (λ z. z == q) (spaces_kept xs)) ≡ true → (b || list_any (λ z. z == q) (spaces_kept (kept_but name xs))) ≡ true
      by_first true rest h = refl
      by_first false rest h = rest h

      by_name : (b : Bool)
          → (kept_named name xs ≡ Some x → (q ≡ x.space → ⊥) → list_any (λ z. z == q) (spaces_kept xs) ≡ true → list_any (λ z. z == q) (spaces_kept (kept_but name xs)) ≡ true)
          → cond b (Some y) (kept_named name xs) ≡ Some x → list_any (λ z. z == q) (spaces_kept (cond b xs (y ∷ kept_but name xs))) ≡ true
      by_name true rest e =
          let same : y ≡ x = cc in
          ap (λ b. b || list_any (λ z. z == q) (spaces_kept xs)) (sym (ne_eqb y.space q (λ s. other (sym s ∙ ap (λ (z : Kept). z.space) same)))) ∙ has
      by_name false rest e = by_first (y.space == q) (rest e other) has

  -- as it is shown
  pub named_shown : (spaces : State) (xs : List Kept) → checkpoint_named name (checkpoints_in spaces xs) ≡ option_map (checkpoint_in spaces) (kept_named name xs)
  named_shown spaces [] = refl
  named_shown spaces (y ∷ xs) = by_name (pointwise nat_eq name y.name) (named_shown spaces xs)
    where
      by_name : (b : Bool) → checkpoint_named name (checkpoints_in spaces xs) ≡ option_map (checkpoint_in spaces) (kept_named name xs)
          → cond b (Some (checkpoint_in spaces y)) (checkpoint_named name (checkpoints_in spaces xs)) ≡ option_map (checkpoint_in spaces) (cond b (Some y) (kept_named name xs))
      by_name true rest = refl
      by_name false rest = rest

  pub but_shown : (spaces : State) (xs : List Kept) → checkpoints_but name (checkpoints_in spaces xs) ≡ checkpoints_in spaces (kept_but name xs)
  but_shown spaces [] = refl
  but_shown spaces (y ∷ xs) = by_name (pointwise nat_eq name y.name) (but_shown spaces xs)
    where
      by_name : (b : Bool) → checkpoints_but name (checkpoints_in spaces xs) ≡ checkpoints_in spaces (kept_but name xs)
          → cond b (checkpoints_in spaces xs) (checkpoint_in spaces y ∷ checkpoints_but name (checkpoints_in spaces xs)) ≡ checkpoints_in spaces (cond b xs (y ∷ kept_but name xs))
      by_name true rest = refl
      by_name false rest = ap (λ zs. checkpoint_in spaces y ∷ zs) rest

-- One more.

pub more_shown : (spaces : State) (xs : List Kept) (x : Kept) → checkpoints_in spaces (xs ++ x ∷ []) ≡ checkpoints_in spaces xs ++ checkpoint_in spaces x ∷ []
more_shown spaces [] x = refl
more_shown spaces (y ∷ xs) x = ap (λ zs. checkpoint_in spaces y ∷ zs) (more_shown spaces xs x)

pub more_spaces : (xs : List Kept) (x : Kept) → spaces_kept (xs ++ x ∷ []) ≡ spaces_kept xs ++ x.space ∷ []
more_spaces [] x = refl
more_spaces (y ∷ xs) x = ap (λ qs. y.space ∷ qs) (more_spaces xs x)

-- Where the spaces of checkpoints are as they were, what is shown is too.

same_shown : (new old : State) (x : Kept) → space_in new x.space ≡ space_in old x.space → checkpoint_in new x ≡ checkpoint_in old x
same_shown new old x same =
    let whole = whole_by new old x.space same (record { regs = x.regs; state = x.state; saved = None }) in
    λ i. record { name = x.name; space = x.space; whole = record { registers = x.regs; state = x.state; memory = (whole i).memory } }

pub all_shown : (new old : State) (xs : List Kept) → AllByRecursion (λ q. space_in new q ≡ space_in old q) (spaces_kept xs) → checkpoints_in new xs ≡ checkpoints_in old xs
all_shown new old [] all = refl
all_shown new old (x ∷ xs) all =
    ap (λ (c : Checkpoint). c ∷ checkpoints_in new xs) (same_shown new old x all.0) ∙ ap (λ cs. checkpoint_in old x ∷ cs) (all_shown new old xs all.1)
