use Rattle.std.proofs.Common.{◌≡◌, ℕ, ◌+◌, ◌-◌, ◌<◌, ◌≤◌, Bool, true, false, cond, Option, Some, None, sym, ap, subst, ◌∙◌, refl, arith}
use Rattle.std.specs.Prelude.{IsSome, is_some, zero, suc}
use Rattle.std.specs.Ordering.{nat_cmp}
use Rattle.std.specs.Cmp.{nat_cmp_total}
use Rattle.std.specs.FinMap.{FinMap, empty, get, get-empty, insert, len, len-insert, len-remove, remove}
use Rattle.number_maps.specs.Cuts.{insert_removed}
use Rattle.number_maps.specs.Keys.{alike, by_key, get_other, insert_kept, removed_other, removed_same}
use Rattle.overlay_pages.specs.State.{PageState, SpaceState, State}
use Rattle.overlay_memory.specs.Pieces.{IsEmptied, emptied_space}
use Rattle.space_maps.specs.Laws.{page_of, put_there, space_over, space_put, space_there}
use Rattle.space_maps.specs.Spaces.{cut_page, cut_pages, cut_space, holds_space, of_pages, page_in, put_space, space_in}

-- A space that loses its pages one by one.

-- what holds while pages go
pub record IsEmptying (old now : State) (space : ℕ) : Type 0 where
  pub there : holds_space now space ≡ true
  pub none_awaits : (space_in now space).awaiting ≡ empty
  pub cut : cut_space now space ≡ cut_space old space
  pub rest : emptied_space now space ≡ emptied_space old space

cut_put : (v : State) (s : ℕ) (x : SpaceState) → cut_space (put_space v s x) s ≡ cut_space v s
unfolding cut_space put_space
cut_put v s x = ap (λ m. record { spaces = m; frames = v.frames; zero_frame = v.zero_frame }) (alike _ _ (λ q. by_key q s
    (λ same. removed_same (insert v.spaces s x) s q same ∙ sym (removed_same v.spaces s q same))
    (λ other. removed_other (insert v.spaces s x) s q other ∙ get_other v.spaces s q x other ∙ sym (removed_other v.spaces s q other))))

pages_left : (v : State) (s p : ℕ) → space_in (cut_page v s p) s ≡ of_pages (space_in v s) (remove (space_in v s).pages p)
unfolding cut_page
pages_left v s p = space_put v s (of_pages (space_in v s) (remove (space_in v s).pages p)) s refl

cut_of : (v : State) (s p : ℕ) → cut_space (cut_page v s p) s ≡ cut_space v s
unfolding cut_page
cut_of v s p = cut_put v s _

there_of : (v : State) (s p : ℕ) → holds_space (cut_page v s p) s ≡ true
unfolding cut_page
there_of v s p = put_there v s _

-- what it would be without pages
rest_of : (v : State) (s p : ℕ) → emptied_space (cut_page v s p) s ≡ emptied_space v s
unfolding emptied_space cut_page
rest_of v s p =
    ap (λ (x : SpaceState). put_space (put_space v s (of_pages (space_in v s) (remove (space_in v s).pages p))) s (of_pages x empty)) (space_put v s _ s refl)
    ∙ space_over v s _ _

no_pages_left : (v : State) (s : ℕ) → holds_space v s ≡ true → (space_in v s).pages ≡ empty → v ≡ emptied_space v s
unfolding emptied_space put_space
no_pages_left v s there none = sym (λ i. record { spaces = kept i; frames = v.frames; zero_frame = v.zero_frame })
  where
    same : of_pages (space_in v s) empty ≡ space_in v s
    same = ap (λ m. of_pages (space_in v s) m) (sym none)

    has : (o : Option SpaceState) → get v.spaces s ≡ o → get v.spaces s ≡ Some (space_in v s)
    has None is = let no = sym there ∙ ap is_some is in cc
    has (Some x) is = is ∙ ap Some (sym (space_there v s x is))

    kept : insert v.spaces s (of_pages (space_in v s) empty) ≡ v.spaces
    kept = insert_kept v.spaces s _ (has (get v.spaces s) refl ∙ ap Some (sym same))

emptying_page : (old now : State) (s p : ℕ) → IsEmptying old now s → IsEmptying old (cut_page now s p) s
emptying_page old now s p so_far = record {
  there = there_of now s p;
  none_awaits = ap (λ (x : SpaceState). x.awaiting) (pages_left now s p) ∙ so_far.none_awaits;
  cut = cut_of now s p ∙ so_far.cut;
  rest = rest_of now s p ∙ so_far.rest;
}

emptying_pages : (k from : ℕ) (old now : State) (s : ℕ) → IsEmptying old now s → IsEmptying old (cut_pages now s from k) s
unfolding cut_pages
emptying_pages zero from old now s so_far = so_far
emptying_pages (suc k) from old now s so_far = emptying_page old (cut_pages now s from k) s (from + k) (emptying_pages k from old now s so_far)

pub emptying_more : (old now next : State) (s p n : ℕ) → IsEmptying old now s → next ≡ cut_pages now s p n → IsEmptying old next s
emptying_more old now next s p n so_far gone = subst (λ w. IsEmptying old w s) (sym gone) (emptying_pages n p old now s so_far)

-- there are fewer pages
no_more : (v : State) (s p : ℕ) → len (space_in (cut_page v s p) s).pages ≤ len (space_in v s).pages
no_more v s p =
    let left = ap (λ (x : SpaceState). len x.pages) (pages_left v s p) in
    let less = less_or_same (is_some (get (space_in v s).pages p)) in omega (arith, left, less, len-remove nat_cmp_total (space_in v s).pages p)
  where
    less_or_same : (b : Bool) → cond b (len (space_in v s).pages - 1) (len (space_in v s).pages) ≤ len (space_in v s).pages
    less_or_same true = omega arith
    less_or_same false = omega arith

one_gone : {X : Type 0} (m : FinMap nat_cmp X) (k : ℕ) (x : X) → get m k ≡ Some x → len m ≡ len (remove m k) + 1
one_gone m k x there =
    ap len (sym (insert_removed m k x ∙ insert_kept m k x there)) ∙ len-insert nat_cmp_total (remove m k) k x
    ∙ ap (λ (o : Option _). cond (is_some o) (len (remove m k)) (len (remove m k) + 1)) (removed_same m k k refl)

one_less : (v : State) (s p : ℕ) → IsSome (page_in v s p) → len (space_in (cut_page v s p) s).pages < len (space_in v s).pages
one_less v s p there = by_page (get (space_in v s).pages p) refl (ap is_some (sym (page_of v s p)) ∙ there)
  where
    by_page : (o : Option PageState) → get (space_in v s).pages p ≡ o → IsSome (get (space_in v s).pages p)
        → len (space_in (cut_page v s p) s).pages < len (space_in v s).pages
    by_page None absent some = let none = sym some ∙ ap is_some absent in cc
    by_page (Some x) at some =
        let left = ap (λ (y : SpaceState). len y.pages) (pages_left v s p) in let less = one_gone (space_in v s).pages p x at in omega (arith, left, less)

fewer_pages : (k : ℕ) (v : State) (s p : ℕ) → IsSome (page_in v s p) → len (space_in (cut_pages v s p (suc k)) s).pages < len (space_in v s).pages
unfolding cut_pages
fewer_pages zero v s p there =
    let start : p + 0 ≡ p = omega arith in
    subst (λ q. len (space_in (cut_page v s q) s).pages < len (space_in v s).pages) (sym start) (one_less v s p there)
fewer_pages (suc k) v s p there = let before = fewer_pages k v s p there in let last = no_more (cut_pages v s p (suc k)) s (p + suc k) in omega (arith, before, last)

pub fewer : (now next : State) (s p n : ℕ) → next ≡ cut_pages now s p n → 0 < n → IsSome (page_in now s p) → len (space_in next s).pages < len (space_in now s).pages
fewer now next s p zero is some there = absurd (omega (arith, some))
fewer now next s p (suc k) is some there = subst (λ w. len (space_in w s).pages < len (space_in now s).pages) (sym is) (fewer_pages k now s p there)

none_left : (v : State) (s : ℕ) → ((q : ℕ) → 0 ≤ q → page_in v s q ≡ None) → (space_in v s).pages ≡ empty
none_left v s none = alike _ _ (λ q. sym (page_of v s q) ∙ none q (omega arith) ∙ sym (get-empty {X = PageState} nat_cmp q))

pub emptied : (old now : State) (s : ℕ) → IsEmptying old now s → ((q : ℕ) → 0 ≤ q → page_in now s q ≡ None) → IsEmptied old now s
emptied old now s so_far none = record {
  state = no_pages_left now s so_far.there (none_left now s none) ∙ so_far.rest;
  there = so_far.there;
  empty = none_left now s none;
  none_awaits = so_far.none_awaits;
  cut = so_far.cut;
}
