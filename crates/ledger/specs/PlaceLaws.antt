use Rattle.std.specs.Prelude.{◌≡◌, ℕ, true, List, ◌∷◌, ◌++◌, map, Option, Some, None, is_some, refl}
use Rattle.std.proofs.Common.{sym, ap, ◌∙◌, append_assoc}
use Rattle.std.proofs.lemmas.List.{map-append}
use Rattle.std.proofs.lemmas.Grind.{flat_map-append}
use Rattle.std.specs.List.{flat_map}
use Rattle.std.specs.Option.{unwrap_or}
use Rattle.std.specs.Ordering.{nat_cmp}
use Rattle.std.specs.FinMap.{FinMap, empty, get, get-empty, insert, remove, values}
use Rattle.number_maps.specs.Keys.{by_key, alike, get_same, get_other, insert_kept, insert_over, removed_same, removed_other}
use Rattle.number_maps.specs.Cuts.{Cut, cut_at}
use Rattle.ledger.specs.Ledger.{Holding, Space, Ledger, pages_of, holding_at, with_page, without_page, all_holdings}

-- What is at a place after a page was put somewhere, or taken away.

-- the pages of a space that was put in, and of every other
pub pages_put : (ledger : Ledger) (space : ℕ) (pages : Space) (q : ℕ) → q ≡ space → pages_of (insert ledger space pages) q ≡ pages
unfolding pages_of
pages_put ledger space pages q same = ap (λ (o : Option Space). unwrap_or o empty) (get_same ledger space q pages same)

pub pages_beside : (ledger : Ledger) (space : ℕ) (pages : Space) (q : ℕ) → (q ≡ space → ⊥) → pages_of (insert ledger space pages) q ≡ pages_of ledger q
unfolding pages_of
pages_beside ledger space pages q other = ap (λ (o : Option Space). unwrap_or o empty) (get_other ledger space q pages other)

-- the pages of a space that was taken away, and of every other
pub pages_dropped : (ledger : Ledger) (space q : ℕ) → q ≡ space → pages_of (remove ledger space) q ≡ empty
unfolding pages_of
pages_dropped ledger space q same = ap (λ (o : Option Space). unwrap_or o empty) (removed_same ledger space q same)

pub pages_kept : (ledger : Ledger) (space q : ℕ) → (q ≡ space → ⊥) → pages_of (remove ledger space) q ≡ pages_of ledger q
unfolding pages_of
pages_kept ledger space q other = ap (λ (o : Option Space). unwrap_or o empty) (removed_other ledger space q other)

-- of a space that is there, and of one that isn't
pub pages_there : (ledger : Ledger) (space : ℕ) (pages : Space) → get ledger space ≡ Some pages → pages_of ledger space ≡ pages
unfolding pages_of
pages_there ledger space pages there = ap (λ (o : Option Space). unwrap_or o empty) there

pub pages_absent : (ledger : Ledger) (space : ℕ) → get ledger space ≡ None → pages_of ledger space ≡ empty
unfolding pages_of
pages_absent ledger space absent = ap (λ (o : Option Space). unwrap_or o empty) absent

pub page_is : (ledger : Ledger) (space page : ℕ) → holding_at ledger space page ≡ get (pages_of ledger space) page
unfolding holding_at
page_is ledger space page = refl

pub no_page : (page : ℕ) → get (empty {X = Holding} {R = nat_cmp}) page ≡ None
no_page page = get-empty nat_cmp page

-- a page that is there makes its space one that is there
pub space_of_page : (ledger : Ledger) (space page : ℕ) (holding : Holding) → holding_at ledger space page ≡ Some holding → get ledger space ≡ Some (pages_of ledger space)
space_of_page ledger space page holding there = by_space (get ledger space) refl
  where
    by_space : (found : Option Space) → get ledger space ≡ found → get ledger space ≡ Some (pages_of ledger space)
    by_space (Some pages) is = is ∙ ap Some (sym (pages_there ledger space pages is))
    by_space None is =
        let none = ap is_some (sym there ∙ page_is ledger space page ∙ ap (λ (m : Space). get m page) (pages_absent ledger space is) ∙ no_page page) in cc

-- two ways to decide whether two places are the same
pub by_place : {P : Type 0} (space page q r : ℕ) → (q ≡ space → r ≡ page → P) → ((q ≡ space → r ≡ page → ⊥) → P) → P
by_place space page q r same other =
    by_key q space (λ s. by_key r page (λ p. same s p) (λ d. other (λ _ p. d p))) (λ d. other (λ s _. d s))

-- what is at the place, and at every other
pub put_here : (ledger : Ledger) (space page : ℕ) (holding : Holding) (q r : ℕ) → q ≡ space → r ≡ page
    → holding_at (with_page ledger space page holding) q r ≡ Some holding
unfolding holding_at with_page
put_here ledger space page holding q r same_space same_page =
    ap (λ (m : Space). get m r) (pages_put ledger space (insert (pages_of ledger space) page holding) q same_space)
    ∙ get_same (pages_of ledger space) page r holding same_page

pub gone_here : (ledger : Ledger) (space page q r : ℕ) → q ≡ space → r ≡ page → holding_at (without_page ledger space page) q r ≡ None
unfolding holding_at without_page
gone_here ledger space page q r same_space same_page =
    ap (λ (m : Space). get m r) (pages_put ledger space (remove (pages_of ledger space) page) q same_space)
    ∙ removed_same (pages_of ledger space) page r same_page

pub put_other : (ledger : Ledger) (space page : ℕ) (holding : Holding) (q r : ℕ) → (q ≡ space → r ≡ page → ⊥)
    → holding_at (with_page ledger space page holding) q r ≡ holding_at ledger q r
unfolding holding_at with_page
put_other ledger space page holding q r other = by_key q space
    (λ same. ap (λ (m : Space). get m r) (pages_put ledger space (insert (pages_of ledger space) page holding) q same)
    ∙ get_other (pages_of ledger space) page r holding (other same)
    ∙ ap (λ s. get (pages_of ledger s) r) (sym same))
    (λ d. ap (λ (m : Space). get m r) (pages_beside ledger space (insert (pages_of ledger space) page holding) q d))

pub gone_other : (ledger : Ledger) (space page q r : ℕ) → (q ≡ space → r ≡ page → ⊥) → holding_at (without_page ledger space page) q r ≡ holding_at ledger q r
unfolding holding_at without_page
gone_other ledger space page q r other = by_key q space
    (λ same. ap (λ (m : Space). get m r) (pages_put ledger space (remove (pages_of ledger space) page) q same)
    ∙ removed_other (pages_of ledger space) page r (other same)
    ∙ ap (λ s. get (pages_of ledger s) r) (sym same))
    (λ d. ap (λ (m : Space). get m r) (pages_beside ledger space (remove (pages_of ledger space) page) q d))

-- which spaces are there
pub put_spaces : (ledger : Ledger) (space page : ℕ) (holding : Holding) (q : ℕ) → is_some (get ledger space) ≡ true
    → is_some (get (with_page ledger space page holding) q) ≡ is_some (get ledger q)
unfolding with_page
put_spaces ledger space page holding q there = by_key q space
    (λ same. ap is_some (get_same ledger space q (insert (pages_of ledger space) page holding) same) ∙ sym there ∙ ap (λ s. is_some (get ledger s)) (sym same))
    (λ other. ap is_some (get_other ledger space q (insert (pages_of ledger space) page holding) other))

-- a page's own value put again, one value put over another, and what is without the page
pub put_again : (ledger : Ledger) (space page : ℕ) (holding : Holding) → holding_at ledger space page ≡ Some holding → with_page ledger space page holding ≡ ledger
unfolding with_page
put_again ledger space page holding there =
    ap (insert ledger space) (insert_kept (pages_of ledger space) page holding (sym (page_is ledger space page) ∙ there))
    ∙ insert_kept ledger space (pages_of ledger space) (space_of_page ledger space page holding there)

pub put_over : (ledger : Ledger) (space page : ℕ) (x y : Holding) → with_page (with_page ledger space page x) space page y ≡ with_page ledger space page y
unfolding with_page
put_over ledger space page x y =
    insert_over ledger space (insert (pages_of ledger space) page x) _
    ∙ ap (λ (m : Space). insert ledger space (insert m page y)) (pages_put ledger space (insert (pages_of ledger space) page x) space refl)
    ∙ ap (insert ledger space) (insert_over (pages_of ledger space) page x y)

removed_over : {X : Type 0} (m : FinMap nat_cmp X) (k : ℕ) (x : X) → remove (insert m k x) k ≡ remove m k
removed_over m k x = alike _ _ (λ q. by_key q k
    (λ same. removed_same (insert m k x) k q same ∙ sym (removed_same m k q same))
    (λ other. removed_other (insert m k x) k q other ∙ get_other m k q x other ∙ sym (removed_other m k q other)))

pub gone_over : (ledger : Ledger) (space page : ℕ) (x : Holding) → without_page (with_page ledger space page x) space page ≡ without_page ledger space page
unfolding with_page without_page
gone_over ledger space page x =
    insert_over ledger space (insert (pages_of ledger space) page x) _
    ∙ ap (λ (m : Space). insert ledger space (remove m page)) (pages_put ledger space (insert (pages_of ledger space) page x) space refl)
    ∙ ap (insert ledger space) (removed_over (pages_of ledger space) page x)

-- ledgers with the same spaces and the same at each place are equal
pub same_ledger : (a b : Ledger) → ((space : ℕ) → is_some (get a space) ≡ is_some (get b space)) → ((space page : ℕ) → holding_at a space page ≡ holding_at b space page) → a ≡ b
same_ledger a b spaces pages = alike a b (λ q. by_space q (get a q) (get b q) refl refl)
  where
    by_space : (q : ℕ) (x y : Option Space) → get a q ≡ x → get b q ≡ y → get a q ≡ get b q
    by_space q None None ax by = ax ∙ sym by
    by_space q None (Some n) ax by = let differ = sym (ap is_some ax) ∙ spaces q ∙ ap is_some by in cc
    by_space q (Some m) None ax by = let differ = sym (ap is_some ax) ∙ spaces q ∙ ap is_some by in cc
    by_space q (Some m) (Some n) ax by =
        ax ∙ ap Some (alike m n (λ p.
        ap (λ (s : Space). get s p) (sym (pages_there a q m ax)) ∙ sym (page_is a q p) ∙ pages q p ∙ page_is b q p ∙ ap (λ (s : Space). get s p) (pages_there b q n by)))
        ∙ sym by

-- Wherever a page is put, all other pages stand in the same order round it.

pub record PageCut (ledger : Ledger) (space page : ℕ) : Type 0 where
  pub front : List Holding
  pub back : List Holding
  pub gone : all_holdings (without_page ledger space page) ≡ front ++ back
  pub put_in : (holding : Holding) → all_holdings (with_page ledger space page holding) ≡ front ++ (holding ∷ back)

-- what the pages of spaces hold, from their entries
pub holdings_in : List (ℕ × Space) → List Holding
holdings_in es = flat_map (λ (space : Space). values space) (map (λ e. e.1) es)

holdings : List (ℕ × Holding) → List Holding
holdings es = map (λ e. e.1) es

-- the pages of a ledger with a space put in, and without one
pub in_spaces : (ledger : Ledger) (space : ℕ) (cut : Cut ledger space) (pages : Space)
    → all_holdings (insert ledger space pages) ≡ holdings_in cut.front ++ (values pages ++ holdings_in cut.back)
unfolding all_holdings holdings_in
in_spaces ledger space cut pages =
    ap holdings_in (cut.put_in pages)
    ∙ ap (flat_map (λ (space : Space). values space)) (map-append (λ (e : ℕ × Space). e.1) cut.front ((space, pages) ∷ cut.back))
    ∙ flat_map-append (λ (space : Space). values space) (map (λ e. e.1) cut.front) (pages ∷ map (λ e. e.1) cut.back)

pub out_of_spaces : (ledger : Ledger) (space : ℕ) (cut : Cut ledger space) → all_holdings (remove ledger space) ≡ holdings_in cut.front ++ holdings_in cut.back
unfolding all_holdings holdings_in
out_of_spaces ledger space cut =
    ap holdings_in cut.gone
    ∙ ap (flat_map (λ (space : Space). values space)) (map-append (λ (e : ℕ × Space). e.1) cut.front cut.back)
    ∙ flat_map-append (λ (space : Space). values space) (map (λ e. e.1) cut.front) (map (λ e. e.1) cut.back)

regroup : (a b c d : List Holding) → a ++ ((b ++ c) ++ d) ≡ (a ++ b) ++ (c ++ d)
regroup a b c d = ap (λ l. a ++ l) (append_assoc b c d) ∙ sym (append_assoc a b (c ++ d))

pub page_cut : (ledger : Ledger) (space page : ℕ) → PageCut ledger space page
unfolding with_page without_page holdings
page_cut ledger space page =
    let outer : Cut ledger space = cut_at ledger space in
    let inner : Cut (pages_of ledger space) page = cut_at (pages_of ledger space) page in
    let before = holdings_in outer.front in
    let behind = holdings_in outer.back in record {
      front = before ++ holdings inner.front;
      back = holdings inner.back ++ behind;
      gone = in_spaces ledger space outer (remove (pages_of ledger space) page)
          ∙ ap (λ l. before ++ (holdings l ++ behind)) inner.gone
          ∙ ap (λ l. before ++ (l ++ behind)) (map-append (λ (e : ℕ × Holding). e.1) inner.front inner.back)
          ∙ regroup before (holdings inner.front) (holdings inner.back) behind;
      put_in = λ holding. in_spaces ledger space outer (insert (pages_of ledger space) page holding)
          ∙ ap (λ l. before ++ (holdings l ++ behind)) (inner.put_in holding)
          ∙ ap (λ l. before ++ (l ++ behind)) (map-append (λ (e : ℕ × Holding). e.1) inner.front ((page, holding) ∷ inner.back))
          ∙ regroup before (holdings inner.front) (holding ∷ holdings inner.back) behind;
    }
