use Rattle.std.specs.Prelude.{◌≡◌, ℕ, zero, suc, ◌+◌, Bool, true, false, Option, Some, None, is_some, refl}
use Rattle.std.proofs.Common.{true≢false, sym, ap, ◌∙◌, arith}
use Rattle.std.proofs.lemmas.Option.{none-some}
use Rattle.std.proofs.lemmas.Bool.Decides.{nat_tests}
use Rattle.std.specs.Option.{option_map_or, unwrap_or}
use Rattle.std.specs.Ordering.{nat_cmp}
use Rattle.std.specs.FinMap.{empty, get, get-empty, insert, remove}
use Rattle.number_maps.specs.Keys.{alike, by_key, get_other, get_same, insert_kept, insert_over, removed_other, removed_same}
use Rattle.page_table.specs.Table.{Pages, is_within}
use Rattle.space_maps.specs.Options.{by_option, none_by}
use Rattle.space_maps.specs.Spaces.{SpaceOf, Spaces, bare_space, cut_page, cut_pages, cut_space, holds_space, of_pages, page_in, put_awaiting, put_mark, put_page, put_pages, put_shared, put_space, set_page, space_in, altered_page}

-- What is at a place after each change.

module _ {P : Type 0} where
  -- a space that is there, and one that isn't
  pub space_there : (v : Spaces P) (s : ℕ) (x : SpaceOf P) → get v.spaces s ≡ Some x → space_in v s ≡ x
  unfolding space_in
  space_there v s x there = ap (λ (o : Option (SpaceOf P)). unwrap_or o bare_space) there

  pub space_absent : (v : Spaces P) (s : ℕ) → get v.spaces s ≡ None → space_in v s ≡ bare_space
  unfolding space_in
  space_absent v s absent = ap (λ (o : Option (SpaceOf P)). unwrap_or o bare_space) absent

  pub page_of : (v : Spaces P) (s p : ℕ) → page_in v s p ≡ get (space_in v s).pages p
  unfolding page_in
  page_of v s p = refl

  -- a space that isn't there has no page
  pub page_absent : (v : Spaces P) (s p : ℕ) → get v.spaces s ≡ None → page_in v s p ≡ None
  page_absent v s p absent = page_of v s p ∙ ap (λ (x : SpaceOf P). get x.pages p) (space_absent v s absent) ∙ get-empty {X = P} nat_cmp p

  -- so a page that is there makes its space one that is there
  pub there_space : (v : Spaces P) (s p : ℕ) (x : P) → page_in v s p ≡ Some x → holds_space v s ≡ true
  there_space v s p x there = by_option (get v.spaces s) (λ is. absurd (none-some x (sym (page_absent v s p is) ∙ there))) (λ y is. ap is_some is)

  -- A space put in: what is at each space.

  pub space_put : (v : Spaces P) (s : ℕ) (x : SpaceOf P) (q : ℕ) → q ≡ s → space_in (put_space v s x) q ≡ x
  unfolding put_space
  space_put v s x q same = space_there (put_space v s x) q x (get_same v.spaces s q x same)

  pub put_there : (v : Spaces P) (s : ℕ) (x : SpaceOf P) → holds_space (put_space v s x) s ≡ true
  unfolding put_space
  put_there v s x = ap is_some (get_same v.spaces s s x refl)

  pub space_beside : (v : Spaces P) (s : ℕ) (x : SpaceOf P) (q : ℕ) → (q ≡ s → ⊥) → space_in (put_space v s x) q ≡ space_in v q
  unfolding put_space space_in
  space_beside v s x q other = ap (λ (o : Option (SpaceOf P)). unwrap_or o bare_space) (get_other v.spaces s q x other)

  pub space_left : (v : Spaces P) (s q : ℕ) → (q ≡ s → ⊥) → space_in (cut_space v s) q ≡ space_in v q
  unfolding cut_space space_in
  space_left v s q other = ap (λ (o : Option (SpaceOf P)). unwrap_or o bare_space) (removed_other v.spaces s q other)

  -- what is there, put in again
  pub same_spaces : (v : Spaces P) (s : ℕ) → holds_space v s ≡ true → put_space v s (space_in v s) ≡ v
  unfolding put_space
  same_spaces v s there = by_option (get v.spaces s)
      (λ is. absurd (true≢false (sym there ∙ ap is_some is)))
      (λ x is.
      let all = insert_kept v.spaces s (space_in v s) (is ∙ ap Some (sym (space_there v s x is))) in
      λ i. record { spaces = all i; frames = v.frames; zero_frame = v.zero_frame })

  -- What is at a place after a page was put somewhere, or taken away.

  pub in_space : (v : Spaces P) (s : ℕ) (x : SpaceOf P) (q r : ℕ) → q ≡ s → page_in (put_space v s x) q r ≡ get x.pages r
  in_space v s x q r same = page_of (put_space v s x) q r ∙ ap (λ (y : SpaceOf P). get y.pages r) (space_put v s x q same)

  pub beside_space : (v : Spaces P) (s : ℕ) (x : SpaceOf P) (q r : ℕ) → (q ≡ s → ⊥) → page_in (put_space v s x) q r ≡ page_in v q r
  beside_space v s x q r other = page_of (put_space v s x) q r ∙ ap (λ (y : SpaceOf P). get y.pages r) (space_beside v s x q other) ∙ sym (page_of v q r)

  -- a space put in that has at a place what was there
  stays_at : (v : Spaces P) (s : ℕ) (x : SpaceOf P) (q r : ℕ) → (q ≡ s → get x.pages r ≡ get (space_in v s).pages r) → page_in (put_space v s x) q r ≡ page_in v q r
  stays_at v s x q r same = by_key q s
      (λ ss. in_space v s x q r ss ∙ same ss ∙ sym (page_of v s r) ∙ ap (λ n. page_in v n r) (sym ss))
      (λ d. beside_space v s x q r d)

  pub page_put_here : (v : Spaces P) (s p : ℕ) (x : P) (q r : ℕ) → q ≡ s → r ≡ p → page_in (put_page v s p x) q r ≡ Some x
  unfolding put_page
  page_put_here v s p x q r ss pp = in_space v s _ q r ss ∙ get_same (space_in v s).pages p r x pp

  pub page_put_beside : (v : Spaces P) (s p : ℕ) (x : P) (q r : ℕ) → (q ≡ s → r ≡ p → ⊥) → page_in (put_page v s p x) q r ≡ page_in v q r
  unfolding put_page
  page_put_beside v s p x q r other = stays_at v s _ q r (λ ss. get_other (space_in v s).pages p r x (other ss))

  pub page_cut_here : (v : Spaces P) (s p q r : ℕ) → q ≡ s → r ≡ p → page_in (cut_page v s p) q r ≡ None
  unfolding cut_page
  page_cut_here v s p q r ss pp = in_space v s _ q r ss ∙ removed_same (space_in v s).pages p r pp

  pub page_cut_beside : (v : Spaces P) (s p q r : ℕ) → (q ≡ s → r ≡ p → ⊥) → page_in (cut_page v s p) q r ≡ page_in v q r
  unfolding cut_page
  page_cut_beside v s p q r other = stays_at v s _ q r (λ ss. removed_other (space_in v s).pages p r (other ss))

  pub page_set_here : (v : Spaces P) (s p : ℕ) (o : Option P) (q r : ℕ) → q ≡ s → r ≡ p → page_in (set_page v s p o) q r ≡ o
  unfolding set_page
  page_set_here v s p None q r ss pp = page_cut_here v s p q r ss pp
  page_set_here v s p (Some x) q r ss pp = page_put_here v s p x q r ss pp

  pub page_set_beside : (v : Spaces P) (s p : ℕ) (o : Option P) (q r : ℕ) → (q ≡ s → r ≡ p → ⊥) → page_in (set_page v s p o) q r ≡ page_in v q r
  unfolding set_page
  page_set_beside v s p None q r d = page_cut_beside v s p q r d
  page_set_beside v s p (Some x) q r d = page_put_beside v s p x q r d

  pub page_shared_here : (v : Spaces P) (s p : ℕ) (x : P) (q r : ℕ) → q ≡ s → r ≡ p → page_in (put_shared v s p x) q r ≡ Some x
  unfolding put_shared
  page_shared_here v s p x q r ss pp = in_space v s _ q r ss ∙ get_same (space_in v s).pages p r x pp

  pub page_shared_beside : (v : Spaces P) (s p : ℕ) (x : P) (q r : ℕ) → (q ≡ s → r ≡ p → ⊥) → page_in (put_shared v s p x) q r ≡ page_in v q r
  unfolding put_shared
  page_shared_beside v s p x q r other = stays_at v s _ q r (λ ss. get_other (space_in v s).pages p r x (other ss))

  -- a space with the same pages
  pub page_marked : (v : Spaces P) (s : ℕ) (on : Bool) (q r : ℕ) → page_in (put_mark v s on) q r ≡ page_in v q r
  unfolding put_mark
  page_marked v s on q r = stays_at v s _ q r (λ ss. refl)

  pub page_awaited : (v : Spaces P) (s : ℕ) (awaiting : Pages) (q r : ℕ) → page_in (put_awaiting v s awaiting) q r ≡ page_in v q r
  unfolding put_awaiting
  page_awaited v s awaiting q r = stays_at v s _ q r (λ ss. refl)

  -- a page that is there, changed; and put where it is
  pub changed_there : (f : P → P) (v : Spaces P) (s p : ℕ) (x : P) → page_in v s p ≡ Some x → altered_page f v s p ≡ put_page v s p (f x)
  unfolding altered_page
  changed_there f v s p x there = ap (λ (o : Option P). option_map_or (λ x. put_page v s p (f x)) o v) there

  pub page_again : (v : Spaces P) (s p : ℕ) (x : P) → page_in v s p ≡ Some x → put_page v s p x ≡ v
  unfolding put_page
  page_again v s p x there =
      ap (λ m. put_space v s (of_pages (space_in v s) m)) (insert_kept (space_in v s).pages p x (sym (page_of v s p) ∙ there))
      ∙ same_spaces v s (there_space v s p x there)

  -- A space, and a page, put over another one.

  pub space_over : (v : Spaces P) (s : ℕ) (x y : SpaceOf P) → put_space (put_space v s x) s y ≡ put_space v s y
  unfolding put_space
  space_over v s x y = let all = insert_over v.spaces s x y in λ i. record { spaces = all i; frames = v.frames; zero_frame = v.zero_frame }

  -- what is made of the space that was put
  over_by : (v : Spaces P) (s : ℕ) (x : SpaceOf P) (change : SpaceOf P → SpaceOf P) → put_space (put_space v s x) s (change (space_in (put_space v s x) s)) ≡ put_space v s (change x)
  over_by v s x change = ap (λ y. put_space (put_space v s x) s (change y)) (space_put v s x s refl) ∙ space_over v s x (change x)

  pub page_over : (v : Spaces P) (s p : ℕ) (x y : P) → put_page (put_page v s p x) s p y ≡ put_page v s p y
  unfolding put_page
  page_over v s p x y =
      over_by v s (of_pages (space_in v s) (insert (space_in v s).pages p x)) (λ z. of_pages z (insert z.pages p y))
      ∙ ap (λ m. put_space v s (of_pages (space_in v s) m)) (insert_over (space_in v s).pages p x y)

  pub cut_over : (v : Spaces P) (s p : ℕ) (x : P) → cut_page (put_page v s p x) s p ≡ cut_page v s p
  unfolding cut_page put_page
  cut_over v s p x =
      over_by v s (of_pages (space_in v s) (insert (space_in v s).pages p x)) (λ z. of_pages z (remove z.pages p))
      ∙ ap (λ m. put_space v s (of_pages (space_in v s) m)) (alike _ _ (λ q. by_key q p
      (λ same. removed_same (insert (space_in v s).pages p x) p q same ∙ sym (removed_same (space_in v s).pages p q same))
      (λ other. removed_other (insert (space_in v s).pages p x) p q other ∙ get_other (space_in v s).pages p q x other ∙ sym (removed_other (space_in v s).pages p q other))))

  pub shared_over : (v : Spaces P) (s p : ℕ) (x y : P) → put_page (put_shared v s p x) s p y ≡ put_shared v s p y
  unfolding put_page put_shared
  shared_over v s p x y =
      over_by v s (record { pages = insert (space_in v s).pages p x; awaiting = remove (space_in v s).awaiting p; speculating = (space_in v s).speculating }) (λ z. of_pages z (insert z.pages p y))
      ∙ ap (λ m. put_space v s (record { pages = m; awaiting = remove (space_in v s).awaiting p; speculating = (space_in v s).speculating })) (insert_over (space_in v s).pages p x y)

  pub set_some : (v : Spaces P) (s p : ℕ) (x : P) → set_page v s p (Some x) ≡ put_page v s p x
  unfolding set_page
  set_some v s p x = refl

  -- A page that is shared is one that is put, and awaits no more.
  pub put_shared_as : (v : Spaces P) (s p : ℕ) (x : P) → put_shared v s p x ≡ put_awaiting (put_page v s p x) s (remove (space_in v s).awaiting p)
  unfolding put_shared put_awaiting put_page
  put_shared_as v s p x = sym (over_by v s (of_pages (space_in v s) (insert (space_in v s).pages p x)) (λ z. record { pages = z.pages; awaiting = remove (space_in v s).awaiting p; speculating = z.speculating }))

  -- A space without a page put in where none was, or taken away, leaves each page as it was.
  pub page_added : (v : Spaces P) (s : ℕ) → holds_space v s ≡ false → (q r : ℕ) → page_in (put_space v s bare_space) q r ≡ page_in v q r
  page_added v s absent q r = by_key q s
      (λ same. in_space v s bare_space q r same ∙ get-empty nat_cmp r ∙ sym (page_absent v q r (ap (get v.spaces) same ∙ none_by (get v.spaces s) absent)))
      (λ d. beside_space v s bare_space q r d)

  pub page_lost : (v : Spaces P) (s : ℕ) → (space_in v s).pages ≡ empty → (q r : ℕ) → page_in (cut_space v s) q r ≡ page_in v q r
  unfolding cut_space
  page_lost v s none q r = by_key q s
      (λ same. page_absent (cut_space v s) q r (removed_same v.spaces s q same)
      ∙ sym (page_of v q r ∙ ap (λ n. get (space_in v n).pages r) same ∙ ap (λ m. get m r) none ∙ get-empty nat_cmp r))
      (λ d. page_of (cut_space v s) q r ∙ ap (λ (x : SpaceOf P). get x.pages r) (space_left v s q d) ∙ sym (page_of v q r))

  -- which spaces are there then
  pub there_put : {R : Type 0} (v : Spaces P) (s : ℕ) (x : SpaceOf P) (q : ℕ) → holds_space (put_space v s x) q ≡ true → (q ≡ s → R) → (holds_space v q ≡ true → R) → R
  unfolding put_space
  there_put v s x q there here other = by_key q s here (λ d. other (sym (ap is_some (get_other v.spaces s q x d)) ∙ there))

  pub there_cut : (v : Spaces P) (s q : ℕ) → holds_space (cut_space v s) q ≡ true → holds_space v q ≡ true
  unfolding cut_space
  there_cut v s q there = by_key q s
      (λ same. let no = sym there ∙ ap is_some (removed_same v.spaces s q same) in cc)
      (λ d. sym (ap is_some (removed_other v.spaces s q d)) ∙ there)

  -- What a space put in that has the same pages to await, and the same mark, leaves of both, and of which spaces there are.
  pub record KeepsSpaces (old new : Spaces P) : Type 0 where
    pub frames : new.frames ≡ old.frames
    pub zero_frame : new.zero_frame ≡ old.zero_frame
    pub there : (q : ℕ) → holds_space new q ≡ holds_space old q
    pub awaiting : (q : ℕ) → (space_in new q).awaiting ≡ (space_in old q).awaiting
    pub marks : (q : ℕ) → (space_in new q).speculating ≡ (space_in old q).speculating

  pub keeps_still : (v : Spaces P) → KeepsSpaces v v
  keeps_still v = record { frames = refl; zero_frame = refl; there = λ q. refl; awaiting = λ q. refl; marks = λ q. refl }

  pub keeps_put : (v : Spaces P) (s : ℕ) (x : SpaceOf P) → holds_space v s ≡ true → x.awaiting ≡ (space_in v s).awaiting → x.speculating ≡ (space_in v s).speculating → KeepsSpaces v (put_space v s x)
  unfolding put_space
  keeps_put v s x there awaiting mark = record {
    frames = refl;
    zero_frame = refl;
    there = λ q. by_key q s
        (λ same. ap is_some (get_same v.spaces s q x same) ∙ sym (ap (holds_space v) same ∙ there))
        (λ d. ap is_some (get_other v.spaces s q x d));
    awaiting = λ q. by_key q s
        (λ same. ap (λ (y : SpaceOf P). y.awaiting) (space_put v s x q same) ∙ awaiting ∙ ap (λ n. (space_in v n).awaiting) (sym same))
        (λ d. ap (λ (y : SpaceOf P). y.awaiting) (space_beside v s x q d));
    marks = λ q. by_key q s
        (λ same. ap (λ (y : SpaceOf P). y.speculating) (space_put v s x q same) ∙ mark ∙ ap (λ n. (space_in v n).speculating) (sym same))
        (λ d. ap (λ (y : SpaceOf P). y.speculating) (space_beside v s x q d));
  }

  pub keeps_page_put : (v : Spaces P) (s p : ℕ) (x : P) → holds_space v s ≡ true → KeepsSpaces v (put_page v s p x)
  unfolding put_page
  keeps_page_put v s p x there = keeps_put v s _ there refl refl

  pub keeps_page_cut : (v : Spaces P) (s p : ℕ) → holds_space v s ≡ true → KeepsSpaces v (cut_page v s p)
  unfolding cut_page
  keeps_page_cut v s p there = keeps_put v s _ there refl refl

  pub keeps_page_set : (v : Spaces P) (s p : ℕ) (o : Option P) → holds_space v s ≡ true → KeepsSpaces v (set_page v s p o)
  unfolding set_page
  keeps_page_set v s p None there = keeps_page_cut v s p there
  keeps_page_set v s p (Some x) there = keeps_page_put v s p x there

  -- Two that leave as much of the same spaces, and have the same pages, are equal.
  pub spaces_alike : (v a b : Spaces P) → KeepsSpaces v a → KeepsSpaces v b → ((q r : ℕ) → page_in a q r ≡ page_in b q r) → a ≡ b
  unfolding space_in page_in
  spaces_alike v a b first second pages =
      let all : a.spaces ≡ b.spaces = alike a.spaces b.spaces (λ q. same_some (get a.spaces q) (get b.spaces q) bare_space (first.there q ∙ sym (second.there q)) (space q)) in
      let frames = first.frames ∙ sym second.frames in
      let zero = first.zero_frame ∙ sym second.zero_frame in
      λ i. record { spaces = all i; frames = frames i; zero_frame = zero i }
    where
      same_some : {X : Type 0} (m n : Option X) (d : X) → is_some m ≡ is_some n → unwrap_or m d ≡ unwrap_or n d → m ≡ n
      same_some None None d h e = refl
      same_some None (Some y) d h e = cc
      same_some (Some x) None d h e = cc
      same_some (Some x) (Some y) d h e = ap Some e

      space : (q : ℕ) → unwrap_or (get a.spaces q) bare_space ≡ unwrap_or (get b.spaces q) bare_space
      space q =
          let whole : (space_in a q).pages ≡ (space_in b q).pages = alike (space_in a q).pages (space_in b q).pages (λ r. pages q r) in
          let awaiting = first.awaiting q ∙ sym (second.awaiting q) in
          let mark = first.marks q ∙ sym (second.marks q) in
          λ i. record { pages = whole i; awaiting = awaiting i; speculating = mark i }

-- Pages put one after the other: those are there, and all else is as it was.
pub record ArePut {P : Type 0} (v w : Spaces P) (s from n : ℕ) (x : P) : Type 0 where
  pub keeps : KeepsSpaces v w
  pub here : (r : ℕ) → is_within from n r ≡ true → page_in w s r ≡ Some x
  pub beside : (q r : ℕ) → (q ≡ s → is_within from n r ≡ true → ⊥) → page_in w q r ≡ page_in v q r

pub keeps_twice : {P : Type 0} (a b c : Spaces P) → KeepsSpaces a b → KeepsSpaces b c → KeepsSpaces a c
keeps_twice a b c first second = record {
  frames = second.frames ∙ first.frames;
  zero_frame = second.zero_frame ∙ first.zero_frame;
  there = λ q. second.there q ∙ first.there q;
  awaiting = λ q. second.awaiting q ∙ first.awaiting q;
  marks = λ q. second.marks q ∙ first.marks q;
}

pub are_put : {P : Type 0} (n from : ℕ) (v : Spaces P) (s : ℕ) (x : P) → holds_space v s ≡ true → ArePut v (put_pages v s from n x) s from n x
unfolding put_pages
are_put zero from v s x there = record {
  keeps = keeps_still v;
  here = λ r within. let none : is_within from 0 r ≡ false = grind (arith, nat_tests) in let no = sym within ∙ none in cc;
  beside = λ q r other. refl;
}
are_put (suc n) from v s x there =
    let one : Spaces _ = put_page v s from x in
    let keeps : KeepsSpaces v one = keeps_page_put v s from x there in
    let rest = are_put n (from + 1) one s x (keeps.there s ∙ there) in record {
      keeps = keeps_twice v one (put_pages one s (from + 1) n x) keeps rest.keeps;
      here = λ r within. by_key r from
          (λ same. rest.beside s r (λ _ later. not_first r same later) ∙ page_put_here v s from x s r refl same)
          (λ other. rest.here r (later r other within));
      beside = λ q r other. rest.beside q r (λ qq within. other qq (wider r within))
          ∙ page_put_beside v s from x q r (λ qq same. other qq (first r same));
    }
  where
    not_first : (r : ℕ) → r ≡ from → is_within (from + 1) n r ≡ true → ⊥
    not_first r same within = let no : is_within (from + 1) n r ≡ false = grind (arith, nat_tests) in let e = sym within ∙ no in cc

    later : (r : ℕ) → (r ≡ from → ⊥) → is_within from (suc n) r ≡ true → is_within (from + 1) n r ≡ true
    later r other within = grind (arith, nat_tests)

    wider : (r : ℕ) → is_within (from + 1) n r ≡ true → is_within from (suc n) r ≡ true
    wider r within = grind (arith, nat_tests)

    first : (r : ℕ) → r ≡ from → is_within from (suc n) r ≡ true
    first r same = grind (arith, nat_tests)

-- Pages taken away one after the other: none of them is there, and all else is as it was.
pub record AreCut {P : Type 0} (v w : Spaces P) (s from n : ℕ) : Type 0 where
  pub keeps : KeepsSpaces v w
  pub here : (r : ℕ) → is_within from n r ≡ true → page_in w s r ≡ None
  pub beside : (q r : ℕ) → (q ≡ s → is_within from n r ≡ true → ⊥) → page_in w q r ≡ page_in v q r

pub are_cut : {P : Type 0} (n from : ℕ) (v : Spaces P) (s : ℕ) → holds_space v s ≡ true → AreCut v (cut_pages v s from n) s from n
unfolding cut_pages
are_cut zero from v s there = record {
  keeps = keeps_still v;
  here = λ r within. let none : is_within from 0 r ≡ false = grind (arith, nat_tests) in let no = sym within ∙ none in cc;
  beside = λ q r other. refl;
}
are_cut (suc n) from v s there =
    let before : Spaces _ = cut_pages v s from n in
    let rest = are_cut n from v s there in
    let keeps : KeepsSpaces before (cut_page before s (from + n)) = keeps_page_cut before s (from + n) (rest.keeps.there s ∙ there) in record {
      keeps = keeps_twice v before (cut_page before s (from + n)) rest.keeps keeps;
      here = λ r within. by_key r (from + n)
          (λ same. page_cut_here before s (from + n) s r refl same)
          (λ other. page_cut_beside before s (from + n) s r (λ _ same. other same) ∙ rest.here r (earlier r other within));
      beside = λ q r other. page_cut_beside before s (from + n) q r (λ qq same. other qq (last r same))
          ∙ rest.beside q r (λ qq within. other qq (wider r within));
    }
  where
    earlier : (r : ℕ) → (r ≡ from + n → ⊥) → is_within from (suc n) r ≡ true → is_within from n r ≡ true
    earlier r other within = grind (arith, nat_tests)

    wider : (r : ℕ) → is_within from n r ≡ true → is_within from (suc n) r ≡ true
    wider r within = grind (arith, nat_tests)

    last : (r : ℕ) → r ≡ from + n → is_within from (suc n) r ≡ true
    last r same = grind (arith, nat_tests)

-- a page that comes after those that were taken away is as it was
pub after_cut : {P : Type 0} (k from : ℕ) (v : Spaces P) (s : ℕ) → holds_space v s ≡ true → page_in (cut_pages v s from k) s (from + k) ≡ page_in v s (from + k)
after_cut k from v s there =
    (are_cut k from v s there).beside s (from + k)
    (λ _ within. let no : is_within from k (from + k) ≡ false = grind (arith, nat_tests) in let e = sym within ∙ no in cc)

-- pages taken away in two parts are taken away
pub cut_twice : {P : Type 0} (k n from : ℕ) (v : Spaces P) (s : ℕ) → cut_pages (cut_pages v s from n) s (from + n) k ≡ cut_pages v s from (n + k)
unfolding cut_pages
cut_twice zero n from v s = let same : n ≡ n + 0 = omega arith in ap (cut_pages v s from) same
cut_twice (suc k) n from v s =
    let at : from + n + k ≡ from + (n + k) = omega arith in
    let last : suc (n + k) ≡ n + suc k = omega arith in
    ap (λ w. cut_page w s (from + n + k)) (cut_twice k n from v s) ∙ ap (cut_page (cut_pages v s from (n + k)) s) at ∙ ap (cut_pages v s from) last

-- one page taken away
pub cut_one : {P : Type 0} (v : Spaces P) (s p : ℕ) → cut_page v s p ≡ cut_pages v s p 1
unfolding cut_pages
cut_one v s p = let start : p ≡ p + 0 = omega arith in ap (cut_page v s) start
