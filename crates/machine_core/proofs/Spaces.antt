use Rattle.std.proofs.Common.{◌≡◌, ℕ, ◌+◌, ◌*◌, ◌≤◌, Bool, true, false, cond, ◌||◌, List, [], ◌∷◌, ◌++◌, map, sym, ap, subst, ◌∙◌, refl, arith, append-nil, inl, inr, Option, Some, None}
use Rattle.std.specs.List.{fold}
use Rattle.std.specs.Option.{is_some}
use Rattle.std.specs.Ordering.{nat_cmp, is_eq}
use Rattle.std.specs.Cmp.{nat_cmp_total}
use Rattle.std.specs.FinMap.{empty, find, get, get-from_entries, insert, remove}
use Rattle.std.proofs.lemmas.Bool.{cases_lt}
use Rattle.std.proofs.lemmas.List.Sums.{fold-append}
use Rattle.number_maps.specs.Keys.{alike, by_key, get_other, get_same, removed_other, removed_same, tied}
use Rattle.number_maps.specs.Values.{remove_absent}
use Rattle.number_maps.specs.Views.{viewed_empty}
use Rattle.ovl_io.specs.Memory.{Page}
use Rattle.elf_loader.specs.Accepted.{file_refusal}
use Rattle.elf_loader.specs.Image.{image_page, image_pages, is_stored}
use Rattle.elf_loader.specs.TakenLaws.{low_page}
use Rattle.ledger.specs.Alike.{AreAlike}
use Rattle.ledger.specs.AlikeLaws.{alike_itself}
use Rattle.ledger.specs.Ledger.{Ledger, all_holdings}
use Rattle.ledger.specs.TallyLaws.{empty_holdings, same_units}
use Rattle.ledger.specs.Units.{units}
use Rattle.overlay_pages.specs.Changes.{limit_of, units_of}
use Rattle.overlay_pages.specs.State.{PageState, SpaceState, State, books, held_page}
use Rattle.space_maps.specs.Books.{books_put, books_spaces}
use Rattle.space_maps.specs.Laws.{space_put}
use Rattle.space_maps.specs.Spaces.{bare_space, cut_space, holds_space, put_space, space_in}
use Rattle.machine_core.specs.Load.{image_memory, load_pages, loaded_ledger, stack_page, stack_pages, stored_pages}
use Rattle.machine_core.specs.Loading.{HasPages, HasOpened, IsSpaceOf, is_one_of, one_loaded}
use Rattle.machine_core.proofs.Images.{above_all, bare_page, isnt_seen, none_below}
use Rattle.machine_core.proofs.Marks.{units_after_load}

-- A space that is made for a load.

-- none is there
pub absent_at : (s : State) (p : ℕ) → holds_space s p ≡ false → get s.spaces p ≡ None
absent_at s p without = lacks (get s.spaces p) without
  where
    lacks : (o : Option SpaceState) → is_some o ≡ false → o ≡ None
    lacks None h = refl
    lacks (Some x) h = cc

pub ledger_absent : (s : State) (p : ℕ) → holds_space s p ≡ false → get (books s) p ≡ None
ledger_absent s p without = lacks (get (books s) p) (books_spaces held_page s p ∙ without)
  where
    lacks : {X : Type 0} (o : Option X) → is_some o ≡ false → o ≡ None
    lacks None h = refl
    lacks (Some x) h = cc

-- what a list of pages and then others has at a key
at_tie : (f : ℕ → Page) (q k : ℕ) (b : Bool) (rest : Option Page) → is_eq (nat_cmp q k) ≡ b → cond b (Some (f k)) rest ≡ cond b (Some (f q)) rest
at_tie f q k true rest h = ap (λ n. Some (f n)) (sym (tied q k h))
at_tie f q k false rest h = refl

find_pages : (f : ℕ → Page) (ps : List ℕ) (others : List (ℕ × Page)) (q : ℕ)
    → find nat_cmp q (map (λ p. (p, f p)) ps ++ others) ≡ cond (is_one_of ps q) (Some (f q)) (find nat_cmp q others)
find_pages f [] others q = refl
find_pages f (p ∷ ps) others q =
    ap (cond (is_eq (nat_cmp q p)) (Some (f p))) (find_pages f ps others q)
    ∙ at_tie f q p (is_eq (nat_cmp q p)) _ refl
    ∙ first (is_eq (nat_cmp q p)) (is_one_of ps q) (Some (f q)) (find nat_cmp q others)
  where
    first : (a b : Bool) (x y : Option Page) → cond a x (cond b x y) ≡ cond (a || b) x y
    first true b x y = refl
    first false b x y = refl

image_at : (file : List ℕ) (q : ℕ) → get (image_memory file) q
    ≡ cond (is_one_of (image_pages file) q) (Some (image_page file q)) (cond (is_one_of stack_pages q) (Some stack_page) None)
image_at file q =
    get-from_entries nat_cmp_total _ q ∙ find_pages (image_page file) (image_pages file) (map (λ p. (p, stack_page)) stack_pages) q
    ∙ ap (cond (is_one_of (image_pages file) q) (Some (image_page file q)))
    (ap (find nat_cmp q) (sym (append-nil (map (λ p. (p, stack_page)) stack_pages))) ∙ find_pages (λ _. stack_page) stack_pages [] q)

-- no page of the image is one of the stack
apart : (file : List ℕ) (q : ℕ) → file_refusal file ≡ None → is_one_of stack_pages q ≡ true → is_one_of (image_pages file) q ≡ false
unfolding stack_pages
apart file q taken stack = elim (cases_lt q 67108848) [
  | inl below ↦ absurd (let no = sym (none_below q 67108848 16 below) ∙ stack in cc)
  | inr above ↦ above_all q 67108848 (image_pages file) (λ i less. low_page file i taken less) above
]

swapped : (a b : Bool) (x y : Option Page) → (b ≡ true → a ≡ false) → cond b y (cond a x None) ≡ cond a x (cond b y None)
swapped true true x y h = let no = h refl in cc
swapped true false x y h = refl
swapped false true x y h = refl
swapped false false x y h = refl

module _ (file : List ℕ) (p : ℕ) (old begun : State) (taken : file_refusal file ≡ None) (absent : holds_space old p ≡ false) (is : begun ≡ put_space old p bare_space) where
  pub begun_there : holds_space begun p ≡ true
  unfolding put_space
  begun_there = ap (λ (s : State). holds_space s p) is ∙ ap is_some (get_same old.spaces p p bare_space refl)

  pub begun_bare : space_in begun p ≡ bare_space
  begun_bare = ap (λ (s : State). space_in s p) is ∙ space_put old p bare_space p refl

  begun_frames : begun.frames ≡ old.frames
  unfolding put_space
  begun_frames = ap (λ (s : State). s.frames) is

  begun_zero : begun.zero_frame ≡ old.zero_frame
  unfolding put_space
  begun_zero = ap (λ (s : State). s.zero_frame) is

  begun_others : (q : ℕ) → (q ≡ p → ⊥) → get begun.spaces q ≡ get old.spaces q
  unfolding put_space
  begun_others q other = ap (λ (s : State). get s.spaces q) is ∙ get_other old.spaces p q bare_space other

  begun_ledger : books begun ≡ insert (books old) p empty
  begun_ledger =
      ap books is ∙ books_put held_page old p bare_space
      ∙ ap (insert (books old) p) (viewed_empty (λ (page : ℕ) (y : PageState). held_page old.zero_frame y))

  pub begun_fits : units (loaded_ledger p file (books old)) ≤ limit_of old → units_of begun + 16 * stored_pages file ≤ limit_of begun
  begun_fits fits =
      let none = ledger_absent old p absent in
      let all = units_after_load p file (books old) taken none in
      let same = same_units (insert (books old) p empty) (books old) (empty_holdings (books old) p empty refl ∙ ap all_holdings (remove_absent (books old) p none)) in
      let now = ap units begun_ledger in
      let limit = ap (λ n. 16 * n) begun_frames in
      omega (arith, fits, all, same, now, limit)

  -- all its pages were added
  pub made : (new : State) → HasPages file p begun new → IsSpaceOf file p old new
  unfolding loaded_ledger load_pages
  made new pages =
      let images = map (λ q. (q, is_stored file q)) (image_pages file) in
      let stack = map (λ q. (q, false)) stack_pages in
      let base : Ledger = insert (books old) p empty in
      let start = subst (λ (l : Ledger). AreAlike base l) (sym begun_ledger) (alike_itself base) in
      record {
        memory = alike _ _ (λ q.
            pages.stack.memory q ∙ ap (cond (is_one_of stack_pages q) (Some stack_page)) (pages.image.memory q)
            ∙ ap (λ (o : Option Page). cond (is_one_of stack_pages q) (Some stack_page) (cond (is_one_of (image_pages file) q) (Some (image_page file q)) o)) (isnt_seen begun p q (bare_page begun p begun_bare q))
            ∙ swapped (is_one_of (image_pages file) q) (is_one_of stack_pages q) (Some (image_page file q)) (Some stack_page) (apart file q taken)
            ∙ sym (image_at file q));
        ledger = subst (λ (l : Ledger). AreAlike l (books new)) (sym (fold-append (one_loaded p) base images stack))
            (pages.stack.ledger (fold (one_loaded p) base images) (pages.image.ledger base start));
        there = pages.stack.rest.there;
        none_awaits = pages.stack.rest.none_awaits;
        mark = pages.stack.rest.mark ∙ pages.image.rest.mark ∙ ap (λ (x : SpaceState). x.speculating) begun_bare;
        others = λ q other. pages.stack.rest.others q other ∙ pages.image.rest.others q other ∙ begun_others q other;
        frames = pages.stack.rest.frames ∙ pages.image.rest.frames ∙ begun_frames;
        zero_frame = pages.stack.rest.zero_frame ∙ pages.image.rest.zero_frame ∙ begun_zero;
      }

  -- or it was given up
  pub given_up : (now new : State) → HasOpened p begun now → new ≡ cut_space now p → new ≡ old
  unfolding cut_space
  given_up now new rest cut =
      let spaces : remove now.spaces p ≡ old.spaces = alike _ _ (λ q. by_key q p
      (λ same. removed_same now.spaces p q same ∙ sym (ap (get old.spaces) same ∙ absent_at old p absent))
      (λ other. removed_other now.spaces p q other ∙ rest.others q other ∙ begun_others q other)) in
      let frames : now.frames ≡ old.frames = rest.frames ∙ begun_frames in
      let zero_frame : now.zero_frame ≡ old.zero_frame = rest.zero_frame ∙ begun_zero in
      cut ∙ (λ i. record { spaces = spaces i; frames = frames i; zero_frame = zero_frame i })
