use Rattle.std.proofs.Common.{◌≡◌, ℕ, zero, suc, ◌+◌, ◌<◌, Bool, true, false, cond, ◌||◌, List, [], ◌∷◌, ◌++◌, length, map, nat_eq, replicate, sym, ap, subst, ◌∙◌, refl, arith, Option, Some, None}
use Rattle.std.specs.Option.{is_some}
use Rattle.std.specs.List.{fold, list_any, range_with_len}
use Rattle.std.specs.Ordering.{nat_cmp, is_eq}
use Rattle.std.specs.Cmp.{nat_cmp_total}
use Rattle.std.specs.FinMap.{empty, get, insert, len, len-insert, get-insert}
use Rattle.std.proofs.lemmas.List.{append-nil, append_assoc, length-append, map-append}
use Rattle.std.proofs.lemmas.List.Sums.{fold-append}
use Rattle.number_maps.specs.Keys.{get_other, get_same, tied}
use Rattle.number_maps.specs.Views.{viewed, viewed_put}
use Rattle.ovl_io.specs.Memory.{Memory, Page}
use Rattle.ovl_io.specs.declared.perms.Perms.{Perms}
use Rattle.elf_loader.specs.Fields.{loads_of}
use Rattle.elf_loader.specs.Image.{image_page, is_stored, page_bytes, perms_in}
use Rattle.elf_loader.specs.TakenLaws.{zero_bytes}
use Rattle.page_table.specs.declared.entry.PageEntry.{PageEntry}
use Rattle.ledger.specs.Ledger.{Ledger, with_page}
use Rattle.ledger.specs.Alike.{AreAlike}
use Rattle.ledger.specs.AloneLaws.{are, arent, unused_without}
use Rattle.ledger.specs.Changes.{without_own}
use Rattle.ledger.specs.Origins.{new_origin}
use Rattle.ledger.specs.RowLaws.{loaded_new, loaded_zero}
use Rattle.overlay_pages.specs.Changes.{IsPlaced, whole_page, with_zeros}
use Rattle.overlay_pages.specs.Lines.{lines_of_bytes, zero_page}
use Rattle.overlay_pages.specs.State.{PageState, SpaceState, State, books, held_page, memory_of, seen_page}
use Rattle.space_maps.specs.Books.{books_put_page}
use Rattle.space_maps.specs.Laws.{page_of, page_put_beside, space_put}
use Rattle.space_maps.specs.Spaces.{holds_space, of_pages, page_in, put_page, put_pages, put_space, space_in}
use Rattle.machine_core.specs.Load.{zero_content}
use Rattle.overlay_memory.specs.View.{TranslatedView, translations_of}
use Rattle.translation_cache.specs.Translations.{flushed}
use Rattle.std.specs.declared.alloc.AllocError.{AllocError}
use Rattle.std.specs.Prelude.{Result, Ok, Err, OnOk, OnErr}
use Rattle.machine_core.specs.Loading.{IsUnseen, HasAdded, IsAdded, HasOpened, is_one_of, one_loaded}
use Rattle.machine_core.specs.PageLines.{lines_joined, page_length_is, zero_bytes_are}

-- Pages added to a space, one after the other.

-- a page that was placed
pub placed_added : (old new : State) (p page : ℕ) (perms : Perms) (bytes : List ℕ) → length bytes ≡ 4096
    → IsPlaced old new p page (λ frame. whole_page (record { perms = perms; frame = frame }) (lines_of_bytes bytes))
    → IsAdded old new p page (record { perms = perms.0; bytes = bytes }) true
placed_added old new p page perms bytes whole placed =
    let entry : PageEntry = record { perms = perms; frame = placed.frame } in
    let x : PageState = whole_page entry (lines_of_bytes bytes) in
    let other = arent placed.frame old.zero_frame placed.fresh.other in
    let origin : cond (nat_eq placed.frame old.zero_frame) 0 (placed.frame + 1) ≡ placed.frame + 1 = ap (λ b. cond b 0 (placed.frame + 1)) other in
    let now : books new ≡ with_page (books old) p page (without_own (placed.frame + 1)) =
    ap books placed.placed ∙ books_put_page held_page old p page x ∙ ap (λ n. with_page (books old) p page (without_own n)) origin in
    record {
      x = x;
      put = placed.placed;
      seen = ap (λ bs. record { perms = perms.0; bytes = bs }) (lines_joined bytes whole);
      alike = λ ledger alike.
          subst (λ (l : Ledger). AreAlike (with_page ledger p page (without_own (new_origin ledger))) l) (sym now)
          (loaded_new ledger (books old) alike p page (placed.frame + 1) (unused_without (books old) p page (placed.frame + 1) placed.fresh.unused));
    }

-- one on the zero frame
pub zero_added : (old new : State) (p page : ℕ) (perms : Perms) → new ≡ with_zeros old p page 1 (record { perms = perms; frame = old.zero_frame })
    → IsAdded old new p page (zero_content perms.0) false
unfolding with_zeros put_pages
zero_added old new p page perms is =
    let entry : PageEntry = record { perms = perms; frame = old.zero_frame } in
    let x : PageState = whole_page entry zero_page in
    let origin : cond (nat_eq old.zero_frame old.zero_frame) 0 (old.zero_frame + 1) ≡ 0 = ap (λ b. cond b 0 (old.zero_frame + 1)) (are old.zero_frame old.zero_frame refl) in
    let now : books new ≡ with_page (books old) p page (without_own 0) =
    ap books is ∙ books_put_page held_page old p page x ∙ ap (λ n. with_page (books old) p page (without_own n)) origin in
    record {
      x = x;
      put = is;
      seen = ap (λ bs. record { perms = perms.0; bytes = bs }) zero_bytes_are;
      alike = λ ledger alike.
          subst (λ (l : Ledger). AreAlike (with_page ledger p page (without_own 0)) l) (sym now) (loaded_zero ledger (books old) alike p page);
    }

-- a page of an image that isn't stored
pub unstored_page : (file : List ℕ) (page perms : ℕ) → is_stored file page ≡ false → perms_in (loads_of file) page ≡ perms
    → image_page file page ≡ zero_content perms
unstored_page file page perms none is =
    ap (λ n. record { perms = n; bytes = page_bytes file page }) is
    ∙ ap (λ bs. record { perms = perms; bytes = bs }) (zero_bytes file page none)
    ∙ ap (λ n. record { perms = perms; bytes = replicate n 0 }) (sym page_length_is)

-- What is among a list with one more.

any_push : (test : ℕ → Bool) (ps : List ℕ) (k : ℕ) → list_any test (ps ++ k ∷ []) ≡ (list_any test ps || test k)
any_push test [] k = last (test k)
  where
    last : (b : Bool) → (b || false) ≡ b
    last true = refl
    last false = refl
any_push test (p ∷ ps) k = ap (λ b. test p || b) (any_push test ps k) ∙ grouped (test p) (list_any test ps) (test k)
  where
    grouped : (a b c : Bool) → (a || (b || c)) ≡ ((a || b) || c)
    grouped true b c = refl
    grouped false b c = refl

either : {X : Type 0} (a b : Bool) (x y : X) → cond (a || b) x y ≡ cond b x (cond a x y)
either true true x y = refl
either true false x y = refl
either false b x y = refl

-- where two keys tie, what stands at one stands at the other
at_tie : (f : ℕ → Page) (q k : ℕ) (b : Bool) (rest : Option Page) → is_eq (nat_cmp q k) ≡ b → cond b (Some (f k)) rest ≡ cond b (Some (f q)) rest
at_tie f q k true rest h = ap (λ n. Some (f n)) (sym (tied q k h))
at_tie f q k false rest h = refl

one_more : (f : ℕ → Page) (ps : List ℕ) (k q : ℕ) (memory : Memory) (start : Option Page)
    → get memory q ≡ cond (is_one_of ps q) (Some (f q)) start
    → get (insert memory k (f k)) q ≡ cond (is_one_of (ps ++ k ∷ []) q) (Some (f q)) start
one_more f ps k q memory start so_far =
    get-insert nat_cmp_total memory k (f k) q
    ∙ ap (cond (is_eq (nat_cmp q k)) (Some (f k))) so_far
    ∙ at_tie f q k (is_eq (nat_cmp q k)) _ refl
    ∙ sym (either (is_one_of ps q) (is_eq (nat_cmp q k)) (Some (f q)) start)
    ∙ sym (ap (λ (b : Bool). cond b (Some (f q)) start) (any_push (λ p. is_eq (nat_cmp q p)) ps k))

-- a page put into a space
space_with : (s : State) (p page : ℕ) (x : PageState) → space_in (put_page s p page x) p ≡ of_pages (space_in s p) (insert (space_in s p).pages page x)
unfolding put_page
space_with s p page x = space_put s p (of_pages (space_in s p) (insert (space_in s p).pages page x)) p refl

memory_with : (s : State) (p page : ℕ) (x : PageState) → memory_of (put_page s p page x) p ≡ insert (memory_of s p) page (seen_page x)
unfolding memory_of
memory_with s p page x =
    ap (λ (y : SpaceState). viewed (λ _ z. seen_page z) y.pages) (space_with s p page x) ∙ viewed_put (λ _ z. seen_page z) (space_in s p).pages page x

pages_with : (s : State) (p page : ℕ) (x : PageState) → page_in s p page ≡ None → len (space_in (put_page s p page x) p).pages ≡ len (space_in s p).pages + 1
pages_with s p page x absent =
    ap (λ (y : SpaceState). len y.pages) (space_with s p page x)
    ∙ len-insert nat_cmp_total (space_in s p).pages page x
    ∙ ap (λ (o : Option PageState). cond (is_some o) (len (space_in s p).pages) (len (space_in s p).pages + 1)) (sym (page_of s p page) ∙ absent)

open_with : (p : ℕ) (before now new : State) (page : ℕ) (x : PageState) → HasOpened p before now → new ≡ put_page now p page x → HasOpened p before new
unfolding put_page put_space
open_with p before now new page x open_now is = record {
  there = ap (λ (s : State). holds_space s p) is ∙ ap is_some (get_same now.spaces p p _ refl);
  none_awaits = ap (λ (s : State). (space_in s p).awaiting) is ∙ ap (λ (y : SpaceState). y.awaiting) (space_with now p page x) ∙ open_now.none_awaits;
  mark = ap (λ (s : State). (space_in s p).speculating) is ∙ ap (λ (y : SpaceState). y.speculating) (space_with now p page x) ∙ open_now.mark;
  others = λ q other. ap (λ (s : State). get s.spaces q) is ∙ get_other now.spaces p q _ other ∙ open_now.others q other;
  frames = ap (λ (s : State). s.frames) is ∙ open_now.frames;
  zero_frame = ap (λ (s : State). s.zero_frame) is ∙ open_now.zero_frame;
}

pub open_itself : (p : ℕ) (s : State) → holds_space s p ≡ true → (space_in s p).awaiting ≡ empty → HasOpened p s s
open_itself p s there none_awaits = record { there = there; none_awaits = none_awaits; mark = refl; others = λ q other. refl; frames = refl; zero_frame = refl }

pub open_chain : (p : ℕ) (a b c : State) → HasOpened p a b → HasOpened p b c → HasOpened p a c
open_chain p a b c h k = record {
  there = k.there;
  none_awaits = k.none_awaits;
  mark = k.mark ∙ h.mark;
  others = λ q other. k.others q other ∙ h.others q other;
  frames = k.frames ∙ h.frames;
  zero_frame = k.zero_frame ∙ h.zero_frame;
}

-- none yet, and one more
pub added_none : (p : ℕ) (s : State) (content : ℕ → Page) (mark : ℕ → Bool) → HasOpened p s s → HasAdded s s p content mark []
added_none p s content mark h = record { memory = λ q. refl; count = omega arith; ledger = λ a alike. alike; rest = h }

module _ (before now new : State) (p : ℕ) (content : ℕ → Page) (mark : ℕ → Bool) (pages : List ℕ) (page : ℕ) where
  pub added_more : HasAdded before now p content mark pages → IsAdded now new p page (content page) (mark page) → page_in now p page ≡ None
      → HasAdded before new p content mark (pages ++ page ∷ [])
  added_more so_far added absent = record {
    memory = λ q.
        ap (λ (s : State). get (memory_of s p) q) added.put ∙ ap (λ (m : Memory). get m q) (memory_with now p page added.x ∙ ap (insert (memory_of now p) page) added.seen)
        ∙ one_more content pages page q (memory_of now p) (get (memory_of before p) q) (so_far.memory q);
    count = omega (arith, ap (λ (s : State). len (space_in s p).pages) added.put, pages_with now p page added.x absent, so_far.count, length-append pages (page ∷ []));
    ledger = λ a alike.
        subst (λ (l : Ledger). AreAlike l (books new))
        (sym (ap (fold (one_loaded p) a) (map-append (λ q. (q, mark q)) pages (page ∷ [])) ∙ fold-append (one_loaded p) a (map (λ q. (q, mark q)) pages) ((page, mark page) ∷ [])))
        (added.alike (fold (one_loaded p) a (map (λ q. (q, mark q)) pages)) (so_far.ledger a alike));
    rest = open_with p before now new page added.x so_far.rest added.put;
  }

-- zeros, one behind the other
module _ (before : State) (p : ℕ) (content : ℕ → Page) (mark : ℕ → Bool) (perms : Perms) where
  pub zeros_added : (n : ℕ) (now new : State) (pages : List ℕ) (page : ℕ) → HasAdded before now p content mark pages
      → new ≡ with_zeros now p page n (record { perms = perms; frame = now.zero_frame })
      → ((k : ℕ) → k < n → content (page + k) ≡ zero_content perms.0) → ((k : ℕ) → k < n → mark (page + k) ≡ false)
      → ((k : ℕ) → k < n → page_in now p (page + k) ≡ None) → HasAdded before new p content mark (pages ++ range_with_len page n)
  unfolding with_zeros put_pages put_page put_space
  zeros_added zero now new pages page so_far is zeros marks absent =
      subst (λ (s : State). HasAdded before s p content mark (pages ++ [])) (sym is)
      (subst (HasAdded before now p content mark) (sym (append-nil pages)) so_far)
  zeros_added (suc n) now new pages page so_far is zeros marks absent =
      let mid : State = put_page now p page (whole_page (record { perms = perms; frame = now.zero_frame }) zero_page) in
      let first : page + 0 ≡ page = omega arith in
      let one : IsAdded now mid p page (content page) (mark page) =
      subst (λ c. IsAdded now mid p page c (mark page)) (sym (sym (ap content first) ∙ zeros 0 (omega arith)))
      (subst (IsAdded now mid p page (zero_content perms.0)) (sym (sym (ap mark first) ∙ marks 0 (omega arith))) (zero_added now mid p page perms refl)) in
      let more = added_more before now mid p content mark pages page so_far one (sym (ap (page_in now p) first) ∙ absent 0 (omega arith)) in
      let up : (k : ℕ) → page + suc k ≡ page + 1 + k = λ k. omega arith in
      subst (HasAdded before new p content mark) (append_assoc pages (page ∷ []) (range_with_len (page + 1) n))
      (zeros_added n mid new (pages ++ page ∷ []) (page + 1) more is
      (λ k below. sym (ap content (up k)) ∙ zeros (suc k) (omega (arith, below)))
      (λ k below. sym (ap mark (up k)) ∙ marks (suc k) (omega (arith, below)))
      (λ k below. page_put_beside now p page (whole_page (record { perms = perms; frame = now.zero_frame }) zero_page) p (page + 1 + k) (λ same here. absurd (omega (arith, here)))
      ∙ sym (ap (page_in now p) (up k)) ∙ absent (suc k) (omega (arith, below))))

-- pages were added, or nothing was done
pub open_either : (result : Result (Unit {0}) AllocError) (before new : State) (p : ℕ) (content : ℕ → Page) (mark : ℕ → Bool) (pages : List ℕ) → HasOpened p before before
    → OnOk result (HasAdded before new p content mark pages) → OnErr result (new ≡ before) → HasOpened p before new
open_either (Ok done) before new p content mark pages itself added kept = added.rest
open_either (Err error) before new p content mark pages itself added kept = subst (HasOpened p before) (sym kept) itself

-- what is flushed of a space of which nothing was translated
pub zero_lists : (result : Result (Unit {0}) AllocError) (p : ℕ) (old new : TranslatedView)
    → OnOk result (translations_of new ≡ flushed p (translations_of old)) → OnErr result (new ≡ old) → IsUnseen p (translations_of old)
    → translations_of new ≡ translations_of old
zero_lists (Ok done) p old new flush kept unseen = flush ∙ unseen
zero_lists (Err error) p old new flush kept unseen = ap translations_of kept
