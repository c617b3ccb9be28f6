use Rattle.std.proofs.Common.{◌≡◌, ℕ, zero, suc, ◌+◌, ◌-◌, ◌*◌, ◌/◌, ◌%◌, ◌<◌, ◌≤◌, ◌||◌, Bool, true, false, cond, nat_lt, nat_eq, sym, ap, subst, ◌∙◌, refl, arith, Option, Some, None}
use Rattle.std.specs.Prelude.{[], ◌∷◌, ◌==◌, not, IsSome, IsTrue}
use Rattle.std.specs.Option.{is_some, option_map}
use Rattle.std.specs.List.{fold, range_with_len}
use Rattle.std.specs.FinMap.{get, insert, len, remove}
use Rattle.std.proofs.lemmas.Bool.Decides.{nat_tests}
use Rattle.number_maps.specs.Views.{len_viewed, viewed, viewed_gone}
use Rattle.sizes.specs.declared.TheConstants.{ADDRESS_END, MOST_SPACE_PAGES, PAGE_BYTES, PAGE_END}
use Rattle.ovl_io.specs.Memory.{Memory, Page}
use Rattle.ovl_io.specs.declared.perms.Perms.{Perms}
use Rattle.ledger.specs.Alike.{AreAlike}
use Rattle.ledger.specs.AlikeLaws.{alike_itself}
use Rattle.ledger.specs.AloneLaws.{are}
use Rattle.ledger.specs.Changes.{without_own}
use Rattle.ledger.specs.Events.{Event, ledger_after}
use Rattle.ledger.specs.Events as event
use Rattle.ledger.specs.Ledger.{Holding, Ledger, with_page, without_page}
use Rattle.overlay_pages.specs.Calls.{IsNextPage}
use Rattle.overlay_pages.specs.Changes.{whole_page, with_zeros}
use Rattle.overlay_pages.specs.Lines.{zero_page}
use Rattle.overlay_pages.specs.State.{PageState, SpaceState, State, base_of, books, held_page, memory_of, seen_page}
use Rattle.overlay_memory.specs.View.{TranslatedView, state_of, translations_of}
use Rattle.overlay_memory.specs.Access.{IsFirstAbsent}
use Rattle.overlay_memory.specs.StateMemory.{memory_at, memory_put}
use Rattle.page_table.specs.declared.entry.PageEntry.{PageEntry}
use Rattle.page_table.specs.Table.{is_within}
use Rattle.space_maps.specs.Books.{books_cut_page, books_put_page}
use Rattle.space_maps.specs.Laws.{KeepsSpaces, are_cut, are_put, space_beside, space_put}
use Rattle.space_maps.specs.Spaces.{cut_page, cut_pages, holds_space, of_pages, page_in, put_page, put_pages, put_space, space_in}
use Rattle.machine_core.specs.Load.{zero_content}
use Rattle.machine_core.specs.PageLines.{zero_bytes_are}
use Rattle.machine_core.specs.Process.{Process}
use Rattle.machine_core.specs.declared.process.Process as declared
use Rattle.machine_core.specs.Machine.{AreLike, Machine, is_marked, processes_of, spaces_of, whole_in, wholes, with_memory, lists_of}
use Rattle.report_text.specs.declared.answer.Answer.TheVariants.{Done, Refused}
use Rattle.report_text.specs.declared.answer.Code.{Code}
use Rattle.report_text.specs.declared.answer.Code.TheVariants.{Mapped, Outside}
use Rattle.translation_cache.specs.Translations.{flushed}
use Rattle.command_core.specs.declared.process_changes.ProcessChange.TheVariants.{Map, Unmap}
use Rattle.command_core.specs.State.{Registry}
use Rattle.command_core.specs.Sessions.{KeepsSession, HaveFitPages}
use Rattle.command_core.specs.Rows.{Row, first_refusal}
use Rattle.command_core.specs.Refusals.{are_too_many, has_page, lie_outside, lowest, map_refusals, place_refusals, unmap_refusals}
use Rattle.command_core.specs.Mapping.{FindsGap, FindsMapped, RefusesMap, RefusesUnmap, lacks_page}
use Rattle.command_core.specs.ProcessChanges.{ChangesProcess, process_row, pages_gone, pages_mapped, with_pages}
use Rattle.command_core.proofs.Rows.{machine_done, machine_refused}
use Rattle.command_core.proofs.Speculating.{kept_before, kept_by, put_again, saved_here, speculates, stays, wholes_are, wholes_left}
use Rattle.command_core.proofs.Fitting.{fit_gone, fit_mapped}
use Rattle.delta_image.specs.Fine.{are_perms}
use Rattle.delta_spaces.specs.Gathered.{HasFitPages}

-- Pages that are mapped, and that are given up.

-- The lowest of some pages of which something holds.

by_first : {R : Type 0} (from found : ℕ) → from ≤ found → (found ≡ from → R) → (from < found → R) → R
by_first {R = R} from found le same above = by_test (nat_lt from found) refl
  where
    by_test : (b : Bool) → nat_lt from found ≡ b → R
    by_test true e = above (grind (arith, nat_tests))
    by_test false e = same (grind (arith, nat_tests))

pub lowest_is : (holds : ℕ → Bool) (n from found : ℕ) → from ≤ found → found < from + n → holds found ≡ true → ((q : ℕ) → from ≤ q → q < found → holds q ≡ false)
    → Some found ≡ lowest holds from n
lowest_is holds zero from found low high is before = absurd (omega (arith, low, high))
lowest_is holds (suc n) from found low high is before = by_first from found low
    (λ same. ap Some same ∙ sym (ap (λ b. cond b (Some from) (lowest holds (from + 1) n)) (ap holds (sym same) ∙ is)))
    (λ above. lowest_is holds n (from + 1) found (omega (arith, above)) (omega (arith, high)) is (λ q le lt. before q (omega (arith, le)) lt)
    ∙ sym (ap (λ b. cond b (Some from) (lowest holds (from + 1) n)) (before from (omega arith) above)))

pub lowest_none : (holds : ℕ → Bool) (n from : ℕ) → ((q : ℕ) → from ≤ q → q < from + n → holds q ≡ false) → None ≡ lowest holds from n
lowest_none holds zero from none = refl
lowest_none holds (suc n) from none =
    lowest_none holds n (from + 1) (λ q le lt. none q (omega (arith, le)) (omega (arith, lt)))
    ∙ sym (ap (λ b. cond b (Some from) (lowest holds (from + 1) n)) (none from (omega arith) (omega arith)))

-- whether a page is there, and isn't
has_at : (v : State) (s q : ℕ) → has_page (memory_of v s) q ≡ is_some (page_in v s q)
has_at v s q = ap is_some (memory_at v s q) ∙ at (page_in v s q)
  where
    at : (o : Option PageState) → is_some (option_map seen_page o) ≡ is_some o
    at None = refl
    at (Some x) = refl

some_is : {X : Type 0} (o : Option X) → IsSome o → is_some o ≡ true
some_is o h = h

has_some : (v : State) (s q : ℕ) → IsSome (page_in v s q) → has_page (memory_of v s) q ≡ true
has_some v s q there = has_at v s q ∙ some_is (page_in v s q) there

has_none : (v : State) (s q : ℕ) → page_in v s q ≡ None → has_page (memory_of v s) q ≡ false
has_none v s q absent = has_at v s q ∙ ap is_some absent

module _ (v : State) (p page n : ℕ) where
  inside : (q : ℕ) → is_within page n q ≡ true → (page ≤ q) × (q < page + n)
  inside q within = (grind (arith, nat_tests), grind (arith, nat_tests))

  pub finds_page : (found : ℕ) → page + n ≤ PAGE_END → IsNextPage v p page (Some found) → found < page + n → FindsMapped v p page n (Some found)
  finds_page found end (low, there, before) high =
      (lowest_is (has_page (memory_of v p)) n page found low high (has_some v p found there) (λ q le lt. has_none v p q (before q le lt)), omega (arith, high, end))

  pub finds_none : IsNextPage v p page None → FindsMapped v p page n None
  finds_none absent =
      (lowest_none (has_page (memory_of v p)) n page (λ q le lt. has_none v p q (absent q le)), λ q within. absent q (inside q within).0)

  pub finds_later : (found : ℕ) → IsNextPage v p page (Some found) → page + n ≤ found → FindsMapped v p page n None
  finds_later found (low, there, before) high = (
    lowest_none (has_page (memory_of v p)) n page (λ q le lt. has_none v p q (before q le (omega (arith, lt, high)))),
    λ q within. let in_range = inside q within in before q in_range.0 (omega (arith, in_range.1, high)),
  )

  lacks_none : (q : ℕ) → IsSome (page_in v p q) → lacks_page (memory_of v p) q ≡ false
  lacks_none q there = ap not (has_some v p q there)

  pub finds_gap : (found : ℕ) → page + n ≤ PAGE_END → IsFirstAbsent v p page n (Some found) → FindsGap v p page n (Some found)
  finds_gap found end (low, high, absent, before) =
      (lowest_is (lacks_page (memory_of v p)) n page found low high (ap not (has_none v p found absent)) (λ q le lt. lacks_none q (before q le lt)), omega (arith, high, end))

  pub finds_no_gap : IsFirstAbsent v p page n None → FindsGap v p page n None
  finds_no_gap there =
      (lowest_none (lacks_page (memory_of v p)) n page (λ q le lt. lacks_none q (at q (page + (q - page)) (omega (arith, le)) (there (q - page) (omega (arith, le, lt))))), there)
    where
      at : (q r : ℕ) → r ≡ q → IsSome (page_in v p r) → IsSome (page_in v p q)
      at q r same h = subst (λ k. IsSome (page_in v p k)) same h

-- Pages that don't lie outside end at the end of user addresses, counted by pages too.

both_false : (a b : Bool) → false ≡ a || b → (false ≡ a) × (false ≡ b)
both_false true b h = cc
both_false false b h = (refl, h)

not_not : (b : Bool) → false ≡ not b → b ≡ true
not_not true h = refl
not_not false h = cc

pub low_pages : (address n : ℕ) → false ≡ lie_outside address n → address / PAGE_BYTES + n ≤ PAGE_END
low_pages address n inside =
    let parts = both_false (not (address % PAGE_BYTES == 0)) (nat_lt ADDRESS_END (address + PAGE_BYTES * n)) inside in
    let begins : (address % PAGE_BYTES == 0) ≡ true = not_not (address % PAGE_BYTES == 0) parts.0 in
    let starts : address % PAGE_BYTES ≡ 0 = grind (arith, nat_tests) in
    let ends : address + PAGE_BYTES * n ≤ ADDRESS_END = grind (arith, nat_tests) in
    omega (arith, starts, ends)

-- The first refusal.

module _ (mark : Bool) (outside : Bool) (page : Option Code) where
  outside_first : false ≡ mark → true ≡ outside → Some Outside ≡ first_refusal (place_refusals mark outside page)
  outside_first unmarked is = ap (λ b. first_refusal (place_refusals false b page)) is ∙ ap (λ b. first_refusal (place_refusals b outside page)) unmarked

  page_first : false ≡ mark → false ≡ outside → first_refusal (page ∷ []) ≡ first_refusal (place_refusals mark outside page)
  page_first unmarked inside = ap (λ b. first_refusal (place_refusals false b page)) inside ∙ ap (λ b. first_refusal (place_refusals b outside page)) unmarked

page_count : (v : State) (p : ℕ) → len (memory_of v p) ≡ len (space_in v p).pages
unfolding memory_of
page_count v p = len_viewed (λ _ x. seen_page x) (space_in v p).pages

module _ (v : State) (p address n : ℕ) where
  abbrev mark : Bool
  mark = (space_in v p).speculating

  abbrev memory : Memory
  memory = memory_of v p

  abbrev here : Option ℕ
  here = lowest (has_page memory) (address / PAGE_BYTES) n

  abbrev too_far : Bool
  too_far = lie_outside address n || are_too_many memory n

  many_is : (pages : ℕ) (b : Bool) → pages ≡ len (space_in v p).pages → nat_lt MOST_SPACE_PAGES (pages + n) ≡ b → are_too_many memory n ≡ b
  many_is pages b count is = ap (λ k. nat_lt MOST_SPACE_PAGES (k + n)) (page_count v p ∙ sym count) ∙ is

  pub map_many : (pages : ℕ) → false ≡ mark → false ≡ lie_outside address n → pages ≡ len (space_in v p).pages → MOST_SPACE_PAGES < pages + n
      → RefusesMap v p address n (Some Outside)
  map_many pages unmarked inside count over =
      let many = many_is pages true count (grind (arith, nat_tests)) in
      (outside_first mark too_far (option_map (λ page. Mapped (PAGE_BYTES * page)) here) unmarked (sym many ∙ ap (λ b. b || are_too_many memory n) inside), tt)

  not_many : (pages : ℕ) → false ≡ lie_outside address n → pages ≡ len (space_in v p).pages → pages + n ≤ MOST_SPACE_PAGES → false ≡ too_far
  not_many pages inside count few =
      let some : nat_lt MOST_SPACE_PAGES (pages + n) ≡ false = grind (arith, nat_tests) in
      sym (many_is pages false count some) ∙ ap (λ b. b || are_too_many memory n) inside

  pub map_here : (pages found at : ℕ) → false ≡ mark → false ≡ lie_outside address n → pages ≡ len (space_in v p).pages → pages + n ≤ MOST_SPACE_PAGES
      → FindsMapped v p (address / PAGE_BYTES) n (Some found) → at ≡ PAGE_BYTES * found → RefusesMap v p address n (Some (Mapped at))
  map_here pages found at unmarked inside count few (is, low) at_is = (
    ap (λ k. Some (Mapped k)) at_is ∙ ap (λ o. first_refusal (option_map (λ page. Mapped (PAGE_BYTES * page)) o ∷ [])) is
        ∙ page_first mark too_far (option_map (λ page. Mapped (PAGE_BYTES * page)) here) unmarked (not_many pages inside count few),
    tt,
  )

  pub map_free : (pages : ℕ) → false ≡ mark → false ≡ lie_outside address n → pages ≡ len (space_in v p).pages → pages + n ≤ MOST_SPACE_PAGES
      → FindsMapped v p (address / PAGE_BYTES) n None → RefusesMap v p address n None
  map_free pages unmarked inside count few (is, absent) = (
    ap (λ o. first_refusal (option_map (λ page. Mapped (PAGE_BYTES * page)) o ∷ [])) is
        ∙ page_first mark too_far (option_map (λ page. Mapped (PAGE_BYTES * page)) here) unmarked (not_many pages inside count few),
    record { low = low_pages address n inside; few = subst (λ k. k + n ≤ MOST_SPACE_PAGES) count few; absent = absent },
  )

-- Pages put, and taken away, one after the other: the memory of the space, the ledger, and the other spaces.

memory_cut : (v : State) (s p : ℕ) → memory_of (cut_page v s p) s ≡ remove (memory_of v s) p
unfolding memory_of cut_page
memory_cut v s p =
    ap (λ (y : SpaceState). viewed (λ _ x. seen_page x) y.pages) (space_put v s (of_pages (space_in v s) (remove (space_in v s).pages p)) s refl)
    ∙ viewed_gone (λ _ x. seen_page x) (space_in v s).pages p

memory_puts : (n from : ℕ) (v : State) (s : ℕ) (x : PageState) (y : Page) → seen_page x ≡ y
    → memory_of (put_pages v s from n x) s ≡ fold (λ m page. insert m page y) (memory_of v s) (range_with_len from n)
unfolding put_pages
memory_puts zero from v s x y same = refl
memory_puts (suc n) from v s x y same =
    memory_puts n (from + 1) (put_page v s from x) s x y same
    ∙ ap (λ (m : Memory). fold (λ m page. insert m page y) m (range_with_len (from + 1) n)) (memory_put v s from x ∙ ap (insert (memory_of v s) from) same)

books_puts : (n from : ℕ) (v : State) (s : ℕ) (x : PageState) (h : Holding) → held_page v.zero_frame x ≡ h
    → books (put_pages v s from n x) ≡ fold (λ ledger page. with_page ledger s page h) (books v) (range_with_len from n)
unfolding put_pages put_page put_space
books_puts zero from v s x h same = refl
books_puts (suc n) from v s x h same =
    books_puts n (from + 1) (put_page v s from x) s x h same
    ∙ ap (λ (l : Ledger). fold (λ ledger page. with_page ledger s page h) l (range_with_len (from + 1) n)) (books_put_page held_page v s from x ∙ ap (with_page (books v) s from) same)

others_puts : (n from : ℕ) (v : State) (s : ℕ) (x : PageState) (q : ℕ) → (q ≡ s → ⊥) → space_in (put_pages v s from n x) q ≡ space_in v q
unfolding put_pages put_page
others_puts zero from v s x q other = refl
others_puts (suc n) from v s x q other = others_puts n (from + 1) (put_page v s from x) s x q other ∙ space_beside v s _ q other

-- the first one goes first
cut_first : (k from : ℕ) (v : State) (s : ℕ) → cut_pages v s from (suc k) ≡ cut_pages (cut_page v s from) s (from + 1) k
unfolding cut_pages
cut_first zero from v s = let start : from + 0 ≡ from = omega arith in ap (cut_page v s) start
cut_first (suc k) from v s =
    let next : from + suc k ≡ from + 1 + k = omega arith in
    ap (λ (w : State). cut_page w s (from + suc k)) (cut_first k from v s) ∙ ap (cut_page (cut_pages (cut_page v s from) s (from + 1) k) s) next

none_cut : (v : State) (s from : ℕ) → cut_pages v s from 0 ≡ v
unfolding cut_pages
none_cut v s from = refl

memory_cuts : (n from : ℕ) (v : State) (s : ℕ) → memory_of (cut_pages v s from n) s ≡ pages_gone from n (memory_of v s)
memory_cuts zero from v s = ap (λ (w : State). memory_of w s) (none_cut v s from)
memory_cuts (suc n) from v s =
    ap (λ (w : State). memory_of w s) (cut_first n from v s) ∙ memory_cuts n (from + 1) (cut_page v s from) s ∙ ap (pages_gone (from + 1) n) (memory_cut v s from)

books_cuts : (n from : ℕ) (v : State) (s : ℕ) → books (cut_pages v s from n) ≡ fold (λ ledger page. without_page ledger s page) (books v) (range_with_len from n)
books_cuts zero from v s = ap books (none_cut v s from)
books_cuts (suc n) from v s =
    ap books (cut_first n from v s) ∙ books_cuts n (from + 1) (cut_page v s from) s
    ∙ ap (λ (l : Ledger). fold (λ ledger page. without_page ledger s page) l (range_with_len (from + 1) n)) (books_cut_page held_page v s from)

others_cuts : (n from : ℕ) (v : State) (s q : ℕ) → (q ≡ s → ⊥) → space_in (cut_pages v s from n) q ≡ space_in v q
unfolding cut_pages cut_page
others_cuts zero from v s q other = refl
others_cuts (suc n) from v s q other = space_beside (cut_pages v s from n) s _ q other ∙ others_cuts n from v s q other

-- What that makes of a space.
record IsRemade (e : Event) (left : Memory) (old new : State) (p : ℕ) : Type 0 where
  pub memory : memory_of new p ≡ left
  pub ledger : books new ≡ ledger_after e (books old)
  pub others : (q : ℕ) → (q ≡ p → ⊥) → space_in new q ≡ space_in old q
  pub keeps : KeepsSpaces old new

remade_by : (e : Event) (left : Memory) (old new now : State) (p : ℕ) → now ≡ new → IsRemade e left old new p → IsRemade e left old now p
remade_by e left old new now p same is = subst (λ (s : State). IsRemade e left old s p) (sym same) is

zeros_put : (old : State) (p page n : ℕ) (perms : Perms) → holds_space old p ≡ true
    → IsRemade (event.Map p page n) (pages_mapped perms.0 page n (memory_of old p)) old (with_zeros old p page n (record { perms = perms; frame = old.zero_frame })) p
unfolding with_zeros
zeros_put old p page n perms there =
    let entry : PageEntry = record { perms = perms; frame = old.zero_frame } in
    let x : PageState = whole_page entry zero_page in
    let seen : seen_page x ≡ zero_content perms.0 = ap (λ bs. record { perms = perms.0; bytes = bs }) zero_bytes_are in
    let origin : cond (nat_eq old.zero_frame old.zero_frame) 0 (old.zero_frame + 1) ≡ 0 = ap (λ b. cond b 0 (old.zero_frame + 1)) (are old.zero_frame old.zero_frame refl) in
    record {
      memory = memory_puts n page old p x (zero_content perms.0) seen;
      ledger = books_puts n page old p x (without_own 0) (ap without_own origin);
      others = others_puts n page old p x;
      keeps = (are_put n page old p x there).keeps;
    }

pages_cut : (old : State) (p page n : ℕ) → holds_space old p ≡ true
    → IsRemade (event.Unmap p page n) (pages_gone page n (memory_of old p)) old (cut_pages old p page n) p
pages_cut old p page n there = record {
  memory = memory_cuts n page old p;
  ledger = books_cuts n page old p;
  others = others_cuts n page old p;
  keeps = (are_cut n page old p there).keeps;
}

-- The process, with its memory so.
module _ (p : ℕ) (process : declared.Process) (old : Machine) (memory : TranslatedView) (there : get old.processes p ≡ Some process) where
  abbrev before : Process
  before = whole_in (spaces_of old) p process

  abbrev mid : Machine
  mid = with_memory old memory

  module _ (e : Event) (left : Memory) (is : IsRemade e left (spaces_of old) (state_of memory) p) (lists : translations_of memory ≡ flushed p (lists_of old)) where
    whole_is : is_marked old p ≡ false → whole_in (state_of memory) p process ≡ with_pages left before
    whole_is unmarked =
        let kept = kept_by p process old memory there process.saved false (base_of (state_of memory) p) (is.keeps.marks p ∙ unmarked) refl
        ∙ sym (kept_before p process old memory there false unmarked) in
        λ i. record { registers = process.regs; state = process.state; memory = is.memory i; kept = kept i }

    remade_like : is_marked old p ≡ false → AreLike (wholes mid)
        (wholes_left e (Some p) old (insert (processes_of old) p (with_pages left before)))
    remade_like unmarked =
        subst (λ (m : Machine). AreLike (wholes m)
        (wholes_left e (Some p) old (insert (processes_of old) p (with_pages left before))))
        (put_again p process old memory there)
        (wholes_are p process old memory there e process (with_pages left before) (whole_is unmarked) is.others (Some p)
        (subst (AreAlike (books (state_of memory))) is.ledger (alike_itself (books (state_of memory)))) is.keeps.frames lists)

    remade_stays : is_marked old p ≡ false → (HaveFitPages old → HasFitPages left) → KeepsSession old mid
    remade_stays unmarked fits =
        subst (KeepsSession old) (put_again p process old memory there)
        (stays p process old memory there e process (with_pages left before) (whole_is unmarked) is.others (Some p) lists is.keeps.there (is.keeps.awaiting p)
        (λ h. is.keeps.marks p ∙ h ∙ saved_here p process old memory there) fits)

  -- the refusal is that of the row
  map_refusal_is : (address n : ℕ) (perms : Perms) (o : Option Code) → o ≡ first_refusal (map_refusals address n (is_marked old p) (memory_of (spaces_of old) p))
      → (r : Registry) → first_refusal (process_row p (Map address n perms) before r).refusals ≡ o
  map_refusal_is address n perms o is r =
      ap (λ b. first_refusal (map_refusals address n b (memory_of (spaces_of old) p))) (speculates p process old memory there (is_marked old p) refl) ∙ sym is

  unmap_refusal_is : (address n : ℕ) (o : Option Code) → o ≡ first_refusal (unmap_refusals address n (is_marked old p) (memory_of (spaces_of old) p))
      → (r : Registry) → first_refusal (process_row p (Unmap address n) before r).refusals ≡ o
  unmap_refusal_is address n o is r =
      ap (λ b. first_refusal (unmap_refusals address n b (memory_of (spaces_of old) p))) (speculates p process old memory there (is_marked old p) refl) ∙ sym is

  -- which isn't refused of one that is speculating
  unmarked_by : (mark outside : Bool) (page : Option Code) → None ≡ first_refusal (place_refusals mark outside page) → mark ≡ false
  unmarked_by true outside page is = cc
  unmarked_by false outside page is = refl

  module _ (address n : ℕ) where
    abbrev page : ℕ
    page = address / PAGE_BYTES

    module _ (perms : Perms) where
      abbrev maps : Registry → Row
      maps = process_row p (Map address n perms) before

      pub mapped : holds_space (spaces_of old) p ≡ true → RefusesMap (spaces_of old) p address n None
          → state_of memory ≡ with_zeros (spaces_of old) p page n (record { perms = perms; frame = (spaces_of old).zero_frame })
          → translations_of memory ≡ flushed p (lists_of old) → IsTrue (are_perms perms.0) → ChangesProcess p (Map address n perms) process old Done mid
      mapped here (is, free) put lists fine =
          let e = event.Map p page n in
          let left = pages_mapped perms.0 page n (memory_of (spaces_of old) p) in
          let unmarked = unmarked_by _ _ _ is in
          let remade = remade_by e left (spaces_of old) _ (state_of memory) p put (zeros_put (spaces_of old) p page n perms here) in
          machine_done maps old mid (map_refusal_is address n perms None is) (λ kept breaks. refl) (λ r. refl) (λ kept breaks. remade_like e left remade lists unmarked)
          (λ r. refl) (λ r. refl)
          (remade_stays e left remade lists unmarked
          (λ fit. fit_mapped perms.0 fine page n (memory_of (spaces_of old) p) (fit p)
          (subst (λ k. k + n ≤ MOST_SPACE_PAGES) (sym (page_count (spaces_of old) p)) free.few)))

      pub map_refused : (code : Code) → RefusesMap (spaces_of old) p address n (Some code) → ChangesProcess p (Map address n perms) process old (Refused code) old
      map_refused code (is, told) = machine_refused maps old old code (map_refusal_is address n perms (Some code) is) refl

    abbrev gives_up : Registry → Row
    gives_up = process_row p (Unmap address n) before

    pub unmapped : holds_space (spaces_of old) p ≡ true → RefusesUnmap (spaces_of old) p address n None → state_of memory ≡ cut_pages (spaces_of old) p page n
        → translations_of memory ≡ flushed p (lists_of old) → ChangesProcess p (Unmap address n) process old Done mid
    unmapped here (is, all) cut lists =
        let e = event.Unmap p page n in
        let left = pages_gone page n (memory_of (spaces_of old) p) in
        let unmarked = unmarked_by _ _ _ is in
        let remade = remade_by e left (spaces_of old) _ (state_of memory) p cut (pages_cut (spaces_of old) p page n here) in
        machine_done gives_up old mid (unmap_refusal_is address n None is) (λ kept breaks. refl) (λ r. refl) (λ kept breaks. remade_like e left remade lists unmarked)
        (λ r. refl) (λ r. refl) (remade_stays e left remade lists unmarked (λ fit. fit_gone page n (memory_of (spaces_of old) p) (fit p)))

    pub unmap_refused : (code : Code) → RefusesUnmap (spaces_of old) p address n (Some code) → ChangesProcess p (Unmap address n) process old (Refused code) old
    unmap_refused code (is, told) = machine_refused gives_up old old code (unmap_refusal_is address n (Some code) is) refl
