use Rattle.std.specs.Prelude.{◌≡◌, ℕ, ◌+◌, ◌<◌, ◌≤◌, Bool, true, false, cond, ◌||◌, nat_eq, List, [], ◌∷◌, ◌++◌, length, map, take, drop, get_or, Option, Some, None, is_some, IsSome, refl}
use Rattle.std.proofs.Common.{sym, ap, subst, ◌∙◌, arith, append_assoc, append-nil}
use Rattle.std.specs.Option.{option_map, option_map_or}
use Rattle.std.specs.Ordering.{nat_cmp}
use Rattle.std.specs.FinMap.{FinMap, empty, get, get-empty, insert, remove}
use Rattle.std.proofs.lemmas.List.{drop_all, length-replicate}
use Rattle.number_maps.specs.Keys.{alike, by_key, differs, get_other, get_same, removed_other, removed_same, ties}
use Rattle.number_maps.specs.Views.{viewed, viewed_put, len_viewed}
use Rattle.ovl_io.specs.Memory.{Memory, Page}
use Rattle.ovl_io.specs.declared.perms.Perms.{Perms}
use Rattle.ledger.specs.AloneLaws.{are, arent}
use Rattle.ledger.specs.Changes.{imported, with_lines}
use Rattle.ledger.specs.Ledger.{Holding, Ledger, holding_at, pages_of, with_page}
use Rattle.ledger.specs.Units.{class}
use Rattle.page_table.specs.Table.{Pages}
use Rattle.page_table.specs.declared.entry.PageEntry.{PageEntry}
use Rattle.space_maps.specs.Books.{books_put_page, books_put_shared}
use Rattle.space_maps.specs.Laws.{page_of, space_beside, space_put}
use Rattle.space_maps.specs.Spaces.{holds_space, page_in, put_page, put_shared, put_space, space_in}
use Rattle.space_ledger.specs.Space.{IsLeast}
use Rattle.overlay_pages.specs.Changes.{HasShareRoom, shared_page, with_shared}
use Rattle.overlay_pages.specs.Calls.{AwaitsLike, entries_in}
use Rattle.overlay_pages.specs.State.{PageState, SpaceState, State, books, held_page, memory_of, seen_page}
use Rattle.overlay_memory.specs.PageLaws.{HasPage, has_page, held_there, some_is}
use Rattle.overlay_memory.specs.StateMemory.{entries_at}
use Rattle.delta_image.specs.declared.delta.DeltaPage.{DeltaPage}
use Rattle.delta_image.specs.Applied.{applied_page, base_bytes}
use Rattle.delta_image.specs.Line.{numbers_of}
use Rattle.delta_spaces.specs.Built.{CanBegin, HasBegun, IsBeside, awaits_at, awaits_with, bare_page, kept_pages, perms_at, rows_of}
use Rattle.delta_spaces.specs.Finding.{found_from}
use Rattle.delta_spaces.specs.Imported.{classes, imported_at, placed_units}
use Rattle.delta_spaces.specs.Made.{IsMade}
use Rattle.delta_spaces.specs.Rows.{row_added}
use Rattle.delta_spaces.proofs.Bytes.{applied_none}
use Rattle.overlay_pages.specs.LineLaws.{byte_count}
use Rattle.delta_spaces.proofs.Lines.{bytes_absent, bytes_there, zero_page_is}
use Rattle.delta_spaces.proofs.Parts.{Rising, apart_all, apart_at, bare_class, here, kept_append, kept_classes, kept_rising, page_added, rising, rows_append, rows_rise, split_at, front_more}

-- The pages of the space, without their lines.

-- A page of the base as it stands in its memory.

pub base_long : (v : State) (base page : ℕ) → length (base_bytes (memory_of v base) page) ≡ 4096
unfolding Rattle.delta_image.specs.Applied.zero_page
base_long v base page = by_page (page_in v base page) refl
  where
    by_page : (o : Option PageState) → page_in v base page ≡ o → length (base_bytes (memory_of v base) page) ≡ 4096
    by_page None is = ap (λ (bytes : List ℕ). length bytes) (bytes_absent v base page is ∙ zero_page_is) ∙ length-replicate {A = ℕ} 4096 0
    by_page (Some x) is = ap (λ (bytes : List ℕ). length bytes) (bytes_there v base page x is) ∙ byte_count x.lines

pub bare_applied : (v : State) (base : ℕ) (p : DeltaPage) → ◌≡◌ {A = Page} (applied_page (memory_of v base) (bare_page p))
    (record { perms = p.perms.0; bytes = base_bytes (memory_of v base) p.page })
bare_applied v base p = λ i. record { perms = p.perms.0; bytes = applied_none (base_bytes (memory_of v base) p.page) (base_long v base p.page) i }

pub imported_there : (l : Ledger) (base page : ℕ) (h : Holding) → holding_at l base page ≡ Some h → imported l base page [] ≡ h
unfolding imported with_lines
imported_there l base page h at =
    ap (λ (o : Option Holding). option_map_or {U = Holding} (λ holding. record { origin = holding.origin; own = holding.own }) o (record { origin = 0; own = [] })) at

pub imported_absent : (l : Ledger) (base page : ℕ) → holding_at l base page ≡ None → ◌≡◌ {A = Holding} (imported l base page []) (record { origin = 0; own = [] })
unfolding imported with_lines
imported_absent l base page at =
    ap (λ (o : Option Holding). option_map_or {U = Holding} (λ holding. record { origin = holding.origin; own = holding.own }) o (record { origin = 0; own = [] })) at

-- A page more in the space, which is one of the delta's without lines.

pub record HasMore (v w new : State) (base to : ℕ) (p : DeltaPage) : Type 0 where
  pub memory : memory_of new to ≡ insert (memory_of w to) p.page (applied_page (memory_of v base) (bare_page p))
  pub ledger : books new ≡ with_page (books w) to p.page (imported (books v) base p.page [])
  pub mark : (space_in new to).speculating ≡ (space_in w to).speculating
  pub others : (q : ℕ) → (q ≡ to → ⊥) → space_in new q ≡ space_in w q
  pub spaces : (q : ℕ) → holds_space new q ≡ (nat_eq q to || holds_space w q)
  pub frames : new.frames ≡ w.frames
  pub zero_frame : new.zero_frame ≡ w.zero_frame

pub beside_more : (v w new : State) (to : ℕ) → IsBeside v w to → ((q : ℕ) → (q ≡ to → ⊥) → space_in new q ≡ space_in w q)
    → ((q : ℕ) → holds_space new q ≡ (nat_eq q to || holds_space w q)) → new.frames ≡ w.frames → new.zero_frame ≡ w.zero_frame → IsBeside v new to
beside_more v w new to so others spaces frames zero_frame = record {
  others = λ q other. others q other ∙ so.others q other;
  spaces = λ q. spaces q ∙ ap (λ b. nat_eq q to || b) (so.spaces q) ∙ twice (nat_eq q to) (holds_space v q);
  frames = frames ∙ so.frames;
  zero_frame = zero_frame ∙ so.zero_frame;
}
  where
    twice : (a b : Bool) → (a || (a || b)) ≡ (a || b)
    twice true b = refl
    twice false b = refl

pub begun_more : (v w new : State) (base to : ℕ) (front back : List DeltaPage) (p : DeltaPage) → (base ≡ to → ⊥) → pages_of (books v) to ≡ empty
    → Rising 0 (front ++ bare_page p ∷ back) → HasBegun v w base to (front ++ back) → HasMore v w new base to p → HasBegun v new base to (front ++ bare_page p ∷ back)
begun_more v w new base to front back p differ bare rise so more = record {
  memory = more.memory ∙ ap (λ (m : Memory). insert m p.page (applied_page (memory_of v base) (bare_page p))) so.memory
      ∙ page_added (memory_of v base) front back (bare_page p) rise;
  made = subst (λ (l : Ledger). IsMade (books v) l to (imported_at (books v) base (rows_of (front ++ bare_page p ∷ back))) (λ _. false)) (sym more.ledger)
      (subst (λ rows. IsMade (books v) (with_page (books w) to p.page (imported (books v) base p.page [])) to (imported_at (books v) base rows) (λ _. false))
      (sym (split_at (λ (page : DeltaPage). numbers_of page.lines) front (bare_page p ∷ back)))
      (row_added (books v) base to differ bare (rows_of front) (rows_of back) (p.page, []) (apart_at (λ (page : DeltaPage). numbers_of page.lines) front back (bare_page p) rise)
      (books w)
      (subst (λ rows. IsMade (books v) (books w) to (imported_at (books v) base rows) (λ _. false)) (split_at (λ (page : DeltaPage). numbers_of page.lines) front back) so.made)));
  mark = more.mark ∙ so.mark;
  beside = beside_more v w new to so.beside more.others more.spaces more.frames more.zero_frame;
}

-- A page is put in a space.

spaces_put : (w : State) (to : ℕ) (x : SpaceState) (q : ℕ) → holds_space (put_space w to x) q ≡ (nat_eq q to || holds_space w q)
unfolding put_space
spaces_put w to x q = by_key q to
    (λ same. ap is_some (get_same w.spaces to q x same) ∙ sym (ap (λ b. b || holds_space w q) (are q to same)))
    (λ other. ap is_some (get_other w.spaces to q x other) ∙ sym (ap (λ b. b || holds_space w q) (arent q to other)))

frames_put : (w : State) (to : ℕ) (x : SpaceState) → ((put_space w to x).frames ≡ w.frames) × ((put_space w to x).zero_frame ≡ w.zero_frame)
unfolding put_space
frames_put w to x = (refl, refl)

module _ (v w : State) (base to : ℕ) (p : DeltaPage) (y : PageState) (seen : seen_page y ≡ applied_page (memory_of v base) (bare_page p))
    (held : held_page w.zero_frame y ≡ imported (books v) base p.page []) where
  more_shared : HasMore v w (put_shared w to p.page y) base to p
  unfolding put_shared memory_of
  more_shared = record {
    memory = ap (λ (s : SpaceState). viewed (λ _ (z : PageState). seen_page z) s.pages) (space_put w to next to refl)
        ∙ viewed_put (λ _ (z : PageState). seen_page z) (space_in w to).pages p.page y ∙ ap (insert _ p.page) seen;
    ledger = books_put_shared held_page w to p.page y ∙ ap (with_page (books w) to p.page) held;
    mark = ap (λ (s : SpaceState). s.speculating) (space_put w to next to refl);
    others = λ q other. space_beside w to next q other;
    spaces = λ q. spaces_put w to next q;
    frames = (frames_put w to next).0;
    zero_frame = (frames_put w to next).1;
  }
    where
      next : SpaceState
      next = record {
        pages = insert (space_in w to).pages p.page y;
        awaiting = remove (space_in w to).awaiting p.page;
        speculating = (space_in w to).speculating;
      }

  pub more_put : HasMore v w (put_page w to p.page y) base to p
  unfolding put_page memory_of
  more_put = record {
    memory = ap (λ (s : SpaceState). viewed (λ _ (z : PageState). seen_page z) s.pages) (space_put w to next to refl)
        ∙ viewed_put (λ _ (z : PageState). seen_page z) (space_in w to).pages p.page y ∙ ap (insert _ p.page) seen;
    ledger = books_put_page held_page w to p.page y ∙ ap (with_page (books w) to p.page) held;
    mark = ap (λ (s : SpaceState). s.speculating) (space_put w to next to refl);
    others = λ q other. space_beside w to next q other;
    spaces = λ q. spaces_put w to next q;
    frames = (frames_put w to next).0;
    zero_frame = (frames_put w to next).1;
  }
    where
      next : SpaceState
      next = record {
        pages = insert (space_in w to).pages p.page y;
        awaiting = (space_in w to).awaiting;
        speculating = (space_in w to).speculating;
      }

shared_awaiting : (w : State) (to page : ℕ) (y : PageState) → (space_in (put_shared w to page y) to).awaiting ≡ remove (space_in w to).awaiting page
unfolding put_shared
shared_awaiting w to page y = ap (λ (s : SpaceState). s.awaiting) (space_put w to _ to refl)

pub put_awaiting : (w : State) (to page : ℕ) (y : PageState) → (space_in (put_page w to page y) to).awaiting ≡ (space_in w to).awaiting
unfolding put_page
put_awaiting w to page y = ap (λ (s : SpaceState). s.awaiting) (space_put w to _ to refl)

-- Sharing: of the pages before one, those that the base has are there, and those from it on await.

pub record IsSharing (v w : State) (base to : ℕ) (pages front rest : List DeltaPage) : Type 0 where
  pub whole : pages ≡ front ++ rest
  pub begun : HasBegun v w base to (kept_pages v base front)
  pub awaits : (q : ℕ) → get (space_in w to).awaiting q ≡ awaits_at (entries_in v base) rest q

-- the space has no page in the ledger
pub no_pages : (v : State) (to : ℕ) → (space_in v to).pages ≡ empty → pages_of (books v) to ≡ empty
no_pages v to none =
    Rattle.space_maps.specs.Books.books_pages held_page v to
    ∙ ap (λ (m : FinMap nat_cmp PageState). viewed (λ _ y. held_page v.zero_frame y) m) none ∙ Rattle.number_maps.specs.Views.viewed_empty (λ _ y. held_page v.zero_frame y)

pub sharing_none : (v : State) (base to : ℕ) (pages : List DeltaPage) → CanBegin v base to pages → IsSharing v v base to pages [] pages
unfolding memory_of
sharing_none v base to pages can = record {
  whole = refl;
  begun = record {
    memory = ap (λ (m : FinMap nat_cmp PageState). viewed (λ _ (x : PageState). seen_page x) m) can.empty_is ∙ Rattle.number_maps.specs.Views.viewed_empty (λ _ (x : PageState). seen_page x);
    made = record {
      spaces = λ q. by_key q to
          (λ same. ap (λ n. is_some (get (books v) n)) same ∙ Rattle.space_maps.specs.Books.books_spaces held_page v to ∙ can.space ∙ sym (ap (λ b. b || is_some (get (books v) q)) (are q to same)))
          (λ other. sym (ap (λ b. b || is_some (get (books v) q)) (arent q to other)));
      others = λ q r other. refl;
      held = λ r e. Rattle.ledger.specs.PlaceLaws.page_is (books v) to r ∙ ap (λ (m : Rattle.ledger.specs.Ledger.Space). get m r) (no_pages v to can.empty_is) ∙ Rattle.ledger.specs.PlaceLaws.no_page r;
      settled = λ r e. absurd cc;
    };
    mark = can.mark;
    beside = record {
      others = λ q other. refl;
      spaces = λ q. by_key q to
          (λ same. ap (holds_space v) same ∙ can.space ∙ sym (ap (λ b. b || holds_space v q) (are q to same)))
          (λ other. sym (ap (λ b. b || holds_space v q) (arent q to other)));
      frames = refl;
      zero_frame = refl;
    };
  };
  awaits = can.awaits;
}

module _ (v w : State) (base to : ℕ) (pages front more : List DeltaPage) (p : DeltaPage) (can : CanBegin v base to pages) (so : IsSharing v w base to pages front (p ∷ more)) where
  rise_all : Rising 0 (front ++ p ∷ more)
  rise_all = subst (Rising 0) so.whole (rising 0 pages can.ascend)

  rise_rest : (from : ℕ) (xs : List DeltaPage) → Rising from (xs ++ p ∷ more) → Rising p.page (p ∷ more)
  rise_rest from [] rise = (omega arith, rise.1)
  rise_rest from (x ∷ xs) rise = rise_rest (x.page + 1) xs rise.1

  base_same : (page : ℕ) → page_in w base page ≡ page_in v base page
  base_same page = page_of w base page ∙ ap (λ (s : SpaceState). get s.pages page) (so.begun.beside.others base can.differ) ∙ sym (page_of v base page)

  appended : pages ≡ (front ++ p ∷ []) ++ more
  appended = so.whole ∙ sym (append_assoc front (p ∷ []) more)

  none_more : (q : ℕ) → q ≡ p.page → perms_at more q ≡ None
  none_more q same = Rattle.delta_spaces.proofs.Fitted.none_before (p.page + 1) q more (rise_rest 0 front rise_all).1 (omega (arith, same))

  -- a page that the base hasn't doesn't await
  pub sharing_past : is_some (page_in w base p.page) ≡ false → IsSharing v w base to pages (front ++ p ∷ []) more
  sharing_past absent = record {
    whole = appended;
    begun = subst (HasBegun v w base to) (sym (kept_append v base front (p ∷ []) ∙ ap (λ b. kept_pages v base front ++ cond b (bare_page p ∷ []) []) none ∙ append-nil (kept_pages v base front)))
        so.begun;
    awaits = λ q. so.awaits q ∙ by_key q p.page
        (λ same. ap (λ b. awaits_with (get (entries_in v base) q) (cond b (Some p.perms) (perms_at more q))) (ties q p.page same)
        ∙ ap (option_map (λ (e : PageEntry). record { perms = p.perms; frame = e.frame })) (ap (get (entries_in v base)) same ∙ no_entry)
        ∙ sym (ap (awaits_with (get (entries_in v base) q)) (none_more q same)))
        (λ other. ap (λ b. awaits_with (get (entries_in v base) q) (cond b (Some p.perms) (perms_at more q))) (differs q p.page other));
  }
    where
      none : is_some (page_in v base p.page) ≡ false
      none = ap is_some (sym (base_same p.page)) ∙ absent

      no_entry : get (entries_in v base) p.page ≡ None
      no_entry = entries_at v base p.page ∙ ap (option_map (λ (x : PageState). x.entry)) (Rattle.space_maps.specs.Options.none_by (page_in v base p.page) none)

  -- one that it has does, as the least
  module _ (there : IsSome (page_in w base p.page)) where
    at_base : HasPage v base p.page
    at_base = has_page v base p.page (ap is_some (sym (base_same p.page)) ∙ there)

    abbrev x : PageState
    x = at_base.x

    abbrev e : PageEntry
    e = record { perms = p.perms; frame = x.entry.frame }

    waits : get (space_in w to).awaiting p.page ≡ Some e
    waits =
        so.awaits p.page ∙ ap (λ b. awaits_with (get (entries_in v base) p.page) (cond b (Some p.perms) (perms_at more p.page))) (ties p.page p.page refl)
        ∙ ap (option_map (λ (e : PageEntry). record { perms = p.perms; frame = e.frame })) (entries_at v base p.page ∙ ap (option_map (λ (x : PageState). x.entry)) at_base.there)

    pub is_least : IsLeast (space_in w to).awaiting p.page
    is_least = record {
      there = ap is_some waits;
      least = λ q some. found_from {X = Perms} p.page q (map (λ (page : DeltaPage). (page.page, page.perms)) (p ∷ more)) (rows_rise (λ (page : DeltaPage). page.perms) p.page (p ∷ more) (rise_rest 0 front rise_all)) (some_perms q (ap is_some (sym (so.awaits q)) ∙ some));
    }
      where
        some_perms : (q : ℕ) → is_some (awaits_at (entries_in v base) (p ∷ more) q) ≡ true → is_some (perms_at (p ∷ more) q) ≡ true
        some_perms q some = by_perms (perms_at (p ∷ more) q) some
          where
            by_perms : (o : Option Perms) → is_some (awaits_with (get (entries_in v base) q) o) ≡ true → is_some o ≡ true
            by_perms None h = h
            by_perms (Some perms) h = refl

    pub is_like : AwaitsLike w base to p.page
    is_like = ap (option_map (λ (e : PageEntry). e.frame)) waits ∙ sym (ap (option_map (λ (y : PageState). y.entry.frame)) (base_same p.page ∙ at_base.there))

    pub is_unmarked : (space_in w base).speculating ≡ false
    is_unmarked = ap (λ (s : SpaceState). s.speculating) (so.begun.beside.others base can.differ) ∙ can.unmarked

    pub to_is_there : holds_space w to ≡ true
    to_is_there = so.begun.beside.spaces to ∙ ap (λ b. b || holds_space v to) (are to to refl)

    held_is : imported (books v) base p.page [] ≡ held_page v.zero_frame x
    held_is = imported_there (books v) base p.page (held_page v.zero_frame x) (held_there v base p.page x at_base.there)

    pub has_room : HasShareRoom w base p.page
    has_room y at =
        let same = ap (λ (z : PageState). class (length z.own)) (some_is y x (sym at ∙ base_same p.page ∙ at_base.there)) in
        let so_far = placed_units (books v) base to can.differ (no_pages v to can.empty_is) (books w) (rows_of (kept_pages v base front))
        (apart_all (λ (page : DeltaPage). numbers_of page.lines) (kept_pages v base front) (kept_front 0 front rise_all)) so.begun.made in
        let one = ap (λ (h : Holding). class (length h.own)) held_is in
        let bare = bare_class (books v) base p in
        let front_units = kept_classes (books v) base v front in
        let sum = ap (λ (ps : List DeltaPage). classes (books v) base (rows_of ps)) so.whole in
        let parts = rows_append (books v) base front (p ∷ more) in
        let frames = so.begun.beside.frames in
        let fits = can.fits in
        omega (arith, same, so_far, one, bare, front_units, sum, parts, frames, fits)
      where
        kept_front : (from : ℕ) (xs : List DeltaPage) → Rising from (xs ++ p ∷ more) → Rising from (kept_pages v base xs)
        kept_front from xs rise = kept_rising v base from xs (only from xs rise)
          where
            only : (from : ℕ) (xs : List DeltaPage) → Rising from (xs ++ p ∷ more) → Rising from xs
            only from [] rise = tt
            only from (y ∷ ys) rise = (rise.0, only (y.page + 1) ys rise.1)

    shared_is : with_shared w base to p.page ≡ put_shared w to p.page (shared_page e x)
    unfolding with_shared
    shared_is =
        ap (λ (o : Option PageEntry). option_map_or (λ entry. option_map_or (λ y. put_shared w to p.page (shared_page entry y)) (page_in w base p.page) w) o w) waits
        ∙ ap (λ (o : Option PageState). option_map_or (λ y. put_shared w to p.page (shared_page e y)) o w) (base_same p.page ∙ at_base.there)

    seen_is : seen_page (shared_page e x) ≡ applied_page (memory_of v base) (bare_page p)
    seen_is =
        ap (λ (bytes : List ℕ). record { perms = p.perms.0; bytes = bytes }) (sym (bytes_there v base p.page x at_base.there)) ∙ sym (bare_applied v base p)

    more_is : HasMore v w (put_shared w to p.page (shared_page e x)) base to p
    more_is =
        more_shared v w base to p (shared_page e x) seen_is
        (ap (λ z. held_page z (shared_page e x)) so.begun.beside.zero_frame ∙ sym held_is)

    pub sharing_more : (new : State) → new ≡ with_shared w base to p.page → IsSharing v new base to pages (front ++ p ∷ []) more
    sharing_more new is = subst (λ (u : State). IsSharing v u base to pages (front ++ p ∷ []) more) (sym (is ∙ shared_is)) (record {
      whole = appended;
      begun = subst (HasBegun v _ base to) (sym (kept_append v base front (p ∷ []) ∙ ap (λ b. kept_pages v base front ++ cond b (bare_page p ∷ []) []) (ap is_some at_base.there)))
          (begun_more v w _ base to (kept_pages v base front) [] p can.differ (no_pages v to can.empty_is) rise_kept
          (subst (HasBegun v w base to) (sym (append-nil (kept_pages v base front))) so.begun) more_is);
      awaits = λ q. ap (λ (m : Pages). get m q) (shared_awaiting w to p.page (shared_page e x)) ∙ by_key q p.page
          (λ same. removed_same (space_in w to).awaiting p.page q same ∙ sym (ap (awaits_with (get (entries_in v base) q)) (none_more q same)))
          (λ other. removed_other (space_in w to).awaiting p.page q other ∙ so.awaits q
          ∙ ap (λ b. awaits_with (get (entries_in v base) q) (cond b (Some p.perms) (perms_at more q))) (differs q p.page other));
    })
      where
        rise_kept : Rising 0 (kept_pages v base front ++ bare_page p ∷ [])
        rise_kept =
            subst (Rising 0) (kept_append v base front (p ∷ []) ∙ ap (λ b. kept_pages v base front ++ cond b (bare_page p ∷ []) []) (ap is_some at_base.there))
            (kept_rising v base 0 (front ++ p ∷ []) (cut 0 front rise_all))
          where
            cut : (from : ℕ) (xs : List DeltaPage) → Rising from (xs ++ p ∷ more) → Rising from (xs ++ p ∷ [])
            cut from [] rise = (rise.0, tt)
            cut from (y ∷ ys) rise = (rise.0, cut (y.page + 1) ys rise.1)

pub sharing_all : (v w : State) (base to : ℕ) (pages front : List DeltaPage) → IsSharing v w base to pages front [] → HasBegun v w base to (kept_pages v base pages) × ((space_in w to).awaiting ≡ empty)
sharing_all v w base to pages front so = (
  subst (λ (ps : List DeltaPage). HasBegun v w base to (kept_pages v base ps)) (sym (so.whole ∙ append-nil front)) so.begun,
  alike _ _ (λ q. so.awaits q ∙ sym (get-empty {X = PageEntry} nat_cmp q)),
)

-- The same by the place in the list.

module _ (v w : State) (base to : ℕ) (pages : List DeltaPage) (count : ℕ) where
  pub sharing_at : (page d : DeltaPage) → count < length pages → page ≡ get_or pages count d → IsSharing v w base to pages (take count pages) (drop count pages)
      → IsSharing v w base to pages (take count pages) (page ∷ drop (count + 1) pages)
  sharing_at page d within is so = subst (IsSharing v w base to pages (take count pages)) (here pages count d page within is) so

  pub sharing_next : (page d : DeltaPage) → count < length pages → page ≡ get_or pages count d → IsSharing v w base to pages (take count pages ++ page ∷ []) (drop (count + 1) pages)
      → IsSharing v w base to pages (take (count + 1) pages) (drop (count + 1) pages)
  sharing_next page d within is so =
      subst (λ (front : List DeltaPage). IsSharing v w base to pages front (drop (count + 1) pages)) (sym (front_more pages count d page within is)) so

  pub sharing_end : length pages ≤ count → IsSharing v w base to pages (take count pages) (drop count pages)
      → HasBegun v w base to (kept_pages v base pages) × ((space_in w to).awaiting ≡ empty)
  sharing_end all so =
      sharing_all v w base to pages (take count pages) (subst (IsSharing v w base to pages (take count pages)) (drop_all count pages all) so)

pub sharing_as : (v w u : State) (base to : ℕ) (pages front rest : List DeltaPage) → u ≡ w → IsSharing v w base to pages front rest → IsSharing v u base to pages front rest
sharing_as v w u base to pages front rest is so = subst (λ s. IsSharing v s base to pages front rest) (sym is) so
