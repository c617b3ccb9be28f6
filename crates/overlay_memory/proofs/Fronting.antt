use Rattle.std.proofs.Common.{◌≡◌, ℕ, ◌+◌, ◌<◌, ◌*◌, ◌/◌, ◌%◌, true, List, take, drop, length, get_or, Some, None, is_some, sym, ap, subst, ◌∙◌, refl, arith}
use Rattle.sizes.specs.declared.TheConstants.{LINE_BYTES, PAGE_BYTES, PAGE_LINES}
use Rattle.std.specs.Prelude.{slice_set, false}
use Rattle.std.specs.Option.{option_map}
use Rattle.std.specs.FinMap.{get}
use Rattle.std.proofs.lemmas.List.{get_or-set_other, get_or-set_same, length-replicate, length-set, take_all}
use Rattle.number_maps.specs.Keys.{by_key}
use Rattle.ovl_io.specs.Permissions.{permits, readable, writable}
use Rattle.ovl_io.specs.declared.perms.Perms.{Perms}
use Rattle.ovl_io.specs.Memory.{bytes_at}
use Rattle.overlay_memory.specs.Access.{IsFoundIn}
use Rattle.overlay_memory.specs.Code.{IsFrontLine}
use Rattle.overlay_memory.specs.Epochs.{Seen, bare_page, head_at, known_at, known_first, nothing_known, nothing_seen, place_of, with_front, with_page, with_read, with_write}
use Rattle.overlay_memory.specs.Fronts.{AreFronts, ArePlaces, AreSeen, IsClear, IsKnown, IsUsePlace, IsWritePlace, held_of, with_brought, with_found}
use Rattle.overlay_memory.specs.Pieces.{IsLacking, IsPermitted}
use Rattle.overlay_memory.proofs.Counting.{allows_is}
use Rattle.overlay_memory.proofs.Forgetting.{all_alike}
use Rattle.overlay_memory.proofs.Pieced.{found_piece}
use Rattle.overlay_pages.specs.Lines.{line_in_page}
use Rattle.overlay_memory.specs.StateMemory.{memory_at}
use Rattle.overlay_memory.specs.View.{AreTrue, cached_in, cached_page, cached_view}
use Rattle.overlay_memory.specs.declared.fronts.Fronts.{Fronts}
use Rattle.overlay_memory.specs.declared.epochs.KnownPage.{KnownPage}
use Rattle.overlay_memory.specs.declared.epochs.TheConstants.{NO_PLACE, SEEN_PAGES}
use Rattle.overlay_pages.specs.Spots.{IsBroughtTo, IsFoundAt, IsFoundPage, IsFoundPageAt, KeepsPlaces, KeepsPlacesBut, no_page}
use Rattle.overlay_pages.specs.State.{PageState, State, memory_of, seen_page}
use Rattle.overlay_pages.specs.View.{IsJoined, MemoryView, page_state, place_at, state_of}
use Rattle.overlay_pages.specs.ViewLaws.{state_page_there}
use Rattle.overlay_pages.specs.declared.spots.FoundLine.{FoundLine}
use Rattle.overlay_pages.specs.declared.spots.FoundPage.{FoundPage}
use Rattle.overlay_pages.specs.declared.spots.TheConstants.{NO_PAGE}
use Rattle.space_ledger.specs.View.{LedgerView}
use Rattle.space_maps.specs.Options.{map_twice}
use Rattle.space_maps.specs.Spaces.{page_in}
use Rattle.translation_cache.specs.Bare.{BareTranslations, bare}
use Rattle.translation_cache.specs.Counted.{translated}
use Rattle.translation_cache.specs.CountedLaws.{IsFront, front_beside, front_hits, front_translated, translated_front}
use Rattle.translation_cache.specs.Finding.{found_hits}
use Rattle.translation_cache.specs.Formed.{IsFormed}
use Rattle.translation_cache.specs.Translations.{Translations, found, no_translations, with_hits}
use Rattle.translation_cache.specs.declared.TheConstants.{SETS}
use Rattle.translation_cache.specs.declared.cached.Cached.{Cached}

-- What is known of pages that were found, and of those at the front of their lists, stays true.

-- nothing is: what stands for no page says nothing
none_low : {P : Type 0} (known : KnownPage) → nothing_known ≡ known → known.found.page < NO_PAGE → P
none_low known is low = absurd (let page : NO_PAGE ≡ known.found.page = ap (λ (k : KnownPage). k.found.page) is in omega (arith, page, low))

none_at : (seen : Seen) (place : ℕ) (known : KnownPage) → seen ≡ nothing_seen → get_or seen.pages place nothing_known ≡ known → nothing_known ≡ known
none_at seen place known is at = sym (all_alike nothing_known (SEEN_PAGES + 1) place) ∙ sym (ap (λ (v : Seen). get_or v.pages place nothing_known) is) ∙ at

-- so whatever memories are, they may be known so
pub none_known : (view : MemoryView) (t : BareTranslations) (fronts : Fronts) → IsClear fronts → AreFronts view t fronts
none_known view t fronts is = record {
  seen = record {
    count = ap (λ (v : Seen). length v.pages) is ∙ length-replicate (SEEN_PAGES + 1) nothing_known;
    count_heads = ap (λ (v : Seen). length v.heads) is ∙ length-replicate SETS SEEN_PAGES;
    pages = λ place known at low. none_low known (none_at fronts.seen place known is at) low;
  };
  heads = λ place known at low head. none_low known (none_at fronts.seen place known is at) low;
  tells = λ none. is;
}

-- hits are counted
pub hits_fronts : (view : MemoryView) (t u : BareTranslations) (n : ℕ) (fronts : Fronts) → u ≡ with_hits n t → AreFronts view t fronts → AreFronts view u fronts
hits_fronts view t u n fronts is are = subst (λ (w : BareTranslations). AreFronts view w fronts) (sym is) (record {
  seen = are.seen;
  heads = λ place known at low head. front_hits known.found.space known.found.page n t (are.heads place known at low head);
  tells = are.tells;
})

pub hits_true : (v : State) (t u : Translations Cached) (n : ℕ) → u ≡ with_hits n t → AreTrue v t → AreTrue v u
hits_true v t u n is entries q r held found_now = entries q r held (sym (ap (found q r) is ∙ found_hits q r n t) ∙ found_now)

-- Another memory, in which a page is found as before and its lines stand where they stood.
module _ (old new : MemoryView) (known : KnownPage) (stays : (i : ℕ) → i < PAGE_LINES
    → place_at new known.found.space known.found.page i ≡ place_at old known.found.space known.found.page i) where
  use_kept : (need line at : ℕ) → IsUsePlace old known.found need line at → IsUsePlace new known.found need line at
  use_kept need line at is = record { may = is.may; low = is.low; at_is = stays line is.low ∙ is.at_is }

  known_kept : (place : ℕ) → IsFoundPage new.table known.found → IsKnown old place known → IsKnown new place known
  known_kept place there is = record {
    place_is = is.place_is;
    is = there;
    places = record {
      count_reads = is.places.count_reads;
      count_writes = is.places.count_writes;
      reads = λ line at put low. use_kept readable line at (is.places.reads line at put low);
      writes = λ line at put low. let one = is.places.writes line at put low in record { is = use_kept writable line at one.is; stands = one.stands };
    };
  }

-- Bytes are stored where they stand.
pub filled_fronts : (old new : MemoryView) (t : BareTranslations) (fronts : Fronts) → new.table ≡ old.table → KeepsPlaces old new → AreFronts old t fronts
    → AreFronts new t fronts
filled_fronts old new t fronts table keeps are = record {
  seen = record {
    count = are.seen.count;
    count_heads = are.seen.count_heads;
    pages = λ place known at low.
        let is = are.seen.pages place known at low in
        known_kept old new known (λ i inside. keeps known.found.space known.found.page i (ap is_some is.is.there) inside) place
        (subst (λ (v : LedgerView). IsFoundPage v known.found) (sym table) is.is) is;
  };
  heads = are.heads;
  tells = are.tells;
}

-- Another page is put at its place: it is as the tables have it, and so are still those at other places.

place_same : (s p : ℕ) (found : FoundPage) → found.space ≡ s → found.page ≡ p → place_of found.space found.page ≡ place_of s p
place_same s p found ss pp = ap (λ n. place_of n found.page) ss ∙ ap (place_of s) pp

put_here : (pages : List KnownPage) (at place : ℕ) (known other : KnownPage) → length pages ≡ SEEN_PAGES + 1 → at < SEEN_PAGES → place ≡ at
    → get_or (slice_set pages at known) place nothing_known ≡ other → known ≡ other
put_here pages at place known other count inside same is =
    sym (get_or-set_same pages at known nothing_known (omega (arith, count, inside))) ∙ ap (λ n. get_or (slice_set pages at known) n nothing_known) (sym same) ∙ is

put_beside : (pages : List KnownPage) (at place : ℕ) (known other : KnownPage) → (place ≡ at → ⊥)
    → get_or (slice_set pages at known) place nothing_known ≡ other → get_or pages place nothing_known ≡ other
put_beside pages at place known other apart is = sym (get_or-set_other pages at place known nothing_known apart) ∙ is

put_seen : (old new : MemoryView) (seen : Seen) (s p : ℕ) (known : KnownPage) → AreSeen old seen
    → (known.found.page < NO_PAGE → IsKnown new (place_of s p) known)
    → ((place : ℕ) (other : KnownPage) → (place ≡ place_of s p → ⊥) → IsKnown old place other → IsKnown new place other)
    → AreSeen new (with_page s p known seen)
put_seen old new seen s p known are here beside = record {
  count = length-set seen.pages (place_of s p) known ∙ are.count;
  count_heads = are.count_heads;
  pages = λ place other at low. by_key place (place_of s p)
      (λ same.
      let is : known ≡ other = put_here seen.pages (place_of s p) place known other are.count (omega arith) same at in
      subst (λ (k : KnownPage). IsKnown new place k) is
      (subst (λ n. IsKnown new n known) (sym same) (here (subst (λ (k : KnownPage). k.found.page < NO_PAGE) (sym is) low))))
      (λ apart. beside place other apart (are.pages place other (put_beside seen.pages (place_of s p) place known other apart at) low));
}

front_seen : (view : MemoryView) (seen : Seen) (s p : ℕ) → AreSeen view seen → AreSeen view (with_front s p seen)
front_seen view seen s p are = record { count = are.count; count_heads = length-set seen.heads (p % SETS) (place_of s p) ∙ are.count_heads; pages = are.pages }

-- It comes to the front of its list: the pages at the front of the other lists are there still.
put_heads : (pages : List KnownPage) (heads : List ℕ) (s p : ℕ) (t u : BareTranslations) → length heads ≡ SETS
    → ((place : ℕ) (other : KnownPage) → (place ≡ place_of s p → ⊥) → get_or pages place nothing_known ≡ other → other.found.page < NO_PAGE
    → get_or heads (other.found.page % SETS) SEEN_PAGES ≡ place → IsFront other.found.space other.found.page t)
    → ((other : KnownPage) → get_or pages (place_of s p) nothing_known ≡ other → other.found.page < NO_PAGE → IsFront other.found.space other.found.page u)
    → ((q r : ℕ) → (r % SETS ≡ p % SETS → ⊥) → IsFront q r t → IsFront q r u)
    → (place : ℕ) (other : KnownPage) → get_or pages place nothing_known ≡ other → other.found.page < NO_PAGE
    → get_or (slice_set heads (p % SETS) (place_of s p)) (other.found.page % SETS) SEEN_PAGES ≡ place → IsFront other.found.space other.found.page u
put_heads pages heads s p t u count are here beside place other at low head = by_key place (place_of s p)
    (λ same. here other (ap (λ n. get_or pages n nothing_known) (sym same) ∙ at) low)
    (λ apart. by_key (other.found.page % SETS) (p % SETS)
    (λ alike.
    absurd (apart
    (sym head ∙ ap (λ n. get_or (slice_set heads (p % SETS) (place_of s p)) n SEEN_PAGES) alike
    ∙ get_or-set_same heads (p % SETS) (place_of s p) SEEN_PAGES (omega (arith, count)))))
    (λ elsewhere.
    beside other.found.space other.found.page elsewhere
    (are place other apart at low (sym (get_or-set_other heads (p % SETS) (other.found.page % SETS) (place_of s p) SEEN_PAGES elsewhere) ∙ head))))

-- nothing is known of its lines
bare_places : (view : MemoryView) (found : FoundPage) → ArePlaces view (bare_page found)
bare_places view found = record {
  count_reads = length-replicate PAGE_LINES NO_PLACE;
  count_writes = length-replicate PAGE_LINES NO_PLACE;
  reads = λ line at put low. absurd (let none : NO_PLACE ≡ at = sym (all_alike NO_PLACE PAGE_LINES line) ∙ put in omega (arith, none, low));
  writes = λ line at put low. absurd (let none : NO_PLACE ≡ at = sym (all_alike NO_PLACE PAGE_LINES line) ∙ put in omega (arith, none, low));
}

-- A page that was found, or none, is at the front of its list.
put_found : (old new : MemoryView) (t u : BareTranslations) (fronts : Fronts) (s p : ℕ) (found : FoundPage) → AreFronts old t fronts
    → (found.page < NO_PAGE → IsFoundPageAt new s p found × IsFront found.space found.page u)
    → ((place : ℕ) (other : KnownPage) → (place ≡ place_of s p → ⊥) → IsKnown old place other → IsKnown new place other)
    → ((q r : ℕ) → (r % SETS ≡ p % SETS → ⊥) → IsFront q r t → IsFront q r u)
    → AreFronts new u (with_found s p found fronts)
put_found old new t u fronts s p found are here kept beside = record {
  seen = front_seen new (with_page s p (bare_page found) fronts.seen) s p
      (put_seen old new fronts.seen s p (bare_page found) are.seen
      (λ low. let at = (here low).0 in record { place_is = place_same s p found at.space_is at.page_is; is = at.is; places = bare_places new found }) kept);
  heads = put_heads (slice_set fronts.seen.pages (place_of s p) (bare_page found)) fronts.seen.heads s p t u are.seen.count_heads
      (λ place other apart at low head. are.heads place other (put_beside fronts.seen.pages (place_of s p) place (bare_page found) other apart at) low head)
      (λ other at low.
      let is : bare_page found ≡ other = put_here fronts.seen.pages (place_of s p) (place_of s p) (bare_page found) other are.seen.count (omega arith) refl at in
      subst (λ (k : KnownPage). IsFront k.found.space k.found.page u) is (here (subst (λ (k : KnownPage). k.found.page < NO_PAGE) (sym is) low)).1)
      beside;
  tells = λ none. cc;
}

-- What was found of a page.

pub page_there : (view : MemoryView) (s p : ℕ) (found : FoundPage) → (at : IsFoundPageAt view s p found) → page_in (state_of view) s p ≡ Some (page_state view.store at.is.x)
page_there view s p found at =
    sym (ap (λ n. page_in (state_of view) n p) at.space_is) ∙ sym (ap (page_in (state_of view) found.space) at.page_is)
    ∙ state_page_there view found.space found.page at.is.x at.is.there

-- its entry holds
pub held_there : (view : MemoryView) (s p : ℕ) (found : FoundPage) → IsFoundPageAt view s p found → Some (held_of found) ≡ cached_in (state_of view) s p
unfolding page_state
held_there view s p found at =
    sym (ap (option_map cached_page) (page_there view s p found at)
    ∙ (λ i. Some (record { perms = at.is.perms i; frame = at.is.frame i; bits = at.is.own i })))

-- and its own lines
pub own_there : (view : MemoryView) (s p : ℕ) (found : FoundPage) → IsFoundPageAt view s p found
    → option_map (λ (x : PageState). x.own) (page_in (state_of view) s p) ≡ Some found.own
own_there view s p found at =
    sym (map_twice (λ (c : Cached). c.bits) cached_page (λ (x : PageState). x.own) (page_in (state_of view) s p) (λ x e. refl))
    ∙ sym (ap (option_map (λ (c : Cached). c.bits)) (held_there view s p found at))

mapped_there : (view : MemoryView) (s p : ℕ) (found : FoundPage) → IsFoundPageAt view s p found → is_some (get (memory_of (state_of view) s) p) ≡ true
mapped_there view s p found at = ap is_some (memory_at (state_of view) s p ∙ ap (option_map seen_page) (page_there view s p found at))

pub absent_held : (v : State) (s p : ℕ) → page_in v s p ≡ None → None ≡ cached_in v s p
absent_held v s p none = sym (ap (option_map cached_page) none)

-- A page that is known to be at the front is translated.

module _ (view : MemoryView) (s p : ℕ) (known : KnownPage) (t : BareTranslations) (fronts : Fronts) (are : AreFronts view t fronts)
    (so : (known.found.space ≡ s) × (known.found.page ≡ p) × (known_first fronts.seen p ≡ known)) (low : p < NO_PAGE) where
  abbrev page_low : known.found.page < NO_PAGE
  page_low = subst (λ n. n < NO_PAGE) (sym so.1) low

  head_is : head_at fronts.seen p ≡ place_of s p
  head_is = sym (are.seen.pages (head_at fronts.seen p) known so.2 page_low).place_is ∙ place_same s p known.found so.0 so.1

  -- it stands at its own place
  pub known_there : known_at fronts.seen s p ≡ known
  known_there = ap (λ n. get_or fronts.seen.pages n nothing_known) (sym head_is) ∙ so.2

  pub known_is : IsKnown view (place_of s p) known
  known_is = are.seen.pages (place_of s p) known known_there page_low

  pub known_found : IsFoundPageAt view s p known.found
  known_found = record { space_is = so.0; page_is = so.1; is = known_is.is }

  pub known_ahead : IsFront known.found.space known.found.page t
  known_ahead = are.heads (place_of s p) known known_there page_low (ap (λ n. get_or fronts.seen.heads (n % SETS) SEEN_PAGES) so.1 ∙ head_is)

  pub known_at_front : IsFront s p t
  known_at_front = subst (λ n. IsFront s n t) so.1 (subst (λ n. IsFront n known.found.page t) so.0 known_ahead)

  pub known_front : (u : BareTranslations) → u ≡ with_hits 1 t → IsFront known.found.space known.found.page u
  known_front u is = subst (IsFront known.found.space known.found.page) (sym is) (front_hits known.found.space known.found.page 1 t known_ahead)

  pub known_translated : (u : BareTranslations) → u ≡ with_hits 1 t → u ≡ translated s (memory_of (state_of view) s) p t
  known_translated u is =
      is ∙ sym (translated_front s p (memory_of (state_of view) s) t known_at_front)

-- A page that was found before is as the tables have it.
pub seen_found : (view : MemoryView) (s p : ℕ) (known : KnownPage) (fronts : Fronts) → AreSeen view fronts.seen
    → (known.found.space ≡ s) × (known.found.page ≡ p) × (known_at fronts.seen s p ≡ known) → p < NO_PAGE → IsFoundPageAt view s p known.found
seen_found view s p known fronts are so low =
    record { space_is = so.0; page_is = so.1; is = (are.pages (place_of s p) known so.2 (subst (λ n. n < NO_PAGE) (sym so.1) low)).is }

-- and is known by its own number and space
pub seen_itself : (s p : ℕ) (known : KnownPage) (fronts : Fronts) → (known.found.space ≡ s) × (known.found.page ≡ p) × (known_at fronts.seen s p ≡ known)
    → (known_at fronts.seen known.found.space known.found.page).found ≡ known.found
seen_itself s p known fronts so = ap (λ n. (get_or fronts.seen.pages n nothing_known).found) (place_same s p known.found so.0 so.1) ∙ ap (λ (k : KnownPage). k.found) so.2

-- A page that was found is found where it is, and what becomes of the lists where it is translated becomes of them where the one that was looked for is.
pub found_itself : (view : MemoryView) (found : FoundPage) → IsFoundPage view.table found → IsFoundPageAt view found.space found.page found
found_itself view found is = record { space_is = refl; page_is = refl; is = is }

pub known_itself : (view : MemoryView) (found : FoundPage) (fronts : Fronts) → AreSeen view fronts.seen → (known_at fronts.seen found.space found.page).found ≡ found
    → found.page < NO_PAGE → IsFoundPageAt view found.space found.page found
known_itself view found fronts are known low =
    found_itself view found
    (subst (IsFoundPage view.table) known
    (are.pages (place_of found.space found.page) (known_at fronts.seen found.space found.page) refl (subst (λ (f : FoundPage). f.page < NO_PAGE) (sym known) low)).is)

module _ (view : MemoryView) (s p : ℕ) (found : FoundPage) (t u : BareTranslations) (at : IsFoundPageAt view s p found) where
  pub translated_there : u ≡ translated found.space (memory_of (state_of view) found.space) found.page t → u ≡ translated s (memory_of (state_of view) s) p t
  translated_there is =
      is ∙ ap (λ n. translated n (memory_of (state_of view) n) found.page t) at.space_is ∙ ap (λ n. translated s (memory_of (state_of view) s) n t) at.page_is

  pub front_looked_for : IsFront found.space found.page u → IsFront s p u
  front_looked_for front = subst (λ n. IsFront s n u) at.page_is (subst (λ n. IsFront n found.page u) at.space_is front)

-- A page that was translated is at the front of its list.

module _ (view : MemoryView) (s p : ℕ) (t u : BareTranslations) (fronts : Fronts) (formed : IsFormed t) (is : u ≡ translated s (memory_of (state_of view) s) p t)
    (are : AreFronts view t fronts) where
  pub now_front : (found : FoundPage) → IsFoundPageAt view s p found → IsFront found.space found.page u
  now_front found at =
      subst (λ (w : BareTranslations). IsFront found.space found.page w) (sym is)
      (subst (λ n. IsFront found.space n (translated s (memory_of (state_of view) s) p t)) (sym at.page_is)
      (subst (λ n. IsFront n p (translated s (memory_of (state_of view) s) p t)) (sym at.space_is)
      (front_translated s p (memory_of (state_of view) s) t formed (mapped_there view s p found at))))

  stays_front : (q r : ℕ) → (r % SETS ≡ p % SETS → ⊥) → IsFront q r t → IsFront q r u
  stays_front q r apart front =
      subst (λ (w : BareTranslations). IsFront q r w) (sym is) (front_beside s q r p (memory_of (state_of view) s) t apart front)

  -- it was found in the tables
  pub put_fronts : (found : FoundPage) → IsFoundPageAt view s p found → AreFronts view u (with_found s p found fronts)
  put_fronts found at = put_found view view t u fronts s p found are (λ low. (at, now_front found at)) (λ place other apart there. there) stays_front

  -- or isn't there
  pub none_fronts : AreFronts view u (with_found s p no_page fronts)
  none_fronts = put_found view view t u fronts s p no_page are (λ low. absurd (omega (arith, low))) (λ place other apart there. there) stays_front

  -- or is known
  pub brought_known : (found : FoundPage) → IsFoundPageAt view s p found → (known_at fronts.seen s p).found ≡ found → found.page < NO_PAGE
      → AreFronts view u (with_brought s p fronts)
  brought_known found at known less = record {
    seen = front_seen view fronts.seen s p are.seen;
    heads = put_heads fronts.seen.pages fronts.seen.heads s p t u are.seen.count_heads (λ place other apart at low head. are.heads place other at low head)
        (λ other at_place low.
        subst (λ (f : FoundPage). IsFront f.space f.page u) (sym known ∙ ap (λ (k : KnownPage). k.found) at_place) (now_front found at))
        stays_front;
    tells = λ none.
        none_low (known_at fronts.seen s p) (none_at fronts.seen (place_of s p) (known_at fronts.seen s p) (are.tells none) refl)
        (subst (λ (f : FoundPage). f.page < NO_PAGE) (sym known) less);
  }

-- A page that was found: what holds of a line of it holds of that of the address, and whether it may be used so.
module _ (view : MemoryView) (s address : ℕ) (page : FoundPage) (at : IsFoundPageAt view s (address / PAGE_BYTES) page) where
  pub at_address : (line : ℕ) → line ≡ address / LINE_BYTES % PAGE_LINES → (P : ℕ → ℕ → ℕ → Type 0) → P page.space page.page line
      → P s (address / PAGE_BYTES) (address / LINE_BYTES % PAGE_LINES)
  at_address line line_is P holds =
      subst (λ n. P n (address / PAGE_BYTES) (address / LINE_BYTES % PAGE_LINES)) at.space_is
      (subst (λ n. P page.space n (address / LINE_BYTES % PAGE_LINES)) at.page_is (subst (P page.space page.page) line_is holds))

  pub of_address : (line : ℕ) → line ≡ address / LINE_BYTES % PAGE_LINES → (P : ℕ → ℕ → ℕ → Type 0)
      → P s (address / PAGE_BYTES) (address / LINE_BYTES % PAGE_LINES) → P page.space page.page line
  of_address line line_is P holds =
      subst (P page.space page.page) (sym line_is) (subst (λ n. P page.space n (address / LINE_BYTES % PAGE_LINES)) (sym at.page_is)
      (subst (λ n. P n (address / PAGE_BYTES) (address / LINE_BYTES % PAGE_LINES)) (sym at.space_is) holds))

  pub may_be_used : (need : ℕ) → IsJoined view → permits page.perms.0 need ≡ true → IsPermitted view s need address
  unfolding page_state
  may_be_used need joined may = record {
    page = page_state view.store at.is.x;
    there = page_there view s (address / PAGE_BYTES) page at;
    may = ap (λ (k : Perms). permits k.0 need) at.is.perms ∙ may;
    joined = joined;
  }

  pub mayn_be_used : (need : ℕ) → permits page.perms.0 need ≡ false → IsLacking view s need address
  unfolding page_state
  mayn_be_used need mayn = record {
    page = page_state view.store at.is.x;
    there = page_there view s (address / PAGE_BYTES) page at;
    lacks = ap (λ (k : Perms). permits k.0 need) at.is.perms ∙ mayn;
  }

-- A page at the front of its list may be known.
pub found_fronts : (view : MemoryView) (t : BareTranslations) (fronts : Fronts) (found : FoundPage) (s p : ℕ) → AreFronts view t fronts → IsFront found.space found.page t
    → IsFoundPageAt view s p found → AreFronts view t (with_found s p found fronts)
found_fronts view t fronts found s p are front at =
    put_found view view t t fronts s p found are (λ low. (at, front)) (λ place other apart there. there) (λ q r apart is. is)

-- A line of it was brought: it stays at the front of its list.
pub brought_fronts : (old new : MemoryView) (t : BareTranslations) (fronts : Fronts) (page found : FoundPage) (line s p : ℕ) → AreFronts old t fronts → IsFront page.space page.page t
    → IsBroughtTo old.table new.table page line found → KeepsPlacesBut page.space page.page old new → found.space ≡ s → found.page ≡ p
    → AreFronts new t (with_found s p found fronts)
brought_fronts old new t fronts page found line s p are front to keeps s_is p_is =
    put_found old new t t fronts s p found are
    (λ low. (
      record { space_is = s_is; page_is = p_is; is = to.is },
      subst (λ n. IsFront n found.page t) (sym to.space_is) (subst (λ n. IsFront page.space n t) (sym to.page_is) front),
    ))
    (λ place other apart is.
    let elsewhere : other.found.space ≡ page.space → other.found.page ≡ page.page → ⊥ =
    λ ss pp. apart (sym is.place_is ∙ place_same s p other.found (ss ∙ sym to.space_is ∙ s_is) (pp ∙ sym to.page_is ∙ p_is)) in
    known_kept old new other (λ i inside. keeps other.found.space other.found.page i elsewhere (ap is_some is.is.there) inside) place (to.others other.found elsewhere is.is) is)
    (λ q r apart is. is)

-- Where a line of a page that is known is read, or written, is learned.

module _ (view : MemoryView) (t : BareTranslations) (fronts : Fronts) (s p : ℕ) (known learned : KnownPage) (are : AreFronts view t fronts)
    (at_is : known_at fronts.seen s p ≡ known) (low : known.found.page < NO_PAGE) (found_is : learned.found ≡ known.found) (places : ArePlaces view learned) where
  pub learned_fronts : AreFronts view t (record { seen = with_page s p learned fronts.seen; any = fronts.any })
  learned_fronts =
      let was = are.seen.pages (place_of s p) known at_is low in
      record {
        seen = put_seen view view fronts.seen s p learned are.seen
            (λ few. record {
              place_is = ap (λ (f : FoundPage). place_of f.space f.page) found_is ∙ was.place_is;
              is = subst (IsFoundPage view.table) (sym found_is) was.is;
              places = places;
            })
            (λ place other apart there. there);
        heads = λ place other at less head. by_key place (place_of s p)
            (λ same.
            let is : learned ≡ other = put_here fronts.seen.pages (place_of s p) place learned other are.seen.count (omega arith) same at in
            let one : known.found ≡ other.found = sym found_is ∙ ap (λ (k : KnownPage). k.found) is in
            subst (λ (f : FoundPage). IsFront f.space f.page t) one
            (are.heads (place_of s p) known at_is low (ap (λ (f : FoundPage). get_or fronts.seen.heads (f.page % SETS) SEEN_PAGES) one ∙ head ∙ same)))
            (λ apart. are.heads place other (put_beside fronts.seen.pages (place_of s p) place learned other apart at) less head);
        tells = λ none. none_low known (none_at fronts.seen (place_of s p) known (are.tells none) at_is) low;
      }

pub read_places : (view : MemoryView) (known : KnownPage) (line at : ℕ) → ArePlaces view known → (at < NO_PLACE → IsUsePlace view known.found readable line at)
    → line < PAGE_LINES → ArePlaces view (with_read line at known)
read_places view known line at are is inside = record {
  count_reads = length-set known.reads line at ∙ are.count_reads;
  count_writes = are.count_writes;
  reads = λ other n put low. by_key other line
      (λ same.
      let one : at ≡ n =
      sym (get_or-set_same known.reads line at NO_PLACE (omega (arith, inside, are.count_reads))) ∙ ap (λ k. get_or (slice_set known.reads line at) k NO_PLACE) (sym same) ∙ put in
      subst (λ k. IsUsePlace view known.found readable k n) (sym same) (subst (IsUsePlace view known.found readable line) one (is (omega (arith, one, low)))))
      (λ apart. are.reads other n (sym (get_or-set_other known.reads line other at NO_PLACE apart) ∙ put) low);
  writes = are.writes;
}

pub write_places : (view : MemoryView) (known : KnownPage) (line at : ℕ) → ArePlaces view known → (at < NO_PLACE → IsWritePlace view known.found line at)
    → line < PAGE_LINES → ArePlaces view (with_write line at known)
write_places view known line at are is inside = record {
  count_reads = are.count_reads;
  count_writes = length-set known.writes line at ∙ are.count_writes;
  reads = are.reads;
  writes = λ other n put low. by_key other line
      (λ same.
      let one : at ≡ n =
      sym (get_or-set_same known.writes line at NO_PLACE (omega (arith, inside, are.count_writes))) ∙ ap (λ k. get_or (slice_set known.writes line at) k NO_PLACE) (sym same) ∙ put in
      subst (λ k. IsWritePlace view known.found k n) (sym same) (subst (IsWritePlace view known.found line) one (is (omega (arith, one, low)))))
      (λ apart. are.writes other n (sym (get_or-set_other known.writes line other at NO_PLACE apart) ∙ put) low);
}

-- The line of an address, whole.
pub line_bytes : (view : MemoryView) (address : ℕ) (found : FoundLine) (line : List ℕ) → IsFoundIn view found.space address found
    → option_map (λ (x : PageState). line_in_page x.lines found.line) (page_in (state_of view) found.space found.page) ≡ Some line → length line ≡ LINE_BYTES
    → line ≡ bytes_at (memory_of (state_of view) found.space) (LINE_BYTES * (address / LINE_BYTES)) LINE_BYTES
line_bytes view address found line it value long =
    let start = LINE_BYTES * (address / LINE_BYTES) in
    let page : address / PAGE_BYTES ≡ start / PAGE_BYTES = omega arith in
    let number : address / LINE_BYTES % PAGE_LINES ≡ start / LINE_BYTES % PAGE_LINES = omega arith in
    let none : start % LINE_BYTES ≡ 0 = omega arith in
    sym (take_all LINE_BYTES line (omega (arith, long))) ∙ ap (λ n. take LINE_BYTES (drop n line)) (sym none)
    ∙ found_piece view start LINE_BYTES found line
    (record { space_is = refl; page_is = it.page_is ∙ page; line_is = it.line_is ∙ number; is = it.is }) (omega arith) value long

-- The line of an address, of its page that was found.

module _ (view : MemoryView) (s address line : ℕ) (page : FoundPage) (found : FoundLine) (at : IsFoundPageAt view s (address / PAGE_BYTES) page)
    (line_is : line ≡ address / LINE_BYTES % PAGE_LINES) (it : IsFoundAt view page.space page.page line found) where
  pub line_space : found.space ≡ s
  line_space = it.space_is ∙ at.space_is

  pub line_found : IsFoundIn view found.space address found
  line_found = record { space_is = refl; page_is = it.page_is ∙ at.page_is; line_is = it.line_is ∙ line_is; is = it.is }

  pub line_there : IsFoundIn view s address found
  line_there = record { space_is = line_space; page_is = it.page_is ∙ at.page_is; line_is = it.line_is ∙ line_is; is = it.is }

  -- what holds of the line of the address holds of the one that was found
  pub of_line : (P : ℕ → ℕ → ℕ → Type 0) → P s (address / PAGE_BYTES) (address / LINE_BYTES % PAGE_LINES) → P found.space found.page found.line
  of_line P holds =
      subst (λ n. P n found.page found.line) (sym line_there.space_is) (subst (λ n. P s n found.line) (sym line_there.page_is) (subst (P s (address / PAGE_BYTES)) (sym line_there.line_is) holds))

  -- and may be used so
  pub front_there : (held : Translations Cached) (need : ℕ) (bytes : List ℕ) → permits page.perms.0 need ≡ true → IsFront page.space page.page (bare held)
      → option_map (λ (x : PageState). line_in_page x.lines found.line) (page_in (state_of view) found.space found.page) ≡ Some bytes → length bytes ≡ LINE_BYTES
      → IsFrontLine (cached_view view held) s need address bytes
  front_there held need bytes may front value long = record {
    may = sym (allows_is (state_of view) s (address / PAGE_BYTES) no_translations (held_of page) need
        (sym (held_there view s (address / PAGE_BYTES) page at))) ∙ may;
    front = subst (λ n. IsFront s n (bare held)) at.page_is (subst (λ n. IsFront n page.page (bare held)) at.space_is front);
    bytes = line_bytes view address found bytes line_found value long
        ∙ ap (λ q. bytes_at (memory_of (state_of view) q) (LINE_BYTES * (address / LINE_BYTES)) LINE_BYTES) line_space;
    long = long;
  }
