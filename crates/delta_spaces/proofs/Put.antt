use Rattle.std.specs.Prelude.{◌≡◌, ℕ, ◌+◌, ◌*◌, ◌<◌, ◌≤◌, false, List, [], ◌∷◌, ◌++◌, length, map, take, drop, get_or, Option, Some, None, is_some, IsSome, refl}
use Rattle.std.proofs.Common.{sym, ap, subst, ◌∙◌, arith, append_assoc, append-nil}
use Rattle.std.proofs.lemmas.List.{drop_all, map-append, take_all}
use Rattle.std.specs.List.{AllByRecursion}
use Rattle.std.specs.Option.{option_map}
use Rattle.std.specs.Ordering.{nat_cmp}
use Rattle.std.specs.FinMap.{empty, get, get-from_entries, insert}
use Rattle.std.specs.FinMap.Entries.{find}
use Rattle.std.specs.Cmp.{nat_cmp_total}
use Rattle.sizes.specs.declared.TheConstants.{LINE_BYTES, PAGE_LINES}
use Rattle.ovl_io.specs.Memory.{Memory}
use Rattle.ovl_io.specs.MemoryLaws.{stored_in}
use Rattle.overlay_bits.specs.Lines.{AreLines, has_line}
use Rattle.overlay_bits.specs.Laws.{are_rise, front_lacks, next_inside}
use Rattle.ledger.specs.Alike.{AreAlike}
use Rattle.ledger.specs.AlikeLaws.{alike_chain}
use Rattle.ledger.specs.Events.{Import, Store, ledger_after}
use Rattle.ledger.specs.Ledger.{Ledger, pages_of}
use Rattle.ledger.specs.Units.{units}
use Rattle.space_maps.specs.Spaces.{page_in}
use Rattle.overlay_pages.specs.Changes.{limit_of}
use Rattle.overlay_pages.specs.State.{PageState, State, books, memory_of, seen_page}
use Rattle.overlay_memory.specs.Access.{FitsStored, IsStored, line_address, stored_books}
use Rattle.overlay_memory.specs.StateMemory.{memory_at}
use Rattle.delta_image.specs.declared.delta.DeltaPage.{DeltaPage}
use Rattle.delta_image.specs.Applied.{applied_page, base_bytes}
use Rattle.delta_image.specs.Fine.{Ascend, IsPlain}
use Rattle.delta_image.specs.Line.{IsLine, Line, numbers_of}
use Rattle.delta_spaces.specs.Built.{CanFill, CanPut, HasPut, applied_pages, bare_pages, built_units, rows_of}
use Rattle.delta_spaces.specs.Finding.{found_here}
use Rattle.delta_spaces.specs.Imported.{classes}
use Rattle.delta_spaces.specs.Rows.{class_further, import_stored, units_so_far}
use Rattle.delta_spaces.proofs.Begun.{base_long}
use Rattle.delta_spaces.proofs.Bytes.{applied_long, applied_more}
use Rattle.delta_spaces.proofs.Parts.{Rising, apart_at, bare_classes, class_of_page, front_more, here, lines_rising, page_changed, plain_in, rising, rows_append, split_at, whole_at}
use Rattle.overlay_memory.specs.PutLaws.{put_row}

-- Lines are put in a page, one after the other.

-- a page with some of its lines
abbrev pub with_given : DeltaPage → List Line → DeltaPage
with_given page lines = record { page = page.page; perms = page.perms; lines = lines }

-- a space of which no page is there has none in the ledger
pub none_held : (v : State) (to : ℕ) → ((q : ℕ) → page_in v to q ≡ None) → pages_of (books v) to ≡ empty
none_held v to none = Rattle.number_maps.specs.Keys.alike _ _ (λ q.
    sym (Rattle.ledger.specs.PlaceLaws.page_is (books v) to q) ∙ Rattle.space_maps.specs.Books.books_absent Rattle.overlay_pages.specs.State.held_page v to q (none q)
    ∙ sym (Rattle.ledger.specs.PlaceLaws.no_page q))

module _ (v w : State) (base to : ℕ) (front back : List DeltaPage) (page : DeltaPage) (lines : List Line) (line : ℕ) (bytes : List ℕ) (differ : base ≡ to → ⊥)
    (bare : pages_of (books v) to ≡ empty) (rise : Rising 0 (front ++ page ∷ back)) (so : HasPut v w base to (front ++ with_given page lines ∷ back)) (low : line < PAGE_LINES) where
  abbrev p : DeltaPage
  p = with_given page lines

  abbrev q : DeltaPage
  q = with_given page (lines ++ (line, bytes) ∷ [])

  abbrev m : Memory
  m = memory_of v base

  rise_p : Rising 0 (front ++ p ∷ back)
  rise_p = lines_rising 0 front back page p refl rise

  numbers : numbers_of (lines ++ (line, bytes) ∷ []) ≡ numbers_of lines ++ line ∷ []
  numbers = map-append (λ (l : Line). l.0) lines ((line, bytes) ∷ [])

  -- the page is there
  in_memory : get (memory_of w to) page.page ≡ Some (applied_page m p)
  in_memory =
      ap (λ (n : Memory). get n page.page) so.memory
      ∙ get-from_entries nat_cmp_total (map (λ (d : DeltaPage). (d.page, applied_page m d)) (front ++ p ∷ back)) page.page
      ∙ ap (find nat_cmp page.page) (split_at (applied_page m) front (p ∷ back))
      ∙ found_here _ _ (page.page, applied_page m p) (apart_at (applied_page m) front back p rise_p)

  pub page_there : IsSome (page_in w to page.page)
  page_there = there (page_in w to page.page) (sym (memory_at w to page.page) ∙ in_memory)
    where
      there : (o : Option PageState) → option_map seen_page o ≡ Some (applied_page m p) → IsSome o
      there None e = let no = ap is_some e in cc
      there (Some x) e = refl

  -- the ledger after it
  rows_are : rows_of (front ++ p ∷ back) ≡ rows_of front ++ (page.page, numbers_of lines) ∷ rows_of back
  rows_are = split_at (λ (d : DeltaPage). numbers_of d.lines) front (p ∷ back)

  rows_then : rows_of front ++ (page.page, numbers_of lines ++ line ∷ []) ∷ rows_of back ≡ rows_of (front ++ q ∷ back)
  rows_then =
      ap (λ ns. rows_of front ++ (page.page, ns) ∷ rows_of back) (sym numbers)
      ∙ sym (split_at (λ (d : DeltaPage). numbers_of d.lines) front (q ∷ back))

  stored_is : stored_books w to (line_address page.page line) LINE_BYTES ≡ ledger_after (Store false to ((page.page, line ∷ []) ∷ [])) (books w)
  stored_is = put_row w to page.page line low ∙ ap (λ b. ledger_after (Store b to ((page.page, line ∷ []) ∷ [])) (books w)) so.mark

  pub stored_alike : AreAlike (stored_books w to (line_address page.page line) LINE_BYTES) (ledger_after (Import base to (rows_of (front ++ q ∷ back))) (books v))
  stored_alike =
      subst (λ (l : Ledger). AreAlike l (ledger_after (Import base to (rows_of (front ++ q ∷ back))) (books v))) (sym stored_is)
      (subst (λ rows. AreAlike (ledger_after (Store false to ((page.page, line ∷ []) ∷ [])) (books w)) (ledger_after (Import base to rows) (books v))) rows_then
      (import_stored (books v) base to differ bare (rows_of front) (rows_of back) page.page line (numbers_of lines)
      (apart_at (λ (d : DeltaPage). numbers_of d.lines) front back p rise_p) (books w)
      (subst (λ rows. AreAlike (books w) (ledger_after (Import base to rows) (books v))) rows_are so.ledger)))

  -- with its units, which are no more than those with all lines
  pub fits_stored : (rest : List ℕ) → numbers_of page.lines ≡ (numbers_of lines ++ line ∷ []) ++ rest → built_units v base (front ++ page ∷ back) ≤ limit_of v
      → FitsStored w to (line_address page.page line) LINE_BYTES
  fits_stored rest all fits =
      let after = units_so_far (books v) base to differ bare _ (rows_of (front ++ q ∷ back))
      (subst Rattle.delta_spaces.specs.Finding.NoneTwice (sym (split_at (λ (d : DeltaPage). numbers_of d.lines) front (q ∷ back)))
      (apart_at (λ (d : DeltaPage). numbers_of d.lines) front back q (lines_rising 0 front back page q refl rise))) stored_alike in
      let here = rows_append (books v) base front (q ∷ back) in
      let there = rows_append (books v) base front (page ∷ back) in
      let one = further in
      let frames = so.beside.frames in
      omega (arith, after, here, there, one, frames, fits)
    where
      further : class_of_page (books v) base q ≤ class_of_page (books v) base page
      further =
          subst (λ ns. class_of_page (books v) base q ≤ Rattle.ledger.specs.Units.class (length (Rattle.ledger.specs.Changes.imported (books v) base page.page ns).own))
          (ap (λ ns. ns ++ rest) numbers ∙ sym all) (class_further (books v) base page.page (numbers_of q.lines) rest)

  -- what it leaves
  module _ (new : State) (stored : IsStored w new to (line_address page.page line) bytes) (whole : length bytes ≡ LINE_BYTES) (each : AllByRecursion IsLine lines)
      (lacks : has_line (numbers_of lines) line ≡ false) where
    memory_then : memory_of new to ≡ applied_pages (front ++ q ∷ back) m
    memory_then =
        stored.memory
        ∙ stored_in (memory_of w to) page.page (line_address page.page line) (64 * line) bytes (applied_page m p) in_memory
        (applied_long lines (base_bytes m page.page) each (base_long v base page.page)) refl (omega (arith, whole, low))
        ∙ ap (λ (bs : List ℕ). insert (memory_of w to) page.page (record { perms = page.perms.0; bytes = bs }))
        (applied_more lines line bytes (base_bytes m page.page) lacks low whole each (base_long v base page.page))
        ∙ ap (λ (n : Memory). insert n page.page (applied_page m q)) so.memory
        ∙ page_changed m front back p q refl rise_p

    pub put_more : HasPut v new base to (front ++ q ∷ back)
    put_more = record {
      memory = memory_then;
      ledger = alike_chain _ _ _ stored.ledger
          (subst (λ n. AreAlike (stored_books w to (line_address page.page line) n) (ledger_after (Import base to (rows_of (front ++ q ∷ back))) (books v))) (sym whole) stored_alike);
      awaiting = stored.awaiting ∙ so.awaiting;
      mark = stored.mark ∙ so.mark;
      beside = record {
        others = λ r other. stored.others r other ∙ so.beside.others r other;
        spaces = λ r. stored.spaces r ∙ so.beside.spaces r;
        frames = stored.frames ∙ so.beside.frames;
        zero_frame = stored.zero_frame ∙ so.beside.zero_frame;
      };
    }

-- The lines of one page.

-- those before a place are in it
pub record IsPutting (w0 w : State) (to : ℕ) (page : DeltaPage) (count : ℕ) : Type 0 where
  pub put : (from : CanPut w0 to page) → HasPut from.before w from.base to (from.front ++ with_given page (take count page.lines) ∷ from.back)
  pub each : AllByRecursion IsLine (take count page.lines)

pub putting_none : (w : State) (to : ℕ) (page : DeltaPage) → IsPutting w w to page 0
putting_none w to page = record { put = λ from. from.put; each = tt }

all_push : {X : Type 0} (P : X → Type 0) (xs : List X) (x : X) → AllByRecursion P xs → P x → AllByRecursion P (xs ++ x ∷ [])
all_push P [] x all one = (one, tt)
all_push P (y ∷ ys) x all one = (all.0, all_push P ys x all.1 one)

module _ (w0 w : State) (to : ℕ) (page : DeltaPage) (count : ℕ) (so : IsPutting w0 w to page count) (from : CanPut w0 to page) (line : ℕ) (bytes : List ℕ) (d : Line)
    (within : count < length page.lines) (is : ◌≡◌ {A = Line} (line, bytes) (get_or page.lines count d)) where
  rise_from : Rising 0 (from.front ++ page ∷ from.back)
  rise_from = rising 0 (from.front ++ page ∷ from.back) from.ascend

  plain : IsPlain page
  plain = plain_in 0 from.front from.back page from.ascend

  numbers_at : numbers_of page.lines ≡ numbers_of (take count page.lines) ++ line ∷ numbers_of (drop (count + 1) page.lines)
  numbers_at = ap numbers_of (whole_at page.lines count d (line, bytes) within is) ∙ map-append (λ (l : Line). l.0) (take count page.lines) ((line, bytes) ∷ drop (count + 1) page.lines)

  set : AreLines (numbers_of (take count page.lines) ++ line ∷ numbers_of (drop (count + 1) page.lines))
  set = subst AreLines numbers_at (are_rise (numbers_of page.lines) plain.rise)

  pub low_line : line < PAGE_LINES
  low_line = next_inside (numbers_of (take count page.lines)) line (numbers_of (drop (count + 1) page.lines)) set

  none : pages_of (books from.before) to ≡ empty
  none = none_held from.before to from.bare

  pub line_page : IsSome (page_in w to page.page)
  line_page =
      page_there from.before w from.base to from.front from.back page (take count page.lines) line bytes from.differ none rise_from (so.put from) low_line

  pub line_fits : FitsStored w to (line_address page.page line) LINE_BYTES
  line_fits =
      fits_stored from.before w from.base to from.front from.back page (take count page.lines) line bytes from.differ none rise_from (so.put from) low_line
      (numbers_of (drop (count + 1) page.lines))
      (numbers_at ∙ sym (append_assoc (numbers_of (take count page.lines)) (line ∷ []) (numbers_of (drop (count + 1) page.lines)))) from.fits

  pub line_put : (new : State) → IsStored w new to (line_address page.page line) bytes → length bytes ≡ LINE_BYTES
      → HasPut from.before new from.base to (from.front ++ with_given page (take (count + 1) page.lines) ∷ from.back)
  line_put new stored whole =
      subst (λ (ls : List Line). HasPut from.before new from.base to (from.front ++ with_given page ls ∷ from.back)) (sym (front_more page.lines count d (line, bytes) within is))
      (put_more from.before w from.base to from.front from.back page (take count page.lines) line bytes from.differ none rise_from (so.put from) low_line new stored whole so.each
      (front_lacks (numbers_of (take count page.lines)) line (numbers_of (drop (count + 1) page.lines)) set))

pub putting_more : (w0 w new : State) (to : ℕ) (page : DeltaPage) (count : ℕ) (line : ℕ) (bytes : List ℕ) (d : Line) → IsPutting w0 w to page count → count < length page.lines
    → ◌≡◌ {A = Line} (line, bytes) (get_or page.lines count d) → IsStored w new to (line_address page.page line) bytes → length bytes ≡ LINE_BYTES → IsPutting w0 new to page (count + 1)
putting_more w0 w new to page count line bytes d so within is stored whole = record {
  put = λ from. line_put w0 w to page count so from line bytes d within is new stored whole;
  each = subst (AllByRecursion IsLine) (sym (front_more page.lines count d (line, bytes) within is)) (all_push IsLine (take count page.lines) (line, bytes) so.each whole);
}

pub putting_all : (w0 w : State) (to : ℕ) (page : DeltaPage) (count : ℕ) → IsPutting w0 w to page count → length page.lines ≤ count → (from : CanPut w0 to page)
    → HasPut from.before w from.base to (from.front ++ page ∷ from.back)
putting_all w0 w to page count so all from =
    subst (λ (ls : List Line). HasPut from.before w from.base to (from.front ++ with_given page ls ∷ from.back)) (take_all count page.lines all) (so.put from)

-- The lines of all pages.

pub record IsFilling (w0 w : State) (to : ℕ) (pages front rest : List DeltaPage) : Type 0 where
  pub whole : pages ≡ front ++ rest
  pub put : (from : CanFill w0 to pages) → HasPut from.before w from.base to (front ++ bare_pages rest)

pub filling_none : (w : State) (to : ℕ) (pages : List DeltaPage) → IsFilling w w to pages [] pages
filling_none w to pages = record { whole = refl; put = λ from. from.put }

pub can_put : (w0 w : State) (to : ℕ) (pages front more : List DeltaPage) (page : DeltaPage) → IsFilling w0 w to pages front (page ∷ more) → CanFill w0 to pages → CanPut w to page
can_put w0 w to pages front more page so from = record {
  before = from.before;
  base = from.base;
  front = front;
  back = bare_pages more;
  differ = from.differ;
  bare = from.bare;
  put = so.put from;
  ascend = bare_ascend 0 front (subst (Ascend IsPlain 0) so.whole from.ascend);
  fits =
      let all = ap (λ (ps : List DeltaPage). classes (books from.before) from.base (rows_of ps)) so.whole in
      let one = rows_append (books from.before) from.base front (page ∷ more) in
      let two = rows_append (books from.before) from.base front (page ∷ bare_pages more) in
      let bares = bare_classes (books from.before) from.base more in
      let fits = from.fits in
      omega (arith, all, one, two, bares, fits);
}
  where
    bares : (from : ℕ) (ps : List DeltaPage) → Ascend IsPlain from ps → Ascend IsPlain from (bare_pages ps)
    bares from [] ascend = tt
    bares from (p ∷ ps) ascend = (ascend.0, record { low = ascend.1.low; perms = ascend.1.perms; rise = omega arith }, bares (p.page + 1) ps ascend.2)

    bare_ascend : (from : ℕ) (xs : List DeltaPage) → Ascend IsPlain from (xs ++ page ∷ more) → Ascend IsPlain from (xs ++ page ∷ bare_pages more)
    bare_ascend from [] ascend = (ascend.0, ascend.1, bares (page.page + 1) more ascend.2)
    bare_ascend from (x ∷ xs) ascend = (ascend.0, ascend.1, bare_ascend (x.page + 1) xs ascend.2)

pub filling_more : (w0 w new : State) (to : ℕ) (pages front more : List DeltaPage) (page : DeltaPage) → (so : IsFilling w0 w to pages front (page ∷ more))
    → ((from : CanPut w to page) → HasPut from.before new from.base to (from.front ++ page ∷ from.back)) → IsFilling w0 new to pages (front ++ page ∷ []) more
unfolding can_put
filling_more w0 w new to pages front more page so put = record {
  whole = so.whole ∙ sym (append_assoc front (page ∷ []) more);
  put = λ from. subst (HasPut from.before new from.base to) (sym (append_assoc front (page ∷ []) (bare_pages more))) (put (can_put w0 w to pages front more page so from));
}

pub filling_all : (w0 w : State) (to : ℕ) (pages front : List DeltaPage) → IsFilling w0 w to pages front [] → (from : CanFill w0 to pages) → HasPut from.before w from.base to pages
filling_all w0 w to pages front so from =
    subst (HasPut from.before w from.base to) (sym (so.whole ∙ append-nil front)) (subst (HasPut from.before w from.base to) (append-nil front) (so.put from))

-- The same by the place in the list.

module _ (w0 w : State) (to : ℕ) (pages : List DeltaPage) (count : ℕ) where
  pub filling_at : (page d : DeltaPage) → count < length pages → page ≡ get_or pages count d → IsFilling w0 w to pages (take count pages) (drop count pages)
      → IsFilling w0 w to pages (take count pages) (page ∷ drop (count + 1) pages)
  filling_at page d within is so = subst (IsFilling w0 w to pages (take count pages)) (here pages count d page within is) so

  pub filling_next : (page d : DeltaPage) → count < length pages → page ≡ get_or pages count d → IsFilling w0 w to pages (take count pages ++ page ∷ []) (drop (count + 1) pages)
      → IsFilling w0 w to pages (take (count + 1) pages) (drop (count + 1) pages)
  filling_next page d within is so =
      subst (λ (front : List DeltaPage). IsFilling w0 w to pages front (drop (count + 1) pages)) (sym (front_more pages count d page within is)) so

  pub filling_end : length pages ≤ count → IsFilling w0 w to pages (take count pages) (drop count pages) → (from : CanFill w0 to pages) → HasPut from.before w from.base to pages
  filling_end all so = filling_all w0 w to pages (take count pages) (subst (IsFilling w0 w to pages (take count pages)) (drop_all count pages all) so)
