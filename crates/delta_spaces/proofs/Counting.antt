use Rattle.std.specs.Prelude.{◌≡◌, ℕ, ◌+◌, ◌*◌, ◌<◌, ◌≤◌, false, List, [], ◌∷◌, ◌++◌, length, take, drop, get_or, Option, Some, None, is_some, refl}
use Rattle.std.proofs.Common.{sym, ap, subst, ◌∙◌, arith}
use Rattle.std.proofs.lemmas.List.{map-append, take_all, take_more}
use Rattle.std.proofs.lemmas.List.Sums.{fold-append}
use Rattle.std.specs.List.{fold}
use Rattle.sizes.specs.declared.TheConstants.{FRAME_UNITS, MOST_UNITS, PAGE_LINES}
use Rattle.overlay_bits.specs.Lines as bits
use Rattle.overlay_bits.specs.Lines.{AreLines, Rise}
use Rattle.overlay_bits.specs.Laws.{are_rise, next_inside}
use Rattle.space_ledger.specs.Joined.{put_same}
use Rattle.overlay_memory.specs.PageLaws.{held_there, some_is}
use Rattle.overlay_pages.specs.Changes.{units_of}
use Rattle.overlay_pages.specs.State.{PageState, State, books, held_page}
use Rattle.std.specs.Option.{option_map}
use Rattle.ledger.specs.Changes.{imported, with_line, with_lines}
use Rattle.ledger.specs.ClassLaws.{class_most}
use Rattle.ledger.specs.Ledger.{Holding}
use Rattle.ledger.specs.Units.{class}
use Rattle.space_maps.specs.Books.{books_absent}
use Rattle.space_maps.specs.Options.{none_by}
use Rattle.space_maps.specs.Spaces.{page_in}
use Rattle.delta_image.specs.declared.delta.DeltaPage.{DeltaPage}
use Rattle.delta_image.specs.Line.{Line, numbers_of}
use Rattle.delta_spaces.specs.Built.{built_units, rows_of}
use Rattle.delta_spaces.specs.Rows.{imported_further}
use Rattle.delta_spaces.specs.Imported.{classes}
use Rattle.delta_spaces.proofs.Begun.{imported_absent, imported_there}
use Rattle.delta_spaces.proofs.Parts.{class_of_page, front_more, rows_append, whole_at}

-- The units after it, page by page.

-- the own lines of a page of the base
pub base_own : (v : State) (base page : ℕ) (own : List ℕ) → option_map (λ (x : PageState). x.own) (page_in v base page) ≡ Some own → own ≡ (imported (books v) base page []).own
base_own v base page own e = by_page (page_in v base page) refl
  where
    by_page : (o : Option PageState) → page_in v base page ≡ o → own ≡ (imported (books v) base page []).own
    by_page None is = let no = sym (ap is_some e) ∙ ap (λ (o : Option PageState). is_some (option_map (λ (x : PageState). x.own) o)) is in absurd cc
    by_page (Some x) is =
        some_is own x.own (sym e ∙ ap (option_map (λ (x : PageState). x.own)) is)
        ∙ sym (ap (λ (h : Holding). h.own) (imported_there (books v) base page (held_page v.zero_frame x) (held_there v base page x is)))

pub no_own : (v : State) (base page : ℕ) → is_some (page_in v base page) ≡ false → [] ≡ (imported (books v) base page []).own
no_own v base page absent =
    sym (ap (λ (h : Holding). h.own) (imported_absent (books v) base page (books_absent held_page v base page (none_by (page_in v base page) absent))))

pub record IsCounting (v : State) (base : ℕ) (pages : List DeltaPage) (units count : ℕ) : Type 0 where
  pub sum : units ≡ units_of v + classes (books v) base (rows_of (take count pages))
  pub few : units ≤ MOST_UNITS + FRAME_UNITS * count

pub counting_none : (v : State) (base : ℕ) (pages : List DeltaPage) (n : ℕ) → n ≡ units_of v → n ≤ MOST_UNITS → IsCounting v base pages n 0
counting_none v base pages n is few = record { sum = omega (arith, is); few = omega (arith, few) }

pub counting_more : (v : State) (base : ℕ) (pages : List DeltaPage) (units count n new : ℕ) (page d : DeltaPage) → IsCounting v base pages units count → count < length pages
    → page ≡ get_or pages count d → n ≡ class_of_page (books v) base page → n ≤ FRAME_UNITS → new ≡ units + n → IsCounting v base pages new (count + 1)
counting_more v base pages units count n new page d so within is one most sum =
    let more = ap (λ (ps : List DeltaPage). classes (books v) base (rows_of ps)) (front_more pages count d page within is) in
    let split = rows_append (books v) base (take count pages) (page ∷ []) in
    let so_far = so.sum in
    let few = so.few in record {
      sum = omega (arith, so_far, more, split, one, sum);
      few = omega (arith, few, sum, most);
    }

pub counting_all : (v : State) (base : ℕ) (pages : List DeltaPage) (units count : ℕ) → IsCounting v base pages units count → length pages ≤ count → units ≡ built_units v base pages
counting_all v base pages units count so all = so.sum ∙ ap (λ (ps : List DeltaPage). units_of v + classes (books v) base (rows_of ps)) (take_all count pages all)

-- The own lines of a page, joined with those that are given.

pub joined_none : (own : List ℕ) → own ≡ with_lines own []
unfolding with_lines
joined_none own = refl

numbers_at : (lines : List Line) (count : ℕ) (d : Line) → count < length lines → numbers_of lines ≡ numbers_of (take count lines) ++ (get_or lines count d).0 ∷ numbers_of (drop (count + 1) lines)
numbers_at lines count d within =
    ap numbers_of (whole_at lines count d (get_or lines count d) within refl) ∙ map-append (λ (l : Line). l.0) (take count lines) (get_or lines count d ∷ drop (count + 1) lines)

pub joined_low : (lines : List Line) (count : ℕ) (d : Line) → Rise 0 (numbers_of lines) PAGE_LINES → count < length lines → (get_or lines count d).0 < PAGE_LINES
joined_low lines count d rise within =
    next_inside (numbers_of (take count lines)) (get_or lines count d).0 (numbers_of (drop (count + 1) lines)) (subst AreLines (numbers_at lines count d within) (are_rise (numbers_of lines) rise))

pub joined_more : (own : List ℕ) (lines : List Line) (count : ℕ) (d : Line) → Rise 0 (numbers_of lines) PAGE_LINES → count < length lines → (joined new : List ℕ)
    → joined ≡ with_lines own (numbers_of (take count lines)) → AreLines joined → new ≡ bits.with_line joined (get_or lines count d).0 → new ≡ with_lines own (numbers_of (take (count + 1) lines))
unfolding with_lines
joined_more own lines count d rise within joined new so are is =
    let line = (get_or lines count d).0 in
    is ∙ put_same joined line are (joined_low lines count d rise within) ∙ ap (λ l. with_line l line) so
    ∙ sym (ap (λ (ls : List Line). fold with_line own (numbers_of ls)) (take_more lines count d within)
    ∙ ap (fold with_line own) (map-append (λ (l : Line). l.0) (take count lines) (get_or lines count d ∷ []))
    ∙ fold-append with_line own (numbers_of (take count lines)) (line ∷ []))

-- what they count
pub joined_class : (v : State) (base : ℕ) (page : DeltaPage) (own joined : List ℕ) (n units : ℕ) → own ≡ (imported (books v) base page.page []).own
    → joined ≡ with_lines own (numbers_of page.lines) → n ≡ length joined → units ≡ class n → units ≡ class_of_page (books v) base page
joined_class v base page own joined n units own_is is count sum =
    sum ∙ ap class (count ∙ ap (λ (l : List ℕ). length l) (is ∙ ap (λ o. with_lines o (numbers_of page.lines)) own_is)
    ∙ sym (ap (λ (h : Holding). length h.own) (imported_further (books v) base page.page [] (numbers_of page.lines))))

pub class_few : (n units : ℕ) → units ≡ class n → units ≤ FRAME_UNITS
class_few n units is = let most = class_most n in omega (arith, is, most)
