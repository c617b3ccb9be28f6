use Rattle.std.specs.Prelude.{◌≡◌, ℕ, suc, ◌+◌, ◌<◌, ◌≤◌, Bool, true, false, cond, List, [], ◌∷◌, ◌++◌, length, map, take, drop, get_or, is_some, refl}
use Rattle.std.proofs.Common.{sym, ap, subst, ◌∙◌, arith}
use Rattle.std.proofs.Math.Seq.{drop-cons}
use Rattle.std.proofs.lemmas.List.{map-append, take-append-drop, take_more}
use Rattle.std.specs.FinMap.{from_entries, insert, len}
use Rattle.number_maps.specs.Rows.{RowsRise}
use Rattle.ledger.specs.Ledger.{Ledger}
use Rattle.ledger.specs.Changes.{imported}
use Rattle.ledger.specs.Units.{class}
use Rattle.ovl_io.specs.Memory.{Memory, Page}
use Rattle.space_maps.specs.Spaces.{page_in}
use Rattle.overlay_pages.specs.State.{State}
use Rattle.delta_image.specs.declared.delta.DeltaPage.{DeltaPage}
use Rattle.delta_image.specs.Applied.{applied_page}
use Rattle.delta_image.specs.Fine.{Ascend, IsPlain}
use Rattle.delta_image.specs.Line.{numbers_of}
use Rattle.delta_spaces.specs.Built.{applied_pages, bare_page, bare_pages, kept_pages, row_of, rows_of}
use Rattle.delta_spaces.specs.Finding.{NoneTwice, many_apart, one_put, other_put, rise_apart}
use Rattle.delta_spaces.specs.Imported.{classes}
use Rattle.delta_spaces.specs.Rows.{class_further, classes_append}

-- Some of a delta's pages, with some of their lines.

-- their numbers rise strictly
abbrev pub Rising : ℕ → List DeltaPage → Type 0
Rising from [] = Unit {0}
Rising from (page ∷ pages) = (from ≤ page.page) × Rising (page.page + 1) pages

pub rising : (from : ℕ) (pages : List DeltaPage) → Ascend IsPlain from pages → Rising from pages
rising from [] are = tt
rising from (p ∷ ps) are = (are.0, rising (p.page + 1) ps are.2)

pub rising_from : (to from : ℕ) (pages : List DeltaPage) → to ≤ from → Rising from pages → Rising to pages
rising_from to from [] le rise = tt
rising_from to from (p ∷ ps) le rise = (omega (arith, le, rise.0), rise.1)

-- a part of the pages behind others, of which each has its number
abbrev pub KeepsRising : (List DeltaPage → List DeltaPage) → Type 0
KeepsRising part = (from : ℕ) (pages : List DeltaPage) → Rising from pages → Rising from (part pages)

pub bare_rising : KeepsRising bare_pages
bare_rising from [] rise = tt
bare_rising from (p ∷ ps) rise = (rise.0, bare_rising (p.page + 1) ps rise.1)

pub kept_rising : (v : State) (base : ℕ) → KeepsRising (kept_pages v base)
kept_rising v base from [] rise = tt
kept_rising v base from (p ∷ ps) rise = at (is_some (page_in v base p.page)) (kept_rising v base (p.page + 1) ps rise.1)
  where
    at : (b : Bool) → Rising (p.page + 1) (kept_pages v base ps) → Rising from (cond b (bare_page p ∷ kept_pages v base ps) (kept_pages v base ps))
    at true rest = (rise.0, rest)
    at false rest = rising_from from (p.page + 1) (kept_pages v base ps) (omega (arith, rise.0)) rest

pub part_rising : (part : List DeltaPage → List DeltaPage) → KeepsRising part → (from : ℕ) (front back : List DeltaPage) → Rising from (front ++ back) → Rising from (front ++ part back)
part_rising part keeps from [] back rise = keeps from back rise
part_rising part keeps from (p ∷ front) back rise = (rise.0, part_rising part keeps (p.page + 1) front back rise.1)

pub front_rising : (part : List DeltaPage → List DeltaPage) → ((p : DeltaPage) (ps : List DeltaPage) → part (p ∷ ps) ≡ bare_page p ∷ part ps) → part [] ≡ []
    → (from : ℕ) (front back : List DeltaPage) → Rising from (front ++ back) → Rising from (part front ++ back)
front_rising part more none from [] back rise = subst (λ (ps : List DeltaPage). Rising from (ps ++ back)) (sym none) rise
front_rising part more none from (p ∷ front) back rise =
    subst (λ (ps : List DeltaPage). Rising from (ps ++ back)) (sym (more p front)) (rise.0, front_rising part more none (p.page + 1) front back rise.1)

-- a page in its place, whatever its lines
pub lines_rising : (from : ℕ) (front back : List DeltaPage) (p q : DeltaPage) → p.page ≡ q.page → Rising from (front ++ p ∷ back) → Rising from (front ++ q ∷ back)
lines_rising from [] back p q same rise = (omega (arith, same, rise.0), subst (λ n. Rising (n + 1) back) same rise.1)
lines_rising from (e ∷ front) back p q same rise = (rise.0, lines_rising (e.page + 1) front back p q same rise.1)

-- By number, each with something of it, none comes twice.
module _ {X : Type 0} (f : DeltaPage → X) where
  abbrev pub numbered : List DeltaPage → List (ℕ × X)
  numbered pages = map (λ page. (page.page, f page)) pages

  pub rows_rise : (from : ℕ) (pages : List DeltaPage) → Rising from pages → RowsRise from (numbered pages)
  rows_rise from [] rise = tt
  rows_rise from (p ∷ ps) rise = (rise.0, rows_rise (p.page + 1) ps rise.1)

  pub apart_all : (pages : List DeltaPage) → Rising 0 pages → NoneTwice (numbered pages)
  apart_all pages rise = rise_apart 0 (numbered pages) (rows_rise 0 pages rise)

  pub split_at : (front back : List DeltaPage) → numbered (front ++ back) ≡ numbered front ++ numbered back
  split_at front back = map-append (λ (page : DeltaPage). (page.page, f page)) front back

  pub apart_at : (front back : List DeltaPage) (p : DeltaPage) → Rising 0 (front ++ p ∷ back) → NoneTwice (numbered front ++ (p.page, f p) ∷ numbered back)
  apart_at front back p rise = subst NoneTwice (split_at front (p ∷ back)) (apart_all (front ++ p ∷ back) rise)

-- The memory that pages make: with one more, and with one that has other lines.

pub page_added : (m : Memory) (front back : List DeltaPage) (p : DeltaPage) → Rising 0 (front ++ p ∷ back)
    → insert (applied_pages (front ++ back) m) p.page (applied_page m p) ≡ applied_pages (front ++ p ∷ back) m
page_added m front back p rise =
    ap (λ (es : List (ℕ × Page)). insert (from_entries es) p.page (applied_page m p)) (split_at (applied_page m) front back)
    ∙ one_put (numbered (applied_page m) front) (numbered (applied_page m) back) (p.page, applied_page m p) (apart_at (applied_page m) front back p rise)
    ∙ ap (λ (es : List (ℕ × Page)). from_entries es) (sym (split_at (applied_page m) front (p ∷ back)))

pub page_changed : (m : Memory) (front back : List DeltaPage) (p q : DeltaPage) → p.page ≡ q.page → Rising 0 (front ++ p ∷ back)
    → insert (applied_pages (front ++ p ∷ back) m) p.page (applied_page m q) ≡ applied_pages (front ++ q ∷ back) m
page_changed m front back p q same rise =
    ap (λ (es : List (ℕ × Page)). insert (from_entries es) p.page (applied_page m q)) (split_at (applied_page m) front (p ∷ back))
    ∙ other_put (numbered (applied_page m) front) (numbered (applied_page m) back) p.page (applied_page m p) (applied_page m q) (apart_at (applied_page m) front back p rise)
    ∙ ap (λ n. from_entries (numbered (applied_page m) front ++ (n, applied_page m q) ∷ numbered (applied_page m) back)) same
    ∙ ap (λ (es : List (ℕ × Page)). from_entries es) (sym (split_at (applied_page m) front (q ∷ back)))

-- how many pages that is
pub many_pages : (m : Memory) (pages : List DeltaPage) → Rising 0 pages → len (applied_pages pages m) ≡ length (numbered (applied_page m) pages)
many_pages m pages rise = many_apart (numbered (applied_page m) pages) (apart_all (applied_page m) pages rise)

-- Their units.

module _ (l : Ledger) (base : ℕ) where
  abbrev pub class_of_page : DeltaPage → ℕ
  class_of_page page = class (length (imported l base page.page (numbers_of page.lines)).own)

  pub bare_class : (page : DeltaPage) → class_of_page (bare_page page) ≤ class_of_page page
  bare_class page = class_further l base page.page [] (numbers_of page.lines)

  pub rows_append : (front back : List DeltaPage) → classes l base (rows_of (front ++ back)) ≡ classes l base (rows_of front) + classes l base (rows_of back)
  rows_append front back = ap (classes l base) (map-append row_of front back) ∙ classes_append l base (rows_of front) (rows_of back)

  pub bare_classes : (pages : List DeltaPage) → classes l base (rows_of (bare_pages pages)) ≤ classes l base (rows_of pages)
  bare_classes [] = omega arith
  bare_classes (p ∷ ps) = let rest = bare_classes ps in let one = bare_class p in omega (arith, rest, one)

  pub kept_classes : (v : State) (pages : List DeltaPage) → classes l base (rows_of (kept_pages v base pages)) ≤ classes l base (rows_of pages)
  kept_classes v [] = omega arith
  kept_classes v (p ∷ ps) = at (is_some (page_in v base p.page)) (kept_classes v ps)
    where
      at : (b : Bool) → classes l base (rows_of (kept_pages v base ps)) ≤ classes l base (rows_of ps)
          → classes l base (rows_of (cond b (bare_page p ∷ kept_pages v base ps) (kept_pages v base ps))) ≤ class_of_page p + classes l base (rows_of ps)
      at true rest = let one = bare_class p in omega (arith, rest, one)
      at false rest = omega (arith, rest)

-- A list at a place.

pub here : {X : Type 0} (xs : List X) (i : ℕ) (d x : X) → i < length xs → x ≡ get_or xs i d → drop i xs ≡ x ∷ drop (i + 1) xs
here xs i d x lt is =
    let next : suc i ≡ i + 1 = omega arith in
    drop-cons xs i d lt ∙ ap (λ y. y ∷ drop (suc i) xs) (sym is) ∙ ap (λ n. x ∷ drop n xs) next

pub whole_at : {X : Type 0} (xs : List X) (i : ℕ) (d x : X) → i < length xs → x ≡ get_or xs i d → xs ≡ take i xs ++ x ∷ drop (i + 1) xs
whole_at xs i d x lt is = sym (take-append-drop i xs) ∙ ap (λ rest. take i xs ++ rest) (here xs i d x lt is)

pub front_more : {X : Type 0} (xs : List X) (i : ℕ) (d x : X) → i < length xs → x ≡ get_or xs i d → take (i + 1) xs ≡ take i xs ++ x ∷ []
front_more xs i d x lt is = take_more xs i d lt ∙ ap (λ y. take i xs ++ y ∷ []) (sym is)

-- the pages that the base has, one more
pub kept_append : (v : State) (base : ℕ) (front back : List DeltaPage) → kept_pages v base (front ++ back) ≡ kept_pages v base front ++ kept_pages v base back
kept_append v base [] back = refl
kept_append v base (p ∷ front) back = at (is_some (page_in v base p.page)) (kept_append v base front back)
  where
    at : (b : Bool) → kept_pages v base (front ++ back) ≡ kept_pages v base front ++ kept_pages v base back
        → cond b (bare_page p ∷ kept_pages v base (front ++ back)) (kept_pages v base (front ++ back))
        ≡ cond b (bare_page p ∷ kept_pages v base front) (kept_pages v base front) ++ kept_pages v base back
    at true rest = ap (λ (ps : List DeltaPage). bare_page p ∷ ps) rest
    at false rest = rest

-- a page of a list that is plain
pub plain_in : (from : ℕ) (front back : List DeltaPage) (p : DeltaPage) → Ascend IsPlain from (front ++ p ∷ back) → IsPlain p
plain_in from [] back p ascend = ascend.1
plain_in from (x ∷ xs) back p ascend = plain_in (x.page + 1) xs back p ascend.2

pub plain_here : (from : ℕ) (pages : List DeltaPage) (i : ℕ) (p d : DeltaPage) → Ascend IsPlain from pages → i < length pages → p ≡ get_or pages i d → IsPlain p
plain_here from pages i p d ascend lt is = plain_in from (take i pages) (drop (i + 1) pages) p (subst (Ascend IsPlain from) (whole_at pages i d p lt is) ascend)
