use Rattle.std.specs.Prelude.{◌≡◌, ℕ, ◌<◌, ◌≤◌, Bool, true, false, not, ◌&&◌, ◌||◌, nat_eq, nat_lt, List, [], ◌∷◌, ◌++◌, map, Some, None, is_some, refl}
use Rattle.std.proofs.Common.{sym, ap, subst, ◌∙◌, arith, append_assoc, append-nil}
use Rattle.std.proofs.lemmas.Bool.Decides.{nat_tests}
use Rattle.std.proofs.lemmas.Bool.{lt-ltb}
use Rattle.std.proofs.lemmas.List.{map-append}
use Rattle.sizes.specs.declared.TheConstants.{PAGE_LINES}
use Rattle.std.specs.Bool.{Decides}
use Rattle.std.specs.Str.{bytes_eq}
use Rattle.std.proofs.lemmas.Slice.Eq.{bytes_eq-Decides}
use Rattle.ovl_io.specs.Memory.{Memory}
use Rattle.delta_image.specs.Applied.{base_bytes, line_in}
use Rattle.delta_image.specs.Line.{Line}
use Rattle.overlay_bits.specs.Lines.{AreLines, has_line, lines_between, lines_where, with_line}
use Rattle.overlay_bits.specs.Below.{has_append, has_below}
use Rattle.overlay_bits.specs.Laws.{are_none, are_where, are_with, has_between, has_with, next_inside, same_sets}
use Rattle.overlay_pages.specs.State.{State}
use Rattle.overlay_pages.specs.Calls.{IsNextPage}
use Rattle.space_maps.specs.Options.{by_test}
use Rattle.space_maps.specs.Spaces.{page_in}

-- Of some lines those that pass a test, looked at one after the other.

-- so far: of the first of them, those that do
pub record IsLooking (test : ℕ → Bool) (all front rest lines : List ℕ) : Type 0 where
  pub whole : all ≡ front ++ rest
  pub all_are : AreLines all
  pub are : AreLines lines
  pub has : (q : ℕ) → has_line lines q ≡ (has_line front q && test q)

pub looking_none : (test : ℕ → Bool) (all rest : List ℕ) → AreLines all → rest ≡ all → IsLooking test all [] rest []
looking_none test all rest all_are same = record { whole = sym same; all_are = all_are; are = are_none; has = λ q. refl }

module _ (test : ℕ → Bool) (all front rest lines : List ℕ) (line : ℕ) (more : List ℕ) (cut : rest ≡ line ∷ more) (so : IsLooking test all front rest lines) where
  pub next_low : line < PAGE_LINES
  next_low = next_inside front line more (subst AreLines (so.whole ∙ ap (λ l. front ++ l) cut) so.all_are)

  cut_more : all ≡ (front ++ line ∷ []) ++ more
  cut_more = so.whole ∙ ap (λ l. front ++ l) cut ∙ sym (append_assoc front (line ∷ []) more)

  had : (q : ℕ) → has_line (front ++ line ∷ []) q ≡ (has_line front q || (nat_eq line q || false))
  had q = has_append front (line ∷ []) q

  is_line : (q : ℕ) → nat_eq line q ≡ true → line ≡ q
  is_line q e = grind (arith, nat_tests)

  pub looking_with : test line ≡ true → IsLooking test all (front ++ line ∷ []) more (with_line lines line)
  looking_with passes = record {
    whole = cut_more;
    all_are = so.all_are;
    are = are_with lines line so.are next_low;
    has = λ q. has_with lines line q ∙ by_test (nat_eq line q)
        (λ same. let at : test q ≡ true = ap test (sym (is_line q same)) ∙ passes in
        yes_line (nat_eq line q) (has_line lines q) (has_line front q) (test q) same at ∙ sym (ap (λ b. b && test q) (had q)))
        (λ other. no_line (nat_eq line q) (has_line lines q) (has_line front q) (test q) other (so.has q) ∙ sym (ap (λ b. b && test q) (had q)));
  }
    where
      yes_line : (e a b t : Bool) → e ≡ true → t ≡ true → (e || a) ≡ ((b || (e || false)) && t)
      yes_line true a true true h k = refl
      yes_line true a false true h k = refl
      yes_line false a b t h k = cc
      yes_line true a b false h k = cc

      no_line : (e a b t : Bool) → e ≡ false → a ≡ (b && t) → (e || a) ≡ ((b || (e || false)) && t)
      no_line true a b t h k = cc
      no_line false a true t h k = k
      no_line false a false t h k = k

  pub looking_past : test line ≡ false → IsLooking test all (front ++ line ∷ []) more lines
  looking_past fails = record {
    whole = cut_more;
    all_are = so.all_are;
    are = so.are;
    has = λ q. so.has q ∙ by_test (nat_eq line q)
        (λ same. let at : test q ≡ false = ap test (sym (is_line q same)) ∙ fails in no_more (has_line front q) (nat_eq line q) (test q) at ∙ sym (ap (λ b. b && test q) (had q)))
        (λ other. other_line (has_line front q) (nat_eq line q) (test q) other ∙ sym (ap (λ b. b && test q) (had q)));
  }
    where
      no_more : (b e t : Bool) → t ≡ false → (b && t) ≡ ((b || (e || false)) && t)
      no_more true e true h = cc
      no_more true e false h = refl
      no_more false true true h = cc
      no_more false true false h = refl
      no_more false false true h = cc
      no_more false false false h = refl

      other_line : (b e t : Bool) → e ≡ false → (b && t) ≡ ((b || (e || false)) && t)
      other_line b true t h = cc
      other_line true false t h = refl
      other_line false false t h = refl

-- at last: all that pass, where no other line does
pub looked_all : (test : ℕ → Bool) (all front rest lines : List ℕ) → IsLooking test all front rest lines → rest ≡ []
    → ((line : ℕ) → line < PAGE_LINES → has_line all line ≡ false → test line ≡ false) → lines ≡ lines_where test
looked_all test all front rest lines so none beside =
    same_sets lines (lines_where test) so.are (are_where test) (λ q. by_test (nat_lt q PAGE_LINES) (λ low. inside q (below q low) low) (λ high. outside q high))
  where
    below : (q : ℕ) → nat_lt q PAGE_LINES ≡ true → q < PAGE_LINES
    below q e = grind (arith, nat_tests)

    fronts : (q : ℕ) → has_line all q ≡ has_line front q
    fronts q = ap (λ l. has_line l q) (so.whole ∙ ap (λ l. front ++ l) none ∙ append-nil front)

    both : (b t : Bool) → (b ≡ false → t ≡ false) → (b && t) ≡ t
    both true t h = refl
    both false t h = sym (h refl)

    inside : (q : ℕ) → q < PAGE_LINES → nat_lt q PAGE_LINES ≡ true → has_line lines q ≡ has_line (lines_where test) q
    inside q low e =
        so.has q ∙ both (has_line front q) (test q) (λ absent. beside q low (fronts q ∙ absent))
        ∙ sym (has_below test PAGE_LINES q ∙ ap (λ b. b && test q) e)

    never : (a : Bool) → (a ≡ true → ⊥) → a ≡ false
    never true h = absurd (h refl)
    never false h = refl

    outside : (q : ℕ) → nat_lt q PAGE_LINES ≡ false → has_line lines q ≡ has_line (lines_where test) q
    outside q high =
        never (has_line lines q) (λ has. let low = lt-ltb q 64 (so.are.inside q has) in let no = sym low ∙ high in cc)
        ∙ sym (has_below test PAGE_LINES q ∙ ap (λ b. b && test q) high)

-- all lines of a page
pub all_between : (line : ℕ) → line < PAGE_LINES → has_line (lines_between 0 PAGE_LINES) line ≡ true
all_between line low = has_between 0 PAGE_LINES line (omega arith) ∙ grind (arith, nat_tests)

-- whether a page is there, by the next one
pub next_is : (v : State) (space page found : ℕ) → IsNextPage v space page (Some found) → nat_eq found page ≡ is_some (page_in v space page)
next_is v space page found next = by_test (nat_eq found page)
    (λ same. let at : found ≡ page = grind (arith, nat_tests) in same ∙ sym (ap (λ p. is_some (page_in v space p)) (sym at) ∙ next.1))
    (λ other. let before : page < found = further next.0 other in other ∙ sym (ap is_some (next.2 page (omega arith) before)))
  where
    further : page ≤ found → nat_eq found page ≡ false → page < found
    further le e = grind (arith, nat_tests)

pub none_is : (v : State) (space page : ℕ) → IsNextPage v space page None → false ≡ is_some (page_in v space page)
none_is v space page none = sym (ap is_some (none page (omega arith)))

-- Lines of a page taken one after the other, each with its number.

abbrev pub taken : Memory → ℕ → List ℕ → List Line
taken memory page numbers = map (λ i. (i, line_in (base_bytes memory page) i)) numbers

pub record IsTaking (memory : Memory) (page : ℕ) (all front rest : List ℕ) (lines : List Line) : Type 0 where
  pub whole : all ≡ front ++ rest
  pub are : AreLines all
  pub lines_are : lines ≡ taken memory page front

pub taking_none : (memory : Memory) (page : ℕ) (all rest : List ℕ) → AreLines all → rest ≡ all → IsTaking memory page all [] rest []
taking_none memory page all rest are same = record { whole = sym same; are = are; lines_are = refl }

module _ (memory : Memory) (page : ℕ) (all front rest : List ℕ) (lines : List Line) (line : ℕ) (more : List ℕ) (cut : rest ≡ line ∷ more) (so : IsTaking memory page all front rest lines) where
  pub taking_low : line < PAGE_LINES
  taking_low = next_inside front line more (subst AreLines (so.whole ∙ ap (λ l. front ++ l) cut) so.are)

  pub taking_more : (bytes : List ℕ) (new : List Line) → bytes ≡ line_in (base_bytes memory page) line → new ≡ lines ++ (line, bytes) ∷ [] → IsTaking memory page all (front ++ line ∷ []) more new
  taking_more bytes new bytes_are is = record {
    whole = so.whole ∙ ap (λ l. front ++ l) cut ∙ sym (append_assoc front (line ∷ []) more);
    are = so.are;
    lines_are = is ∙ ap (λ (ls : List Line). ls ++ (line, bytes) ∷ []) so.lines_are ∙ ap (λ bs. taken memory page front ++ (line, bs) ∷ []) bytes_are
        ∙ sym (map-append (λ i. (i, line_in (base_bytes memory page) i)) front (line ∷ []));
  }

pub taking_all : (memory : Memory) (page : ℕ) (all front rest : List ℕ) (lines : List Line) → IsTaking memory page all front rest lines → rest ≡ [] → lines ≡ taken memory page all
taking_all memory page all front rest lines so none = so.lines_are ∙ ap (taken memory page) (sym (so.whole ∙ ap (λ l. front ++ l) none ∙ append-nil front))

-- lines that are the same don't differ
pub same_bytes : (a b : List ℕ) → a ≡ b → not (bytes_eq a b) ≡ false
same_bytes a b same = at (bytes_eq a b) (bytes_eq-Decides a b)
  where
    at : (t : Bool) → Decides t (a ≡ b) → not t ≡ false
    at true is = refl
    at false differ = let no = differ.1 same in cc
