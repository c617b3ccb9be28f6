use Rattle.std.specs.Prelude.{◌≡◌, ℕ, ◌≤◌, Bool, true, false, not, ◌&&◌, ◌||◌, List, [], ◌∷◌, Option, Some, None, refl}
use Rattle.std.proofs.Common.{subst, sym, ap, ◌∙◌, arith}
use Rattle.std.proofs.lemmas.Bool.{eq-eqb}
use Rattle.std.proofs.lemmas.Bool.Decides.{nat_tests}
use Rattle.sizes.specs.declared.TheConstants.{PAGE_LINES}
use Rattle.overlay_bits.specs.Lines.{AreLines, IsFirst, IsLeastFrom, has_line, lines_between, without_line, without_lines}
use Rattle.overlay_bits.specs.Below.{is_between, rise_lacks}
use Rattle.overlay_bits.specs.Laws.{has_between, has_filter}

-- The least member not below a line.

both : (a b : Bool) → (a && b) ≡ true → (a ≡ true) × (b ≡ true)
both true true h = (refl, refl)
both true false h = cc
both false b h = cc

and_not : (a b : Bool) → b ≡ false → (a && not b) ≡ a
and_not true b h = ap not h
and_not false b h = refl

not_between : (from i : ℕ) → not (is_between 0 from i) ≡ true → from ≤ i
not_between from i h = grind (arith, nat_tests)

beyond : (from i : ℕ) → from ≤ i → is_between 0 from i ≡ false
beyond from i le = grind (arith, nat_tests)

module _ (lines : List ℕ) (from : ℕ) (are : AreLines lines) where
  rest : List ℕ
  rest = without_lines lines (lines_between 0 from)

  has_rest : (i : ℕ) → has_line (without_lines lines (lines_between 0 from)) i ≡ (has_line lines i && not (is_between 0 from i))
  has_rest i =
      has_filter (λ line. not (has_line (lines_between 0 from) line)) lines i
      ∙ ap (λ b. has_line lines i && not b) (has_between 0 from i (omega arith))

  same_from : (i : ℕ) → from ≤ i → has_line (without_lines lines (lines_between 0 from)) i ≡ has_line lines i
  same_from i le = has_rest i ∙ and_not (has_line lines i) (is_between 0 from i) (beyond from i le)

  pub least_none : without_lines lines (lines_between 0 from) ≡ [] → IsLeastFrom lines from None
  least_none none i le = sym (same_from i le) ∙ ap (λ l. has_line l i) none

  pub least_some : (line : ℕ) (others : List ℕ) → AreLines (without_lines lines (lines_between 0 from))
      → without_lines lines (lines_between 0 from) ≡ line ∷ others → IsLeastFrom lines from (Some line)
  least_some line others rise is =
      let first : has_line (without_lines lines (lines_between 0 from)) line ≡ true =
      ap (λ l. has_line l line) is ∙ ap (λ (b : Bool). b || has_line others line) (eq-eqb line line refl) in
      let parts = both (has_line lines line) (not (is_between 0 from line)) (sym (has_rest line) ∙ first) in
      let behind = (subst AreLines is rise).rise in (
        not_between from line parts.1,
        are.inside line parts.0,
        parts.0,
        λ i le lt.
            sym (same_from i le) ∙ ap (λ l. has_line l i) is ∙ rise_lacks line (line ∷ others) PAGE_LINES i (omega arith, behind.1) lt,
      )

pub least_of : (lines left range : List ℕ) (from : ℕ) (o : Option ℕ) → AreLines lines → range ≡ lines_between 0 from → left ≡ without_lines lines range
    → AreLines left → IsFirst left o → IsLeastFrom lines from o
least_of lines left range from None are low is own none = least_none lines from are (sym (is ∙ ap (without_lines lines) low) ∙ none)
least_of lines left range from (Some line) are low is own first =
    least_some lines from are line (without_line left line) (subst AreLines (is ∙ ap (without_lines lines) low) own)
    (sym (is ∙ ap (without_lines lines) low) ∙ first.1)
