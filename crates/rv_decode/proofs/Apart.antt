-- The place of a row that a word fits.
use Rattle.std.proofs.Common.{◌≡◌, ℕ, zero, suc, ◌<◌, ◌≤◌, Bool, true, false, cond, List, [], ◌∷◌, Option, Some, None, length, get_or, subst, refl, ap, sym, arith}
use Rattle.std.specs.Prelude.{AllPairs, position, nat_lt}
use Rattle.std.specs.List.{position_or_len}
use Rattle.std.proofs.lemmas.Bool.{eqb-true, eqb-false, ltb-true, ltb-false}
use Rattle.std.proofs.lemmas.List.Sums.{passes_at_first, fails_before_first}
use Rattle.rv_decode.specs.declared.rows.CaseRow.{CaseRow}
use Rattle.rv_decode.specs.Fits.{FitsRow, FitsAt, FindsRow, fits, AreApart}
use Rattle.rv_decode.specs.TableLaws.{at_place, one_place}

-- a row of the list that fits, at its place
pub place_of_fit : (rows : List CaseRow) (word k : ℕ) (d : CaseRow) → k < length rows → FitsRow (get_or rows k d) word → FitsAt rows word k
place_of_fit [] word k d within fit = absurd (omega (arith, within))
place_of_fit (r ∷ rs) word zero d within fit = fit
place_of_fit (r ∷ rs) word (suc k) d within fit = place_of_fit rs word k d (omega (arith, within)) fit

-- a place that is found is the only one
pub only_place : (rows : List CaseRow) → AllPairs AreApart rows → (word : ℕ) (o : Option ℕ) → FindsRow rows word o → (k : ℕ) → FitsAt rows word k → o ≡ Some k
only_place rows apart word None none k fit = absurd (none k fit)
only_place rows apart word (Some j) fit_j k fit = ap Some (one_place rows apart word j k fit_j fit)

-- where the first place that passes is past the end, no row fits
no_place : (rows : List CaseRow) (word k : ℕ) → length rows ≤ position_or_len (λ row. fits row word) rows → FitsAt rows word k → ⊥
no_place [] word k past fit = fit
no_place (r ∷ rs) word k past fit =
    let rows : List CaseRow = r ∷ rs in
    let here = at_place rows word k r fit in
    let fails = fails_before_first (λ row. fits row word) rows k r (omega (arith, here.0, past)) in
    eqb-false _ _ fails here.1

-- the first place that passes the test is found
FindsRow-cond : (rows : List CaseRow) (word n : ℕ) (b : Bool) → nat_lt n (length rows) ≡ b → n ≡ position_or_len (λ row. fits row word) rows → FindsRow rows word (cond b (Some n) None)
FindsRow-cond [] word n true within e = absurd (omega (arith, ltb-true _ _ within))
FindsRow-cond (r ∷ rs) word n true within e =
    let rows : List CaseRow = r ∷ rs in
    let inside : n < length rows = ltb-true _ _ within in
    let passes = passes_at_first (λ row. fits row word) rows r (subst (λ k. k < length rows) e inside) in
    place_of_fit rows word n r inside (subst (λ k. FitsRow (get_or rows k r) word) (sym e) (eqb-true _ _ passes))
FindsRow-cond rows word n false past e = λ k fit. no_place rows word k (subst (λ m. length rows ≤ m) e (ltb-false _ _ past)) fit

pub FindsRow-position : (rows : List CaseRow) (word : ℕ) → FindsRow rows word (position (λ row. fits row word) rows)
FindsRow-position rows word = FindsRow-cond rows word (position_or_len (λ row. fits row word) rows) _ refl refl
