use Rattle.std.proofs.Common.{◌≡◌, ℕ, Some, subst, sym, List}
use Rattle.rv_decode.specs.declared.rows.CaseRow.{CaseRow}
use Rattle.rv_decode.specs.Fits.{FitsAt, FindsRow}
use Rattle.rv_decode.proofs.Apart.{only_place, FindsRow-position}
use Rattle.rv_decode.proofs.table.CaseTable.find.Goals as goal

pub returns-clause-place : goal.returns-clause-place
returns-clause-place g c =
    let rows = c.self.inside.rows in
    let found = subst (FindsRow rows c.args.word) (sym c.first_place.ensures) (FindsRow-position rows c.args.word) in
    subst (λ xs. FindsRow xs c.args.word c.first_place.result) c.self.view_is found

pub returns-clause-only : goal.returns-clause-only
returns-clause-only g c =
    let rows = c.self.inside.rows in
    let found = subst (FindsRow rows c.args.word) (sym c.first_place.ensures) (FindsRow-position rows c.args.word) in
    let Only : List CaseRow → Type 0 = λ xs. (k : ℕ) → FitsAt xs c.args.word k → c.first_place.result ≡ Some k in
    subst Only c.self.view_is (only_place rows c.self.invariant.apart c.args.word c.first_place.result found)
