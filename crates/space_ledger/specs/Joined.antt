use Rattle.std.specs.Prelude.{◌≡◌, ℕ, ◌+◌, ◌==◌, ◌≤◌, ◌<◌, Bool, true, false, cond, ◌||◌, nat_eq, nat_lt, List, [], ◌∷◌, refl}
use Rattle.std.proofs.Common.{sym, ap, ◌∙◌, arith}
use Rattle.std.proofs.lemmas.Bool.Decides.{nat_tests}
use Rattle.sizes.specs.declared.TheConstants.{PAGE_LINES}
use Rattle.overlay_bits.specs.Lines as bits
use Rattle.overlay_bits.specs.Lines.{AreLines, Rise, has_line}
use Rattle.overlay_bits.specs.Laws.{are_rise, are_where, are_with, has_with, has_with_lines, same_sets}
use Rattle.ledger.specs.AloneLaws.{are}
use Rattle.ledger.specs.Changes.{with_line, with_lines}

-- Lines that join others in the ledger are those of both sets.

-- A line put among ascending ones.

pub has_put : (lines : List ℕ) (line q : ℕ) → has_line (with_line lines line) q ≡ (nat_eq line q || has_line lines q)
has_put [] line q = refl
has_put (x ∷ lines) line q = at (nat_lt line x) (line == x) refl (has_put lines line q)
  where
    at : (a b : Bool) → (line == x) ≡ b → has_line (with_line lines line) q ≡ (nat_eq line q || has_line lines q)
        → has_line (cond a (line ∷ (x ∷ lines)) (cond b (x ∷ lines) (x ∷ with_line lines line))) q ≡ (nat_eq line q || (nat_eq x q || has_line lines q))
    at true b e rest = refl
    at false true e rest = grind (arith, nat_tests)
    at false false e rest = grind (arith, nat_tests, rest)

pub rise_put : (from : ℕ) (lines : List ℕ) (line end : ℕ) → Rise from lines end → from ≤ line → line < end → Rise from (with_line lines line) end
rise_put from [] line end rise low inside = (low, omega (arith, inside))
rise_put from (x ∷ lines) line end rise low inside =
    at (nat_lt line x) refl (line == x) refl (λ more. rise_put (x + 1) lines line end rise.1 more inside)
  where
    at : (a : Bool) → nat_lt line x ≡ a → (b : Bool) → (line == x) ≡ b → (x + 1 ≤ line → Rise (x + 1) (with_line lines line) end)
        → Rise from (cond a (line ∷ (x ∷ lines)) (cond b (x ∷ lines) (x ∷ with_line lines line))) end
    at true e b f rest = (low, ((let less : line < x = grind (arith, nat_tests) in omega (arith, less)), rise.1))
    at false e true f rest = rise
    at false e false f rest = (rise.0, rest (grind (arith, nat_tests)))

-- so the lines of a set that join another one are those of both
joined_are : (more lines : List ℕ) → Rise 0 lines PAGE_LINES → ((q : ℕ) → has_line more q ≡ true → q < PAGE_LINES) → Rise 0 (with_lines lines more) PAGE_LINES
unfolding with_lines
joined_are [] lines rise inside = rise
joined_are (line ∷ more) lines rise inside =
    joined_are more (with_line lines line) (rise_put 0 lines line PAGE_LINES rise (omega arith) (inside line (ap (λ b. b || has_line more line) (are line line refl))))
    (λ q has. inside q (grind (arith, nat_tests, has)))

pub joined_has : (more lines : List ℕ) (q : ℕ) → has_line (with_lines lines more) q ≡ (has_line lines q || has_line more q)
unfolding with_lines
joined_has [] lines q = grind (arith, nat_tests)
joined_has (line ∷ more) lines q = let rest = joined_has more (with_line lines line) q in let put = has_put lines line q in grind (arith, nat_tests, rest, put)

are_both : (own lines : List ℕ) → AreLines (bits.with_lines own lines)
are_both own lines = are_where (λ line. has_line own line || has_line lines line)

pub joined_same : (own lines : List ℕ) → AreLines own → AreLines lines → bits.with_lines own lines ≡ with_lines own lines
joined_same own lines one other =
    same_sets (bits.with_lines own lines) (with_lines own lines) (are_both own lines) (are_rise (with_lines own lines) (joined_are lines own one.rise other.inside))
    (λ q. has_with_lines own lines q one other ∙ sym (joined_has lines own q))

-- one line
pub put_same : (own : List ℕ) (line : ℕ) → AreLines own → line < PAGE_LINES → bits.with_line own line ≡ with_line own line
put_same own line are low =
    same_sets (bits.with_line own line) (with_line own line) (are_with own line are low) (are_rise (with_line own line) (rise_put 0 own line PAGE_LINES are.rise (omega arith) low))
    (λ q. has_with own line q ∙ sym (has_put own line q))
