use Rattle.std.proofs.Common.{◌≡◌, ℕ, ◌+◌, ◌-◌, ◌*◌, ◌/◌, ◌<◌, ◌⊎◌, inl, inr, Bool, true, false, cond, List, [], ◌∷◌, sym, ap, subst, ◌∙◌, refl, arith}
use Rattle.std.specs.Prelude.{◌||◌, ◌&&◌, ◌==◌, nat_eq, nat_lt, nat_le}
use Rattle.std.proofs.lemmas.Bool.{cases_order, eq-eqb, eqb-true, false≢true, le-ltb, lt-ltb, ne_eqb}
use Rattle.std.proofs.lemmas.Bool.Decides.{nat_tests}
use Rattle.sizes.specs.declared.TheConstants.{LINE_BYTES, PAGE_LINES}
use Rattle.overlay_bits.specs.Lines.{AreLines, Rise, has_line}
use Rattle.overlay_bits.specs.Below.{or_true, rise_lacks}
use Rattle.overlay_bits.specs.Laws.{has_between}
use Rattle.ledger.specs.Changes.{with_line, with_lines}
use Rattle.overlay_memory.specs.Pieces.{lines_under}

-- Which lines a page has of its own after others joined them.

has_line_joined : (xs : List ℕ) (line : ℕ) → has_line (with_line xs line) line ≡ true
has_line_joined [] line = ap (λ (b : Bool). b || false) (eq-eqb line line refl)
has_line_joined (x ∷ xs) line = at (nat_lt line x) (line == x) refl (has_line_joined xs line)
  where
    at : (less same : Bool) → nat_eq line x ≡ same → has_line (with_line xs line) line ≡ true
        → has_line (cond less (line ∷ (x ∷ xs)) (cond same (x ∷ xs) (x ∷ with_line xs line))) line ≡ true
    at true same h rest = ap (λ (b : Bool). b || has_line (x ∷ xs) line) (eq-eqb line line refl)
    at false true h rest = ap (λ (b : Bool). b || has_line xs line) (eq-eqb x line (sym (eqb-true line x h)))
    at false false h rest = ap (λ (b : Bool). nat_eq x line || b) rest ∙ or_true (nat_eq x line)

has_line_still : (xs : List ℕ) (line q : ℕ) → has_line xs q ≡ true → has_line (with_line xs line) q ≡ true
has_line_still [] line q is = absurd (false≢true is)
has_line_still (x ∷ xs) line q is = at (nat_lt line x) (line == x) (λ h. has_line_still xs line q h) is
  where
    further : (b : Bool) → (has_line xs q ≡ true → has_line (with_line xs line) q ≡ true) → (b || has_line xs q) ≡ true
        → (b || has_line (with_line xs line) q) ≡ true
    further true rest h = refl
    further false rest h = rest h

    at : (less same : Bool) → (has_line xs q ≡ true → has_line (with_line xs line) q ≡ true) → has_line (x ∷ xs) q ≡ true
        → has_line (cond less (line ∷ (x ∷ xs)) (cond same (x ∷ xs) (x ∷ with_line xs line))) q ≡ true
    at true same rest h = ap (λ (b : Bool). nat_eq line q || b) h ∙ or_true (nat_eq line q)
    at false true rest h = h
    at false false rest h = further (nat_eq x q) rest h

-- own lines stay, and those that joined are there
own_stay : (more own : List ℕ) (q : ℕ) → has_line own q ≡ true → has_line (with_lines own more) q ≡ true
unfolding with_lines
own_stay [] own q is = is
own_stay (m ∷ more) own q is = own_stay more (with_line own m) q (has_line_still own m q is)

pub joined_has : (more own : List ℕ) (q : ℕ) → has_line more q ≡ true → has_line (with_lines own more) q ≡ true
unfolding with_lines
joined_has [] own q is = absurd (false≢true is)
joined_has (m ∷ more) own q is = at (nat_eq m q) refl (λ h. joined_has more (with_line own m) q h) is
  where
    at : (b : Bool) → nat_eq m q ≡ b → (has_line more q ≡ true → has_line (with_lines (with_line own m) more) q ≡ true) → (b || has_line more q) ≡ true
        → has_line (with_lines (with_line own m) more) q ≡ true
    at true same rest h = own_stay more (with_line own m) q (subst (λ n. has_line (with_line own m) n ≡ true) (eqb-true m q same) (has_line_joined own m))
    at false same rest h = rest h

-- a line that is there joins nothing
with_line_there : (from : ℕ) (xs : List ℕ) (end line : ℕ) → Rise from xs end → has_line xs line ≡ true → with_line xs line ≡ xs
with_line_there from [] end line rise is = absurd (false≢true is)
with_line_there from (x ∷ xs) end line rise is = at (cases_order line x) (λ h. with_line_there (x + 1) xs end line rise.1 h)
  where
    later : (b : Bool) → b ≡ false → (b || has_line xs line) ≡ true → has_line xs line ≡ true
    later true none h = absurd (false≢true (sym none))
    later false none h = h

    at : (line ≡ x) ⊎ ((line < x) ⊎ (x < line)) → (has_line xs line ≡ true → with_line xs line ≡ xs)
        → cond (nat_lt line x) (line ∷ (x ∷ xs)) (cond (line == x) (x ∷ xs) (x ∷ with_line xs line)) ≡ (x ∷ xs)
    at (inl same) rest =
        ap (λ (b : Bool). cond b (line ∷ (x ∷ xs)) (cond (line == x) (x ∷ xs) (x ∷ with_line xs line))) (le-ltb line x (omega (arith, same)))
        ∙ ap (λ (b : Bool). cond b (x ∷ xs) (x ∷ with_line xs line)) (eq-eqb line x same)
    at (inr (inl less)) rest = absurd (false≢true (sym (rise_lacks x (x ∷ xs) end line (omega arith, rise.1) less) ∙ is))
    at (inr (inr more)) rest =
        ap (λ (b : Bool). cond b (line ∷ (x ∷ xs)) (cond (line == x) (x ∷ xs) (x ∷ with_line xs line))) (le-ltb line x (omega (arith, more)))
        ∙ ap (λ (b : Bool). cond b (x ∷ xs) (x ∷ with_line xs line)) (ne_eqb line x (λ same. omega (arith, more, same)))
        ∙ ap (λ l. x ∷ l) (rest (later (nat_eq x line) (ne_eqb x line (λ same. omega (arith, more, same))) is))

pub with_own_line : (own : List ℕ) (line : ℕ) → AreLines own → has_line own line ≡ true → with_lines own (line ∷ []) ≡ own
unfolding with_lines
with_own_line own line are is = with_line_there 0 own PAGE_LINES line are.rise is

-- the lines under some bytes are those in which they lie
pub has_under : (at count line : ℕ) → 0 < count → LINE_BYTES * line < at + count → at < LINE_BYTES * line + LINE_BYTES
    → has_line (lines_under at count) line ≡ true
has_under at count line some low high =
    has_between (at / 64) ((at + count - 1) / 64 + 1) line (omega (arith, some))
    ∙ both (nat_le (at / 64) line) (nat_lt line ((at + count - 1) / 64 + 1)) (grind (arith, nat_tests))
    (lt-ltb line ((at + count - 1) / 64 + 1) (omega (arith, some, low)))
  where
    both : (a b : Bool) → a ≡ true → b ≡ true → (a && b) ≡ true
    both true true g h = refl
    both true false g h = h
    both false b g h = g
