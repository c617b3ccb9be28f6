use Rattle.std.proofs.Common.{◌≡◌, ℕ, zero, suc, ◌==◌, ◌+◌, ◌<◌, Bool, false, cond, List, [], ◌∷◌, ◌++◌, length, take, get_or, ap, ◌∙◌, refl, arith, sym}
use Rattle.std.specs.List.{list_any}
use Rattle.std.proofs.lemmas.Bool.{or_parts}
use Rattle.script_text.specs.Lines.{onto_first, script_lines, line_count, without_return}

-- Lines, by what stands before the first end.

pub lines_cut : (line rest : List ℕ) → list_any (λ b. b == 10) line ≡ false → script_lines (line ++ 10 ∷ rest) ≡ line ∷ script_lines rest
lines_cut [] rest h = refl
lines_cut (b ∷ line) rest h =
    let parts = or_parts (b == 10) (list_any (λ b. b == 10) line) h in
    ap (λ (t : Bool). cond t ([] ∷ script_lines (line ++ 10 ∷ rest)) (onto_first b (script_lines (line ++ 10 ∷ rest)))) parts.0
    ∙ ap (onto_first b) (lines_cut line rest parts.1)

lines_after : (b : ℕ) (line : List ℕ) → list_any (λ b. b == 10) (b ∷ line) ≡ false → script_lines (b ∷ line) ≡ (b ∷ line) ∷ []
lines_after b [] h =
    let parts = or_parts (b == 10) false h in
    ap (λ (t : Bool). cond t ([] ∷ []) (onto_first b [])) parts.0
lines_after b (c ∷ line) h =
    let parts = or_parts (b == 10) (list_any (λ b. b == 10) (c ∷ line)) h in
    ap (λ (t : Bool). cond t ([] ∷ script_lines (c ∷ line)) (onto_first b (script_lines (c ∷ line)))) parts.0
    ∙ ap (onto_first b) (lines_after c line parts.1)

pub lines_alone : (line : List ℕ) → 0 < length line → list_any (λ b. b == 10) line ≡ false → script_lines line ≡ line ∷ []
lines_alone [] some h = absurd (omega arith)
lines_alone (b ∷ line) some h = lines_after b line h

-- How many lines: none without bytes, and one more with each line.
pub no_lines : (script : List ℕ) → length script ≡ 0 → line_count script ≡ 0
unfolding line_count
no_lines [] h = refl
no_lines (b ∷ script) h = absurd (omega arith)

pub one_line_more : (script line rest : List ℕ) → script_lines script ≡ line ∷ script_lines rest → line_count script ≡ line_count rest + 1
unfolding line_count
one_line_more script line rest h = ap (λ ls. length ls) h ∙ (omega arith)

-- The byte 0D at the end of a line.
pub return_dropped : (line : List ℕ) (k : ℕ) → k + 1 ≡ length line → get_or line k 0 ≡ 13 → take k line ≡ without_return line
return_dropped [] k h last = absurd (omega arith)
return_dropped (b ∷ []) zero h last = sym (ap (λ n. cond (n == 13) [] (n ∷ [])) last)
return_dropped (b ∷ []) (suc k) h last = absurd (omega arith)
return_dropped (b ∷ c ∷ line) zero h last = absurd (omega arith)
return_dropped (b ∷ c ∷ line) (suc k) h last = ap (λ bs. b ∷ bs) (return_dropped (c ∷ line) k (omega arith) last)

pub line_kept : (line : List ℕ) (k : ℕ) → k + 1 ≡ length line → (get_or line k 0 == 13) ≡ false → line ≡ without_return line
line_kept [] k h last = refl
line_kept (b ∷ []) zero h last = sym (ap (λ (t : Bool). cond t [] (b ∷ [])) last)
line_kept (b ∷ []) (suc k) h last = absurd (omega arith)
line_kept (b ∷ c ∷ line) zero h last = absurd (omega arith)
line_kept (b ∷ c ∷ line) (suc k) h last = ap (λ bs. b ∷ bs) (line_kept (c ∷ line) k (omega arith) last)
