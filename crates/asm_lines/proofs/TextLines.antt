use Rattle.std.proofs.Common.{◌≡◌, ℕ, suc, ◌+◌, ◌<◌, ◌==◌, Bool, true, false, cond, List, [], ◌∷◌, length, ap, ◌∙◌, refl, arith, eqb-true, Some, None}
use Rattle.std.specs.Prelude.{Option}
use Rattle.script_text.specs.Lines.{onto_first, script_lines}
use Rattle.asm_lines.specs.Words.{words}
use Rattle.asm_lines.specs.Kinds.{cut, with_front}
use Rattle.asm_lines.specs.Lines.{front, front_of, item_on}

-- Lines, by the first end.
abbrev pub split : Option (List ℕ × List ℕ) → List ℕ → List (List ℕ)
split None text = text ∷ []
split (Some p) text = p.0 ∷ script_lines p.1

onto_split : (b : ℕ) (o : Option (List ℕ × List ℕ)) (bs : List ℕ) → onto_first b (split o bs) ≡ split (with_front b o) (b ∷ bs)
onto_split b None bs = refl
onto_split b (Some p) bs = refl

at_end : (t : Bool) (b : ℕ) → cond t ([] ∷ []) (onto_first b []) ≡ split (cond t (Some ([], [])) (with_front b None)) (b ∷ [])
at_end true b = refl
at_end false b = refl

inside : (t : Bool) (b : ℕ) (bs : List ℕ) → script_lines bs ≡ split (cut 10 bs) bs
    → cond t ([] ∷ script_lines bs) (onto_first b (script_lines bs)) ≡ split (cond t (Some ([], bs)) (with_front b (cut 10 bs))) (b ∷ bs)
inside true b bs h = refl
inside false b bs h = ap (onto_first b) h ∙ onto_split b (cut 10 bs) bs

pub lines_split : (text : List ℕ) → 0 < length text → script_lines text ≡ split (cut 10 text) text
lines_split [] some = absurd (omega arith)
lines_split (b ∷ []) some = at_end (b == 10) b
lines_split (b ∷ c ∷ bs) some = inside (b == 10) b (c ∷ bs) (lines_split (c ∷ bs) (omega arith))

part : Option (List ℕ × List ℕ) → List ℕ
part None = []
part (Some p) = p.1

shorter_way : (t : Bool) (b : ℕ) (bs : List ℕ) (o : Option (List ℕ × List ℕ)) (p : List ℕ × List ℕ)
    → ((q : List ℕ × List ℕ) → o ≡ Some q → length q.1 < length bs) → cond t (Some ([], bs)) (with_front b o) ≡ Some p → length p.1 < suc (length bs)
unfolding part
shorter_way true b bs o p less h = let same : bs ≡ p.1 = ap part h in omega (arith, ap length same)
shorter_way false b bs None p less h = cc
shorter_way false b bs (Some q) p less h = let same : q.1 ≡ p.1 = ap part h in omega (arith, ap length same, less q refl)

pub cut_shorter : (at : ℕ) (text : List ℕ) (p : List ℕ × List ℕ) → cut at text ≡ Some p → length p.1 < length text
cut_shorter at [] p h = cc
cut_shorter at (b ∷ bs) p h = shorter_way (b == at) b bs (cut at bs) p (λ q same. cut_shorter at bs q same) h

-- A line without bytes.
pub empty_front : (line : List ℕ) → (length line == 0) ≡ true → front_of (words line) ≡ front None (words line)
unfolding front_of words
empty_front [] h = refl
empty_front (b ∷ line) h = let none = eqb-true (length (b ∷ line)) 0 h in absurd (omega arith)

pub empty_item : (line : List ℕ) → (length line == 0) ≡ true → item_on (words line) ≡ Some None
unfolding item_on front_of words
empty_item [] h = refl
empty_item (b ∷ line) h = let none = eqb-true (length (b ∷ line)) 0 h in absurd (omega arith)
