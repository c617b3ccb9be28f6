use Rattle.std.proofs.Common.{◌≡◌, ℕ, suc, ◌+◌, ◌-◌, ◌<◌, ◌≤◌, ◌==◌, not, Bool, true, cond, List, [], ◌∷◌, ◌++◌, length, take, drop, get_or, ap, sym, ◌∙◌, refl, arith, take_all, take-append-drop, drop-cons, length-drop, add-one, Some, None}
use Rattle.std.specs.List.{list_all}
use Rattle.std.proofs.lemmas.Bool.{and_parts, not-true}
use Rattle.asm_lines.specs.Kinds.{cut, with_front}
use Rattle.asm_lines.proofs.Operands.{cut_at}

-- A text, cut at a byte.

part_from : (text : List ℕ) (i : ℕ) → take (length text - i) (drop i text) ≡ drop i text
part_from text i = take_all (length text - i) (drop i text) (omega (arith, length-drop i text))

pub cut_here : (text : List ℕ) (i at : ℕ) → i < length text → list_all (λ b. not (b == at)) (take i text) ≡ true → get_or text i 0 ≡ at
    → cut at text ≡ Some (take i text, take (length text - (i + 1)) (drop (i + 1) text))
cut_here text i at below h is =
    ap (cut at) (sym (take-append-drop i text) ∙ ap (λ bs. take i text ++ bs) (drop-cons text i 0 below ∙ ap (λ b. b ∷ drop (suc i) text) is))
    ∙ cut_at at (take i text) (drop (suc i) text) h
    ∙ ap (λ bs. Some (take i text, bs)) (sym (part_from text (i + 1) ∙ ap (λ n. drop n text) (add-one i)))

cut_none : (text : List ℕ) (at : ℕ) → list_all (λ b. not (b == at)) text ≡ true → cut at text ≡ None
cut_none [] at h = refl
cut_none (b ∷ text) at h =
    let parts = and_parts (not (b == at)) (list_all (λ b. not (b == at)) text) h in
    ap (λ (t : Bool). cond t (Some ([], text)) (with_front b (cut at text))) (not-true (b == at) parts.0)
    ∙ ap (with_front b) (cut_none text at parts.1)

pub cut_nowhere : (text : List ℕ) (i at : ℕ) → length text ≤ i → list_all (λ b. not (b == at)) (take i text) ≡ true → cut at text ≡ None
cut_nowhere text i at over h = cut_none text at (sym (ap (λ (bs : List ℕ). list_all (λ b. not (b == at)) bs) (take_all i text over)) ∙ h)
