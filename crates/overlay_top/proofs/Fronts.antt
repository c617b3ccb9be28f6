use Rattle.std.proofs.Common.{◌≡◌, ℕ, ◌+◌, ◌-◌, List, ◌++◌, length, take, drop, sym, ap, ◌∙◌, arith, append_assoc, length-drop}
use Rattle.std.proofs.Math.Seq.{take-add}
use Rattle.std.proofs.lemmas.List.{take_all}

-- The next n elements, as a slice of what is left gives them.
pub next_front : (text : List ℕ) (at n : ℕ) → take n (take (length text - at) (drop at text)) ≡ take n (drop at text)
next_front text at n = ap (take n) (take_all (length text - at) (drop at text) (omega (arith, length-drop at text)))

-- A front of a text was sent, and then the next n bytes of it.
pub sent_more : (old now new text : List ℕ) (at n : ℕ) → now ≡ old ++ take at text → new ≡ now ++ take n (take (length text - at) (drop at text))
    → new ≡ old ++ take (at + n) text
sent_more old now new text at n so_far next =
    next ∙ ap (λ bs. now ++ bs) (next_front text at n) ∙ ap (λ bs. bs ++ take n (drop at text)) so_far
    ∙ append_assoc old (take at text) (take n (drop at text)) ∙ ap (λ bs. old ++ bs) (sym (take-add at n text))
