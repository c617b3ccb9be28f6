use Rattle.std.proofs.Common.{◌≡◌, ℕ, ◌+◌, List, ◌++◌, take, drop, sym, ap, ◌∙◌}
use Rattle.std.proofs.lemmas.List.{take-append-drop, drop-drop}

-- what is left from k on is a front, which ys begins with, and what is left behind it
pub front_and_rest : (xs ys : List ℕ) (k n : ℕ) → take n ys ≡ take n (drop k xs) → drop k xs ≡ take n ys ++ drop (k + n) xs
front_and_rest xs ys k n same =
    sym (take-append-drop n (drop k xs)) ∙ ap (λ front. front ++ drop n (drop k xs)) (sym same) ∙ ap (λ rest. take n ys ++ rest) (drop-drop n k xs)
