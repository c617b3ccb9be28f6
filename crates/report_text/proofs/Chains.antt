use Rattle.std.proofs.Common.{◌≡◌, ℕ, List, ◌++◌, ap, ◌∙◌, append_assoc}

-- Texts that were put one behind the other.

pub put_more : (old done more x y : List ℕ) → x ≡ old ++ done → y ≡ x ++ more → y ≡ old ++ (done ++ more)
put_more old done more x y so_far next = next ∙ ap (λ bs. bs ++ more) so_far ∙ append_assoc old done more

pub put_six : (old a b c d e f u v w x y z : List ℕ) → u ≡ old ++ a → v ≡ u ++ b → w ≡ v ++ c → x ≡ w ++ d → y ≡ x ++ e → z ≡ y ++ f
    → z ≡ old ++ (a ++ b ++ c ++ d ++ e ++ f)
put_six old a b c d e f u v w x y z at_a at_b at_c at_d at_e at_f =
    let two = put_more old a b u v at_a at_b in
    let three = put_more old (a ++ b) c v w two at_c in
    let four = put_more old (a ++ b ++ c) d w x three at_d in
    let five = put_more old (a ++ b ++ c ++ d) e x y four at_e in
    put_more old (a ++ b ++ c ++ d ++ e) f y z five at_f
