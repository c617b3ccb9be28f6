use Rattle.std.proofs.Common.{◌≡◌, ℕ, zero, suc, ◌-◌, ◌^◌, ◌==◌, nat_le, Bool, true, false, cond, List, [], ◌∷◌, length, take, drop, get_or, ap, sym, ◌∙◌, refl, arith, Some, None, take_all, eqb-true}
use Rattle.std.specs.Prelude.{Option, ℤ, pos, neg_ℤ, unsigned_abs}
use Rattle.std.specs.Option.{option_map}
use Rattle.std.proofs.lemmas.Bool.{ne_eqb, eq-eqb}
use Rattle.rv_decode.specs.declared.names.Format.{Format}
use Rattle.asm_lines.specs.Kinds.{and_then, natural, limited, register_number, register_word, signed_word, placed, immediate_word}
use Rattle.script_text.specs.Numbers.{within}
use Rattle.asm_lines.proofs.Ranges.{within_one, limited_placed}

-- Words by their first byte.

behind_first : (b : ℕ) (bs : List ℕ) → take (length (b ∷ bs) - 1) (drop 1 (b ∷ bs)) ≡ bs
behind_first b bs = take_all (length (b ∷ bs) - 1) bs (omega arith)

pub no_register : (word : List ℕ) → (length word == 0) ≡ true → None ≡ register_word word
unfolding register_word
no_register [] h = refl
no_register (b ∷ bs) h = let none = eqb-true (length (b ∷ bs)) 0 h in absurd (omega arith)

pub other_first : (word : List ℕ) → (get_or word 0 0 ≡ 120 → ⊥) → None ≡ register_word word
unfolding register_word
other_first [] h = refl
other_first (b ∷ bs) h = sym (ap (λ (t : Bool). cond t (register_number bs) None) (ne_eqb b 120 h))

pub register_behind : (word : List ℕ) → (length word == 0) ≡ false → get_or word 0 0 ≡ 120 → register_number (take (length word - 1) (drop 1 word)) ≡ register_word word
unfolding register_word
register_behind [] h x = cc
register_behind (b ∷ bs) h x =
    ap register_number (behind_first b bs) ∙ sym (ap (λ (t : Bool). cond t (register_number bs) None) (eq-eqb b 120 x))

-- a sign
abs_neg : (n : ℕ) → unsigned_abs (neg_ℤ (pos n)) ≡ n
abs_neg zero = refl
abs_neg (suc n) = refl

limited_neg : (o : Option ℕ) → limited (option_map (λ n. neg_ℤ (pos n)) o) ≡ option_map (λ n. neg_ℤ (pos n)) (within 0 (2 ^ 32 - 1) o)
limited_neg None = refl
limited_neg (Some n) =
    ap (λ m. cond (nat_le m 4294967295) (Some (neg_ℤ (pos n))) None) (abs_neg n) ∙ by (nat_le n 4294967295) n
    ∙ sym (ap (option_map (λ n. neg_ℤ (pos n))) (within_one 4294967295 n))
  where
    by : (t : Bool) (n : ℕ) → cond t (Some (neg_ℤ (pos n))) None ≡ option_map (λ n. neg_ℤ (pos n)) (cond t (Some n) None)
    by true n = refl
    by false n = refl

limited_pos : (o : Option ℕ) → limited (option_map pos o) ≡ option_map pos (within 0 (2 ^ 32 - 1) o)
limited_pos None = refl
limited_pos (Some n) = by (nat_le n 4294967295) n ∙ sym (ap (option_map pos) (within_one 4294967295 n))
  where
    by : (t : Bool) (n : ℕ) → cond t (Some (pos n)) None ≡ option_map pos (cond t (Some n) None)
    by true n = refl
    by false n = refl

pub no_number : (word : List ℕ) → (length word == 0) ≡ true → None ≡ limited (signed_word word)
unfolding signed_word
no_number [] h = refl
no_number (b ∷ bs) h = let none = eqb-true (length (b ∷ bs)) 0 h in absurd (omega arith)

pub minus_first : (word : List ℕ) → (length word == 0) ≡ false → get_or word 0 0 ≡ 45
    → option_map (λ n. neg_ℤ (pos n)) (within 0 (2 ^ 32 - 1) (natural (take (length word - 1) (drop 1 word)))) ≡ limited (signed_word word)
unfolding signed_word
minus_first [] h x = cc
minus_first (b ∷ bs) h x =
    ap (λ ds. option_map (λ n. neg_ℤ (pos n)) (within 0 (2 ^ 32 - 1) (natural ds))) (behind_first b bs) ∙ sym (limited_neg (natural bs))
    ∙ sym (ap (λ (t : Bool). limited (cond t (option_map (λ n. neg_ℤ (pos n)) (natural bs)) (option_map pos (natural (b ∷ bs))))) (eq-eqb b 45 x))

pub no_minus : (word : List ℕ) → (length word == 0) ≡ false → (get_or word 0 0 ≡ 45 → ⊥) → option_map pos (within 0 (2 ^ 32 - 1) (natural word)) ≡ limited (signed_word word)
unfolding signed_word
no_minus [] h x = cc
no_minus (b ∷ bs) h x =
    sym (limited_pos (natural (b ∷ bs)))
    ∙ sym (ap (λ (t : Bool). limited (cond t (option_map (λ n. neg_ℤ (pos n)) (natural bs)) (option_map pos (natural (b ∷ bs))))) (ne_eqb b 45 x))

pub immediate_by : (f : Format) (word : List ℕ) (o : Option ℤ) → o ≡ limited (signed_word word) → and_then o (λ z. placed f z) ≡ immediate_word f word
unfolding immediate_word
immediate_by f word o h = ap (λ o. and_then o (λ z. placed f z)) h ∙ limited_placed f (signed_word word)
