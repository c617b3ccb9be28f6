use Rattle.std.proofs.Common.{◌≡◌, ℕ, ◌/◌, ◌%◌, Bool, true, cond, List, [], ◌∷◌, ◌++◌, flat_map, refl, ap, ◌∙◌}
use Rattle.std.specs.List.{list_all}
use Rattle.std.proofs.lemmas.Bool.{and_parts}
use Rattle.report_text.specs.Digits.{hex_digit}
use Rattle.report_text.specs.Texts.{is_plain, byte_text}

-- Bytes that stand for themselves.

one_plain : (b : ℕ) → is_plain b ≡ true → byte_text b ≡ b ∷ []
one_plain b plain = ap (λ (p : Bool). cond p (b ∷ []) (92 ∷ hex_digit (b / 16) ∷ hex_digit (b % 16) ∷ [])) plain

pub all_plain : (bytes : List ℕ) → list_all is_plain bytes ≡ true → flat_map byte_text bytes ≡ bytes
all_plain [] plain = refl
all_plain (b ∷ bytes) plain =
    let both = and_parts (is_plain b) (list_all is_plain bytes) plain in
    ap (λ text. text ++ flat_map byte_text bytes) (one_plain b both.0) ∙ ap (λ text. b ∷ text) (all_plain bytes both.1)
