-- What the rows make of values at the edges, as the checker computes it.
use Rattle.std.proofs.Common.{◌≡◌, ℕ, List, [], ◌∷◌, map, refl}
use Rattle.rv_decode.specs.declared.names.Name.{Name}
use Rattle.rv_decode.specs.declared.names.Name.TheVariants.{Mul, Mulh, Mulhsu, Mulhu, Div, Divu, Rem, Remu, Mulw, Divw, Divuw, Remw, Remuw}
use Rattle.rv_mul.specs.Multiplication.{multiplied}

abbrev made : Name → List (ℕ × ℕ) → List ℕ
made name values = map (λ p. multiplied name p.0 p.1) values

-- 5 and 3 with each sign
abbrev signs : List (ℕ × ℕ)
signs = (5, 3) ∷ (5, 0xFFFFFFFFFFFFFFFD) ∷ (0xFFFFFFFFFFFFFFFB, 3) ∷ (0xFFFFFFFFFFFFFFFB, 0xFFFFFFFFFFFFFFFD) ∷ []

mul_signs : made Mul signs ≡ 0xF ∷ 0xFFFFFFFFFFFFFFF1 ∷ 0xFFFFFFFFFFFFFFF1 ∷ 0xF ∷ []
mul_signs = refl

mulh_signs : made Mulh signs ≡ 0 ∷ 0xFFFFFFFFFFFFFFFF ∷ 0xFFFFFFFFFFFFFFFF ∷ 0 ∷ []
mulh_signs = refl

mulhsu_signs : made Mulhsu signs ≡ 0 ∷ 4 ∷ 0xFFFFFFFFFFFFFFFF ∷ 0xFFFFFFFFFFFFFFFB ∷ []
mulhsu_signs = refl

mulhu_signs : made Mulhu signs ≡ 0 ∷ 4 ∷ 2 ∷ 0xFFFFFFFFFFFFFFF8 ∷ []
mulhu_signs = refl

mulw_signs : made Mulw signs ≡ 0xF ∷ 0xFFFFFFFFFFFFFFF1 ∷ 0xFFFFFFFFFFFFFFF1 ∷ 0xF ∷ []
mulw_signs = refl

-- by 0; the least signed number by 0 and by -1; 7 by 2 with signs
abbrev edges : List (ℕ × ℕ)
edges = (7, 0) ∷ (0xFFFFFFFFFFFFFFF9, 0) ∷ (0x8000000000000000, 0) ∷ (0x8000000000000000, 0xFFFFFFFFFFFFFFFF) ∷ (0xFFFFFFFFFFFFFFF9, 2) ∷ (7, 0xFFFFFFFFFFFFFFFE) ∷ (0xFFFFFFFFFFFFFFF9, 0xFFFFFFFFFFFFFFFE) ∷ []

div_edges : made Div edges ≡ 0xFFFFFFFFFFFFFFFF ∷ 0xFFFFFFFFFFFFFFFF ∷ 0xFFFFFFFFFFFFFFFF ∷ 0x8000000000000000 ∷ 0xFFFFFFFFFFFFFFFD ∷ 0xFFFFFFFFFFFFFFFD ∷ 3 ∷ []
div_edges = refl

divu_edges : made Divu edges ≡ 0xFFFFFFFFFFFFFFFF ∷ 0xFFFFFFFFFFFFFFFF ∷ 0xFFFFFFFFFFFFFFFF ∷ 0 ∷ 0x7FFFFFFFFFFFFFFC ∷ 0 ∷ 0 ∷ []
divu_edges = refl

rem_edges : made Rem edges ≡ 7 ∷ 0xFFFFFFFFFFFFFFF9 ∷ 0x8000000000000000 ∷ 0 ∷ 0xFFFFFFFFFFFFFFFF ∷ 1 ∷ 0xFFFFFFFFFFFFFFFF ∷ []
rem_edges = refl

remu_edges : made Remu edges ≡ 7 ∷ 0xFFFFFFFFFFFFFFF9 ∷ 0x8000000000000000 ∷ 0x8000000000000000 ∷ 1 ∷ 7 ∷ 0xFFFFFFFFFFFFFFF9 ∷ []
remu_edges = refl

-- the same of low words, beside other bits above them
abbrev words : List (ℕ × ℕ)
words = (7, 0x100000000) ∷ (0x1234567880000000, 0) ∷ (0x80000000, 0xFFFFFFFF) ∷ (0xFFFFFFF9, 2) ∷ (7, 0xABCDEF00FFFFFFFE) ∷ []

divw_words : made Divw words ≡ 0xFFFFFFFFFFFFFFFF ∷ 0xFFFFFFFFFFFFFFFF ∷ 0xFFFFFFFF80000000 ∷ 0xFFFFFFFFFFFFFFFD ∷ 0xFFFFFFFFFFFFFFFD ∷ []
divw_words = refl

divuw_words : made Divuw words ≡ 0xFFFFFFFFFFFFFFFF ∷ 0xFFFFFFFFFFFFFFFF ∷ 0 ∷ 0x7FFFFFFC ∷ 0 ∷ []
divuw_words = refl

remw_words : made Remw words ≡ 7 ∷ 0xFFFFFFFF80000000 ∷ 0 ∷ 0xFFFFFFFFFFFFFFFF ∷ 1 ∷ []
remw_words = refl

remuw_words : made Remuw words ≡ 7 ∷ 0xFFFFFFFF80000000 ∷ 0xFFFFFFFF80000000 ∷ 1 ∷ 7 ∷ []
remuw_words = refl
