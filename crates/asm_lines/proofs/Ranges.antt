use Rattle.std.proofs.Common.{◌≡◌, ℕ, zero, suc, ◌^◌, ◌<◌, ◌&&◌, nat_le, Bool, false, cond, ap, sym, ◌∙◌, refl, arith, Some, None, inl, inr}
use Rattle.std.specs.Prelude.{Option, ℤ, pos, negsuc, neg_ℤ, int_le, int_lt, unsigned_abs}
use Rattle.std.proofs.lemmas.Bool.{and_left, and_right, le-leb, le-ltb, lt-leb, leb-false, cases_Bool}
use Rattle.rv_decode.specs.declared.names.Format.{Format}
use Rattle.rv_decode.specs.declared.names.Format.TheVariants as format
use Rattle.script_text.specs.Numbers.{within}
use Rattle.asm_lines.specs.Kinds.{and_then, limited, fits, scaled, placed}

-- Numbers with no least
pub within_one : (most n : ℕ) → within 0 most (Some n) ≡ cond (nat_le n most) (Some n) None
within_one most n = ap (λ (t : Bool). cond (t && nat_le n most) (Some n) None) (le-leb 0 n (omega arith))

-- Numbers of more than 32 bits are outside the range of each format.

signed_out : (half : ℕ) (z : ℤ) → half < unsigned_abs z → int_le (neg_ℤ (pos half)) z && int_lt z (pos half) ≡ false
signed_out half (pos n) h = and_right _ _ (le-ltb n half (omega arith))
signed_out zero (negsuc n) h = refl
signed_out (suc half) (negsuc n) h = and_left _ _ (lt-leb n half (omega arith))

amount_out : (most : ℕ) (z : ℤ) → most < unsigned_abs z → int_le (pos 0) z && int_lt z (pos most) ≡ false
amount_out most (pos n) h = and_right _ _ (le-ltb n most (omega arith))
amount_out most (negsuc n) h = refl

out_by : (f : Format) (z : ℤ) → 4294967295 < unsigned_abs z → fits f z ≡ false
out_by format.R z h = refl
out_by format.I z h = signed_out (2 ^ 11) z (omega arith)
out_by format.S z h = signed_out (2 ^ 11) z (omega arith)
out_by format.B z h = and_left _ _ (signed_out (2 ^ 12) z (omega arith))
out_by format.U z h = signed_out (2 ^ 19) z (omega arith)
out_by format.J z h = and_left _ _ (signed_out (2 ^ 20) z (omega arith))
out_by format.H6 z h = amount_out 64 z (omega arith)
out_by format.H5 z h = amount_out 32 z (omega arith)
out_by format.N z h = refl

pub limited_placed : (f : Format) (o : Option ℤ) → and_then (limited o) (λ z. placed f z) ≡ and_then o (λ z. placed f z)
limited_placed f None = refl
limited_placed f (Some z) =
    elim (cases_Bool (nat_le (unsigned_abs z) 4294967295)) [
      | inl within ↦ ap (λ (t : Bool). and_then (cond t (Some z) None) (λ z. placed f z)) within
      | inr out ↦
          ap (λ (t : Bool). and_then (cond t (Some z) None) (λ z. placed f z)) out
          ∙ sym (ap (λ (t : Bool). cond t (Some (scaled f z)) None) (out_by f z (leb-false (unsigned_abs z) 4294967295 out)))
    ]
