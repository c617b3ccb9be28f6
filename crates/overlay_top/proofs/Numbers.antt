use Rattle.std.proofs.Common.{◌≡◌, ℕ, Bool, true, false, List, Some, None, ap, refl}
use Rattle.std.specs.Prelude.{if◌then◌else◌}
use Rattle.std.specs.Str.Parse.{digits_value, without_leading_plus}
use Rattle.clap.specs.Values.{IsUnsignedIn}
use Rattle.clap.specs.ValueTests.{is_unsigned_in}
use Rattle.clap.specs.declared.builder.value_parser.ValueParser.TheVariants as vp
use Rattle.clap.proofs.ValueTestLemmas.{Accepts-accepts, accepts-Accepts}
use Rattle.overlay_top.specs.Words.{parsed_in}

-- The number of a text, where it is one of the range, and where it isn't.

pub in_range : (least most n : ℕ) (text : List ℕ) → IsUnsignedIn least most text → n ≡ digits_value 10 (without_leading_plus text) → Some n ≡ parsed_in least most text
in_range least most n text passes is = rw (Accepts-accepts false (vp.Unsigned least most) text passes) (ap Some is)

pub out_of_range : (least most : ℕ) (text : List ℕ) → (IsUnsignedIn least most text → ⊥) → None ≡ parsed_in least most text
out_of_range least most text fails = tested (is_unsigned_in least most text) refl
  where
    tested : (b : Bool) → is_unsigned_in least most text ≡ b → None ≡ (if b then Some (digits_value 10 (without_leading_plus text)) else None)
    tested true e = absurd (fails (accepts-Accepts false (vp.Unsigned least most) text e))
    tested false e = refl
