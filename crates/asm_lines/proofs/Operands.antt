use Rattle.std.proofs.Common.{◌≡◌, ℕ, zero, suc, ◌+◌, ◌*◌, ◌/◌, ◌%◌, ◌^◌, ◌<◌, ◌≤◌, ◌==◌, ◌&&◌, not, Bool, true, false, cond, T, List, [], ◌∷◌, ◌++◌, ap, ◌∙◌, refl, arith, codes, Some, None, append_assoc}
use Rattle.std.specs.Prelude.{Option, ℤ, pos, negsuc, neg_ℤ, ◌*ℤ◌, int_div, int_le, int_lt, unsigned_abs, ◌≤ℤ◌, ◌<ℤ◌}
use Rattle.std.specs.List.{list_all}
use Rattle.std.specs.Option.{option_map}
use Rattle.std.proofs.lemmas.Bool.{and_parts, and_from, eq-eqb, lt-ltb, le-leb, not-true}
use Rattle.std.proofs.lemmas.Bool.Decides.{nat_tests}
use Rattle.std.proofs.lemmas.Int.{ints}
use Rattle.rv_decode.specs.declared.names.Format.{Format}
use Rattle.rv_decode.specs.Encodable.{IsSignedBelow, IsMultiple}
use Rattle.report_text.specs.Digits.{in_decimal, signed_text}
use Rattle.report_text.specs.Instructions.{register_text, two_registers_text, offset_text, one_register_text}
use Rattle.script_text.specs.Words.{has_bytes}
use Rattle.script_text.specs.Numbers.{is_decimal}
use Rattle.asm_lines.specs.Words.{is_inner, is_word, words}
use Rattle.asm_lines.specs.Kinds.{and_then, Kind, register_word, is_signed, is_multiple, fits, scaled, placed, immediate_word, cut, with_front, closed, offset_parts, offset_word, is_letter, begins_with_letter, is_label, target_word}
use Rattle.asm_lines.specs.Kinds.Target.{By, To}
use Rattle.asm_lines.specs.Items.{pair, triple}
use Rattle.asm_lines.proofs.Spelling.{words_two, words_three}
use Rattle.asm_lines.proofs.Decimals.{decimal_natural, register_is_word, register_read, signed_read, signed_is_word}

-- The operands of an instruction as they are printed are read back.

-- an immediate
pub immediate_read : (f : Format) (z imm : ℤ) → placed f z ≡ Some imm → immediate_word f (signed_text z) ≡ Some imm
unfolding immediate_word
immediate_read f z imm h = ap (λ o. and_then o (λ n. placed f n)) (signed_read z) ∙ h

-- a text up to a byte
pub cut_at : (at : ℕ) (front rest : List ℕ) → list_all (λ b. not (b == at)) front ≡ true → cut at (front ++ at ∷ rest) ≡ Some (front, rest)
cut_at at [] rest h = ap (λ (t : Bool). cond t (Some ([], rest)) (with_front at (cut at rest))) (eq-eqb at at refl)
cut_at at (b ∷ front) rest h =
    let parts = and_parts (not (b == at)) (list_all (λ b. not (b == at)) front) h in
    ap (λ (t : Bool). cond t (Some ([], front ++ at ∷ rest)) (with_front b (cut at (front ++ at ∷ rest)))) (not-true (b == at) parts.0)
    ∙ ap (with_front b) (cut_at at front rest parts.1)

pub weaker : (p q : ℕ → Bool) → ((b : ℕ) → p b ≡ true → q b ≡ true) → (bs : List ℕ) → list_all p bs ≡ true → list_all q bs ≡ true
weaker p q h [] all = refl
weaker p q h (b ∷ bs) all =
    let parts = and_parts (p b) (list_all p bs) all in
    and_from (q b) (list_all q bs) (h b parts.0) (weaker p q h bs parts.1)

pub both_all : (p : ℕ → Bool) (xs ys : List ℕ) → list_all p xs ≡ true → list_all p ys ≡ true → list_all p (xs ++ ys) ≡ true
both_all p [] ys all more = more
both_all p (x ∷ xs) ys all more =
    let parts = and_parts (p x) (list_all p xs) all in
    and_from (p x) (list_all p (xs ++ ys)) parts.0 (both_all p xs ys parts.1 more)

no_opening : (b : ℕ) → is_decimal b ≡ true → not (b == 40) ≡ true
no_opening b h = grind (arith, nat_tests)

no_closing : (b : ℕ) → is_decimal b ≡ true → not (b == 41) ≡ true
no_closing b h = grind (arith, nat_tests)

signed_open : (z : ℤ) → list_all (λ b. not (b == 40)) (signed_text z) ≡ true
signed_open (pos n) = weaker is_decimal (λ b. not (b == 40)) no_opening (in_decimal n) (decimal_natural n).digits
signed_open (negsuc n) = weaker is_decimal (λ b. not (b == 40)) no_opening (in_decimal (n + 1)) (decimal_natural (n + 1)).digits

register_closed : (n : ℕ) → list_all (λ b. not (b == 41)) (register_text n) ≡ true
register_closed n = weaker is_decimal (λ b. not (b == 41)) no_closing (in_decimal n) (decimal_natural n).digits

-- an immediate and the register of an address
abbrev pub offset_at : ℤ → ℕ → List ℕ
offset_at z r = signed_text z ++ (codes "(" ++ (register_text r ++ codes ")"))

pub offset_read : (f : Format) (z imm : ℤ) (r : ℕ) → r < 32 → placed f z ≡ Some imm → offset_word f (offset_at z r) ≡ Some (imm, r)
unfolding offset_word
offset_read f z imm r small h =
    let inner : and_then (cut 41 (register_text r ++ codes ")")) closed ≡ Some r =
    ap (λ o. and_then o closed) (cut_at 41 (register_text r) [] (register_closed r)) ∙ register_read r small in
    ap (λ o. and_then o (offset_parts f)) (cut_at 40 (signed_text z) (register_text r ++ codes ")") (signed_open z))
    ∙ ap (λ o. and_then o (λ n. option_map (λ r. (n, r)) (and_then (cut 41 (register_text r ++ codes ")")) closed))) (immediate_read f z imm h)
    ∙ ap (option_map (λ r. (imm, r))) inner

pub offset_is_word : (z : ℤ) (r : ℕ) → is_word (offset_at z r) ≡ true
offset_is_word z r =
    let front = and_parts (has_bytes (signed_text z)) (list_all is_inner (signed_text z)) (signed_is_word z) in
    let register = and_parts (has_bytes (register_text r)) (list_all is_inner (register_text r)) (register_is_word r) in
    and_from (has_bytes (offset_at z r)) (list_all is_inner (offset_at z r))
    (begun (signed_text z) (codes "(" ++ (register_text r ++ codes ")")) front.0)
    (both_all is_inner (signed_text z) (codes "(" ++ (register_text r ++ codes ")")) front.1 (both_all is_inner (register_text r) (codes ")") register.1 refl))
  where
    begun : (xs ys : List ℕ) → has_bytes xs ≡ true → has_bytes (xs ++ ys) ≡ true
    begun [] ys h = cc
    begun (x ∷ xs) ys h = refl

-- an immediate in the place of a label
no_letter : (b : ℕ) → is_decimal b ≡ true → is_letter b ≡ false
no_letter b h = grind (arith, nat_tests)

unlabelled : (bs : List ℕ) → list_all is_decimal bs ≡ true → begins_with_letter bs ≡ false
unlabelled [] h = refl
unlabelled (b ∷ bs) h = no_letter b (and_parts (is_decimal b) (list_all is_decimal bs) h).0

signed_unlabelled : (z : ℤ) → begins_with_letter (signed_text z) ≡ false
signed_unlabelled (pos n) = unlabelled (in_decimal n) (decimal_natural n).digits
signed_unlabelled (negsuc n) = refl

no_label : (z : ℤ) → is_label (signed_text z) ≡ false
unfolding is_label
no_label z = by (begins_with_letter (signed_text z)) _ _ (signed_unlabelled z)
  where
    by : (t u v : Bool) → t ≡ false → t && u && v ≡ false
    by true u v h = cc
    by false u v h = refl

pub target_read : (f : Format) (z imm : ℤ) → placed f z ≡ Some imm → target_word f (signed_text z) ≡ Some (By imm)
unfolding target_word
target_read f z imm h =
    ap (λ (t : Bool). cond t (Some (To (signed_text z))) (option_map By (immediate_word f (signed_text z)))) (no_label z)
    ∙ ap (option_map By) (immediate_read f z imm h)

-- words of kinds with commas between
pair_read : {A B : Type 0} (kind : Kind A) (other : Kind B) (x y : List ℕ) (a : A) (b : B) → kind x ≡ Some a → other y ≡ Some b
    → pair kind other (x ∷ codes "," ∷ y ∷ []) ≡ Some (a, b)
pair_read {A} {B} kind other x y a b at_x at_y =
    ap (λ (o : Option A). and_then o (λ a. option_map (λ b. (a, b)) (other y))) at_x ∙ ap (option_map (λ b. (a, b))) at_y

triple_read : {A B C : Type 0} (kind : Kind A) (other : Kind B) (third : Kind C) (x y z : List ℕ) (a : A) (b : B) (c : C)
    → kind x ≡ Some a → other y ≡ Some b → third z ≡ Some c → triple kind other third (x ∷ codes "," ∷ y ∷ codes "," ∷ z ∷ []) ≡ Some (a, b, c)
triple_read {A} {B} {C} kind other third x y z a b c at_x at_y at_z =
    ap (λ (o : Option A). and_then o (λ a. and_then (other y) (λ b. option_map (λ c. (a, b, c)) (third z)))) at_x
    ∙ ap (λ (o : Option B). and_then o (λ b. option_map (λ c. (a, b, c)) (third z))) at_y
    ∙ ap (option_map (λ c. (a, b, c))) at_z

-- The four shapes of operands, read behind their texts.
abbrev pub three_registers : ℕ → ℕ → ℕ → List ℕ
three_registers a b c = codes " " ++ register_text a ++ codes ", " ++ register_text b ++ codes ", " ++ register_text c

pub three_read : (a b c : ℕ) → a < 32 → b < 32 → c < 32
    → triple register_word register_word register_word (words (three_registers a b c)) ≡ Some (a, b, c)
three_read a b c at_a at_b at_c =
    ap (triple register_word register_word register_word) (words_three (register_text a) (register_text b) (register_text c) (register_is_word a) (register_is_word b) (register_is_word c))
    ∙ triple_read register_word register_word register_word (register_text a) (register_text b) (register_text c) a b c (register_read a at_a) (register_read b at_b) (register_read c at_c)

pub two_read : {A : Type 0} (kind : Kind A) (a b : ℕ) (z : ℤ) (v : A) → a < 32 → b < 32 → kind (signed_text z) ≡ Some v
    → triple register_word register_word kind (words (two_registers_text a b z)) ≡ Some (a, b, v)
two_read kind a b z v at_a at_b at_z =
    ap (triple register_word register_word kind) (words_three (register_text a) (register_text b) (signed_text z) (register_is_word a) (register_is_word b) (signed_is_word z))
    ∙ triple_read register_word register_word kind (register_text a) (register_text b) (signed_text z) a b v (register_read a at_a) (register_read b at_b) at_z

pub one_read : {A : Type 0} (kind : Kind A) (a : ℕ) (z : ℤ) (v : A) → a < 32 → kind (signed_text z) ≡ Some v
    → pair register_word kind (words (one_register_text a z)) ≡ Some (a, v)
one_read kind a z v at_a at_z =
    ap (pair register_word kind) (words_two (register_text a) (signed_text z) (register_is_word a) (signed_is_word z))
    ∙ pair_read register_word kind (register_text a) (signed_text z) a v (register_read a at_a) at_z

pub offset_grouped : (a b : ℕ) (z : ℤ) → offset_text a z b ≡ codes " " ++ register_text a ++ codes ", " ++ offset_at z b
offset_grouped a b z =
    let front = codes " " ++ register_text a ++ codes ", " in
    append_assoc (front ++ signed_text z ++ codes "(") (register_text b) (codes ")")
    ∙ append_assoc (front ++ signed_text z) (codes "(") (register_text b ++ codes ")")
    ∙ append_assoc front (signed_text z) (codes "(" ++ (register_text b ++ codes ")"))

pub address_read : (f : Format) (a b : ℕ) (z imm : ℤ) → a < 32 → b < 32 → placed f z ≡ Some imm
    → pair register_word (offset_word f) (words (offset_text a z b)) ≡ Some (a, (imm, b))
address_read f a b z imm at_a at_b h =
    ap (λ bs. pair register_word (offset_word f) (words bs)) (offset_grouped a b z)
    ∙ ap (pair register_word (offset_word f)) (words_two (register_text a) (offset_at z b) (register_is_word a) (offset_is_word z b))
    ∙ pair_read register_word (offset_word f) (register_text a) (offset_at z b) a (imm, b) (register_read a at_a) (offset_read f z imm b at_b h)

-- The immediate of an instruction as it is written has its place.
passes : (b : Bool) → T b → b ≡ true
passes true t = refl
passes false t = absurd t

pub signed_fits : (bits : ℕ) (z : ℤ) → IsSignedBelow bits z → is_signed bits z ≡ true
signed_fits bits z h = and_from _ _ (passes _ h.0.le) (passes _ h.1.lt)

pub multiple_fits : (k : ℕ) (z : ℤ) → IsMultiple k z → is_multiple k z ≡ true
multiple_fits k z h = ap (λ n. unsigned_abs n == 0) h

pub placed_fit : (f : Format) (z : ℤ) → fits f z ≡ true → placed f z ≡ Some (scaled f z)
placed_fit f z h = ap (λ (t : Bool). cond t (Some (scaled f z)) None) h

-- the immediate of the format U
pub upper_whole : (imm : ℤ) → IsMultiple (2 ^ 12) imm → int_div imm (pos (2 ^ 12)) *ℤ pos (2 ^ 12) ≡ imm
upper_whole (pos n) h =
    let none : n % 4096 ≡ 0 = ap unsigned_abs h in
    let same : n / 4096 * 4096 ≡ n = omega arith in
    ap pos same
upper_whole (negsuc n) h =
    let none : suc n % 4096 ≡ 0 = omega (arith, ints, h) in
    let same : suc n / 4096 * 4096 ≡ suc n = omega arith in
    back (suc n / 4096) n same
  where
    back : (q n : ℕ) → q * 4096 ≡ suc n → neg_ℤ (pos q) *ℤ pos 4096 ≡ negsuc n
    back zero n h = absurd (omega arith)
    back (suc q) n h = ap (λ m. neg_ℤ (pos m)) h

pub upper_fits : (imm : ℤ) → IsSignedBelow 31 imm → is_signed 19 (int_div imm (pos (2 ^ 12))) ≡ true
upper_fits (pos n) h =
    let below : n < 2147483648 = omega (arith, ints, h.1) in
    let small : n / 4096 < 524288 = omega arith in
    and_from _ _ refl (lt-ltb (n / 4096) 524288 small)
upper_fits (negsuc n) h =
    let below : n < 2147483648 = omega (arith, ints, h.0) in
    let small : suc n / 4096 ≤ 524288 = omega arith in
    by (suc n / 4096) small
  where
    by : (q : ℕ) → q ≤ 524288 → is_signed 19 (neg_ℤ (pos q)) ≡ true
    by zero h = refl
    by (suc q) h = and_from _ _ (le-leb q 524287 (omega arith)) refl

pub even_fits : (bits : ℕ) (z : ℤ) → IsSignedBelow bits z → IsMultiple 2 z → is_signed bits z && is_multiple 2 z ≡ true
even_fits bits z h even = and_from _ _ (signed_fits bits z h) (multiple_fits 2 z even)

pub below_fits : (most : ℕ) (z : ℤ) → pos 0 ≤ℤ z → z <ℤ pos most → int_le (pos 0) z && int_lt z (pos most) ≡ true
below_fits most z low high = and_from _ _ (passes _ low.le) (passes _ high.lt)
