use Rattle.std.proofs.Common.{◌≡◌, ℕ, zero, suc, ◌*◌, ◌%◌, ◌^◌, ◌<◌, ◌≤◌, ◌==◌, ◌||◌, ◌&&◌, nat_le, Bool, true, false, cond, T, List, [], ◌∷◌, ap, sym, subst, refl, arith, Some, None, eqb-true, codes}
use Rattle.std.specs.Prelude.{IsTrue, find, Option, ℤ, pos, negsuc, neg_ℤ, ◌*ℤ◌, int_le, int_lt, int_rem, unsigned_abs, ◌≤ℤ◌, ◌<ℤ◌, IfSome}
use Rattle.std.specs.Option.{option_map}
use Rattle.std.specs.List.{filter}
use Rattle.std.proofs.lemmas.Bool.{and_parts, leb-true, lt-ltb, le-leb, ltb-true}
use Rattle.rv_decode.specs.declared.names.Format.{Format}
use Rattle.rv_decode.specs.declared.names.Format.TheVariants as format
use Rattle.rv_decode.specs.declared.names.Name.{Name}
use Rattle.rv_decode.specs.declared.rows.CaseRow.{CaseRow}
use Rattle.rv_decode.specs.Table.{row_of, all_names, is_base, text_of}
use Rattle.rv_decode.specs.Encodable.{HasRegisters, HasImmediate, IsSignedBelow, IsMultiple}
use Rattle.report_text.specs.Instructions.{opcode}
use Rattle.asm_lines.specs.Kinds.{Kind, Target, and_then, natural, raw_word, has_leading_zero, register_number, register_word, signed_word, is_signed, is_multiple, fits, scaled, placed, immediate_word, cut, closed, offset_parts, offset_word, is_label, target_word, name_word, is_text}
use Rattle.asm_lines.specs.Kinds.Target.{By, To}
use Rattle.asm_lines.specs.Items.{three_words, two_words, one_word, pair, triple, at_end, Item, instr, going, item_by, item_of_row, raw_item, item_in}
use Rattle.asm_lines.specs.Items.Item.{Plain, Raw}
use Rattle.asm_lines.proofs.Ranges.{within_one}
use Rattle.asm_lines.specs.Lines.{front_of, may_stand, item_at, item_on}
use Rattle.asm_lines.specs.declared.items.Item.{Item as GivenItem}
use Rattle.asm_lines.specs.Said.{said, IsSound, GoesTo}
use Rattle.script_text.specs.Numbers.{number_in, within}

-- What is read has a word.

-- a property of what a value that may be missing is made of

any_some : {A : Type 0} (o : Option A) → IfSome o (λ (a : A). Unit {0})
any_some None = tt
any_some (Some a) = tt

pub if_map : {A B : Type 0} (o : Option A) (f : A → B) (P : A → Type 0) (Q : B → Type 0) → ((a : A) → P a → Q (f a)) → IfSome o P → IfSome (option_map f o) Q
if_map None f P Q step h = tt
if_map (Some a) f P Q step h = step a h

if_then : {A B : Type 0} (o : Option A) (f : A → Option B) (P : A → Type 0) (Q : B → Type 0) → ((a : A) → P a → IfSome (f a) Q) → IfSome o P → IfSome (and_then o f) Q
if_then None f P Q step h = tt
if_then (Some a) f P Q step h = step a h

if_test : {A : Type 0} (t : Bool) (a : A) (P : A → Type 0) → (t ≡ true → P a) → IfSome (cond t (Some a) None) P
if_test true a P h = h refl
if_test false a P h = tt

pub if_either : {A : Type 0} (t : Bool) (x y : Option A) (P : A → Type 0) → IfSome x P → IfSome y P → IfSome (cond t x y) P
if_either true x y P a b = a
if_either false x y P a b = b

within_has : (most : ℕ) (o : Option ℕ) → IfSome (within 0 most o) (λ n. n ≤ most)
within_has most None = tt
within_has most (Some n) = subst (λ (o : Option ℕ). IfSome o (λ n. n ≤ most)) (sym (within_one most n)) (if_test (nat_le n most) n (λ n. n ≤ most) (leb-true n most))

register_has : (w : List ℕ) → IfSome (register_word w) (λ r. r < 32)
unfolding register_word
register_has [] = tt
register_has (b ∷ digits) =
    if_either (b == 120) (register_number digits) None (λ r. r < 32)
    (if_either (has_leading_zero digits) None (within 0 31 (natural digits)) (λ r. r < 32) tt (below (within 0 31 (natural digits)) (within_has 31 (natural digits)))) tt
  where
    below : (o : Option ℕ) → IfSome o (λ n. n ≤ 31) → IfSome o (λ r. r < 32)
    below None h = tt
    below (Some n) h = omega (arith, h)

-- an immediate that fits has its place
holds : (b : Bool) → b ≡ true → T b
holds true h = tt
holds false h = cc

signed_has : (bits : ℕ) (z : ℤ) → is_signed bits z ≡ true → IsSignedBelow bits z
signed_has bits z h =
    let parts = and_parts (int_le (neg_ℤ (pos (2 ^ bits))) z) (int_lt z (pos (2 ^ bits))) h in
    (record { le = holds _ parts.0 }, record { lt = holds _ parts.1 })

zero_abs : (z : ℤ) → unsigned_abs z ≡ 0 → z ≡ pos 0
zero_abs (pos n) h = ap pos h
zero_abs (negsuc n) h = absurd (omega arith)

multiple_has : (k : ℕ) (z : ℤ) → is_multiple k z ≡ true → IsMultiple k z
multiple_has k z h = zero_abs (int_rem z (pos k)) (eqb-true _ 0 h)

even_has : (bits : ℕ) (z : ℤ) → is_signed bits z && is_multiple 2 z ≡ true → IsSignedBelow bits z × IsMultiple 2 z
even_has bits z h =
    let parts = and_parts (is_signed bits z) (is_multiple 2 z) h in
    (signed_has bits z parts.0, multiple_has 2 z parts.1)

amount_has : (most : ℕ) (z : ℤ) → int_le (pos 0) z && int_lt z (pos most) ≡ true → (pos 0 ≤ℤ z) × (z <ℤ pos most)
amount_has most z h =
    let parts = and_parts (int_le (pos 0) z) (int_lt z (pos most)) h in
    (record { le = holds _ parts.0 }, record { lt = holds _ parts.1 })

UpperHas : ℤ → Type 0
UpperHas z = IsSignedBelow 31 z × IsMultiple (2 ^ 12) z

upper_whole : (m : ℕ) → m % 4096 ≡ 0 → 0 < m → m ≤ 2147483648 → UpperHas (neg_ℤ (pos m))
unfolding UpperHas
upper_whole zero whole some small = absurd (omega arith)
upper_whole (suc m) whole some small =
    ((record { le = holds _ (le-leb m 2147483647 (omega arith)) }, record { lt = tt }), ap (λ r. neg_ℤ (pos r)) whole)

upper_has : (z : ℤ) → is_signed 19 z ≡ true → HasImmediate format.U (z *ℤ pos (2 ^ 12))
unfolding UpperHas
upper_has (pos n) h =
    let small : n < 524288 = ltb-true n 524288 (and_parts true _ h).1 in
    let whole : n * 4096 % 4096 ≡ 0 = omega arith in
    ((record { le = tt }, record { lt = holds _ (lt-ltb (n * 4096) 2147483648 (omega arith)) }), ap pos whole)
upper_has (negsuc n) h =
    let small : n ≤ 524287 = leb-true n 524287 (and_parts _ true h).0 in
    upper_whole (suc n * 4096) (omega arith) (omega arith) (omega arith)

fit_has : (f : Format) (z : ℤ) → fits f z ≡ true → HasImmediate f (scaled f z)
fit_has format.R z h = cc
fit_has format.I z h = signed_has 11 z h
fit_has format.S z h = signed_has 11 z h
fit_has format.B z h = even_has 12 z h
fit_has format.U z h = upper_has z h
fit_has format.J z h = even_has 20 z h
fit_has format.H6 z h = amount_has 64 z h
fit_has format.H5 z h = amount_has 32 z h
fit_has format.N z h = cc

pub placed_has : (f : Format) (z : ℤ) → IfSome (placed f z) (HasImmediate f)
placed_has f z = if_test (fits f z) (scaled f z) (HasImmediate f) (fit_has f z)

immediate_has : (f : Format) (w : List ℕ) → IfSome (immediate_word f w) (HasImmediate f)
unfolding immediate_word
immediate_has f w = if_then (signed_word w) (λ z. placed f z) (λ z. Unit {0}) (HasImmediate f) (λ z h. placed_has f z) (any_some (signed_word w))

abbrev OffsetHas : Format → ℤ × ℕ → Type 0
OffsetHas f p = HasImmediate f p.0 × (p.1 < 32)

offset_has : (f : Format) (w : List ℕ) → IfSome (offset_word f w) (OffsetHas f)
unfolding offset_word
offset_has f w =
    if_then (cut 40 w) (offset_parts f) (λ p. Unit {0}) (OffsetHas f)
    (λ p h. if_then (immediate_word f p.0) (λ n. option_map (λ r. (n, r)) (and_then (cut 41 p.1) closed)) (HasImmediate f) (OffsetHas f)
    (λ n at_n. if_map (and_then (cut 41 p.1) closed) (λ r. (n, r)) (λ r. r < 32) (OffsetHas f) (λ r at_r. (at_n, at_r))
    (if_then (cut 41 p.1) closed (λ q. Unit {0}) (λ r. r < 32) (λ q g. if_either _ (register_word q.0) None (λ r. r < 32) (register_has q.0) tt) (any_some (cut 41 p.1))))
    (immediate_has f p.0))
    (any_some (cut 40 w))

target_has : (f : Format) (w : List ℕ) → IfSome (target_word f w) (GoesTo f)
unfolding target_word
target_has f w =
    if_either (is_label w) (Some (To w)) (option_map By (immediate_word f w)) (GoesTo f) tt
    (if_map (immediate_word f w) By (HasImmediate f) (GoesTo f) (λ n h. h) (immediate_has f w))

-- operands of kinds
pair_has : {A B : Type 0} (kind : Kind A) (other : Kind B) (P : A → Type 0) (Q : B → Type 0) (ws : List (List ℕ))
    → ((w : List ℕ) → IfSome (kind w) P) → ((w : List ℕ) → IfSome (other w) Q) → IfSome (pair kind other ws) (λ (p : A × B). P p.0 × Q p.1)
pair_has {A} {B} kind other P Q ws at_a at_b =
    if_then (two_words ws) (λ w. and_then (kind w.0) (λ a. option_map (λ b. (a, b)) (other w.1))) (λ w. Unit {0}) (λ (p : A × B). P p.0 × Q p.1)
    (λ w h. if_then (kind w.0) (λ a. option_map (λ b. (a, b)) (other w.1)) P (λ (p : A × B). P p.0 × Q p.1)
    (λ a has_a. if_map (other w.1) (λ b. (a, b)) Q (λ (p : A × B). P p.0 × Q p.1) (λ b has_b. (has_a, has_b)) (at_b w.1)) (at_a w.0))
    (any_some (two_words ws))

triple_has : {A B C : Type 0} (kind : Kind A) (other : Kind B) (third : Kind C) (P : A → Type 0) (Q : B → Type 0) (R : C → Type 0) (ws : List (List ℕ))
    → ((w : List ℕ) → IfSome (kind w) P) → ((w : List ℕ) → IfSome (other w) Q) → ((w : List ℕ) → IfSome (third w) R)
    → IfSome (triple kind other third ws) (λ (p : A × B × C). P p.0 × Q p.1 × R p.2)
triple_has {A} {B} {C} kind other third P Q R ws at_a at_b at_c =
    let All3 = λ (p : A × B × C). P p.0 × Q p.1 × R p.2 in
    if_then (three_words ws) (λ w. and_then (kind w.0) (λ a. and_then (other w.1) (λ b. option_map (λ c. (a, b, c)) (third w.2)))) (λ w. Unit {0}) All3
    (λ w h. if_then (kind w.0) (λ a. and_then (other w.1) (λ b. option_map (λ c. (a, b, c)) (third w.2))) P All3
    (λ a has_a. if_then (other w.1) (λ b. option_map (λ c. (a, b, c)) (third w.2)) Q All3
    (λ b has_b. if_map (third w.2) (λ c. (a, b, c)) R All3 (λ c has_c. (has_a, has_b, has_c)) (at_c w.2)) (at_b w.1)) (at_a w.0))
    (any_some (three_words ws))

-- an instruction with such fields
plain_has : (n : Name) (f : Format) (rd rs1 rs2 : ℕ) (imm : ℤ) → IsTrue (is_base n) → (row_of n).format ≡ f → HasRegisters f (instr n rd rs1 rs2 imm) → HasImmediate f imm
    → IsSound (Plain (instr n rd rs1 rs2 imm))
plain_has n f rd rs1 rs2 imm listed is regs place = record {
  listed = listed;
  registers = subst (λ (g : Format). HasRegisters g (instr n rd rs1 rs2 imm)) (sym is) regs;
  immediate = subst (λ (g : Format). HasImmediate g imm) (sym is) place;
}

going_has : (n : Name) (f : Format) (rd rs1 rs2 : ℕ) (t : Target) → IsTrue (is_base n) → (row_of n).format ≡ f → ((imm : ℤ) → HasRegisters f (instr n rd rs1 rs2 imm)) → GoesTo f t
    → IsSound (going (instr n rd rs1 rs2) t)
going_has n f rd rs1 rs2 (By imm) listed is regs place = plain_has n f rd rs1 rs2 imm listed is (regs imm) place
going_has n f rd rs1 rs2 (To name) listed is regs place = record {
  listed = listed;
  registers = subst (λ (g : Format). HasRegisters g (instr n rd rs1 rs2 (pos 0))) (sym is) (regs (pos 0));
}

end_has : (item : Item) (ws : List (List ℕ)) → IsSound item → IfSome (at_end item ws) IsSound
end_has item [] h = h
end_has item (w ∷ ws) h = tt

item_has : (f : Format) (n : Name) (row : CaseRow) (ws : List (List ℕ)) → IsTrue (is_base n) → (row_of n).format ≡ f → IfSome (item_by f n row ws) IsSound
item_has format.R n row ws listed is =
    if_map (triple register_word register_word register_word ws) (λ p. Plain (instr n p.0 p.1 p.2 (pos 0))) (λ p. (p.0 < 32) × (p.1 < 32) × (p.2 < 32)) IsSound
    (λ p h. plain_has n format.R p.0 p.1 p.2 (pos 0) listed is h refl)
    (triple_has register_word register_word register_word (λ r. r < 32) (λ r. r < 32) (λ r. r < 32) ws register_has register_has register_has)
item_has format.I n row ws listed is =
    if_either (opcode row == 0x03 || opcode row == 0x67) _ _ IsSound
    (if_map (pair register_word (offset_word format.I) ws) (λ p. Plain (instr n p.0 p.1.1 0 p.1.0)) (λ p. (p.0 < 32) × OffsetHas format.I p.1) IsSound
    (λ p h. plain_has n format.I p.0 p.1.1 0 p.1.0 listed is (h.0, h.1.1, refl) h.1.0)
    (pair_has register_word (offset_word format.I) (λ r. r < 32) (OffsetHas format.I) ws register_has (offset_has format.I)))
    (if_either (opcode row == 0x0F) _ _ IsSound (end_has (Raw 0x0FF0000F) ws (omega arith))
    (if_map (triple register_word register_word (immediate_word format.I) ws) (λ p. Plain (instr n p.0 p.1 0 p.2)) (λ p. (p.0 < 32) × (p.1 < 32) × HasImmediate format.I p.2) IsSound
    (λ p h. plain_has n format.I p.0 p.1 0 p.2 listed is (h.0, h.1, refl) h.2)
    (triple_has register_word register_word (immediate_word format.I) (λ r. r < 32) (λ r. r < 32) (HasImmediate format.I) ws register_has register_has (immediate_has format.I))))
item_has format.S n row ws listed is =
    if_map (pair register_word (offset_word format.S) ws) (λ p. Plain (instr n 0 p.1.1 p.0 p.1.0)) (λ p. (p.0 < 32) × OffsetHas format.S p.1) IsSound
    (λ p h. plain_has n format.S 0 p.1.1 p.0 p.1.0 listed is (refl, h.1.1, h.0) h.1.0)
    (pair_has register_word (offset_word format.S) (λ r. r < 32) (OffsetHas format.S) ws register_has (offset_has format.S))
item_has format.B n row ws listed is =
    if_map (triple register_word register_word (target_word format.B) ws) (λ p. going (instr n 0 p.0 p.1) p.2) (λ p. (p.0 < 32) × (p.1 < 32) × GoesTo format.B p.2) IsSound
    (λ p h. going_has n format.B 0 p.0 p.1 p.2 listed is (λ imm. (refl, h.0, h.1)) h.2)
    (triple_has register_word register_word (target_word format.B) (λ r. r < 32) (λ r. r < 32) (GoesTo format.B) ws register_has register_has (target_has format.B))
item_has format.U n row ws listed is =
    if_map (pair register_word (immediate_word format.U) ws) (λ p. Plain (instr n p.0 0 0 p.1)) (λ p. (p.0 < 32) × HasImmediate format.U p.1) IsSound
    (λ p h. plain_has n format.U p.0 0 0 p.1 listed is (h.0, refl, refl) h.1)
    (pair_has register_word (immediate_word format.U) (λ r. r < 32) (HasImmediate format.U) ws register_has (immediate_has format.U))
item_has format.J n row ws listed is =
    if_map (pair register_word (target_word format.J) ws) (λ p. going (instr n p.0 0 0) p.1) (λ p. (p.0 < 32) × GoesTo format.J p.1) IsSound
    (λ p h. going_has n format.J p.0 0 0 p.1 listed is (λ imm. (h.0, refl, refl)) h.1)
    (pair_has register_word (target_word format.J) (λ r. r < 32) (GoesTo format.J) ws register_has (target_has format.J))
item_has format.H6 n row ws listed is =
    if_map (triple register_word register_word (immediate_word format.H6) ws) (λ p. Plain (instr n p.0 p.1 0 p.2)) (λ p. (p.0 < 32) × (p.1 < 32) × HasImmediate format.H6 p.2) IsSound
    (λ p h. plain_has n format.H6 p.0 p.1 0 p.2 listed is (h.0, h.1, refl) h.2)
    (triple_has register_word register_word (immediate_word format.H6) (λ r. r < 32) (λ r. r < 32) (HasImmediate format.H6) ws register_has register_has (immediate_has format.H6))
item_has format.H5 n row ws listed is =
    if_map (triple register_word register_word (immediate_word format.H5) ws) (λ p. Plain (instr n p.0 p.1 0 p.2)) (λ p. (p.0 < 32) × (p.1 < 32) × HasImmediate format.H5 p.2) IsSound
    (λ p h. plain_has n format.H5 p.0 p.1 0 p.2 listed is (h.0, h.1, refl) h.2)
    (triple_has register_word register_word (immediate_word format.H5) (λ r. r < 32) (λ r. r < 32) (HasImmediate format.H5) ws register_has register_has (immediate_has format.H5))
item_has format.N n row ws listed is = end_has (Plain (instr n 0 0 0 (pos 0))) ws (plain_has n format.N 0 0 0 (pos 0) listed is (refl, refl, refl) refl)

raw_word_has : (w : List ℕ) → IfSome (raw_word w) (λ n. n ≤ 4294967295)
unfolding raw_word
raw_word_has w = within_has 4294967295 (number_in w)

raw_has : (ws : List (List ℕ)) → IfSome (raw_item ws) IsSound
raw_has ws =
    if_then (one_word ws) (λ w. option_map Raw (raw_word w)) (λ w. Unit {0}) IsSound
    (λ w h. if_map (raw_word w) Raw (λ n. n ≤ 4294967295) IsSound (λ n small. omega (arith, small)) (raw_word_has w))
    (any_some (one_word ws))

-- a name that is read is one of RV64I
found_has : {A : Type 0} (test keep : A → Bool) (xs : List A) → IfSome (find test (filter keep xs)) (λ x. IsTrue (keep x))
found_has test keep [] = tt
found_has test keep (x ∷ xs) = by (keep x) (test x) refl (found_has test keep xs)
  where
    by : (k t : Bool) → keep x ≡ k → IfSome (find test (filter keep xs)) (λ x. IsTrue (keep x)) → IfSome (find test (cond k (x ∷ filter keep xs) (filter keep xs))) (λ x. IsTrue (keep x))
    by true t h rest = if_either (test x) (Some x) (find test (filter keep xs)) (λ x. IsTrue (keep x)) h rest
    by false t h rest = rest

name_has : (w : List ℕ) → IfSome (name_word w) (λ n. IsTrue (is_base n))
unfolding name_word
name_has w = found_has (λ n. is_text w (text_of n)) is_base all_names

item_sound : (w : List ℕ) (ws : List (List ℕ)) → IfSome (item_in w ws) IsSound
item_sound w ws =
    if_either (is_text w (codes ".word")) (raw_item ws) (and_then (name_word w) (λ n. item_of_row n ws)) IsSound (raw_has ws)
    (if_then (name_word w) (λ n. item_of_row n ws) (λ n. IsTrue (is_base n)) IsSound (λ n listed. item_has (row_of n).format n (row_of n) ws listed refl) (name_has w))

-- what stands on a line has a word
abbrev MayBeSound : Option Item → Type 0
MayBeSound o = IfSome o IsSound

at_sound : (ws : List (List ℕ)) → IfSome (item_at ws) MayBeSound
at_sound [] = tt
at_sound (w ∷ ws) = if_map (item_in w ws) Some IsSound MayBeSound (λ i h. h) (item_sound w ws)

line_sound : (ws : List (List ℕ)) → IfSome (item_on ws) MayBeSound
unfolding item_on
line_sound ws = if_either (may_stand (front_of ws).label) (item_at (front_of ws).item) None MayBeSound (at_sound (front_of ws).item) tt

-- the same of what the code found
one_said : (o : Option GivenItem) → IfSome (option_map said o) IsSound → IfSome o (λ i. IsSound (said i))
one_said None h = tt
one_said (Some i) h = h

all_said : (o : Option (Option GivenItem)) → IfSome (option_map (option_map said) o) MayBeSound → IfSome o (λ p. IfSome p (λ i. IsSound (said i)))
all_said None h = tt
all_said (Some p) h = one_said p h

pub said_sound : (ws : List (List ℕ)) (o : Option (Option GivenItem)) → option_map (option_map said) o ≡ item_on ws → IfSome o (λ p. IfSome p (λ i. IsSound (said i)))
said_sound ws o is = all_said o (subst (λ x. IfSome x MayBeSound) (sym is) (line_sound ws))
