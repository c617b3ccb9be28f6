use Rattle.std.proofs.Common.{◌≡◌, ◌≢◌, ℕ, ◌+◌, ◌^◌, ◌<◌, ◌==◌, ◌||◌, nat_le, Bool, true, false, cond, List, [], ◌∷◌, ◌++◌, length, map, ap, sym, subst, ◌∙◌, refl, arith, codes, Some, None, Ok, length-append}
use Rattle.std.specs.Prelude.{ℤ, pos, negsuc, int_div}
use Rattle.std.specs.List.{list_all}
use Rattle.std.proofs.lemmas.Bool.{and_parts, leb-true}
use Rattle.std.proofs.lemmas.Bool.Decides.{nat_tests}
use Rattle.script_text.specs.Lines.{onto_first, script_lines, without_return}
use Rattle.script_text.specs.Numbers.{is_decimal}
use Rattle.rv_decode.specs.declared.instruction.Instr.{Instr}
use Rattle.rv_decode.specs.declared.names.Format.{Format}
use Rattle.rv_decode.specs.declared.names.Format.TheVariants as format
use Rattle.rv_decode.specs.declared.names.Name.{Name}
use Rattle.rv_decode.specs.declared.names.Name.TheVariants as name
use Rattle.rv_decode.specs.declared.rows.CaseRow.{CaseRow}
use Rattle.rv_decode.specs.Table.{row_of, text_of, is_base}
use Rattle.rv_decode.specs.TableLaws.{each_name}
use Rattle.rv_decode.specs.Encoding.{word_of}
use Rattle.rv_decode.specs.Meaning.{Means, meaning}
use Rattle.rv_decode.specs.MeaningLaws.{means-meaning}
use Rattle.rv_decode.proofs.Encodes.{sum-means}
use Rattle.report_text.specs.Digits.{in_decimal, signed_text}
use Rattle.report_text.specs.Instructions.{register_text, two_registers_text, offset_text, one_register_text, opcode, operands_by, instruction_text}
use Rattle.asm_lines.specs.Words.{words}
use Rattle.asm_lines.specs.Items.Item.{Plain}
use Rattle.asm_lines.specs.Lines.{front_of, item_on, lines_in}
use Rattle.asm_lines.proofs.Decimals.{decimal_natural}
use Rattle.asm_lines.proofs.Operands.{three_registers, weaker, both_all}
use Rattle.asm_lines.proofs.Rows.{printed, meaning_printed, text_unlabelled, word_read}
use Rattle.rv_asm.specs.Labels.{with_label, and_then_labels, labels_of}
use Rattle.rv_asm.specs.Outcomes.{with_outcome, outcomes_of, words_in}
use Rattle.rv_asm.specs.Assembly.{outside_or, first_outside, refusal, or_words, words_of, words_by}

-- The text of an instruction is one line.

is_printed : ℕ → Bool
is_printed b = nat_le 32 b

printed_digit : (b : ℕ) → is_decimal b ≡ true → is_printed b ≡ true
unfolding is_printed
printed_digit b h = grind (arith, nat_tests)

decimal_printed : (n : ℕ) → list_all is_printed (in_decimal n) ≡ true
decimal_printed n = weaker is_decimal is_printed printed_digit (in_decimal n) (decimal_natural n).digits

register_printed : (n : ℕ) → list_all is_printed (register_text n) ≡ true
unfolding is_printed
register_printed n = decimal_printed n

signed_printed : (z : ℤ) → list_all is_printed (signed_text z) ≡ true
unfolding is_printed
signed_printed (pos n) = decimal_printed n
signed_printed (negsuc n) = decimal_printed (n + 1)

both : (xs ys : List ℕ) → list_all is_printed xs ≡ true → list_all is_printed ys ≡ true → list_all is_printed (xs ++ ys) ≡ true
both = both_all is_printed

comma : list_all is_printed (codes ", ") ≡ true
unfolding is_printed
comma = refl

one_more : (front : List ℕ) (n : ℕ) → list_all is_printed front ≡ true → list_all is_printed (front ++ register_text n) ≡ true
one_more front n h = both front (register_text n) h (register_printed n)

blank_register : (a : ℕ) → list_all is_printed (codes " " ++ register_text a ++ codes ", ") ≡ true
unfolding is_printed
blank_register a = both (codes " " ++ register_text a) (codes ", ") (one_more (codes " ") a refl) comma

three_printed : (a b c : ℕ) → list_all is_printed (three_registers a b c) ≡ true
three_printed a b c =
    one_more (codes " " ++ register_text a ++ codes ", " ++ register_text b ++ codes ", ") c
    (both (codes " " ++ register_text a ++ codes ", " ++ register_text b) (codes ", ") (one_more (codes " " ++ register_text a ++ codes ", ") b (blank_register a)) comma)

two_printed : (a b : ℕ) (z : ℤ) → list_all is_printed (two_registers_text a b z) ≡ true
two_printed a b z =
    both (codes " " ++ register_text a ++ codes ", " ++ register_text b ++ codes ", ") (signed_text z)
    (both (codes " " ++ register_text a ++ codes ", " ++ register_text b) (codes ", ") (one_more (codes " " ++ register_text a ++ codes ", ") b (blank_register a)) comma) (signed_printed z)

one_printed : (a : ℕ) (z : ℤ) → list_all is_printed (one_register_text a z) ≡ true
one_printed a z = both (codes " " ++ register_text a ++ codes ", ") (signed_text z) (blank_register a) (signed_printed z)

offset_printed : (a b : ℕ) (z : ℤ) → list_all is_printed (offset_text a z b) ≡ true
unfolding is_printed
offset_printed a b z =
    both (one_register_text a z ++ codes "(" ++ register_text b) (codes ")")
    (one_more (one_register_text a z ++ codes "(") b (both (one_register_text a z) (codes "(") (one_printed a z) refl)) refl

i_printed : (t u : Bool) (x y : List ℕ) → list_all is_printed x ≡ true → list_all is_printed y ≡ true → list_all is_printed (cond t x (cond u [] y)) ≡ true
i_printed true u x y h k = h
i_printed false true x y h k = refl
i_printed false false x y h k = k

operands_printed : (f : Format) (row : CaseRow) (i : Instr) → list_all is_printed (operands_by f row i) ≡ true
operands_printed format.R row i = three_printed i.rd i.rs1 i.rs2
operands_printed format.I row i =
    i_printed (opcode row == 0x03 || opcode row == 0x67) (opcode row == 0x0F) (offset_text i.rd i.imm i.rs1) (two_registers_text i.rd i.rs1 i.imm) (offset_printed i.rd i.rs1 i.imm) (two_printed i.rd i.rs1 i.imm)
operands_printed format.S row i = offset_printed i.rs2 i.rs1 i.imm
operands_printed format.B row i = two_printed i.rs1 i.rs2 i.imm
operands_printed format.U row i = one_printed i.rd (int_div i.imm (pos (2 ^ 12)))
operands_printed format.J row i = one_printed i.rd i.imm
operands_printed format.H6 row i = two_printed i.rd i.rs1 i.imm
operands_printed format.H5 row i = two_printed i.rd i.rs1 i.imm
operands_printed format.N row i = refl

name_printed : (n : Name) → list_all is_printed (text_of n) ≡ true
unfolding is_printed
name_printed n = each_name (λ n. list_all is_printed (text_of n)) refl n

text_printed : (i : Instr) → list_all is_printed (printed i) ≡ true
text_printed i = both (text_of i.name) (operands_by (row_of i.name).format (row_of i.name) i) (name_printed i.name) (operands_printed (row_of i.name).format (row_of i.name) i)

-- printed bytes are one line, with nothing to pass over at its end
no_end : (b : ℕ) → is_printed b ≡ true → (b == 10) ≡ false
unfolding is_printed
no_end b h = grind (arith, nat_tests)

no_return : (b : ℕ) → is_printed b ≡ true → (b == 13) ≡ false
unfolding is_printed
no_return b h = grind (arith, nat_tests)

one_line : (b : ℕ) (bs : List ℕ) → list_all is_printed (b ∷ bs) ≡ true → script_lines (b ∷ bs) ≡ (b ∷ bs) ∷ []
one_line b [] h = ap (λ (t : Bool). cond t ([] ∷ []) (onto_first b [])) (no_end b (and_parts (is_printed b) _ h).0)
one_line b (c ∷ bs) h =
    let parts = and_parts (is_printed b) (list_all is_printed (c ∷ bs)) h in
    ap (λ (t : Bool). cond t ([] ∷ script_lines (c ∷ bs)) (onto_first b (script_lines (c ∷ bs)))) (no_end b parts.0) ∙ ap (onto_first b) (one_line c bs parts.1)

all_kept : (bs : List ℕ) → list_all is_printed bs ≡ true → without_return bs ≡ bs
all_kept [] h = refl
all_kept (b ∷ []) h = ap (λ (t : Bool). cond t [] (b ∷ [])) (no_return b (and_parts (is_printed b) _ h).0)
all_kept (b ∷ c ∷ bs) h = ap (λ cs. b ∷ cs) (all_kept (c ∷ bs) (and_parts (is_printed b) (list_all is_printed (c ∷ bs)) h).1)

-- a text of one line
lines_of_one : (bs : List ℕ) → list_all is_printed bs ≡ true → 0 < length bs → lines_in bs ≡ words bs ∷ []
unfolding lines_in
lines_of_one [] h some = absurd (omega arith)
lines_of_one (b ∷ bs) h some =
    ap (map (λ line. words (without_return line))) (one_line b bs h) ∙ ap (λ cs. words cs ∷ []) (all_kept (b ∷ bs) h)

name_some : (n : Name) (bs : List ℕ) → 0 < length (text_of n ++ bs)
name_some n bs =
    let some = leb-true 1 (length (text_of n)) (each_name (λ n. nat_le 1 (length (text_of n))) refl n) in
    omega (arith, some, length-append (text_of n) bs)

-- the words of one line with no label and an instruction
one_word_line : (line : List (List ℕ)) (i : Instr) → item_on line ≡ Some (Some (Plain i)) → (front_of line).label ≡ None
    → words_by (first_outside (line ∷ [])) (labels_of (line ∷ [])) (line ∷ []) ≡ Ok (word_of i ∷ [])
unfolding first_outside labels_of outcomes_of
one_word_line line i is none =
    ap (λ x. words_by (outside_or 1 x None) (labels_of (line ∷ [])) (line ∷ [])) is
    ∙ ap (λ y. words_by None (and_then_labels (with_label 1 0 [] y) (λ more. Ok more)) (line ∷ [])) none
    ∙ ap (λ x. or_words (refusal (with_outcome [] 1 0 x [])) (words_in (with_outcome [] 1 0 x []))) is

-- For every word that fits a row other than the fence's, its text assembles to it.
pub word_back : (word : ℕ) (i : Instr) → word < 2 ^ 32 → meaning word ≡ Some i → i.name ≢ name.Fence → words_of (instruction_text is_base word) ≡ Ok (word ∷ [])
unfolding words_of instruction_text
word_back word i below is other =
    let means : Means is_base word (Some i) = subst (Means is_base word) is (means-meaning is_base word) in
    let text = printed i in
    let read : item_on (words text) ≡ Some (Some (Plain i)) = ap (λ o. item_on (words (meaning_printed o))) (sym is) ∙ word_read word i is other in
    let line = lines_of_one text (text_printed i) (name_some i.name _) in
    ap (λ o. words_by (first_outside (lines_in (meaning_printed o))) (labels_of (lines_in (meaning_printed o))) (lines_in (meaning_printed o))) is
    ∙ ap (λ ls. words_by (first_outside ls) (labels_of ls) ls) line
    ∙ one_word_line (words text) i read (text_unlabelled i)
    ∙ ap (λ w. Ok (w ∷ [])) (sum-means i word below means.1)
