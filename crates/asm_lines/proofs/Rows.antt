use Rattle.std.proofs.Common.{◌≡◌, ℕ, ◌^◌, ◌==◌, ◌||◌, ◌&&◌, not, Bool, true, false, cond, List, [], ◌∷◌, ◌++◌, ap, sym, ◌∙◌, refl, subst, codes, Some, None, inl, inr, ◌≢◌}
use Rattle.std.specs.Prelude.{Option, ℤ, pos, int_div, IsTrue}
use Rattle.std.specs.Option.{option_map, option_map_or}
use Rattle.std.proofs.lemmas.Bool.{not-true, and_parts, or_cases}
use Rattle.rv_decode.specs.declared.instruction.Instr.{Instr}
use Rattle.rv_decode.specs.declared.names.Format.{Format}
use Rattle.rv_decode.specs.declared.names.Format.TheVariants as format
use Rattle.rv_decode.specs.declared.names.Name.{Name}
use Rattle.rv_decode.specs.declared.names.Name.TheVariants as name
use Rattle.rv_decode.specs.declared.rows.CaseRow.{CaseRow}
use Rattle.rv_decode.specs.Table.{row_of, text_of, is_base}
use Rattle.rv_decode.specs.Encodable.{HasRegisters, HasImmediate, IsEncodable}
use Rattle.rv_decode.specs.Meaning.{Means, meaning}
use Rattle.rv_decode.specs.MeaningLaws.{means-meaning}
use Rattle.rv_decode.specs.TableLaws.{each_name}
use Rattle.rv_decode.proofs.Decoded.{means_encodable}
use Rattle.report_text.specs.Instructions.{register_text, two_registers_text, offset_text, one_register_text, opcode, operands_by, instruction_text}
use Rattle.asm_lines.specs.Words.{words, is_word, ends_word}
use Rattle.asm_lines.specs.Kinds.{and_then, is_text, register_word, immediate_word, offset_word, target_word, name_word}
use Rattle.asm_lines.specs.Kinds.Target.{By}
use Rattle.asm_lines.specs.Items.{Item, at_end, pair, triple, instr, going, item_by, item_of_row, raw_item, item_in}
use Rattle.asm_lines.specs.Items.Item.{Plain, Raw}
use Rattle.asm_lines.specs.Lines.{front, front_of, is_colon, item_behind, item_on}
use Rattle.asm_lines.proofs.Spelling.{word_first, no_words, words_two, words_three}
use Rattle.asm_lines.proofs.Decimals.{register_is_word, signed_is_word}
use Rattle.asm_lines.proofs.Operands.{three_registers, immediate_read, target_read, three_read, two_read, one_read, address_read, offset_at, offset_grouped, offset_is_word, signed_fits, placed_fit, upper_whole, upper_fits, even_fits, below_fits}

-- The text of an instruction is read as that instruction.

instr_is : (i : Instr) (rd rs1 rs2 : ℕ) (imm : ℤ) → rd ≡ i.rd → rs1 ≡ i.rs1 → rs2 ≡ i.rs2 → imm ≡ i.imm → Some (Plain (instr i.name rd rs1 rs2 imm)) ≡ Some (Plain i)
instr_is i rd rs1 rs2 imm a b c d = λ k. Some (Plain (record { name = i.name; rd = a k; rs1 = b k; rs2 = c k; imm = d k }))

-- the rows of the format I, by the two tests
i_way : (t u : Bool) (loads alone others : List (List ℕ) → Option Item) (x y : List ℕ) (r : Option Item) → u ≡ false → loads (words x) ≡ r → others (words y) ≡ r
    → cond t (loads (words (cond t x (cond u [] y)))) (cond u (alone (words (cond t x (cond u [] y)))) (others (words (cond t x (cond u [] y))))) ≡ r
i_way true u loads alone others x y r no_fence at_x at_y = at_x
i_way false true loads alone others x y r no_fence at_x at_y = cc
i_way false false loads alone others x y r no_fence at_x at_y = at_y

pub read_by : (f : Format) (row : CaseRow) (i : Instr) → HasRegisters f i → HasImmediate f i.imm → (opcode row == 0x0F) ≡ false
    → item_by f i.name row (words (operands_by f row i)) ≡ Some (Plain i)
read_by format.R row i regs imm no_fence =
    ap (option_map (λ p. Plain (instr i.name p.0 p.1 p.2 (pos 0)))) (three_read i.rd i.rs1 i.rs2 regs.0 regs.1 regs.2)
    ∙ instr_is i i.rd i.rs1 i.rs2 (pos 0) refl refl refl (sym imm)
read_by format.I row i regs imm no_fence =
    let fit = placed_fit format.I i.imm (signed_fits 11 i.imm imm) in
    i_way (opcode row == 0x03 || opcode row == 0x67) (opcode row == 0x0F)
    (λ ws. option_map (λ p. Plain (instr i.name p.0 p.1.1 0 p.1.0)) (pair register_word (offset_word format.I) ws))
    (at_end (Raw 0x0FF0000F))
    (λ ws. option_map (λ p. Plain (instr i.name p.0 p.1 0 p.2)) (triple register_word register_word (immediate_word format.I) ws))
    (offset_text i.rd i.imm i.rs1) (two_registers_text i.rd i.rs1 i.imm) (Some (Plain i)) no_fence
    (ap (option_map (λ p. Plain (instr i.name p.0 p.1.1 0 p.1.0))) (address_read format.I i.rd i.rs1 i.imm i.imm regs.0 regs.1 fit)
    ∙ instr_is i i.rd i.rs1 0 i.imm refl refl (sym regs.2) refl)
    (ap (option_map (λ p. Plain (instr i.name p.0 p.1 0 p.2))) (two_read (immediate_word format.I) i.rd i.rs1 i.imm i.imm regs.0 regs.1 (immediate_read format.I i.imm i.imm fit))
    ∙ instr_is i i.rd i.rs1 0 i.imm refl refl (sym regs.2) refl)
read_by format.S row i regs imm no_fence =
    let fit = placed_fit format.S i.imm (signed_fits 11 i.imm imm) in
    ap (option_map (λ p. Plain (instr i.name 0 p.1.1 p.0 p.1.0))) (address_read format.S i.rs2 i.rs1 i.imm i.imm regs.2 regs.1 fit)
    ∙ instr_is i 0 i.rs1 i.rs2 i.imm (sym regs.0) refl refl refl
read_by format.B row i regs imm no_fence =
    let fit = placed_fit format.B i.imm (even_fits 12 i.imm imm.0 imm.1) in
    ap (option_map (λ p. going (instr i.name 0 p.0 p.1) p.2)) (two_read (target_word format.B) i.rs1 i.rs2 i.imm (By i.imm) regs.1 regs.2 (target_read format.B i.imm i.imm fit))
    ∙ instr_is i 0 i.rs1 i.rs2 i.imm (sym regs.0) refl refl refl
read_by format.U row i regs imm no_fence =
    let fit = placed_fit format.U (int_div i.imm (pos (2 ^ 12))) (upper_fits i.imm imm.0) ∙ ap Some (upper_whole i.imm imm.1) in
    ap (option_map (λ p. Plain (instr i.name p.0 0 0 p.1))) (one_read (immediate_word format.U) i.rd (int_div i.imm (pos (2 ^ 12))) i.imm regs.0 (immediate_read format.U (int_div i.imm (pos (2 ^ 12))) i.imm fit))
    ∙ instr_is i i.rd 0 0 i.imm refl (sym regs.1) (sym regs.2) refl
read_by format.J row i regs imm no_fence =
    let fit = placed_fit format.J i.imm (even_fits 20 i.imm imm.0 imm.1) in
    ap (option_map (λ p. going (instr i.name p.0 0 0) p.1)) (one_read (target_word format.J) i.rd i.imm (By i.imm) regs.0 (target_read format.J i.imm i.imm fit))
    ∙ instr_is i i.rd 0 0 i.imm refl (sym regs.1) (sym regs.2) refl
read_by format.H6 row i regs imm no_fence =
    let fit = placed_fit format.H6 i.imm (below_fits 64 i.imm imm.0 imm.1) in
    ap (option_map (λ p. Plain (instr i.name p.0 p.1 0 p.2))) (two_read (immediate_word format.H6) i.rd i.rs1 i.imm i.imm regs.0 regs.1 (immediate_read format.H6 i.imm i.imm fit))
    ∙ instr_is i i.rd i.rs1 0 i.imm refl refl (sym regs.2) refl
read_by format.H5 row i regs imm no_fence =
    let fit = placed_fit format.H5 i.imm (below_fits 32 i.imm imm.0 imm.1) in
    ap (option_map (λ p. Plain (instr i.name p.0 p.1 0 p.2))) (two_read (immediate_word format.H5) i.rd i.rs1 i.imm i.imm regs.0 regs.1 (immediate_read format.H5 i.imm i.imm fit))
    ∙ instr_is i i.rd i.rs1 0 i.imm refl refl (sym regs.2) refl
read_by format.N row i regs imm no_fence =
    ap (at_end (Plain (instr i.name 0 0 0 (pos 0)))) no_words ∙ instr_is i 0 0 0 (pos 0) (sym regs.0) (sym regs.1) (sym regs.2) (sym imm)

-- What stands behind a name begins no label, and ends the name.
abbrev pub BeginsItem : List (List ℕ) → Type 0
BeginsItem [] = Unit {0}
BeginsItem (w ∷ ws) = is_colon w ≡ false

record StandsBehind (text : List ℕ) : Type 0 where
  pub ends : ends_word text ≡ true
  pub begins : BeginsItem (words text)

three_behind : (a b c : ℕ) → StandsBehind (three_registers a b c)
three_behind a b c = record {
  ends = refl;
  begins = subst BeginsItem (sym (words_three (register_text a) (register_text b) (register_text c) (register_is_word a) (register_is_word b) (register_is_word c))) refl;
}

two_behind : (a b : ℕ) (z : ℤ) → StandsBehind (two_registers_text a b z)
two_behind a b z = record {
  ends = refl;
  begins = subst BeginsItem (sym (words_three (register_text a) (register_text b) _ (register_is_word a) (register_is_word b) (signed_is_word z))) refl;
}

one_behind : (a : ℕ) (z : ℤ) → StandsBehind (one_register_text a z)
one_behind a z = record {
  ends = refl;
  begins = subst BeginsItem (sym (words_two (register_text a) _ (register_is_word a) (signed_is_word z))) refl;
}

offset_behind : (a b : ℕ) (z : ℤ) → StandsBehind (offset_text a z b)
offset_behind a b z = record {
  ends = refl;
  begins = subst BeginsItem (sym (ap words (offset_grouped a b z) ∙ words_two (register_text a) (offset_at z b) (register_is_word a) (offset_is_word z b))) refl;
}

none_behind : StandsBehind []
none_behind = record { ends = refl; begins = subst BeginsItem (sym no_words) tt }

i_behind : (t u : Bool) (x y : List ℕ) → StandsBehind x → StandsBehind y → StandsBehind (cond t x (cond u [] y))
i_behind true u x y at_x at_y = at_x
i_behind false true x y at_x at_y = none_behind
i_behind false false x y at_x at_y = at_y

behind_by : (f : Format) (row : CaseRow) (i : Instr) → StandsBehind (operands_by f row i)
behind_by format.R row i = three_behind i.rd i.rs1 i.rs2
behind_by format.I row i =
    i_behind (opcode row == 0x03 || opcode row == 0x67) (opcode row == 0x0F) (offset_text i.rd i.imm i.rs1) (two_registers_text i.rd i.rs1 i.imm)
    (offset_behind i.rd i.rs1 i.imm) (two_behind i.rd i.rs1 i.imm)
behind_by format.S row i = offset_behind i.rs2 i.rs1 i.imm
behind_by format.B row i = two_behind i.rs1 i.rs2 i.imm
behind_by format.U row i = one_behind i.rd (int_div i.imm (pos (2 ^ 12)))
behind_by format.J row i = one_behind i.rd i.imm
behind_by format.H6 row i = two_behind i.rd i.rs1 i.imm
behind_by format.H5 row i = two_behind i.rd i.rs1 i.imm
behind_by format.N row i = none_behind

-- The names.
is_fence : Name → Bool
is_fence name.Fence = true
is_fence _ = false

fence_only : (n : Name) → is_fence n ≡ true → n ≡ name.Fence
unfolding is_fence
fence_only name.Fence h = refl
fence_only _ h = cc

-- of each name: it is a word, it isn't `.word`, and only the fence has that opcode
abbrev is_plain_name : Name → Bool
is_plain_name n = is_word (text_of n) && (not (is_text (text_of n) (codes ".word")) && (is_fence n || not (opcode (row_of n) == 0x0F)))

-- a name of RV64I is read where it is printed
name_read : (n : Name) → IsTrue (is_base n) → name_word (text_of n) ≡ Some n
unfolding name_word
name_read name.Lui h = refl
name_read name.Auipc h = refl
name_read name.Jal h = refl
name_read name.Jalr h = refl
name_read name.Beq h = refl
name_read name.Bne h = refl
name_read name.Blt h = refl
name_read name.Bge h = refl
name_read name.Bltu h = refl
name_read name.Bgeu h = refl
name_read name.Lb h = refl
name_read name.Lh h = refl
name_read name.Lw h = refl
name_read name.Ld h = refl
name_read name.Lbu h = refl
name_read name.Lhu h = refl
name_read name.Lwu h = refl
name_read name.Sb h = refl
name_read name.Sh h = refl
name_read name.Sw h = refl
name_read name.Sd h = refl
name_read name.Addi h = refl
name_read name.Slti h = refl
name_read name.Sltiu h = refl
name_read name.Xori h = refl
name_read name.Ori h = refl
name_read name.Andi h = refl
name_read name.Slli h = refl
name_read name.Srli h = refl
name_read name.Srai h = refl
name_read name.Add h = refl
name_read name.Sub h = refl
name_read name.Sll h = refl
name_read name.Slt h = refl
name_read name.Sltu h = refl
name_read name.Xor h = refl
name_read name.Srl h = refl
name_read name.Sra h = refl
name_read name.Or h = refl
name_read name.And h = refl
name_read name.Addiw h = refl
name_read name.Slliw h = refl
name_read name.Srliw h = refl
name_read name.Sraiw h = refl
name_read name.Addw h = refl
name_read name.Subw h = refl
name_read name.Sllw h = refl
name_read name.Srlw h = refl
name_read name.Sraw h = refl
name_read name.Fence h = refl
name_read name.Ecall h = refl
name_read name.Ebreak h = refl
name_read _ h = cc

plain_name : (n : Name) → is_plain_name n ≡ true
unfolding is_fence
plain_name n = each_name is_plain_name refl n

no_fence : (n : Name) → n ≢ name.Fence → (opcode (row_of n) == 0x0F) ≡ false
no_fence n other =
    let test = (and_parts _ _ (and_parts (is_word (text_of n)) _ (plain_name n)).1).1 in
    elim (or_cases (is_fence n) (not (opcode (row_of n) == 0x0F)) test) [
      | inl fence ↦ absurd (other (fence_only n fence))
      | inr passes ↦ not-true _ passes
    ]

-- an item behind its name
item_read : (n : Name) (ws : List (List ℕ)) → IsTrue (is_base n) → item_in (text_of n) ws ≡ item_of_row n ws
item_read n ws listed =
    let word = not-true _ (and_parts _ _ (and_parts (is_word (text_of n)) _ (plain_name n)).1).0 in
    ap (λ (t : Bool). cond t (raw_item ws) (and_then (name_word (text_of n)) (λ name. item_of_row name ws))) word
    ∙ ap (λ o. and_then o (λ name. item_of_row name ws)) (name_read n listed)

item_alone : (w : List ℕ) (ws : List (List ℕ)) (item : Item) → BeginsItem ws → item_in w ws ≡ Some item → item_on (w ∷ ws) ≡ Some (Some item)
unfolding item_on front_of
item_alone w [] item begins is = ap (option_map Some) is
item_alone w (c ∷ ws) item begins is =
    ap (λ (t : Bool). item_behind (cond t (front (Some w) ws) (front None (w ∷ c ∷ ws)))) begins ∙ ap (option_map Some) is

front_alone : (w : List ℕ) (ws : List (List ℕ)) → BeginsItem ws → (front_of (w ∷ ws)).label ≡ None
unfolding front_of
front_alone w [] begins = refl
front_alone w (c ∷ ws) begins = ap (λ (t : Bool). (cond t (front (Some w) ws) (front None (w ∷ c ∷ ws))).label) begins

-- an instruction as it is printed
abbrev pub printed : Instr → List ℕ
printed i = text_of i.name ++ operands_by (row_of i.name).format (row_of i.name) i

-- what a word means, as it is printed
abbrev pub meaning_printed : Option Instr → List ℕ
meaning_printed o = option_map_or printed o (codes "illegal")

-- the text of an instruction has no label
pub text_unlabelled : (i : Instr) → (front_of (words (printed i))).label ≡ None
text_unlabelled i =
    let row = row_of i.name in
    let behind = behind_by row.format row i in
    let operands = operands_by row.format row i in
    let named = (and_parts (is_word (text_of i.name)) _ (plain_name i.name)).0 in
    ap (λ ws. (front_of ws).label) (word_first (text_of i.name) operands named behind.ends) ∙ front_alone (text_of i.name) (words operands) behind.begins

text_read : (i : Instr) → IsEncodable i → i.name ≢ name.Fence → item_on (words (printed i)) ≡ Some (Some (Plain i))
text_read i ok other =
    let row = row_of i.name in
    let behind = behind_by row.format row i in
    let operands = operands_by row.format row i in
    let named = (and_parts (is_word (text_of i.name)) _ (plain_name i.name)).0 in
    ap item_on (word_first (text_of i.name) operands named behind.ends)
    ∙ item_alone (text_of i.name) (words operands) (Plain i) behind.begins
    (item_read i.name (words operands) ok.listed ∙ read_by row.format row i ok.registers ok.immediate (no_fence i.name other))

-- For every word that fits a row other than the fence's, its text is read as what it means.
pub word_read : (word : ℕ) (i : Instr) → meaning word ≡ Some i → i.name ≢ name.Fence → item_on (words (instruction_text is_base word)) ≡ Some (Some (Plain i))
unfolding instruction_text
word_read word i is other =
    let means : Means is_base word (Some i) = subst (Means is_base word) is (means-meaning is_base word) in
    ap (λ o. item_on (words (meaning_printed o))) is ∙ text_read i (means_encodable is_base word (Some i) means) other
