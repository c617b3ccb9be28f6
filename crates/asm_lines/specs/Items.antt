use Rattle.std.specs.Prelude.{ℕ, ◌==◌, ◌||◌, ℤ, pos, Bool, List, [], ◌∷◌, Option, Some, None, codes, if◌then◌else◌}
use Rattle.std.specs.Option.{option_map}
use Rattle.rv_decode.specs.declared.instruction.Instr.{Instr}
use Rattle.rv_decode.specs.declared.names.Format.{Format}
use Rattle.rv_decode.specs.declared.names.Format.TheVariants as format
use Rattle.rv_decode.specs.declared.names.Name.{Name}
use Rattle.rv_decode.specs.declared.rows.CaseRow.{CaseRow}
use Rattle.rv_decode.specs.Table.{row_of}
use Rattle.report_text.specs.Instructions.{opcode}
use Rattle.asm_lines.specs.Kinds.{and_then, Kind, Target, is_text, name_word, register_word, immediate_word, offset_word, target_word, raw_word}
use Rattle.asm_lines.specs.Kinds.Target.{By, To}

-- The items of a program, by their words.

-- Operands are words with commas between them.
abbrev pub is_comma : List ℕ → Bool
is_comma word = is_text word (codes ",")

abbrev pub behind_comma : List (List ℕ) → Option (List (List ℕ))
behind_comma [] = None
behind_comma (c ∷ ws) = if is_comma c then Some ws else None

abbrev pub one_word : List (List ℕ) → Option (List ℕ)
one_word [] = None
one_word (w ∷ []) = Some w
one_word (w ∷ v ∷ ws) = None

abbrev pub two_words : List (List ℕ) → Option (List ℕ × List ℕ)
two_words [] = None
two_words (w ∷ ws) = option_map (λ v. (w, v)) (and_then (behind_comma ws) one_word)

abbrev pub three_words : List (List ℕ) → Option (List ℕ × List ℕ × List ℕ)
three_words [] = None
three_words (w ∷ ws) = option_map (λ p. (w, p.0, p.1)) (and_then (behind_comma ws) two_words)

-- two and three operands of kinds
abbrev pub pair : {A B : Type 0} → Kind A → Kind B → List (List ℕ) → Option (A × B)
pair kind other ws =
    and_then (two_words ws) (λ w. and_then (kind w.0) (λ a. option_map (λ b. (a, b)) (other w.1)))

abbrev pub triple : {A B C : Type 0} → Kind A → Kind B → Kind C → List (List ℕ) → Option (A × B × C)
triple kind other third ws =
    and_then (three_words ws) (λ w. and_then (kind w.0) (λ a. and_then (other w.1) (λ b. option_map (λ c. (a, b, c)) (third w.2))))

-- nothing may stand behind the last word
abbrev pub at_end : {A : Type 0} → A → List (List ℕ) → Option A
at_end a [] = Some a
at_end a (w ∷ ws) = None

-- an item: an instruction; one whose immediate is how far a label is; a word as it stands
pub data Item : Type 0 where
  Plain : Instr → Item
  Reaching : Instr → List ℕ → Item
  Raw : ℕ → Item

abbrev pub instr : Name → ℕ → ℕ → ℕ → ℤ → Instr
instr name rd rs1 rs2 imm = record { name = name; rd = rd; rs1 = rs1; rs2 = rs2; imm = imm }

abbrev pub going : (ℤ → Instr) → Target → Item
going make (By n) = Plain (make n)
going make (To label) = Reaching (make (pos 0)) label

-- three registers
abbrev pub register_item : Name → List (List ℕ) → Option Item
register_item name ws =
    option_map (λ p. Plain (instr name p.0 p.1 p.2 (pos 0))) (triple register_word register_word register_word ws)

-- two registers and an immediate: arithmetic and shifts
abbrev pub immediate_item : Format → Name → List (List ℕ) → Option Item
immediate_item format name ws =
    option_map (λ p. Plain (instr name p.0 p.1 0 p.2)) (triple register_word register_word (immediate_word format) ws)

-- a register and an address: loads, and the jump to a register
abbrev pub load_item : Name → List (List ℕ) → Option Item
load_item name ws = option_map (λ p. Plain (instr name p.0 p.1.1 0 p.1.0)) (pair register_word (offset_word format.I) ws)

abbrev pub store_item : Name → List (List ℕ) → Option Item
store_item name ws = option_map (λ p. Plain (instr name 0 p.1.1 p.0 p.1.0)) (pair register_word (offset_word format.S) ws)

-- two registers and where a branch goes
abbrev pub branch_item : Name → List (List ℕ) → Option Item
branch_item name ws =
    option_map (λ p. going (instr name 0 p.0 p.1) p.2) (triple register_word register_word (target_word format.B) ws)

-- a register, and an immediate or where a jump goes
abbrev pub upper_item : Name → List (List ℕ) → Option Item
upper_item name ws = option_map (λ p. Plain (instr name p.0 0 0 p.1)) (pair register_word (immediate_word format.U) ws)

abbrev pub jump_item : Name → List (List ℕ) → Option Item
jump_item name ws = option_map (λ p. going (instr name p.0 0 0) p.1) (pair register_word (target_word format.J) ws)

-- the rows of the format I, by their opcode; `fence` has no operands and is the word that orders all accesses
abbrev pub i_item : Name → CaseRow → List (List ℕ) → Option Item
i_item name row ws =
    if opcode row == 0x03 || opcode row == 0x67 then load_item name ws
    else if opcode row == 0x0F then at_end (Raw 0x0FF0000F) ws
    else immediate_item format.I name ws

-- the operands of a row, by its format
abbrev pub item_by : Format → Name → CaseRow → List (List ℕ) → Option Item
item_by format.R name row ws = register_item name ws
item_by format.I name row ws = i_item name row ws
item_by format.S name row ws = store_item name ws
item_by format.B name row ws = branch_item name ws
item_by format.U name row ws = upper_item name ws
item_by format.J name row ws = jump_item name ws
item_by format.H6 name row ws = immediate_item format.H6 name ws
item_by format.H5 name row ws = immediate_item format.H5 name ws
item_by format.N name row ws = at_end (Plain (instr name 0 0 0 (pos 0))) ws

abbrev pub item_of_row : Name → List (List ℕ) → Option Item
item_of_row name ws = item_by (row_of name).format name (row_of name) ws

-- `.word` and a number of 32 bits
abbrev pub raw_item : List (List ℕ) → Option Item
raw_item ws = and_then (one_word ws) (λ w. option_map Raw (raw_word w))

-- the item that a word and the words behind it are
abbrev pub item_in : List ℕ → List (List ℕ) → Option Item
item_in w ws = if is_text w (codes ".word") then raw_item ws else and_then (name_word w) (λ name. item_of_row name ws)
