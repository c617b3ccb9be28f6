use Rattle.std.specs.Prelude.{◌≡◌, ◌≢◌, ℕ, Some}
use Rattle.rv_decode.specs.declared.instruction.Instr.{Instr}
use Rattle.rv_decode.specs.declared.names.Name.TheVariants as name
use Rattle.rv_decode.specs.Table.{is_base}
use Rattle.rv_decode.specs.Meaning.{meaning}
use Rattle.report_text.specs.Instructions.{instruction_text}
use Rattle.asm_lines.specs.Words.{words}
use Rattle.asm_lines.specs.Items.Item.{Plain}
use Rattle.asm_lines.specs.Lines.{item_on}

-- The text that is printed of a word that fits a row of RV64I other than the fence's is read as what the word means.
abbrev pub ReadsBack : Type 0
ReadsBack = (word : ℕ) (i : Instr) → meaning word ≡ Some i → i.name ≢ name.Fence
    → item_on (words (instruction_text is_base word)) ≡ Some (Some (Plain i))
