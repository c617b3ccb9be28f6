use Rattle.std.specs.Prelude.{ℕ, ◌==◌, Bool, List, ◌++◌, flat_map, length, codes, if◌then◌else◌}
use Rattle.ovl_io.specs.declared.process_state.ProcessState.{ProcessState}
use Rattle.report_text.specs.declared.answer.Stop.{Stop}
use Rattle.image_lines.specs.Lines.{printed}
use Rattle.rv_decode.specs.declared.names.Name.{Name}
use Rattle.rv_decode.specs.Table.{is_base}
use Rattle.report_text.specs.Digits.{in_decimal, hex_places, word_text}
use Rattle.report_text.specs.Names.{stop_word}
use Rattle.report_text.specs.Texts.{state_text, pages_text}
use Rattle.report_text.specs.Instructions.{instruction_text}

-- Lines of the report, beside those of answers and turns. Each ends with the byte 0A; its words are divided by
-- one blank.

-- the first line of a script that is outside, from 1
abbrev pub bad_line : ℕ → List ℕ
bad_line k = codes "bad line " ++ in_decimal k ++ codes "\n"

-- the end of turns: how many were counted, and why they ended
abbrev pub ran_line : ℕ → Stop → List ℕ
ran_line taken stop = codes "ran " ++ in_decimal taken ++ codes " " ++ stop_word stop ++ codes "\n"

-- the first line of a list: how many processes and checkpoints there are
abbrev pub list_line : ℕ → ℕ → List ℕ
list_line processes checkpoints = codes "list " ++ in_decimal processes ++ codes " " ++ in_decimal checkpoints ++ codes "\n"

-- a process in a list, and its pages
abbrev pub process_line : ℕ → ProcessState → Bool → ℕ → List ℕ
process_line p state speculating pages =
    codes "process " ++ in_decimal p ++ codes " " ++ state_text state speculating ++ pages_text pages ++ codes "\n"

-- a checkpoint in a list, its space and its pages
abbrev pub checkpoint_line : List ℕ → ℕ → ℕ → List ℕ
checkpoint_line name space pages = codes "checkpoint " ++ name ++ codes " " ++ in_decimal space ++ pages_text pages ++ codes "\n"

-- the units of all pages and how many there may be, their own lines, and the translations that were there and that weren't
abbrev pub stats_line : ℕ → ℕ → ℕ → ℕ → ℕ → List ℕ
stats_line units limit lines hits misses =
    codes "units " ++ in_decimal units ++ codes " of " ++ in_decimal limit ++ codes " lines " ++ in_decimal lines ++ codes " hits " ++ in_decimal hits
    ++ codes " misses " ++ in_decimal misses ++ codes "\n"

-- the first line of an image: whose it is, over which other checkpoint's, and how many bytes it has; and that with the lines of its bytes,
-- which image_lines defines and reads
abbrev pub exported_line : List ℕ → List ℕ → ℕ → List ℕ
exported_line name base bytes = codes "exported " ++ name ++ codes " " ++ base ++ codes " " ++ in_decimal bytes ++ codes "\n"

abbrev pub exported_text : List ℕ → List ℕ → List ℕ → List ℕ
exported_text name base image = exported_line name base (length image) ++ printed image

-- the first line of a process's registers: its state
abbrev pub regs_line : ℕ → ProcessState → Bool → List ℕ
regs_line p state speculating = codes "regs " ++ in_decimal p ++ codes " " ++ state_text state speculating ++ codes "\n"

-- a register, by its number; the pc stands in the place of x0
abbrev pub register_line : ℕ → ℕ → List ℕ
register_line i value =
    (if i == 0 then codes "pc" else codes "x" ++ in_decimal i) ++ codes " " ++ word_text value ++ codes "\n"

-- bytes of memory, for each a blank and its two hexadecimal digits, behind the address of the first
abbrev pub dump_line : ℕ → List ℕ → List ℕ
dump_line at bytes = word_text at ++ flat_map (λ b. codes " " ++ hex_places 2 b) bytes ++ codes "\n"

-- a word of memory as an instruction: its address, the word, and what it means
abbrev pub disasm_line_by : (Name → Bool) → ℕ → ℕ → List ℕ
disasm_line_by has at word = word_text at ++ codes " " ++ hex_places 8 word ++ codes " " ++ instruction_text has word ++ codes "\n"

-- by the table of RV64I
abbrev pub disasm_line : ℕ → ℕ → List ℕ
disasm_line at word = disasm_line_by is_base at word
