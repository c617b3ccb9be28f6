use Rattle.std.specs.Prelude.{◌≡◌, ℕ, ◌==◌, ◌&&◌, ◌||◌, Bool, true, false, List, [], ◌∷◌, ◌++◌, flat_map, length, codes, refl, if◌then◌else◌}
use Rattle.std.proofs.Common.{sym, ap, ◌∙◌}
use Rattle.ovl_io.specs.declared.process_state.ProcessState.{ProcessState}
use Rattle.ovl_io.specs.declared.turn.Turn.{Turn}
use Rattle.ovl_io.specs.declared.turn.Turn.TheVariants as turn
use Rattle.report_text.specs.declared.answer.Answer.{Answer}
use Rattle.report_text.specs.declared.answer.Answer.TheVariants as answer
use Rattle.report_text.specs.declared.answer.Stop.{Stop}
use Rattle.report_text.specs.declared.answer.Stop.TheVariants as stop
use Rattle.rv_decode.specs.declared.names.Name.{Name}
use Rattle.rv_decode.specs.Table.{is_base}
use Rattle.hex.specs.Hex.{encode_lower}
use Rattle.image_lines.specs.Lines.{image_line, lines_of, pieces_of, printed}
use Rattle.report_text.specs.Digits.{in_decimal, address_text, hex_places, word_text}
use Rattle.report_text.specs.Names.{kind_text, code_text, stop_word}
use Rattle.report_text.specs.Texts.{byte_text, state_text, pages_text}
use Rattle.report_text.specs.Instructions.{instruction_text}
use Rattle.report_text.specs.Lines.{ran_line, list_line, process_line, checkpoint_line, stats_line, exported_line, exported_text, regs_line, register_line, dump_line, disasm_line, disasm_line_by}
use Rattle.report_text.specs.Answers.{answer_text, turn_text, stop_text}

-- Whether a line of a report begins with the word `full`, as those do that say that there weren't units enough.

-- whether a text begins with a word
pub begins_with : List ℕ → List ℕ → Bool
begins_with [] text = true
begins_with (a ∷ word) [] = false
begins_with (a ∷ word) (b ∷ text) = (a == b) && begins_with word text

-- whether such a line begins in a text, of which the first byte begins a line or doesn't
pub full_from : Bool → List ℕ → Bool
full_from begins [] = false
full_from begins (b ∷ text) = (begins && begins_with (codes "full ") (b ∷ text)) || full_from (b == 10) text

abbrev pub has_full_line : List ℕ → Bool
has_full_line text = full_from true text

-- Texts in which lines end.

-- whether the next byte begins a line, behind a text of which the first byte begins one or doesn't
pub ends : Bool → List ℕ → Bool
ends begins [] = begins
ends begins (b ∷ text) = ends (b == 10) text

-- whole lines, or none
abbrev pub AreWholeLines : List ℕ → Type 0
AreWholeLines text = ends true text ≡ true

-- a text that ends a line
abbrev pub EndsLine : List ℕ → Type 0
EndsLine text = (begins : Bool) → ends begins text ≡ true

second_false : (x y : Bool) → (x || y) ≡ false → y ≡ false
second_false true y h = cc
second_false false y h = h

-- where no such line begins in a text, none begins in what is behind a part of it
pub full_behind : (front text : List ℕ) (begins : Bool) → full_from begins (front ++ text) ≡ false → full_from (ends begins front) text ≡ false
unfolding full_from ends
full_behind [] text begins none = none
full_behind (b ∷ front) text begins none = full_behind front text (b == 10) (second_false _ _ none)

pub behind_lines : (front text : List ℕ) → AreWholeLines front → has_full_line (front ++ text) ≡ false → has_full_line text ≡ false
behind_lines front text lines none = ap (λ b. full_from b text) (sym lines) ∙ full_behind front text true none

ends_both : (front text : List ℕ) (begins : Bool) → ends begins (front ++ text) ≡ ends (ends begins front) text
unfolding ends
ends_both [] text begins = refl
ends_both (b ∷ front) text begins = ends_both front text (b == 10)

pub lines_both : (front text : List ℕ) → AreWholeLines front → AreWholeLines text → AreWholeLines (front ++ text)
lines_both front text h k = ends_both front text true ∙ ap (λ b. ends b text) h ∙ k

pub no_lines : AreWholeLines []
unfolding ends
no_lines = refl

behind : (front text : List ℕ) → EndsLine text → EndsLine (front ++ text)
behind front text h begins = ends_both front text begins ∙ h (ends begins front)

line_end : EndsLine (codes "\n")
unfolding ends
line_end begins = refl

-- The lines of the report that aren't those of answers and turns, one by one.

line : (word : List ℕ) → EndsLine (word ++ codes "\n")
line word = behind word (codes "\n") line_end

ends_ran : (taken : ℕ) (why : Stop) → EndsLine (ran_line taken why)
ends_ran taken why = line (codes "ran " ++ in_decimal taken ++ codes " " ++ stop_word why)

pub ends_list : (processes checkpoints : ℕ) → EndsLine (list_line processes checkpoints)
ends_list processes checkpoints = line (codes "list " ++ in_decimal processes ++ codes " " ++ in_decimal checkpoints)

pub ends_process : (p : ℕ) (state : ProcessState) (speculating : Bool) (pages : ℕ) → EndsLine (process_line p state speculating pages)
ends_process p state speculating pages =
    line (codes "process " ++ in_decimal p ++ codes " " ++ state_text state speculating ++ pages_text pages)

pub ends_checkpoint : (name : List ℕ) (space pages : ℕ) → EndsLine (checkpoint_line name space pages)
ends_checkpoint name space pages = line (codes "checkpoint " ++ name ++ codes " " ++ in_decimal space ++ pages_text pages)

pub ends_stats : (units limit lines hits misses : ℕ) → EndsLine (stats_line units limit lines hits misses)
ends_stats units limit lines hits misses =
    line (codes "units " ++ in_decimal units ++ codes " of " ++ in_decimal limit ++ codes " lines " ++ in_decimal lines ++ codes " hits " ++ in_decimal hits
    ++ codes " misses " ++ in_decimal misses)

pub ends_exported : (name base : List ℕ) (bytes : ℕ) → EndsLine (exported_line name base bytes)
ends_exported name base bytes = line (codes "exported " ++ name ++ codes " " ++ base ++ codes " " ++ in_decimal bytes)

pub ends_image : (bytes : List ℕ) → EndsLine (image_line bytes)
unfolding image_line
ends_image bytes = line (codes "image " ++ encode_lower bytes)

pub ends_regs : (p : ℕ) (state : ProcessState) (speculating : Bool) → EndsLine (regs_line p state speculating)
ends_regs p state speculating = line (codes "regs " ++ in_decimal p ++ codes " " ++ state_text state speculating)

pub ends_register : (i value : ℕ) → EndsLine (register_line i value)
ends_register i value = line ((if i == 0 then codes "pc" else codes "x" ++ in_decimal i) ++ codes " " ++ word_text value)

pub ends_dump : (at : ℕ) (bytes : List ℕ) → EndsLine (dump_line at bytes)
ends_dump at bytes = line (word_text at ++ flat_map (λ b. codes " " ++ hex_places 2 b) bytes)

pub ends_disasm_by : (has : Name → Bool) (at word : ℕ) → EndsLine (disasm_line_by has at word)
ends_disasm_by has at word = line (word_text at ++ codes " " ++ hex_places 8 word ++ codes " " ++ instruction_text has word)

pub ends_disasm : (at word : ℕ) → EndsLine (disasm_line at word)
ends_disasm = ends_disasm_by is_base

-- What an export prints are whole lines.

image_lines : (pieces : List (List ℕ)) → AreWholeLines (lines_of pieces)
image_lines [] = no_lines
image_lines (piece ∷ pieces) = lines_both (image_line piece) (lines_of pieces) (ends_image piece true) (image_lines pieces)

pub exported_lines : (name base image : List ℕ) → AreWholeLines (exported_text name base image)
exported_lines name base image =
    lines_both (exported_line name base (length image)) (printed image) (ends_exported name base (length image) true) (image_lines (pieces_of image))

-- Texts of answers, turns and endings are whole lines, or none.

pub answer_lines : (result : Answer) → AreWholeLines (answer_text result)
answer_lines answer.Done = line (codes "ok") true
answer_lines (answer.Loaded p pages entry) = line (codes "loaded " ++ in_decimal p ++ pages_text pages ++ codes " entry " ++ address_text entry) true
answer_lines (answer.Forked p new) = line (codes "forked " ++ in_decimal p ++ codes " " ++ in_decimal new) true
answer_lines (answer.Saved p name space) = line (codes "saved " ++ in_decimal p ++ codes " " ++ name ++ codes " " ++ in_decimal space) true
answer_lines (answer.Imported name space pages) = line (codes "imported " ++ name ++ codes " " ++ in_decimal space ++ pages_text pages) true
answer_lines (answer.Shared pages) = line (codes "shared " ++ in_decimal pages) true
answer_lines (answer.Refused code) = line (codes "refused " ++ code_text code) true
answer_lines (answer.Full units limit) = line (codes "full " ++ in_decimal units ++ codes " " ++ in_decimal limit) true
answer_lines answer.Memory = no_lines

pub turn_lines : (p : ℕ) (came : Turn) → AreWholeLines (turn_text p came)
turn_lines p turn.Stepped = no_lines
turn_lines p (turn.Wrote written) = line ((if written.0 == 1 then codes "out " else codes "err ") ++ in_decimal p ++ codes " " ++ flat_map byte_text written.1) true
turn_lines p (turn.Exited exit) = line (codes "exited " ++ in_decimal p ++ codes " " ++ in_decimal exit) true
turn_lines p (turn.Faulted kind at) = line (codes "faulted " ++ in_decimal p ++ codes " " ++ kind_text kind ++ codes " " ++ address_text at) true
turn_lines p (turn.Full units limit) = line (codes "full " ++ in_decimal p ++ codes " " ++ in_decimal units ++ codes " " ++ in_decimal limit) true

pub stop_lines : (taken : ℕ) (why : Stop) → AreWholeLines (stop_text taken why)
stop_lines taken stop.Limit = ends_ran taken stop.Limit true
stop_lines taken stop.Idle = ends_ran taken stop.Idle true
stop_lines taken stop.Ended = ends_ran taken stop.Ended true
stop_lines taken (stop.Break p at) = behind (codes "break " ++ in_decimal p ++ codes " " ++ address_text at ++ codes "\n") (ran_line taken (stop.Break p at)) (ends_ran taken (stop.Break p at)) true
stop_lines taken stop.Full = ends_ran taken stop.Full true

-- What the lines of `full` show.

pub answer_shows : (units limit : ℕ) (text : List ℕ) → has_full_line (answer_text (answer.Full units limit) ++ text) ≡ true
unfolding full_from begins_with
answer_shows units limit text = refl

pub turn_shows : (p units limit : ℕ) (text : List ℕ) → has_full_line (turn_text p (turn.Full units limit) ++ text) ≡ true
unfolding full_from begins_with
turn_shows p units limit text = refl
