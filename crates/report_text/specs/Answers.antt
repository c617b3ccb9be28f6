use Rattle.std.specs.Prelude.{ℕ, ◌≤◌, ◌==◌, ◌||◌, Bool, true, false, List, [], ◌++◌, flat_map, codes, length, IsTrue, if◌then◌else◌}
use Rattle.ovl_io.specs.declared.turn.Turn.{Turn}
use Rattle.ovl_io.specs.declared.turn.Turn.TheVariants as turn
use Rattle.elf_loader.specs.declared.image.ElfError.{ElfError}
use Rattle.elf_loader.specs.declared.image.ElfError.TheVariants as elf
use Rattle.report_text.specs.declared.TheConstants.{MOST_NAME}
use Rattle.report_text.specs.declared.answer.Code.{Code}
use Rattle.report_text.specs.declared.answer.Code.TheVariants as code
use Rattle.report_text.specs.declared.answer.Answer.{Answer}
use Rattle.report_text.specs.declared.answer.Answer.TheVariants as answer
use Rattle.report_text.specs.declared.answer.Stop.{Stop}
use Rattle.report_text.specs.declared.answer.Stop.TheVariants as stop
use Rattle.report_text.specs.Digits.{in_decimal, address_text}
use Rattle.report_text.specs.Names.{kind_text, code_text}
use Rattle.report_text.specs.Texts.{byte_text, pages_text}
use Rattle.report_text.specs.Lines.{ran_line}

-- The texts of answers, turns and endings. Each line ends with the byte 0A; its words are divided by one blank.

-- a checkpoint's name: 1 to 32 bytes
abbrev pub IsCheckpointName : List ℕ → Type 0
IsCheckpointName name = (1 ≤ length name) × (length name ≤ MOST_NAME)

-- The line of an answer: of `full` with the units that the command would come to, and the limit.
abbrev pub answer_text : Answer → List ℕ
answer_text answer.Done = codes "ok\n"
answer_text (answer.Loaded p pages entry) =
    codes "loaded " ++ in_decimal p ++ pages_text pages ++ codes " entry " ++ address_text entry ++ codes "\n"
answer_text (answer.Forked p new) = codes "forked " ++ in_decimal p ++ codes " " ++ in_decimal new ++ codes "\n"
answer_text (answer.Saved p name space) =
    codes "saved " ++ in_decimal p ++ codes " " ++ name ++ codes " " ++ in_decimal space ++ codes "\n"
answer_text (answer.Imported name space pages) = codes "imported " ++ name ++ codes " " ++ in_decimal space ++ pages_text pages ++ codes "\n"
answer_text (answer.Shared pages) = codes "shared " ++ in_decimal pages ++ codes "\n"
answer_text (answer.Refused code) = codes "refused " ++ code_text code ++ codes "\n"
answer_text (answer.Full units limit) = codes "full " ++ in_decimal units ++ codes " " ++ in_decimal limit ++ codes "\n"
answer_text answer.Memory = []

-- Want of memory has no line.
abbrev pub HasElfLine : ElfError → Type 0
HasElfLine elf.TooShort = Unit {0}
HasElfLine elf.BadMagic = Unit {0}
HasElfLine elf.NotClass64 = Unit {0}
HasElfLine elf.NotLittle = Unit {0}
HasElfLine elf.BadVersion = Unit {0}
HasElfLine elf.NotExec = Unit {0}
HasElfLine elf.NotRiscv = Unit {0}
HasElfLine elf.BadEntrySize = Unit {0}
HasElfLine elf.TableOutside = Unit {0}
HasElfLine elf.NeedsInterpreter = Unit {0}
HasElfLine elf.FileLarger = Unit {0}
HasElfLine elf.SegmentOutside = Unit {0}
HasElfLine elf.AddressOutside = Unit {0}
HasElfLine elf.NothingToLoad = Unit {0}
HasElfLine elf.TooManyPages = Unit {0}
HasElfLine elf.Memory = ⊥

abbrev pub HasCodeLine : Code → Type 0
HasCodeLine (code.Elf error) = HasElfLine error
HasCodeLine other = Unit {0}

abbrev pub HasAnswerLine : Answer → Type 0
HasAnswerLine answer.Done = Unit {0}
HasAnswerLine (answer.Loaded p pages entry) = Unit {0}
HasAnswerLine (answer.Forked p new) = Unit {0}
HasAnswerLine (answer.Saved p name space) = IsCheckpointName name
HasAnswerLine (answer.Imported name space pages) = IsCheckpointName name
HasAnswerLine (answer.Shared pages) = Unit {0}
HasAnswerLine (answer.Refused code) = HasCodeLine code
HasAnswerLine (answer.Full units limit) = Unit {0}
HasAnswerLine answer.Memory = ⊥

-- A step has no line; every other turn has one. What is written to port 1 goes out, what is written to port 2 is
-- an error.
abbrev pub turn_text : ℕ → Turn → List ℕ
turn_text p turn.Stepped = []
turn_text p (turn.Wrote written) =
    (if written.0 == 1 then codes "out " else codes "err ") ++ in_decimal p ++ codes " "
    ++ flat_map byte_text written.1 ++ codes "\n"
turn_text p (turn.Exited exit) = codes "exited " ++ in_decimal p ++ codes " " ++ in_decimal exit ++ codes "\n"
turn_text p (turn.Faulted kind at) =
    codes "faulted " ++ in_decimal p ++ codes " " ++ kind_text kind ++ codes " " ++ address_text at ++ codes "\n"
turn_text p (turn.Full units limit) =
    codes "full " ++ in_decimal p ++ codes " " ++ in_decimal units ++ codes " " ++ in_decimal limit ++ codes "\n"

abbrev pub has_turn_line : Turn → Bool
has_turn_line turn.Stepped = false
has_turn_line (turn.Wrote written) = true
has_turn_line (turn.Exited exit) = true
has_turn_line (turn.Faulted kind at) = true
has_turn_line (turn.Full units limit) = true

-- the port of what was written is 1 or 2
abbrev pub HasPort : Turn → Type 0
HasPort turn.Stepped = Unit {0}
HasPort (turn.Wrote written) = IsTrue (written.0 == 1 || written.0 == 2)
HasPort (turn.Exited exit) = Unit {0}
HasPort (turn.Faulted kind at) = Unit {0}
HasPort (turn.Full units limit) = Unit {0}

-- At a breakpoint there is a line for it before the last one.
abbrev pub stop_text : ℕ → Stop → List ℕ
stop_text taken stop.Limit = ran_line taken stop.Limit
stop_text taken stop.Idle = ran_line taken stop.Idle
stop_text taken stop.Ended = ran_line taken stop.Ended
stop_text taken (stop.Break p at) =
    codes "break " ++ in_decimal p ++ codes " " ++ address_text at ++ codes "\n" ++ ran_line taken (stop.Break p at)
stop_text taken stop.Full = ran_line taken stop.Full
