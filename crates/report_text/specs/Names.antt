use Rattle.std.specs.Prelude.{ℕ, List, [], ◌++◌, codes}
use Rattle.ovl_io.specs.declared.process_state.FaultKind.{FaultKind}
use Rattle.ovl_io.specs.declared.process_state.FaultKind.TheVariants as kind
use Rattle.elf_loader.specs.declared.image.ElfError.{ElfError}
use Rattle.elf_loader.specs.declared.image.ElfError.TheVariants as elf
use Rattle.report_text.specs.declared.answer.Code.{Code}
use Rattle.report_text.specs.declared.answer.Code.TheVariants as code
use Rattle.report_text.specs.declared.answer.Stop.{Stop}
use Rattle.report_text.specs.declared.answer.Stop.TheVariants as stop
use Rattle.report_text.specs.Digits.{address_text, in_decimal}

-- Printed names.

abbrev pub kind_text : FaultKind → List ℕ
kind_text kind.Align = codes "align"
kind_text kind.Fetch = codes "fetch"
kind_text kind.Illegal = codes "illegal"
kind_text kind.Load = codes "load"
kind_text kind.Store = codes "store"
kind_text kind.Break = codes "break"

-- the code and the name of a file's refusal; want of memory is none
abbrev pub elf_text : ElfError → List ℕ
elf_text elf.TooShort = codes "E1 too-short"
elf_text elf.BadMagic = codes "E2 bad-magic"
elf_text elf.NotClass64 = codes "E3 not-class-64"
elf_text elf.NotLittle = codes "E4 not-little"
elf_text elf.BadVersion = codes "E5 bad-version"
elf_text elf.NotExec = codes "E6 not-exec"
elf_text elf.NotRiscv = codes "E7 not-riscv"
elf_text elf.BadEntrySize = codes "E8 bad-entry-size"
elf_text elf.TableOutside = codes "E9 table-outside"
elf_text elf.NeedsInterpreter = codes "E10 needs-interpreter"
elf_text elf.FileLarger = codes "E11 file-larger"
elf_text elf.SegmentOutside = codes "E12 segment-outside"
elf_text elf.AddressOutside = codes "E13 address-outside"
elf_text elf.NothingToLoad = codes "E14 nothing-to-load"
elf_text elf.TooManyPages = codes "E15 too-many-pages"
elf_text elf.Memory = []

-- the code and the name of a refusal, and the address or the number of one that has it
abbrev pub code_text : Code → List ℕ
code_text code.NoProcess = codes "C1 no-process"
code_text code.Ended = codes "C2 ended"
code_text code.Speculating = codes "C3 speculating"
code_text code.NotSpeculating = codes "C4 not-speculating"
code_text code.NoCheckpoint = codes "C5 no-checkpoint"
code_text code.NameTaken = codes "C6 name-taken"
code_text (code.Unmapped at) = codes "C7 unmapped " ++ address_text at
code_text (code.Mapped at) = codes "C8 mapped " ++ address_text at
code_text code.NumbersUsed = codes "C9 numbers-used"
code_text code.Outside = codes "C10 outside"
code_text (code.Forbidden at) = codes "C11 forbidden " ++ address_text at
code_text code.NotAlone = codes "C12 not-alone"
code_text code.FrameHere = codes "C13 frame-here"
code_text (code.NotAlike n) = codes "C14 not-alike " ++ in_decimal n
code_text (code.TooLarge n) = codes "C15 too-large " ++ in_decimal n
code_text (code.Elf error) = elf_text error
code_text (code.ImageLine k) = codes "I1 bad-line " ++ in_decimal k
code_text code.BadImage = codes "I2 bad-image"
code_text (code.AsmLine k) = codes "A1 bad-line " ++ in_decimal k
code_text (code.AsmTwice k) = codes "A2 twice " ++ in_decimal k
code_text (code.AsmNoLabel k) = codes "A3 no-label " ++ in_decimal k
code_text (code.AsmOutOfReach k) = codes "A4 out-of-reach " ++ in_decimal k
code_text code.AsmEmpty = codes "A5 empty"
code_text code.AsmTooMany = codes "A6 too-many"

-- why turns ended
abbrev pub stop_word : Stop → List ℕ
stop_word stop.Limit = codes "limit"
stop_word stop.Idle = codes "idle"
stop_word stop.Ended = codes "ended"
stop_word (stop.Break p at) = codes "break"
stop_word stop.Full = codes "full"
