use Rattle.std.specs.Prelude.{ℕ, zero, suc, ◌*◌, not, cond, nat_eq, List, [], ◌∷◌, ◌++◌, map, take, drop, replicate}
use Rattle.std.specs.FinMap.{entries, from_entries, get}
use Rattle.std.specs.Option.{option_map_or}
use Rattle.std.specs.Str.{bytes_eq}
use Rattle.sizes.specs.declared.TheConstants.{LINE_BYTES, PAGE_BYTES, PAGE_LINES}
use Rattle.overlay_bits.specs.Lines.{lines_where}
use Rattle.ovl_io.specs.Memory.{Memory, Page}
use Rattle.ovl_io.specs.declared.process_state.ProcessState.{ProcessState}
use Rattle.rv_execute.specs.Registers.{Registers}
use Rattle.delta_image.specs.declared.delta.Delta.{Delta}
use Rattle.delta_image.specs.declared.delta.DeltaPage.{DeltaPage}
use Rattle.delta_image.specs.Line.{Line}

-- What a delta makes of a memory, and which delta leads from one memory to another one.

-- a line of a page's bytes, and the first so many lines of a page, one behind the other
abbrev pub line_in : List ℕ → ℕ → List ℕ
line_in bytes i = take LINE_BYTES (drop (LINE_BYTES * i) bytes)

unfoldable pub joined : (ℕ → List ℕ) → ℕ → List ℕ
joined line zero = []
joined line (suc i) = joined line i ++ line i

-- the bytes of a page; zero where it isn't there
unfoldable pub zero_page : List ℕ
zero_page = replicate PAGE_BYTES 0

abbrev pub base_bytes : Memory → ℕ → List ℕ
base_bytes base number = option_map_or (λ page. page.bytes) (get base number) zero_page

-- A line that is given has its bytes, and any other one those of the base.
abbrev pub given_or : List Line → List ℕ → ℕ → List ℕ
given_or [] bytes i = bytes
given_or (line ∷ lines) bytes i = cond (nat_eq line.0 i) line.1 (given_or lines bytes i)

abbrev pub applied_bytes : List Line → List ℕ → List ℕ
applied_bytes lines base = joined (λ i. given_or lines (line_in base i) i) PAGE_LINES

abbrev pub applied_page : Memory → DeltaPage → Page
applied_page base page = record { perms = page.perms.0; bytes = applied_bytes page.lines (base_bytes base page.page) }

-- The memory that a delta makes of a base has the delta's pages, with their permissions.
abbrev pub applied : Delta → Memory → Memory
applied delta base = from_entries (map (λ page. (page.page, applied_page base page)) delta.pages)

-- The lines in which a page differs from the base's.
abbrev pub different_lines : List ℕ → List ℕ → List ℕ
different_lines bytes base = lines_where (λ i. not (bytes_eq (line_in bytes i) (line_in base i)))

abbrev pub gathered_lines : List ℕ → List ℕ → List Line
gathered_lines bytes base = map (λ i. (i, line_in bytes i)) (different_lines bytes base)

abbrev pub gathered_page : Memory → ℕ → Page → DeltaPage
gathered_page base number page =
    record { page = number; perms = record { 0 = page.perms }; lines = gathered_lines page.bytes (base_bytes base number) }

-- The delta of a state, registers and a memory over a base.
abbrev pub gathered : ProcessState → Registers → Memory → Memory → Delta
gathered state regs memory base =
    record { state = state; regs = regs; pages = map (λ entry. gathered_page base entry.0 entry.1) (entries memory) }
