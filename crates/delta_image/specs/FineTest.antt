use Rattle.std.specs.Prelude.{ℕ, ◌+◌, ◌^◌, Bool, true, ◌&&◌, nat_eq, nat_le, nat_lt, List, [], ◌∷◌, length, slice_index}
use Rattle.std.specs.List.{list_all}
use Rattle.sizes.specs.declared.TheConstants.{LINE_BYTES, MOST_SPACE_PAGES, PAGE_END, PAGE_LINES}
use Rattle.ovl_io.specs.declared.process_state.ProcessState.{ProcessState}
use Rattle.ovl_io.specs.declared.process_state.ProcessState.TheVariants.{Running, Exited, Faulted}
use Rattle.rv_execute.specs.Registers.{Registers}
use Rattle.delta_image.specs.declared.delta.Delta.{Delta}
use Rattle.delta_image.specs.declared.delta.DeltaPage.{DeltaPage}
use Rattle.delta_image.specs.Line.{Line, numbers_of}
use Rattle.delta_image.specs.Image.{register_numbers}
use Rattle.delta_image.specs.Fine.{are_perms}

-- Whether a delta is fine, as a test, part by part as `IsFine` has them.

abbrev pub is_word : ℕ → Bool
is_word number = nat_lt number (2 ^ 64)

abbrev pub is_state : ProcessState → Bool
is_state Running = true
is_state (Exited code) = true
is_state (Faulted kind address) = is_word address

abbrev pub are_registers : Registers → Bool
are_registers regs = nat_eq (length regs.x) 32 && nat_eq (slice_index regs.x 0) 0 && list_all is_word (register_numbers regs)

abbrev pub do_rise : ℕ → List ℕ → ℕ → Bool
do_rise from [] end = nat_le from end
do_rise from (x ∷ xs) end = nat_le from x && do_rise (x + 1) xs end

abbrev pub is_plain : DeltaPage → Bool
is_plain page = nat_lt page.page PAGE_END && are_perms page.perms.0 && do_rise 0 (numbers_of page.lines) PAGE_LINES

abbrev pub is_line : Line → Bool
is_line line = nat_eq (length line.1) LINE_BYTES

abbrev pub is_page : DeltaPage → Bool
is_page page = is_plain page && list_all is_line page.lines

abbrev pub do_ascend : ℕ → List DeltaPage → Bool
do_ascend from [] = true
do_ascend from (page ∷ pages) = nat_le from page.page && is_page page && do_ascend (page.page + 1) pages

unfoldable pub is_fine : Delta → Bool
is_fine delta =
    is_state delta.state && are_registers delta.regs && nat_le (length delta.pages) MOST_SPACE_PAGES && do_ascend 0 delta.pages
