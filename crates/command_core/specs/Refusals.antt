use Rattle.std.specs.Prelude.{ℕ, zero, suc, ◌+◌, ◌*◌, ◌/◌, ◌%◌, ◌==◌, ◌||◌, nat_lt, not, Bool, if◌then◌else◌, List, [], ◌∷◌, Option, Some, None}
use Rattle.std.specs.Option.{is_some, option_map, unwrap_or}
use Rattle.std.specs.FinMap.{get, len}
use Rattle.sizes.specs.declared.TheConstants.{ADDRESS_END, MOST_SPACE_PAGES, PAGE_BYTES}
use Rattle.ovl_io.specs.Memory.{Memory}
use Rattle.ovl_io.specs.declared.process_state.ProcessState.{ProcessState}
use Rattle.machine_core.specs.Process.{Process, runs}
use Rattle.report_text.specs.declared.answer.Code.{Code}
use Rattle.report_text.specs.declared.answer.Code.TheVariants.{NoProcess, Ended, Speculating, Unmapped, Mapped, NumbersUsed, Outside}
use Rattle.command_core.specs.Rows.{refused_if}

-- Why changes are refused, a line each.

-- no process has the number
abbrev pub by_absent : Option Process → Option Code
by_absent found = refused_if (not (is_some found)) NoProcess

-- the process isn't running
abbrev pub by_ended : ProcessState → Option Code
by_ended state = refused_if (not (runs state)) Ended

-- it is speculating
abbrev pub by_speculating : Bool → Option Code
by_speculating mark = refused_if mark Speculating

-- pages from an address on aren't whole pages of user addresses, or are more than a space may have
abbrev pub lie_outside : ℕ → ℕ → Bool
lie_outside address n = not (address % PAGE_BYTES == 0) || nat_lt ADDRESS_END (address + PAGE_BYTES * n)

abbrev pub are_too_many : Memory → ℕ → Bool
are_too_many memory n = nat_lt MOST_SPACE_PAGES (len memory + n)

-- the lowest of the n pages from one on of which something holds
abbrev pub lowest : (ℕ → Bool) → ℕ → ℕ → Option ℕ
lowest holds from zero = None
lowest holds from (suc n) = if holds from then Some from else lowest holds (from + 1) n

abbrev pub has_page : Memory → ℕ → Bool
has_page memory page = is_some (get memory page)

-- the page of an address isn't there; the address as it was given
abbrev pub by_unmapped : Memory → ℕ → Option Code
by_unmapped memory address = refused_if (not (has_page memory (address / PAGE_BYTES))) (Unmapped address)

-- Why pages aren't mapped, and why they aren't given up: at last, the lowest of the n pages from an address on that is there already, or
-- that isn't there.
abbrev pub place_refusals : Bool → Bool → Option Code → List (Option Code)
place_refusals speculating outside page = by_speculating speculating ∷ refused_if outside Outside ∷ page ∷ []

abbrev pub map_refusals : ℕ → ℕ → Bool → Memory → List (Option Code)
map_refusals address n speculating memory =
    place_refusals speculating (lie_outside address n || are_too_many memory n)
    (option_map (λ page. Mapped (PAGE_BYTES * page)) (lowest (has_page memory) (address / PAGE_BYTES) n))

abbrev pub unmap_refusals : ℕ → ℕ → Bool → Memory → List (Option Code)
unmap_refusals address n speculating memory =
    place_refusals speculating (lie_outside address n)
    (option_map (λ page. Unmapped (PAGE_BYTES * page)) (lowest (λ page. not (has_page memory page)) (address / PAGE_BYTES) n))

-- there is no next number; and the number that there is
abbrev pub by_numbers_used : Option ℕ → Option Code
by_numbers_used next = refused_if (not (is_some next)) NumbersUsed

abbrev pub number_in : Option ℕ → ℕ
number_in next = unwrap_or next 0
