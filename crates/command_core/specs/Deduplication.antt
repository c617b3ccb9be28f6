use Rattle.std.specs.Prelude.{ℕ, ◌/◌, nat_lt, not, Bool, false, List, [], ◌∷◌, ◌++◌, length, Option, Some}
use Rattle.std.specs.Option.{option_map_or}
use Rattle.std.specs.FinMap.{empty, get}
use Rattle.sizes.specs.declared.TheConstants.{PAGE_BYTES}
use Rattle.ovl_io.specs.Memory.{Memory}
use Rattle.ledger.specs.Changes.{is_origin_here, own_of}
use Rattle.ledger.specs.Events.{Rebase}
use Rattle.ledger.specs.Ledger.{Ledger, is_alone}
use Rattle.overlay_memory.specs.Rebased.{lines_apart}
use Rattle.page_dedup.specs.Deduplicated.{shares_of}
use Rattle.page_dedup.specs.declared.error.DedupError.{DedupError}
use Rattle.page_dedup.specs.declared.error.DedupError.TheVariants as dedup
use Rattle.machine_core.specs.Process.{Process, is_speculating}
use Rattle.machine_core.specs.Machine.{Machine}
use Rattle.report_text.specs.declared.answer.Answer.{Answer}
use Rattle.report_text.specs.declared.answer.Answer.TheVariants.{Shared}
use Rattle.report_text.specs.declared.answer.Code.{Code}
use Rattle.report_text.specs.declared.answer.Code.TheVariants.{NotAlone, FrameHere, NotAlike}
use Rattle.breakpoints.specs.Breakpoints.{Breaks}
use Rattle.command_core.specs.State.{Checkpoint, Registry, State, registry_of}
use Rattle.command_core.specs.Sessions.{KeepsSession, session_state}
use Rattle.command_core.specs.Rows.{Row, change_by, plain_row, refused_if}
use Rattle.command_core.specs.Giving.{ComesTo}
use Rattle.command_core.specs.Refusals.{by_absent, by_speculating, by_unmapped}

-- Pages of a process that are put on the frames of another one's pages. No whole process changes by that, and whether it can be done depends
-- on who shares what. So the rows are told by the ledger: they are functions of the whole state.

-- of a process that may be there: whether it is speculating, and its memory
abbrev pub speculates : Option Process → Bool
speculates found = option_map_or (λ process. is_speculating process) found false

abbrev pub memory_found : Option Process → Memory
memory_found found = option_map_or (λ process. process.memory) found empty

-- Why no page of P is put on one of Q: one of them isn't there, or is speculating; P is asked for first.
abbrev pub pair_refusals : Option Process → Option Process → List (Option Code)
pair_refusals mine theirs = by_absent mine ∷ by_absent theirs ∷ by_speculating (speculates mine) ∷ by_speculating (speculates theirs) ∷ []

-- How a page of P and one of Q stand to each other: whether the first is alone; whether some page of P is on the frame of the other one, and
-- that isn't the zero frame; and the lines that are apart, which are the other one's own, or in which the two differ.
pub record PagePair : Type 0 where
  pub alone : Bool
  pub here : Bool
  pub apart : List ℕ

abbrev pub pair_in : Ledger → ℕ → ℕ → Memory → ℕ → ℕ → Memory → PagePair
pair_in ledger p page mine q other theirs = record {
  alone = is_alone ledger p page;
  here = is_origin_here ledger p q other;
  apart = lines_apart (own_of ledger q other) mine page theirs other;
}

-- Why the first isn't put on the other one: the page of an address isn't there, P's or else Q's; or how they stand to each other.
abbrev pub page_refusals : Memory → ℕ → Memory → ℕ → PagePair → List (Option Code)
page_refusals mine address theirs other pair =
    by_unmapped mine address ∷ by_unmapped theirs other
    ∷ refused_if (not pair.alone) NotAlone
    ∷ refused_if pair.here FrameHere
    ∷ refused_if (nat_lt 31 (length pair.apart)) (NotAlike (length pair.apart))
    ∷ []

-- Pages of P are put on pages of Q, each with the lines that become its own, and P's translations go. What is registered stays.
abbrev pub share_row : List (Option Code) → ℕ → ℕ → List (ℕ × ℕ × List ℕ) → Registry → Row
share_row refusals p q pages registry = record (plain_row false (Some p) refusals (Rebase p q pages) registry) { answer = Shared (length pages) }

-- `dedup P ADDR Q ADDR`, by the processes and by how the pages stand to each other
abbrev pub dedup_by : ℕ → ℕ → ℕ → ℕ → Option Process → Option Process → PagePair → Registry → Row
dedup_by p address q other mine theirs pair =
    share_row (pair_refusals mine theirs ++ page_refusals (memory_found mine) address (memory_found theirs) other pair)
    p q ((address / PAGE_BYTES, other / PAGE_BYTES, pair.apart) ∷ [])

abbrev pub dedup_row : ℕ → ℕ → ℕ → ℕ → State → Row
dedup_row p address q other state =
    let mine = get state.wholes.processes p in
    let theirs = get state.wholes.processes q in
    dedup_by p address q other mine theirs
    (pair_in state.wholes.ledger p (address / PAGE_BYTES) (memory_found mine) q (other / PAGE_BYTES) (memory_found theirs)) (registry_of state)

-- `dedup P all Q`: each page of P that Q has too, ascending, where it can be put on the page of the same number by the ledger at that point
abbrev pub dedup_all_by : ℕ → ℕ → Option Process → Option Process → List (ℕ × ℕ × List ℕ) → Registry → Row
dedup_all_by p q mine theirs = share_row (pair_refusals mine theirs) p q

abbrev pub dedup_all_row : ℕ → ℕ → State → Row
dedup_all_row p q state =
    let mine = get state.wholes.processes p in
    let theirs = get state.wholes.processes q in
    dedup_all_by p q mine theirs (shares_of (memory_found mine) (memory_found theirs) p q state.wholes.ledger) (registry_of state)

-- what a machine answers of a change that is told by the ledger, whatever checkpoints and breakpoints there are; and it stays that of a
-- session
pub record MachineComesTo (row : State → Row) (old : Machine) (answer : Answer) (new : Machine) : Type 0 where
  pub comes : (kept : List Checkpoint) (breaks : Breaks)
      → ComesTo (change_by (row (session_state old kept breaks)) (session_state old kept breaks)) answer (session_state new kept breaks)
  pub keeps : KeepsSession old new

-- what is answered where a page isn't put on another one
abbrev pub dedup_code : DedupError → Code
dedup_code dedup.NotAlone = NotAlone
dedup_code dedup.FrameHere = FrameHere
dedup_code (dedup.NotAlike lines) = NotAlike lines
