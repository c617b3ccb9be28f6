use Rattle.std.proofs.Common.{◌≡◌, ℕ, zero, suc, ◌+◌, ◌≤◌, Bool, true, cond, List, [], ◌∷◌, ◌++◌, length, drop, nat_le, ap, ◌∙◌, refl, arith, Some, None}
use Rattle.std.proofs.lemmas.Bool.Decides.{nat_tests}
use Rattle.std.specs.Prelude.{flat_map, slice_get}
use Rattle.std.specs.List.{filter}
use Rattle.std.specs.FinMap.{entries, get}
use Rattle.machine_core.specs.Process.{Process}
use Rattle.machine_core.specs.Machine.{Processes}
use Rattle.std.specs.Prelude.{Result, Ok}
use Rattle.report_text.specs.declared.answer.Code.{Code}
use Rattle.report_text.specs.Lines.{checkpoint_line, list_line, process_line}
use Rattle.command_core.specs.declared.session.CheckpointView.{CheckpointView}
use Rattle.command_core.specs.declared.session.Counts.{Counts}
use Rattle.command_core.specs.declared.session.ProcessView.{ProcessView}
use Rattle.command_core.specs.State.{Checkpoint, State, registry_of}
use Rattle.command_core.specs.Commands.{checkpoint_text, counts_text, list_head, process_text, stats_text}
use Rattle.command_core.specs.Looks.{NextProcess, ShowsCheckpoint, counts_of, from_number, looked_at, process_view}

-- The processes from a number on.

least_number : (n : ℕ) → nat_le 0 n ≡ true
least_number n = grind (arith, nat_tests)

all_kept : (es : List (ℕ × Process)) → filter (λ (e : ℕ × Process). nat_le 0 e.0) es ≡ es
all_kept [] = refl
all_kept (e ∷ es) =
    ap (λ (b : Bool). cond b (e ∷ filter (λ (f : ℕ × Process). nat_le 0 f.0) es) (filter (λ (f : ℕ × Process). nat_le 0 f.0) es)) (least_number e.0)
    ∙ ap (λ rest. e ∷ rest) (all_kept es)

pub from_first : (processes : Processes) → from_number 0 processes ≡ entries processes
from_first processes = all_kept (entries processes)

-- one counted, and one listed
pub count_next : (processes : Processes) (from p count all : ℕ) → NextProcess processes from (Some p) → count + length (from_number from processes) ≡ all
    → count + 1 + length (from_number (p + 1) processes) ≡ all
count_next processes from p count all next so_far = omega (arith, so_far, ap (λ es. length es) next.2)

pub lines_next : (processes : Processes) (from p : ℕ) (next : NextProcess processes from (Some p))
    → flat_map process_text (from_number from processes) ≡ process_text (p, next.0) ++ flat_map process_text (from_number (p + 1) processes)
lines_next processes from p next = ap (flat_map process_text) next.2

pub line_is : (processes : Processes) (p : ℕ) (process : Process) (view : ProcessView) (line : List ℕ) → get processes p ≡ Some process
    → Ok view ≡ looked_at (get processes p) → line ≡ process_line p view.state view.speculating view.pages → line ≡ process_text (p, process)
unfolding process_text
line_is processes p process view line there looks is =
    let same : view ≡ process_view process = ok_is view (process_view process) (looks ∙ ap looked_at there) in
    is ∙ ap (λ (v : ProcessView). process_line p v.state v.speculating v.pages) same
  where
    ok_is : (v u : ProcessView) → ◌≡◌ {A = Result ProcessView Code} (Ok v) (Ok u) → v ≡ u
    ok_is v u e = cc

pub head_is : (state : State) (count kept : ℕ) (line : List ℕ) → count ≡ length (entries state.wholes.processes) → kept ≡ length state.checkpoints
    → line ≡ list_line count kept → line ≡ list_head (registry_of state)
unfolding list_head
head_is state count kept line counted kept_is is =
    is ∙ ap (λ n. list_line n kept) counted ∙ ap (list_line (length (entries state.wholes.processes))) kept_is

-- The checkpoints from a place on.

none_from : (xs : List Checkpoint) (i : ℕ) → slice_get xs i ≡ None → drop i xs ≡ []
none_from [] zero none = refl
none_from [] (suc i) none = refl
none_from (x ∷ xs) zero none = cc
none_from (x ∷ xs) (suc i) none = none_from xs i none

one_from : (xs : List Checkpoint) (i : ℕ) (x : Checkpoint) → slice_get xs i ≡ Some x → drop i xs ≡ x ∷ drop (suc i) xs
one_from [] i x is = cc
one_from (y ∷ xs) zero x is = let same : y ≡ x = cc in ap (λ z. z ∷ xs) same
one_from (y ∷ xs) (suc i) x is = one_from xs i x is

pub all_counted : (xs : List Checkpoint) (i : ℕ) → i ≤ length xs → slice_get xs i ≡ None → i ≡ length xs
all_counted [] i within none = omega (arith, within)
all_counted (x ∷ xs) zero within none = cc
all_counted (x ∷ xs) (suc i) within none = let rest = all_counted xs i (omega (arith, within)) none in omega (arith, rest)

-- one listed
pub checkpoints_next : (xs : List Checkpoint) (i : ℕ) (x : Checkpoint) → slice_get xs i ≡ Some x
    → flat_map checkpoint_text (drop i xs) ≡ checkpoint_text x ++ flat_map checkpoint_text (drop (i + 1) xs)
checkpoints_next xs i x is =
    let same : suc i ≡ i + 1 = omega arith in
    ap (flat_map checkpoint_text) (one_from xs i x is) ∙ ap (λ n. checkpoint_text x ++ flat_map checkpoint_text (drop n xs)) same

-- the last of them
pub none_listed : (xs : List Checkpoint) (i : ℕ) → slice_get xs i ≡ None → flat_map checkpoint_text (drop i xs) ≡ []
none_listed xs i none = ap (flat_map checkpoint_text) (none_from xs i none)

pub checkpoint_is : (x : Checkpoint) (view : CheckpointView) (line : List ℕ) → ShowsCheckpoint x view → line ≡ checkpoint_line view.name.now view.space view.pages
    → line ≡ checkpoint_text x
unfolding checkpoint_text
checkpoint_is x view line shows is =
    is ∙ ap (λ n. checkpoint_line n view.space view.pages) shows.name ∙ ap (λ n. checkpoint_line x.name n view.pages) shows.space
    ∙ ap (checkpoint_line x.name x.space) shows.pages

-- The line of the counts.
pub counts_line_is : (state : State) (counts : Counts) (line : List ℕ) → counts ≡ counts_of state.wholes → line ≡ counts_text counts → line ≡ stats_text state
unfolding stats_text
counts_line_is state counts line same is = is ∙ ap counts_text same
