use Rattle.std.specs.Prelude.{◌≡◌, ℕ, false, List, Option}
use Rattle.ovl_io.specs.declared.source.Source.{Ghosts as SourceOf}
use Rattle.ovl_io.specs.declared.shelf.Shelf.{Ghosts as ShelfOf}
use Rattle.ovl_io.specs.declared.sink.Sink.{Ghosts as SinkOf}
use Rattle.script_text.specs.declared.command.Command.{Command}
use Rattle.report_text.specs.FullLines.{has_full_line}
use Rattle.command_core.specs.Unbounded.{fresh_unbounded, unbounded}
use Rattle.overlay_top.specs.declared.words.Settings.{Settings}
use Rattle.overlay_top.specs.Words.{settings_of}
use Rattle.overlay_top.specs.Outcome.{Asking, RunOutcome, modes_of, report_of, run_by, run_outcome, set_by}
use Rattle.overlay_top.specs.Ends.{EndsWith, World}

-- What a call comes to in the unbounded machine, which copies the whole memory at each fork, checkpoint and speculation start, and has no
-- ledger, no frames and no limit. The lines of the commands that are told by the ledger (`stats`, `dedup`) are given.

abbrev pub run_unbounded : List (List ℕ) → Settings → List Command → (List ℕ → Option (List ℕ)) → RunOutcome
run_unbounded counts settings commands files = run_by unbounded (modes_of settings) commands (fresh_unbounded settings.extension counts) files

abbrev pub unbounded_set : List (List ℕ) → Option Settings → List ℕ → (List ℕ → Option (List ℕ)) → RunOutcome
unbounded_set counts set script files = set_by (run_unbounded counts) set script files

abbrev pub unbounded_outcome : List (List ℕ) → List (List ℕ) → List ℕ → (List ℕ → Option (List ℕ)) → RunOutcome
unbounded_outcome counts words script files = unbounded_set counts (settings_of words) script files

-- Where no line of the report says `full`, the call ends as it does in the unbounded machine.
abbrev pub EndsUnbounded : {S H K : Type 0} → SourceOf S → ShelfOf H → SinkOf K → List (List ℕ) → List ℕ → (List ℕ → Option (List ℕ)) → Asking
    → World S H K → World S H K → ℕ → Type 0
EndsUnbounded s h k words script files asking old new number =
    has_full_line (report_of (run_outcome words script files)) ≡ false
    → (counts : List (List ℕ)) × EndsWith s h k (unbounded_outcome counts words script files) asking old new number
