use Rattle.std.proofs.Common.{◌≡◌, ℕ, ◌≤◌, ◌<◌, ◌&&◌, nat_lt, arith, Bool, true, false, cond, List, sym, ap, subst, ◌∙◌, refl, Option, Some, None}
use Rattle.breakpoints.specs.Breakpoints.{Breaks}
use Rattle.std.specs.Prelude.{not}
use Rattle.std.specs.Option.{is_some, option_map, option_map_or}
use Rattle.std.specs.FinMap.{get}
use Rattle.std.proofs.lemmas.Bool.Decides.{nat_tests}
use Rattle.machine_core.specs.Process.{Process}
use Rattle.machine_core.specs.declared.process.Process as declared
use Rattle.ledger.specs.Events.{Event}
use Rattle.overlay_pages.specs.Changes.{limit_of as limit_in}
use Rattle.overlay_memory.specs.View.{TranslatedView}
use Rattle.overlay_memory.specs.Room.{FitsAfter, IsFullAt, event_units}
use Rattle.machine_core.specs.Machine.{AreLike, Machine, unit_limit, spaces_of, whole_in, wholes, with_memory}
use Rattle.machine_core.specs.Laws.{processes_at}
use Rattle.machine_core.specs.Load.{IsAsBefore}
use Rattle.machine_core.specs.LoadLaws.{same_wholes}
use Rattle.report_text.specs.declared.answer.Answer.{Answer}
use Rattle.report_text.specs.declared.answer.Answer.TheVariants.{Done, Full, Refused}
use Rattle.report_text.specs.declared.answer.Code.{Code}
use Rattle.report_text.specs.declared.answer.Code.TheVariants.{NoCheckpoint, NoProcess}
use Rattle.command_core.specs.State.{AreLikeStates, Checkpoint, Registry, State, registry_of}
use Rattle.command_core.specs.Sessions.{KeepsSession, session_state}
use Rattle.command_core.specs.declared.checkpoints.Kept.{Kept}
use Rattle.command_core.specs.Kept.{checkpoints_in, shown_state, spaces_kept}
use Rattle.command_core.specs.Rows.{Changed, MemoryTaken, Row, TakesFirst, TakesLast, TakesNone, accepts, change_by, event_needs, falls_short, first_refusal, is_event_full, row_is_full, ledger_by, may_want_memory, refused_row, refuses, still_row, wants_by, within_units}
use Rattle.command_core.specs.Giving.{ComesTo, GivesChange, MachineGives}
use Rattle.command_core.specs.Checkpoints.{checkpoint_named, on_checkpoint}
use Rattle.command_core.specs.Changes.{on_process}
use Rattle.command_core.specs.LikeLaws.{states_itself}
use Rattle.command_core.proofs.Keeping.{all_shown}
use Rattle.command_core.proofs.Places.{AreSame, keeps_same}

-- Whether there are units enough for an event.

pub not_over : (limit needed : ℕ) → needed ≤ limit → nat_lt limit needed ≡ false
not_over limit needed h = by_test (nat_lt limit needed) refl
  where
    by_test : (b : Bool) → nat_lt limit needed ≡ b → b ≡ false
    by_test true e = absurd (grind (arith, nat_tests))
    by_test false e = refl

is_over : (limit needed : ℕ) → limit < needed → nat_lt limit needed ≡ true
is_over limit needed h = grind (arith, nat_tests)

pub fits : (e : Event) (old : Machine) → FitsAfter e (spaces_of old) → is_event_full e (wholes old) ≡ false
unfolding ledger_by
fits e old within = not_over (limit_in (spaces_of old)) (event_units e (spaces_of old)) within

pub record IsShort (e : Event) (old : Machine) (memory : TranslatedView) (needed limit : ℕ) : Type 0 where
  pub needed_is : needed ≡ event_needs e (wholes old)
  pub limit_is : limit ≡ limit_in (spaces_of old)
  pub full : is_event_full e (wholes old) ≡ true
  pub same : with_memory old memory ≡ old

pub is_short : (e : Event) (old : Machine) (memory : TranslatedView) (needed limit : ℕ) → IsFullAt old.memory memory (event_units e (spaces_of old)) needed limit
    → IsShort e old memory needed limit
unfolding ledger_by
is_short e old memory needed limit full = record {
  needed_is = full.needed_is;
  limit_is = full.limit_is;
  full = subst (λ n. nat_lt (limit_in (spaces_of old)) n ≡ true) full.needed_is (subst (λ n. nat_lt n needed ≡ true) full.limit_is (is_over limit needed full.over));
  same = ap (with_memory old) full.kept;
}

-- What a row comes to, by its first refusal and its units.

comes_to_be : (wanted given : Changed State) (s : State) → wanted ≡ given → AreLikeStates s given.after → ComesTo wanted given.answer s
comes_to_be wanted given s same like =
    record { answer_is = sym (ap (λ (c : Changed State). c.answer) same); after_is = subst (λ (c : Changed State). AreLikeStates s c.after) (sym same) like }

-- a row that takes memory
abbrev pub NeverNone : MemoryTaken → Type 0
NeverNone TakesNone = ⊥
NeverNone TakesLast = Unit {0}
NeverNone TakesFirst = Unit {0}

module _ (row : Row) (old new : State) where
  by_refusal : (o : Option Code) → first_refusal row.refusals ≡ o → change_by row old ≡ option_map_or (λ code. refuses code old) o (within_units row old)
  by_refusal o is = ap (λ (found : Option Code). option_map_or (λ code. refuses code old) found (within_units row old)) is

  by_units : (full : Bool) → first_refusal row.refusals ≡ None → row_is_full row old ≡ full → change_by row old ≡ cond full (falls_short row old) (accepts row old)
  by_units full none is = by_refusal None none ∙ ap (λ b. cond b (falls_short row old) (accepts row old)) is

  -- it is refused
  pub row_refused : (code : Code) → first_refusal row.refusals ≡ Some code → AreLikeStates new old → ComesTo (change_by row old) (Refused code) new
  row_refused code is like = comes_to_be (change_by row old) (refuses code old) new (by_refusal (Some code) is) like

  -- there aren't units enough
  pub row_full : (needed limit : ℕ) → first_refusal row.refusals ≡ None → row.may_need_units ≡ true → is_event_full row.event old.wholes ≡ true
      → needed ≡ event_needs row.event old.wholes → limit ≡ unit_limit old.wholes.frames → AreLikeStates new old → ComesTo (change_by row old) (Full needed limit) new
  row_full needed limit none may full needed_is limit_is like =
      let short = ap (λ b. b && is_event_full row.event old.wholes) may ∙ full in
      let comes = comes_to_be (change_by row old) (falls_short row old) new (by_units true none short) like in
      record {
        answer_is = ap (λ n. Full n limit) needed_is ∙ ap (Full (event_needs row.event old.wholes)) limit_is ∙ comes.answer_is;
        after_is = comes.after_is;
      }

  -- it is done
  pub row_accepted : first_refusal row.refusals ≡ None → row_is_full row old ≡ false → AreLikeStates new (accepts row old).after → ComesTo (change_by row old) row.answer new
  row_accepted none enough like = comes_to_be (change_by row old) (accepts row old) new (by_units false none enough) like

  -- it may want memory
  pub row_wants : NeverNone row.memory → first_refusal row.refusals ≡ None → row_is_full row old ≡ false → may_want_memory row old ≡ true
  row_wants ever none enough = by_memory row.memory ever
    where
      by_memory : (memory : MemoryTaken) → NeverNone memory → wants_by memory (is_some (first_refusal row.refusals)) (row_is_full row old) ≡ true
      by_memory TakesNone h = absurd h
      by_memory TakesLast h = ap (λ (o : Option Code). not (is_some o) && not (row_is_full row old)) none ∙ ap not enough
      by_memory TakesFirst h = refl

-- A command that isn't there changes nothing.

still_like : (s : State) → AreLikeStates s (accepts (still_row (registry_of s)) s).after
unfolding ledger_by
still_like s = states_itself s

pub gives_still : (s : State) → GivesChange (still_row (registry_of s)) s Done s
gives_still s = row_accepted (still_row (registry_of s)) s s refl refl (still_like s)

-- and neither does compaction, whose moves nothing shows
pub gives_moved : (old new : Machine) (xs : List Kept) (breaks : Breaks) → IsAsBefore old new
    → GivesChange (still_row (registry_of (shown_state old xs breaks))) (shown_state old xs breaks) Done (shown_state new xs breaks)
gives_moved old new xs breaks same =
    let all = same_wholes old new same in
    let is : shown_state new xs breaks ≡ shown_state old xs breaks = λ i. record { wholes = all i; checkpoints = checkpoints_in (same.0 i) xs; breakpoints = breaks } in
    subst (λ (s : State). GivesChange (still_row (registry_of (shown_state old xs breaks))) (shown_state old xs breaks) Done s) (sym is) (gives_still (shown_state old xs breaks))

-- The row of a process, by whether it is there.
module _ (old : Machine) (kept : List Checkpoint) (breaks : Breaks) (p : ℕ) (row : Process → Registry → Row) where
  abbrev before : State
  before = session_state old kept breaks

  found_is : (o : Option declared.Process) → get old.processes p ≡ o
      → on_process p row (registry_of before) ≡ option_map_or (λ process. row process (registry_of before)) (option_map (whole_in (spaces_of old) p) o) (refused_row NoProcess (registry_of before))
  found_is o is =
      ap (λ (found : Option Process). option_map_or (λ process. row process (registry_of before)) found (refused_row NoProcess (registry_of before)))
      (processes_at old p ∙ ap (option_map (whole_in (spaces_of old) p)) is)

  pub gives_absent : get old.processes p ≡ None → GivesChange (on_process p row (registry_of before)) before (Refused NoProcess) before
  gives_absent is = row_refused (on_process p row (registry_of before)) before before NoProcess (ap (λ (r : Row). first_refusal r.refusals) (found_is None is)) (states_itself before)

  pub gives_found : (process : declared.Process) (answer : Answer) (new : State) → get old.processes p ≡ Some process
      → GivesChange (row (whole_in (spaces_of old) p process) (registry_of before)) before answer new
      → GivesChange (on_process p row (registry_of before)) before answer new
  gives_found process answer new there given = subst (λ (r : Row). GivesChange r before answer new) (sym (found_is (Some process) there)) given

-- The row of a checkpoint, by whether there is one.
module _ (before : State) (name : List ℕ) where
  named_is : (row : Checkpoint → Registry → Row) (o : Option Checkpoint) → checkpoint_named name before.checkpoints ≡ o
      → on_checkpoint name row (registry_of before) ≡ option_map_or (λ x. row x (registry_of before)) o (refused_row NoCheckpoint (registry_of before))
  named_is row o is = ap (λ (found : Option Checkpoint). option_map_or (λ x. row x (registry_of before)) found (refused_row NoCheckpoint (registry_of before))) is

  pub gives_unnamed : (row : Checkpoint → Registry → Row) → checkpoint_named name before.checkpoints ≡ None
      → GivesChange (on_checkpoint name row (registry_of before)) before (Refused NoCheckpoint) before
  gives_unnamed row is = row_refused (on_checkpoint name row (registry_of before)) before before NoCheckpoint (ap (λ (r : Row). first_refusal r.refusals) (named_is row None is)) (states_itself before)

  pub gives_named : (x : Checkpoint) (row : Checkpoint → Registry → Row) (answer : Answer) (new : State) → checkpoint_named name before.checkpoints ≡ Some x
      → GivesChange (row x (registry_of before)) before answer new → GivesChange (on_checkpoint name row (registry_of before)) before answer new
  gives_named x row answer new there given = subst (λ (r : Row). GivesChange r before answer new) (sym (named_is row (Some x) there)) given

-- What a machine answers.
module _ (row : Registry → Row) (old new : Machine) where
  same_likes : new ≡ old → (kept : List Checkpoint) (breaks : Breaks) → AreLikeStates (session_state new kept breaks) (session_state old kept breaks)
  same_likes same kept breaks =
      subst (λ (m : Machine). AreLikeStates (session_state m kept breaks) (session_state old kept breaks)) (sym same) (states_itself (session_state old kept breaks))

  pub machine_refused : (code : Code) → ((r : Registry) → first_refusal (row r).refusals ≡ Some code) → new ≡ old → MachineGives row old (Refused code) new
  machine_refused code is same = record {
    gives = λ kept breaks. row_refused (row (registry_of (session_state old kept breaks))) (session_state old kept breaks) (session_state new kept breaks) code
        (is (registry_of (session_state old kept breaks))) (same_likes same kept breaks);
    keeps = keeps_same old new same;
    want = tt;
  }

  pub machine_full : (event : Event) (needed limit : ℕ) → ((r : Registry) → first_refusal (row r).refusals ≡ None)
      → ((r : Registry) → (row r).may_need_units ≡ true) → ((r : Registry) → (row r).event ≡ event)
      → needed ≡ event_needs event (wholes old) → limit ≡ unit_limit (wholes old).frames → is_event_full event (wholes old) ≡ true → new ≡ old
      → MachineGives row old (Full needed limit) new
  machine_full event needed limit none may by needed_is limit_is full same = record {
    gives = λ kept breaks.
        let before = session_state old kept breaks in
        let r = registry_of before in
        row_full (row r) before (session_state new kept breaks) needed limit (none r) (may r) (ap (λ e. is_event_full e before.wholes) (by r) ∙ full)
        (needed_is ∙ sym (ap (λ e. event_needs e before.wholes) (by r))) limit_is (same_likes same kept breaks);
    keeps = keeps_same old new same;
    want = tt;
  }

  pub machine_done : ((r : Registry) → first_refusal (row r).refusals ≡ None)
      → ((kept : List Checkpoint) (breaks : Breaks) → row_is_full (row (registry_of (session_state old kept breaks))) (session_state old kept breaks) ≡ false)
      → ((r : Registry) → (row r).answer ≡ Done)
      → ((kept : List Checkpoint) (breaks : Breaks) → AreLike (wholes new) (accepts (row (registry_of (session_state old kept breaks))) (session_state old kept breaks)).after.wholes)
      → ((r : Registry) → r.checkpoints ≡ (row r).after.checkpoints) → ((r : Registry) → r.breakpoints ≡ (row r).after.breakpoints)
      → KeepsSession old new → MachineGives row old Done new
  machine_done none enough answers like kept_is breaks_is keeps = record {
    gives = λ kept breaks.
        let before = session_state old kept breaks in
        let r = registry_of before in
        subst (λ answer. ComesTo (change_by (row r) before) answer (session_state new kept breaks)) (answers r)
        (row_accepted (row r) before (session_state new kept breaks) (none r) (enough kept breaks)
        (record { wholes = like kept breaks; checkpoints = kept_is r; breakpoints = breaks_is r }));
    keeps = keeps;
    want = tt;
  }

-- What is shown of checkpoints stays where their spaces do.
module _ (row : Registry → Row) (old new : Machine) (xs : List Kept) (breaks : Breaks) (same : AreSame old new (spaces_kept xs)) where
  pub gives_left : (answer : Answer) (left : Breaks)
      → GivesChange (row (registry_of (shown_state old xs breaks))) (shown_state old xs breaks) answer (session_state new (checkpoints_in (spaces_of old) xs) left)
      → GivesChange (row (registry_of (shown_state old xs breaks))) (shown_state old xs breaks) answer (shown_state new xs left)
  gives_left answer left given =
      subst (λ (cs : List Checkpoint). GivesChange (row (registry_of (shown_state old xs breaks))) (shown_state old xs breaks) answer (session_state new cs left))
      (sym (all_shown (spaces_of new) (spaces_of old) xs same)) given

  pub gives_kept : (answer : Answer)
      → GivesChange (row (registry_of (shown_state old xs breaks))) (shown_state old xs breaks) answer (session_state new (checkpoints_in (spaces_of old) xs) breaks)
      → GivesChange (row (registry_of (shown_state old xs breaks))) (shown_state old xs breaks) answer (shown_state new xs breaks)
  gives_kept answer given = gives_left answer breaks given
