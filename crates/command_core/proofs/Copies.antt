use Rattle.std.proofs.Common.{◌≡◌, ℕ, Bool, true, false, cond, List, sym, ap, subst, ◌∙◌, refl, arith, Option, Some, None}
use Rattle.breakpoints.specs.Breakpoints.{Breaks}
use Rattle.std.specs.Prelude.{◌==◌, ◌||◌, ◌&&◌, Result, Ok, Err}
use Rattle.std.specs.Option.{is_some, unwrap_or}
use Rattle.std.specs.FinMap.{get, remove}
use Rattle.std.proofs.lemmas.Bool.Decides.{nat_tests}
use Rattle.number_maps.specs.Keys.{alike, by_key, get_other, get_same, removed_other, removed_same}
use Rattle.ledger.specs.Events.{Event, Copy}
use Rattle.overlay_pages.specs.State.{SpaceState, State, base_of}
use Rattle.overlay_memory.specs.View.{TranslatedView, state_of, translations_of}
use Rattle.overlay_memory.specs.declared.error.SpaceError.{SpaceError}
use Rattle.overlay_memory.specs.declared.error.SpaceError.TheVariants as error
use Rattle.space_maps.specs.Spaces.{bare_space, cut_space, holds_space, space_in}
use Rattle.fork_checkpoint.specs.Copied.{Copies, HasCopied}
use Rattle.delta_spaces.specs.Built.{IsBeside}
use Rattle.machine_core.specs.declared.process.Process as declared
use Rattle.machine_core.specs.Machine.{IsDropped, Machine, StaysBut, Wholes, has_space, kept_whole, none_saved, spaces_of, whole_in, wholes, with_memory, with_process_at, lists_of}
use Rattle.machine_core.specs.Load.{IsAsBefore}
use Rattle.machine_core.specs.LoadLaws.{same_wholes}
use Rattle.translation_cache.specs.Translations.{flushed}
use Rattle.translation_cache.specs.Bare.{BareTranslations}
use Rattle.command_core.specs.State.{AreLikeStates, Checkpoint, State as Shown}
use Rattle.command_core.specs.Sessions.{KeepsSession, session_state as shown_by}
use Rattle.command_core.specs.Rows.{Row, event_needs, first_refusal, is_event_full, ledger_by, flushed_by}
use Rattle.command_core.specs.Giving.{GivesChange}
use Rattle.command_core.specs.Changes.{answer_of}
use Rattle.command_core.specs.LikeLaws.{states_itself}
use Rattle.command_core.specs.Copies.{Adopts, CopiesProcess, CopyFails, EventFails, IsCopied}
use Rattle.command_core.specs.Checkpoints.{Enters, IsSaved, SavesSpace}
use Rattle.command_core.proofs.Rows.{NeverNone, fits, is_short, row_full, row_wants}
use Rattle.command_core.proofs.Places.{keeps_before, keeps_same, processes_kept, processes_put}
use Rattle.process_runs.specs.PlaceLaws.{none_is}

-- A machine with a copy of a space, for a process or for a checkpoint.

-- what is there of a space, by whether it is there and what it has
space_same : (x y : State) (q : ℕ) → holds_space x q ≡ holds_space y q → space_in x q ≡ space_in y q → get x.spaces q ≡ get y.spaces q
unfolding space_in
space_same x y q there same = by_found (get x.spaces q) (get y.spaces q) there same
  where
    by_found : (o p : Option SpaceState) → is_some o ≡ is_some p → unwrap_or o bare_space ≡ unwrap_or p bare_space → o ≡ p
    by_found None None h k = refl
    by_found (Some x) (Some y) h k = ap Some k
    by_found None (Some y) h k = cc
    by_found (Some x) None h k = cc

number_same : (q : ℕ) → (q == q) ≡ true
number_same q = grind (arith, nat_tests)

number_other : (r q : ℕ) → (r ≡ q → ⊥) → (r == q) ≡ false
number_other r q other = by_test (r == q) refl
  where
    is_same : (r == q) ≡ true → r ≡ q
    is_same e = grind (arith, nat_tests)

    by_test : (b : Bool) → (r == q) ≡ b → (r == q) ≡ false
    by_test false e = e
    by_test true e = absurd (other (is_same e))

-- A machine with a space besides.
module _ (to : ℕ) (old : Machine) (memory : TranslatedView) (beside : IsBeside (spaces_of old) (state_of memory) to) where
  abbrev with_space : Machine
  with_space = with_memory old memory

  pub space_made : has_space with_space to ≡ true
  space_made = beside.spaces to ∙ ap (λ b. b || holds_space (spaces_of old) to) (number_same to)

  others_there : (r : ℕ) → (r ≡ to → ⊥) → has_space with_space r ≡ has_space old r
  others_there r other = beside.spaces r ∙ ap (λ b. b || holds_space (spaces_of old) r) (number_other r to other)

  pub others_stay : StaysBut to old with_space
  others_stay = record { spaces = beside.others; there = others_there; processes = λ r other. refl }

  -- the space given up again
  pub taken_back : (new : Machine) → has_space old to ≡ false → flushed to (translations_of memory) ≡ lists_of old → IsDropped to with_space new → IsAsBefore old new
  unfolding cut_space
  taken_back new absent unseen dropped =
      let spaces : remove (state_of memory).spaces to ≡ (spaces_of old).spaces = alike _ _ (λ r. by_key r to
      (λ same. removed_same (state_of memory).spaces to r same ∙ sym (ap (get (spaces_of old).spaces) same ∙ none_is (get (spaces_of old).spaces to) absent))
      (λ other. removed_other (state_of memory).spaces to r other ∙ space_same (state_of memory) (spaces_of old) r (others_there r other) (beside.others r other))) in
      (dropped.spaces ∙ (λ i. record { spaces = spaces i; frames = beside.frames i; zero_frame = beside.zero_frame i }), dropped.lists ∙ unseen, dropped.processes, dropped.extension)

module _ (flushes : Option ℕ) (from to : ℕ) (old : Machine) (memory : TranslatedView) (copied : HasCopied (spaces_of old) (state_of memory) from to)
    (lists : translations_of memory ≡ flushed_by flushes (lists_of old)) where
  abbrev mid : Machine
  mid = with_memory old memory

  beside_copied : IsBeside (spaces_of old) (state_of memory) to
  beside_copied = record { others = copied.others; spaces = copied.spaces; frames = copied.frames; zero_frame = copied.zero_frame }

  -- the space alone
  is_saved : translations_of memory ≡ lists_of old → get old.processes to ≡ None → IsSaved from to old mid
  unfolding ledger_by
  is_saved same absent =
      let processes = processes_kept old memory to copied.others absent in
      record {
        memory = copied.memory;
        after = λ i. record { processes = processes i; ledger = copied.ledger i; frames = copied.frames i; extension = old.extension; translations = same i };
        there = space_made to old memory beside_copied;
        none_awaits = copied.awaiting;
        unmarked = copied.mark;
        processes = refl;
        others = others_stay to old memory beside_copied;
      }

  -- a process in it
  module _ (process : declared.Process) (unmarked : (space_in (spaces_of old) from).speculating ≡ false) where
    whole_is : whole_in (state_of memory) to process ≡ whole_in (spaces_of old) from process
    whole_is =
        let saved = unwrap_or process.saved none_saved in
        let kept = ap (λ b. cond b (Some (kept_whole (base_of (state_of memory) to) saved)) None) copied.mark
        ∙ sym (ap (λ b. cond b (Some (kept_whole (base_of (spaces_of old) from) saved)) None) unmarked) in
        λ i. record { registers = process.regs; state = process.state; memory = copied.memory i; kept = kept i }

    is_copied : IsCopied flushes from to process old (with_process_at mid to process)
    unfolding ledger_by
    is_copied =
        let all_are = processes_put old memory to copied.others process (whole_in (spaces_of old) from process) whole_is in
        record {
          after = λ i. record { processes = all_are i; ledger = copied.ledger i; frames = copied.frames i; extension = old.extension; translations = lists i };
          adopted = get_same old.processes to to process refl;
          there = space_made to old memory beside_copied;
          none_awaits = copied.awaiting;
          others = record {
            spaces = copied.others;
            there = (others_stay to old memory beside_copied).there;
            processes = λ r other. get_other old.processes to r process other;
          };
        }

-- where the lists stay, and nothing of the space was translated
pub unseen_by : (to : ℕ) (t u : BareTranslations) → t ≡ u → flushed to u ≡ u → flushed to t ≡ u
unseen_by to t u same unseen = ap (flushed to) same ∙ unseen

module _ (from to : ℕ) (old new : Machine) (memory : TranslatedView) where
  -- how a fork comes out, where the space was made
  pub forks_made : (process : declared.Process) (r : Result (Unit {0}) SpaceError)
      → Copies old.memory memory from to (Ok tt) → translations_of memory ≡ lists_of old → flushed to (lists_of old) ≡ lists_of old
      → (space_in (spaces_of old) from).speculating ≡ false → has_space old to ≡ false
      → Adopts to process (with_memory old memory) new r → CopiesProcess None from to process old new r
  forks_made process (Ok done) (within, copied) lists unseen unmarked no_space same =
      (fits (Copy from to) old within, subst (IsCopied None from to process old) (sym same) (is_copied None from to old memory copied lists process unmarked))
  forks_made process (Err (error.Full needed limit)) (within, copied) lists unseen unmarked no_space h = absurd h
  forks_made process (Err error.Memory) (within, copied) lists unseen unmarked no_space dropped =
      (fits (Copy from to) old within, taken_back to old memory (beside_copied None from to old memory copied lists) new no_space (unseen_by to _ _ lists unseen) dropped)

  -- how a restore does
  pub restores_made : (process : declared.Process) → Copies old.memory memory from to (Ok tt) → translations_of memory ≡ flushed to (lists_of old)
      → (space_in (spaces_of old) from).speculating ≡ false
      → new ≡ with_process_at (with_memory old memory) to process → CopiesProcess (Some to) from to process old new (Ok tt)
  restores_made process (within, copied) lists unmarked same =
      (fits (Copy from to) old within, subst (IsCopied (Some to) from to process old) (sym same) (is_copied (Some to) from to old memory copied lists process unmarked))

  -- and a checkpoint
  pub saves_made : {T : Type 0} (r : Result T SpaceError) → Copies old.memory memory from to (Ok tt) → translations_of memory ≡ lists_of old
      → flushed to (lists_of old) ≡ lists_of old → has_space old to ≡ false → get old.processes to ≡ None
      → Enters to (with_memory old memory) new r → SavesSpace from to old new r
  saves_made (Ok done) (within, copied) lists unseen no_space no_process same =
      (fits (Copy from to) old within, subst (IsSaved from to old) (sym same) (is_saved None from to old memory copied lists lists no_process))
  saves_made (Err (error.Full needed limit)) (within, copied) lists unseen no_space no_process h = absurd h
  saves_made (Err error.Memory) (within, copied) lists unseen no_space no_process dropped =
      (fits (Copy from to) old within, taken_back to old memory (beside_copied None from to old memory copied lists) new no_space (unseen_by to _ _ lists unseen) dropped)

-- and where it wasn't made
pub copies_not : (from to : ℕ) (old : Machine) (memory : TranslatedView) (e : SpaceError) → Copies old.memory memory from to (Err e)
    → translations_of memory ≡ lists_of old → CopyFails from to old (with_memory old memory) e
copies_not from to old memory (error.Full needed limit) full lists =
    let f = is_short (Copy from to) old memory needed limit full in
    (f.needed_is, f.limit_is, f.full, f.same)
copies_not from to old memory error.Memory (within, same) lists = (fits (Copy from to) old within, (same, lists, refl, refl))

-- What stays where nothing was made, and what a row comes to that copies a space.

pub event_keeps : (event : Event) (old new : Machine) (e : SpaceError) → EventFails event old new e → KeepsSession old new
event_keeps event old new (error.Full needed limit) (needed_is, limit_is, full, same) = keeps_same old new same
event_keeps event old new error.Memory (enough, same) = keeps_before old new same

pub copy_keeps : (from to : ℕ) (old new : Machine) (e : SpaceError) → CopyFails from to old new e → KeepsSession old new
copy_keeps from to old new e fails = event_keeps (Copy from to) old new e fails

module _ (row : Row) (event : Event) (old new : Machine) (kept : List Checkpoint) (breaks : Breaks)
    (taken : first_refusal row.refusals ≡ None) (may : row.may_need_units ≡ true) (ever : NeverNone row.memory) (by : row.event ≡ event) where
  abbrev before : Shown
  before = shown_by old kept breaks

  full_is : (b : Bool) → is_event_full event (wholes old) ≡ b → is_event_full row.event (wholes old) ≡ b
  full_is b is = ap (λ e. is_event_full e (wholes old)) by ∙ is

  pub gives_unmade : (e : SpaceError) → EventFails event old new e → GivesChange row before (answer_of e) (shown_by new kept breaks)
  gives_unmade (error.Full needed limit) (needed_is, limit_is, full, same) =
      row_full row before (shown_by new kept breaks) needed limit taken may (full_is true full) (needed_is ∙ sym (ap (λ e. event_needs e (wholes old)) by)) limit_is
      (subst (λ (m : Machine). AreLikeStates (shown_by m kept breaks) before) (sym same) (states_itself before))
  gives_unmade error.Memory (enough, same) = (
    row_wants row before (shown_by new kept breaks) ever taken (ap (λ b. b && is_event_full row.event (wholes old)) may ∙ full_is false enough),
    ap (λ (w : Wholes). record { wholes = w; checkpoints = kept; breakpoints = breaks }) (same_wholes old new same),
  )
