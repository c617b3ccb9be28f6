use Rattle.std.proofs.Common.{◌≡◌, ℕ, Bool, true, false, List, sym, ap, subst, ◌∙◌, refl, Option, Some, None}
use Rattle.breakpoints.specs.Breakpoints.{Breaks}
use Rattle.std.specs.Prelude.{Ok}
use Rattle.std.specs.Option.{is_some, option_map_or}
use Rattle.std.specs.FinMap.{get}
use Rattle.number_maps.specs.Keys.{get_same}
use Rattle.free_numbers.specs.Numbers.{IsPut, is_number}
use Rattle.ledger.specs.Events.{Copy}
use Rattle.overlay_memory.specs.declared.error.SpaceError.{SpaceError}
use Rattle.space_maps.specs.Spaces.{space_in}
use Rattle.machine_core.specs.Process.{Process}
use Rattle.machine_core.specs.declared.process.Process as declared
use Rattle.machine_core.specs.Machine.{Machine, Wholes, has_space, is_marked, spaces_of, whole_in, wholes}
use Rattle.report_text.specs.declared.answer.Answer.TheVariants.{Forked, Refused}
use Rattle.report_text.specs.declared.answer.Code.{Code}
use Rattle.command_core.specs.declared.checkpoints.Kept.{Kept}
use Rattle.command_core.specs.State.{Checkpoint, State, next_number, registry_of}
use Rattle.command_core.specs.Sessions.{IsSession, session_state}
use Rattle.command_core.specs.Kept.{checkpoints_in, shown_state, spaces_kept}
use Rattle.command_core.specs.Rows.{Row, accepts, first_refusal}
use Rattle.command_core.specs.Giving.{GivesChange}
use Rattle.command_core.specs.Copies.{CopiesProcess, CopyFails, fork_refusals, fork_row, fork_under}
use Rattle.command_core.specs.Changes.{answer_of, on_process}
use Rattle.command_core.specs.LikeLaws.{states_itself, states_same}
use Rattle.command_core.proofs.Copies.{copy_keeps, gives_unmade}
use Rattle.command_core.proofs.Places.{free_same, mark_at, marked_is, next_same, session_more}
use Rattle.command_core.proofs.Breaks.{none_removed}
use Rattle.command_core.proofs.Rows.{gives_found, gives_kept, row_accepted, row_refused}
use Rattle.command_core.proofs.Fitting.{copied_fit}

-- What a fork comes to.

-- whether a process is speculating
abbrev pub mark_in : Machine → ℕ → Bool
mark_in machine p = (space_in (spaces_of machine) p).speculating

module _ (old : Machine) (xs : List Kept) (breaks : Breaks) (p : ℕ) (process : declared.Process) (mark : Bool) (marked : mark ≡ mark_in old p) where
  abbrev before : State
  before = shown_state old xs breaks

  abbrev kept : List Checkpoint
  kept = checkpoints_in (spaces_of old) xs

  abbrev under : Option ℕ → Row
  under next = fork_under next p (whole_in (spaces_of old) p process) (registry_of before)

  refusals_are : (next : Option ℕ) → first_refusal (under next).refusals ≡ first_refusal (fork_refusals process.state mark next)
  refusals_are next = ap (λ b. first_refusal (fork_refusals process.state b next)) (marked_is (spaces_of old) p process (mark_in old p) refl ∙ sym marked)

  pub fork_refused : (code : Code) → get old.processes p ≡ Some process → first_refusal (fork_refusals process.state mark (next_number (registry_of before))) ≡ Some code
      → GivesChange (on_process p (fork_row p) (registry_of before)) before (Refused code) before
  fork_refused code there is =
      gives_found old kept breaks p (fork_row p) process (Refused code) before there
      (row_refused (under (next_number (registry_of before))) before before code (refusals_are (next_number (registry_of before)) ∙ is) (states_itself before))

  -- it isn't refused
  module _ (new : Machine) (n : ℕ) (numbers : List (List ℕ)) (is : IsSession old (spaces_kept xs) numbers) (there : get old.processes p ≡ Some process)
      (next : next_number (registry_of before) ≡ Some n)
      (taken : first_refusal (fork_refusals process.state mark (next_number (registry_of before))) ≡ None) where
    none : first_refusal (under (Some n)).refusals ≡ None
    none = refusals_are (Some n) ∙ ap (λ o. first_refusal (fork_refusals process.state mark o)) (sym next) ∙ taken

    pub forked : has_space old n ≡ false → get breaks n ≡ None → CopiesProcess None p n process old new (Ok tt)
        → GivesChange (on_process p (fork_row p) (registry_of before)) before (Forked p n) (shown_state new xs breaks)
    forked absent unbroken (enough, copied) =
        let after = session_state new kept breaks in
        gives_kept (on_process p (fork_row p)) old new xs breaks (next_same old new (spaces_kept xs) n is.free absent copied.others) (Forked p n)
        (gives_found old kept breaks p (fork_row p) process (Forked p n) after there
        (subst (λ o. GivesChange (under o) before (Forked p n) after) (sym next)
        (row_accepted (under (Some n)) before after none enough
        (states_same after (accepts (under (Some n)) before).after
        (λ i. record { wholes = copied.after i; checkpoints = kept; breakpoints = sym (none_removed breaks n unbroken) i })))))

    pub not_forked : (e : SpaceError) → CopyFails p n old new e
        → GivesChange (on_process p (fork_row p) (registry_of before)) before (answer_of e) (shown_state new xs breaks)
    not_forked e unmade =
        let after = session_state new kept breaks in
        gives_kept (on_process p (fork_row p)) old new xs breaks (free_same old new (spaces_kept xs) (copy_keeps p n old new e unmade).free is.free) (answer_of e)
        (gives_found old kept breaks p (fork_row p) process (answer_of e) after there
        (subst (λ o. GivesChange (under o) before (answer_of e) after) (sym next)
        (gives_unmade (under (Some n)) (Copy p n) old new kept breaks none refl tt refl e unmade)))

-- what a session keeps
abbrev saved_of : Option declared.Process → Bool
saved_of found = option_map_or (λ (x : declared.Process). is_some x.saved) found false

pub session_forked : (old new : Machine) (spaces : List ℕ) (numbers left : List (List ℕ)) (q p : ℕ) (process : declared.Process) → IsSession old spaces numbers
    → has_space old q ≡ false → is_number q ≡ true → IsPut numbers q false left
    → get old.processes p ≡ Some process → CopiesProcess None p q process old new (Ok tt) → IsSession new spaces left
session_forked old new spaces numbers left q p process is absent number taken there (enough, copied) =
    let whole : Process = whole_in (spaces_of old) p process in
    session_more old new spaces numbers left q is absent number taken copied.there copied.none_awaits
    (mark_at new q whole (ap (λ (w : Wholes). get w.processes q) copied.after ∙ get_same (wholes old).processes q q whole refl)
    ∙ marked_is (spaces_of old) p process (is_marked old p) refl ∙ is.kept p ∙ ap saved_of there ∙ sym (ap saved_of copied.adopted))
    copied.others (ap (λ (w : Wholes). w.translations) copied.after) (copied_fit None p q process old new copied is.fit) (ap is_some copied.adopted)
