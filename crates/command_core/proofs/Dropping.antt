use Rattle.std.proofs.Common.{◌≡◌, ℕ, List, true, sym, ap, ◌∙◌, refl, Some, None}
use Rattle.breakpoints.specs.Breakpoints.{Breaks}
use Rattle.std.specs.List.{AllByRecursion}
use Rattle.std.specs.Option.{is_some, option_map}
use Rattle.std.specs.FinMap.{get, remove}
use Rattle.number_maps.specs.Values.{remove_absent}
use Rattle.space_maps.specs.Spaces.{cut_space, space_in}
use Rattle.machine_core.specs.declared.process.Process as declared
use Rattle.machine_core.specs.Machine.{IsDropped, Machine, Wholes, lists_of, spaces_of, whole_in, wholes, without_memory, without_process, without_process_at}
use Rattle.machine_core.specs.Laws.{wholes_dropped}
use Rattle.report_text.specs.declared.answer.Answer.TheVariants.{Done}
use Rattle.command_core.specs.declared.checkpoints.Kept.{Kept}
use Rattle.command_core.specs.State.{Checkpoint, State, registry_of}
use Rattle.command_core.specs.Sessions.{HasNoProcess, IsSession, session_state}
use Rattle.process_runs.specs.Places.{KeepsFree}
use Rattle.command_core.specs.Kept.{checkpoint_in, checkpoints_in, kept_but, kept_named, spaces_kept}
use Rattle.command_core.specs.Rows.{accepts, ledger_by}
use Rattle.command_core.specs.Giving.{GivesChange}
use Rattle.command_core.specs.Checkpoints.{checkpoints_but, forget_row, on_checkpoint}
use Rattle.command_core.specs.Changes.{drop_row}
use Rattle.command_core.specs.LikeLaws.{states_same}
use Rattle.command_core.proofs.Keeping.{all_shown, any_but, but_shown, each, found_has, named_shown, once_but, others_but}
use Rattle.command_core.proofs.Places.{free_cut, others_free, process_left, same_left, session_cut}
use Rattle.free_numbers.specs.Numbers.{IsPut}
use Rattle.translation_cache.specs.Translations.{flushed}
use Rattle.command_core.proofs.Rows.{gives_named, row_accepted}

-- What a drop and a forget come to.

module _ (old mid new : Machine) (kept : List Checkpoint) (breaks : Breaks) (p : ℕ) (process : declared.Process) where
  dropped_after : wholes new ≡ without_memory p (without_process p (wholes old))
      → session_state new kept (remove breaks p) ≡ (accepts (drop_row p (whole_in (spaces_of old) p process) (registry_of (session_state old kept breaks))) (session_state old kept breaks)).after
  unfolding ledger_by
  dropped_after is = ap (λ (w : Wholes). record { wholes = w; checkpoints = kept; breakpoints = remove breaks p }) is

  pub gives_dropped : wholes mid ≡ without_process p (wholes old) → get mid.processes p ≡ None → IsDropped p mid new
      → GivesChange (drop_row p (whole_in (spaces_of old) p process) (registry_of (session_state old kept breaks))) (session_state old kept breaks) Done
      (session_state new kept (remove breaks p))
  gives_dropped removed absent dropped =
      let row = drop_row p (whole_in (spaces_of old) p process) (registry_of (session_state old kept breaks)) in
      row_accepted row (session_state old kept breaks) (session_state new kept (remove breaks p)) refl refl
      (states_same (session_state new kept (remove breaks p)) (accepts row (session_state old kept breaks)).after (dropped_after (wholes_dropped p mid new absent dropped ∙ ap (without_memory p) removed)))

-- what is kept of a session from which a process goes with its space
module _ (old mid new : Machine) (p : ℕ) (there : is_some (get old.processes p) ≡ true) (removed : mid ≡ without_process_at old p) (dropped : IsDropped p mid new) where
  spaces_cut : spaces_of new ≡ cut_space (spaces_of old) p
  spaces_cut = dropped.spaces ∙ ap (λ (m : Machine). cut_space (spaces_of m) p) removed

  processes_left : new.processes ≡ remove old.processes p
  processes_left = dropped.processes ∙ ap (λ (m : Machine). m.processes) removed

  lists_left : lists_of new ≡ flushed p (lists_of old)
  lists_left = dropped.lists ∙ ap (λ (m : Machine). flushed p (lists_of m)) removed

  pub session_dropped : (spaces : List ℕ) (numbers left : List (List ℕ)) → IsSession old spaces numbers → IsPut numbers p true left → IsSession new spaces left
  session_dropped spaces numbers left is given =
      session_cut old new p spaces_cut processes_left lists_left spaces spaces numbers left is given (is.in_range p (is.own_space p there))
      (others_free old p spaces there is.free) is.once (λ q other has. has)

  pub free_dropped : KeepsFree old new
  free_dropped = free_cut old new p spaces_cut processes_left lists_left there

  pub left_dropped : (q : ℕ) → (q ≡ p → ⊥) → get new.processes q ≡ get old.processes q
  left_dropped = process_left old new p spaces_cut processes_left lists_left

-- A checkpoint goes with its space.
module _ (old new : Machine) (xs : List Kept) (breaks : Breaks) (name : List ℕ) (x : Kept) (numbers : List (List ℕ)) (is : IsSession old (spaces_kept xs) numbers)
    (found : kept_named name xs ≡ Some x)
    (dropped : IsDropped x.space old new) where
  pub is_free : HasNoProcess old x.space
  is_free = found_has name (HasNoProcess old) xs x is.free found

  no_processes : new.processes ≡ remove old.processes x.space
  no_processes = dropped.processes ∙ sym (remove_absent old.processes x.space is_free.1)

  left : AllByRecursion (λ q. HasNoProcess old q × (q ≡ x.space → ⊥)) (spaces_kept (kept_but name xs))
  left = others_but name (HasNoProcess old) xs x is.once found is.free

  pub session_forgot : (after : List (List ℕ)) → IsPut numbers x.space true after → IsSession new (spaces_kept (kept_but name xs)) after
  session_forgot after given =
      session_cut old new x.space dropped.spaces no_processes dropped.lists (spaces_kept xs) (spaces_kept (kept_but name xs)) numbers after is given
      (is.in_range x.space is_free.0) left (once_but name xs is.once) (λ q other has. any_but name q xs x found other has)

  others_shown : checkpoints_in (spaces_of new) (kept_but name xs) ≡ checkpoints_but name (checkpoints_in (spaces_of old) xs)
  others_shown =
      all_shown (spaces_of new) (spaces_of old) (kept_but name xs)
      (each (λ q. HasNoProcess old q × (q ≡ x.space → ⊥)) (λ q. space_in (spaces_of new) q ≡ space_in (spaces_of old) q) (spaces_kept (kept_but name xs))
      (λ q h. same_left old new x.space dropped.spaces no_processes dropped.lists q h.1) left)
      ∙ sym (but_shown name (spaces_of old) xs)

  abbrev before : State
  before = session_state old (checkpoints_in (spaces_of old) xs) breaks

  abbrev shown : Checkpoint
  shown = checkpoint_in (spaces_of old) x

  wholes_forgot : wholes new ≡ (accepts (forget_row name shown (registry_of before)) before).after.wholes
  unfolding ledger_by
  wholes_forgot = wholes_dropped x.space old new is_free.1 dropped

  pub gives_forgot : GivesChange (on_checkpoint name (forget_row name) (registry_of before)) before Done (session_state new (checkpoints_in (spaces_of new) (kept_but name xs)) breaks)
  gives_forgot =
      let row = forget_row name shown (registry_of before) in
      let after = session_state new (checkpoints_in (spaces_of new) (kept_but name xs)) breaks in
      gives_named before name shown (forget_row name) Done after (named_shown name (spaces_of old) xs ∙ ap (option_map (checkpoint_in (spaces_of old))) found)
      (row_accepted row before after refl refl
      (states_same after (accepts row before).after (λ i. record { wholes = wholes_forgot i; checkpoints = others_shown i; breakpoints = breaks })))
