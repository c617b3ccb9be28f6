use Rattle.std.proofs.Common.{◌≡◌, ℕ, Bool, true, false, cond, List, [], ◌∷◌, ◌++◌, sym, ap, subst, ◌∙◌, refl, Option, Some, None}
use Rattle.breakpoints.specs.Breakpoints.{Breaks}
use Rattle.std.specs.Prelude.{◌&&◌, not, Ok}
use Rattle.std.specs.Option.{is_some, option_map, option_map_or}
use Rattle.std.specs.FinMap.{get}
use Rattle.number_maps.specs.Keys.{by_key, get_same}
use Rattle.free_numbers.specs.Numbers.{IsPut, is_number}
use Rattle.ledger.specs.Events.{Copy}
use Rattle.translation_cache.specs.Absent.{HasNone, none_flushed}
use Rattle.overlay_pages.specs.State.{SpaceState, base_of, memory_of}
use Rattle.overlay_memory.specs.View.{TranslatedView, state_of as spaces_in}
use Rattle.overlay_memory.specs.declared.error.SpaceError.{SpaceError}
use Rattle.space_maps.specs.Spaces.{space_in}
use Rattle.machine_core.specs.Process.{Process}
use Rattle.machine_core.specs.declared.process.Process as declared
use Rattle.machine_core.specs.Machine.{Machine, Wholes, has_saved, has_space, is_marked, kept_whole, lists_of, none_saved, spaces_of, whole_in, wholes}
use Rattle.report_text.specs.declared.answer.Answer.TheVariants.{Done, Refused, Saved}
use Rattle.report_text.specs.declared.answer.Answer.{Answer}
use Rattle.report_text.specs.declared.answer.Code.{Code}
use Rattle.report_text.specs.declared.answer.Code.TheVariants.{NoCheckpoint, Speculating}
use Rattle.command_core.specs.declared.checkpoints.Kept.{Kept}
use Rattle.command_core.specs.State.{Checkpoint, State, next_number, process_of, registry_of}
use Rattle.command_core.specs.Sessions.{HasNoProcess, IsSession, session_state}
use Rattle.command_core.specs.Kept.{checkpoint_in, checkpoints_in, kept_named, kept_process, shown_state, spaces_kept}
use Rattle.command_core.specs.Rows.{Row, accepts, first_refusal}
use Rattle.command_core.specs.Giving.{GivesChange}
use Rattle.command_core.specs.Copies.{CopiesProcess, CopyFails, with_process_copy}
use Rattle.command_core.specs.Checkpoints.{SavesSpace, checkpoint_named, checkpoint_refusals, checkpoint_row, checkpoint_under, restore_row, restores}
use Rattle.command_core.specs.Changes.{answer_of, on_process}
use Rattle.command_core.specs.LikeLaws.{states_itself, states_same}
use Rattle.command_core.proofs.Copies.{copy_keeps, gives_unmade}
use Rattle.command_core.proofs.Forkings.{mark_in}
use Rattle.command_core.proofs.Keeping.{all_shown, each, found_has, more_shown, more_spaces, named_shown}
use Rattle.command_core.proofs.Places.{free_same, mark_at, marked_is, next_same, session_saved}
use Rattle.process_runs.specs.PlaceLaws.{free_stays, not_free}
use Rattle.command_core.proofs.Rows.{gives_found, gives_kept, row_accepted, row_refused}
use Rattle.command_core.proofs.Fitting.{copied_fit, fit_but}
use Rattle.delta_spaces.specs.Gathered.{HasFitPages}

-- What a checkpoint and a restore come to.

abbrev saved_of : Option declared.Process → Bool
saved_of found = option_map_or (λ (y : declared.Process). is_some y.saved) found false

-- a free space isn't marked, and what is put of a checkpoint is the whole that it keeps
pub free_unmarked : (machine : Machine) (spaces : List ℕ) (numbers : List (List ℕ)) (q : ℕ) → IsSession machine spaces numbers → HasNoProcess machine q → is_marked machine q ≡ false
free_unmarked machine spaces numbers q is free = is.kept q ∙ ap saved_of free.1

put_is : (machine : Machine) (spaces : List ℕ) (numbers : List (List ℕ)) (x : Kept) → IsSession machine spaces numbers → HasNoProcess machine x.space
    → whole_in (spaces_of machine) x.space (kept_process x) ≡ process_of (checkpoint_in (spaces_of machine) x).whole
put_is machine spaces numbers x is free =
    let unmarked = free_unmarked machine spaces numbers x.space is free in
    let kept = ap (λ b. cond b (Some (kept_whole (base_of (spaces_of machine) x.space) none_saved)) None) unmarked in
    λ i. record { registers = x.regs; state = x.state; memory = memory_of (spaces_of machine) x.space; kept = kept i }

-- a restore translates nothing
restored_unseen : (old new : Machine) (from p : ℕ) (process : Process) → wholes new ≡ with_process_copy (Some p) from p process (wholes old) → (q : ℕ)
    → HasNone q (lists_of old) → HasNone q (lists_of new)
restored_unseen old new from p process after q none = subst (HasNone q) (sym (ap (λ (w : Wholes). w.translations) after)) (none_flushed q p (lists_of old) none)

-- whether one is found, as it is kept and as it is shown
pub found_shown : (spaces : Machine) (name : List ℕ) (xs : List Kept) → is_some (checkpoint_named name (checkpoints_in (spaces_of spaces) xs)) ≡ is_some (kept_named name xs)
found_shown machine name xs = ap is_some (named_shown name (spaces_of machine) xs) ∙ by_found (kept_named name xs)
  where
    by_found : (o : Option Kept) → is_some (option_map (checkpoint_in (spaces_of machine)) o) ≡ is_some o
    by_found None = refl
    by_found (Some x) = refl

-- what is told of a look-up
pub taken_is : (xs : List Kept) (told name : List ℕ) (taken : Bool) → told ≡ name → taken ≡ is_some (kept_named told xs) → taken ≡ is_some (kept_named name xs)
taken_is xs told name taken same is = is ∙ ap (λ n. is_some (kept_named n xs)) same

-- what the memory tells of a mark
pub told_mark : (old : Machine) (p : ℕ) (mark : Bool) (memory : TranslatedView) → mark ≡ (space_in (spaces_in memory) p).speculating → memory ≡ old.memory → mark ≡ mark_in old p
told_mark old p mark memory marked same = marked ∙ ap (λ (m : TranslatedView). (space_in (spaces_in m) p).speculating) same

module _ (old : Machine) (xs : List Kept) (breaks : Breaks) (p : ℕ) (name : List ℕ) (process : declared.Process) (there : get old.processes p ≡ Some process) where
  abbrev before : State
  before = shown_state old xs breaks

  abbrev kept : List Checkpoint
  kept = checkpoints_in (spaces_of old) xs

  abbrev whole : Process
  whole = whole_in (spaces_of old) p process

  -- A checkpoint.
  abbrev under : Option ℕ → Row
  under next = checkpoint_under next p name whole (registry_of before)

  module _ (mark found : Bool) (marked : mark ≡ mark_in old p) (is_found : found ≡ is_some (kept_named name xs)) where
    saving_refusals : (next : Option ℕ) → first_refusal (under next).refusals ≡ first_refusal (checkpoint_refusals mark found next)
    saving_refusals next =
        ap (λ b. first_refusal (checkpoint_refusals b (is_some (checkpoint_named name kept)) next)) (marked_is (spaces_of old) p process (mark_in old p) refl ∙ sym marked)
        ∙ ap (λ b. first_refusal (checkpoint_refusals mark b next)) (found_shown old name xs ∙ sym is_found)

    pub checkpoint_refused : (code : Code) → first_refusal (checkpoint_refusals mark found (next_number (registry_of before))) ≡ Some code
        → GivesChange (on_process p (checkpoint_row p name) (registry_of before)) before (Refused code) before
    checkpoint_refused code is =
        gives_found old kept breaks p (checkpoint_row p name) process (Refused code) before there
        (row_refused (under (next_number (registry_of before))) before before code (saving_refusals (next_number (registry_of before)) ∙ is) (states_itself before))

    -- it isn't refused
    module _ (new : Machine) (n : ℕ) (numbers : List (List ℕ)) (is : IsSession old (spaces_kept xs) numbers) (next : next_number (registry_of before) ≡ Some n)
        (taken : first_refusal (checkpoint_refusals mark found (next_number (registry_of before))) ≡ None) where
      none : first_refusal (under (Some n)).refusals ≡ None
      none = saving_refusals (Some n) ∙ ap (λ o. first_refusal (checkpoint_refusals mark found o)) (sym next) ∙ taken

      abbrev entered : Kept
      entered = record { name = name; space = n; regs = process.regs; state = process.state }

      pub checkpoint_saved : has_space old n ≡ false → SavesSpace {T = List ℕ} p n old new (Ok name)
          → GivesChange (on_process p (checkpoint_row p name) (registry_of before)) before (Saved p name n) (shown_state new (xs ++ entered ∷ []) breaks)
      checkpoint_saved absent (enough, saved) =
          let same = all_shown (spaces_of new) (spaces_of old) xs (next_same old new (spaces_kept xs) n is.free absent saved.others) in
          let shows : checkpoints_in (spaces_of new) (xs ++ entered ∷ []) ≡ (accepts (under (Some n)) before).after.checkpoints =
          more_shown (spaces_of new) xs entered ∙ ap (λ (cs : List Checkpoint). cs ++ checkpoint_in (spaces_of new) entered ∷ []) same
          ∙ ap (λ m. kept ++ record { name = name; space = n; whole = record { registers = process.regs; state = process.state; memory = m } } ∷ []) saved.memory in
          let after = shown_state new (xs ++ entered ∷ []) breaks in
          gives_found old kept breaks p (checkpoint_row p name) process (Saved p name n) after there
          (subst (λ o. GivesChange (under o) before (Saved p name n) after) (sym next)
          (row_accepted (under (Some n)) before after none enough
          (states_same after (accepts (under (Some n)) before).after (λ i. record { wholes = saved.after i; checkpoints = shows i; breakpoints = breaks }))))

      pub checkpoint_unsaved : (e : SpaceError) → CopyFails p n old new e
          → GivesChange (on_process p (checkpoint_row p name) (registry_of before)) before (answer_of e) (shown_state new xs breaks)
      checkpoint_unsaved e unmade =
          let after = session_state new kept breaks in
          gives_kept (on_process p (checkpoint_row p name)) old new xs breaks (free_same old new (spaces_kept xs) (copy_keeps p n old new e unmade).free is.free) (answer_of e)
          (gives_found old kept breaks p (checkpoint_row p name) process (answer_of e) after there
          (subst (λ o. GivesChange (under o) before (answer_of e) after) (sym next)
          (gives_unmade (under (Some n)) (Copy p n) old new kept breaks none refl tt refl e unmade)))

  -- A restore.
  abbrev restoring : Row
  restoring = restore_row p name whole (registry_of before)

  -- its row, by the mark and by what is found
  abbrev restores_by : Bool → Option Kept → Row
  restores_by mark o = restores p mark (option_map (checkpoint_in (spaces_of old)) o) (registry_of before)

  restoring_is : (mark : Bool) (o : Option Kept) → mark ≡ mark_in old p → kept_named name xs ≡ o → restoring ≡ restores_by mark o
  restoring_is mark o marked is =
      ap (λ b. restores p b (checkpoint_named name kept) (registry_of before)) (marked_is (spaces_of old) p process (mark_in old p) refl ∙ sym marked)
      ∙ ap (λ (f : Option Checkpoint). restores p mark f (registry_of before)) (named_shown name (spaces_of old) xs ∙ ap (option_map (checkpoint_in (spaces_of old))) is)

  gives_by : (mark : Bool) (o : Option Kept) (answer : Answer) (after : State) → mark ≡ mark_in old p → kept_named name xs ≡ o → GivesChange (restores_by mark o) before answer after
      → GivesChange (on_process p (restore_row p name) (registry_of before)) before answer after
  gives_by mark o answer after marked is given =
      gives_found old kept breaks p (restore_row p name) process answer after there
      (subst (λ (r : Row). GivesChange r before answer after) (sym (restoring_is mark o marked is)) given)

  pub restore_speculating : true ≡ mark_in old p → GivesChange (on_process p (restore_row p name) (registry_of before)) before (Refused Speculating) before
  restore_speculating marked =
      let o = kept_named name xs in
      gives_by true o (Refused Speculating) before marked refl (row_refused (restores_by true o) before before Speculating refl (states_itself before))

  pub restore_unnamed : false ≡ mark_in old p → kept_named name xs ≡ None → GivesChange (on_process p (restore_row p name) (registry_of before)) before (Refused NoCheckpoint) before
  restore_unnamed marked none = gives_by false None (Refused NoCheckpoint) before marked none (row_refused (restores_by false None) before before NoCheckpoint refl (states_itself before))

  -- one is found
  module _ (new : Machine) (x : Kept) (numbers : List (List ℕ)) (is : IsSession old (spaces_kept xs) numbers) (marked : false ≡ mark_in old p) (found : kept_named name xs ≡ Some x) where
    abbrev after : State
    after = session_state new kept breaks

    pub restored_done : CopiesProcess (Some p) x.space p (kept_process x) old new (Ok tt)
        → GivesChange (on_process p (restore_row p name) (registry_of before)) before Done (shown_state new xs breaks)
    restored_done (enough, copied) =
        let row = restores_by false (Some x) in
        let free = found_has name (HasNoProcess old) xs x is.free found in
        let put = put_is old (spaces_kept xs) numbers x is free in
        gives_kept (on_process p (restore_row p name)) old new xs breaks
        (free_same old new (spaces_kept xs) (free_stays p old new copied.others (ap is_some there) (λ q other. restored_unseen old new _ _ _ copied.after q)) is.free) Done
        (gives_by false (Some x) Done after marked found
        (row_accepted row before after refl enough
        (states_same after (accepts row before).after
        (ap (λ (w : Wholes). record { wholes = w; checkpoints = kept; breakpoints = breaks })
        (copied.after ∙ ap (λ (y : Process). with_process_copy (Some p) x.space p y (wholes old)) put)))))

    pub not_restored : (e : SpaceError) → CopyFails x.space p old new e
        → GivesChange (on_process p (restore_row p name) (registry_of before)) before (answer_of e) (shown_state new xs breaks)
    not_restored e unmade =
        gives_kept (on_process p (restore_row p name)) old new xs breaks (free_same old new (spaces_kept xs) (copy_keeps x.space p old new e unmade).free is.free) (answer_of e)
        (gives_by false (Some x) (answer_of e) after marked found
        (gives_unmade (restores_by false (Some x)) (Copy x.space p) old new kept breaks refl refl tt refl e unmade))

-- what a session keeps
pub session_of_saved : (old new : Machine) (xs : List Kept) (numbers left : List (List ℕ)) (q p : ℕ) (x : Kept) → IsSession old (spaces_kept xs) numbers
    → has_space old q ≡ false → is_number q ≡ true → IsPut numbers q false left → get old.processes q ≡ None → x.space ≡ q
    → SavesSpace {T = List ℕ} p q old new (Ok x.name) → IsSession new (spaces_kept (xs ++ x ∷ [])) left
session_of_saved old new xs numbers left q p x is lacks_space number taken none space (enough, saved) =
    let absent : get new.processes q ≡ None = ap (λ m. get m q) saved.processes ∙ none in
    let lacks : has_saved new q ≡ false = ap (λ (o : Option declared.Process). option_map_or (λ (y : declared.Process). is_some y.saved) o false) absent in
    subst (λ qs. IsSession new qs left) (sym (more_spaces xs x ∙ ap (λ n. spaces_kept xs ++ n ∷ []) space))
    (session_saved old new (spaces_kept xs) numbers left q is lacks_space number taken saved.there saved.none_awaits (saved.unmarked ∙ sym lacks) saved.others
    (ap (λ (w : Wholes). w.translations) saved.after) (subst HasFitPages (sym saved.memory) (is.fit p)) absent)

-- a process put in its place with a copy of a free space
pub session_of_restored : (old new : Machine) (spaces : List ℕ) (numbers : List (List ℕ)) (p : ℕ) (x : Kept) → IsSession old spaces numbers
    → is_some (get old.processes p) ≡ true → HasNoProcess old x.space
    → CopiesProcess (Some p) x.space p (kept_process x) old new (Ok tt) → IsSession new spaces numbers
session_of_restored old new spaces numbers p x is there free (enough, copied) =
    let others = copied.others in
    let whole : Process = whole_in (spaces_of old) x.space (kept_process x) in
    let other_than : (q : ℕ) → get old.processes q ≡ None → q ≡ p → ⊥ = λ q none. not_free old p q there none in
    let same_spaces : (q : ℕ) → has_space new q ≡ has_space old q = λ q. by_key q p
    (λ same. ap (has_space new) same ∙ copied.there ∙ sym (ap (has_space old) same ∙ is.own_space p there)) (λ other. others.there q other) in
    let before : (q : ℕ) → get new.processes q ≡ None → get old.processes q ≡ None = λ q none. by_key q p
    (λ same. let both : false ≡ true = sym (ap is_some none) ∙ ap (λ n. is_some (get new.processes n)) same ∙ ap is_some copied.adopted in cc)
    (λ other. sym (others.processes q other) ∙ none) in
    record {
      are_free = λ q. is.are_free q ∙ ap (λ b. is_number q && not b) (sym (same_spaces q));
      in_range = λ q some. is.in_range q (sym (same_spaces q) ∙ some);
      own_space = λ q some. by_key q p
          (λ same. ap (has_space new) same ∙ copied.there)
          (λ other. others.there q other ∙ is.own_space q (sym (ap is_some (others.processes q other)) ∙ some));
      owned = λ q some none. is.owned q (sym (same_spaces q) ∙ some) (before q none);
      none_awaits = λ q. by_key q p
          (λ same. ap (λ n. (space_in (spaces_of new) n).awaiting) same ∙ copied.none_awaits)
          (λ other. ap (λ (y : SpaceState). y.awaiting) (others.spaces q other) ∙ is.none_awaits q);
      kept = λ q. by_key q p
          (λ same. ap (is_marked new) same
          ∙ mark_at new p whole (ap (λ (w : Wholes). get w.processes p) copied.after ∙ get_same (wholes old).processes p p whole refl)
          ∙ marked_is (spaces_of old) x.space (kept_process x) false (free_unmarked old spaces numbers x.space is free)
          ∙ sym (ap (has_saved new) same ∙ ap saved_of copied.adopted))
          (λ other. ap (λ (y : SpaceState). y.speculating) (others.spaces q other) ∙ is.kept q ∙ sym (ap saved_of (others.processes q other)));
      free = each (HasNoProcess old) (HasNoProcess new) spaces (λ q h. (others.there q (other_than q h.1) ∙ h.0, others.processes q (other_than q h.1) ∙ h.1)) is.free;
      once = is.once;
      unseen = λ q none. restored_unseen old new _ _ _ copied.after q (is.unseen q (before q none));
      fit = fit_but old new p others.spaces (copied_fit (Some p) x.space p (kept_process x) old new copied is.fit) is.fit;
    }
