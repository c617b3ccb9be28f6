use Rattle.std.proofs.Common.{◌≡◌, ℕ, ◌≤◌, Bool, true, false, List, [], ◌∷◌, ◌++◌, length, sym, ap, subst, ◌∙◌, refl, Option, Some, None}
use Rattle.breakpoints.specs.Breakpoints.{Breaks}
use Rattle.std.specs.Prelude.{Result, Ok, Err}
use Rattle.std.specs.Option.{is_some, option_map, option_map_or}
use Rattle.std.specs.FinMap.{get}
use Rattle.sizes.specs.declared.TheConstants.{MOST_SPACE_PAGES}
use Rattle.free_numbers.specs.Numbers.{IsPut, is_number}
use Rattle.ovl_io.specs.Memory.{Memory as Contents}
use Rattle.overlay_pages.specs.State.{memory_of}
use Rattle.overlay_memory.specs.View.{TranslatedView, state_of, translations_of}
use Rattle.overlay_memory.specs.declared.error.SpaceError.{SpaceError}
use Rattle.overlay_memory.specs.declared.error.SpaceError.TheVariants as error
use Rattle.translation_cache.specs.Translations.{flushed}
use Rattle.delta_image.specs.declared.delta.Delta.{Delta}
use Rattle.delta_image.specs.Fine.{Ascend, IsPlain}
use Rattle.delta_spaces.specs.Built.{Builds, HasBuilt, import_of}
use Rattle.delta_spaces.specs.Gathered.{HasFitPages}
use Rattle.machine_core.specs.declared.process.Process as declared
use Rattle.machine_core.specs.Machine.{Machine, has_saved, has_space, lists_of, spaces_of, wholes, with_memory}
use Rattle.report_text.specs.declared.answer.Answer.{Answer}
use Rattle.report_text.specs.declared.answer.Answer.TheVariants.{Done, Loaded, Forked, Saved, Imported, Shared, Refused, Full}
use Rattle.report_text.specs.declared.answer.Answer.TheVariants as told
use Rattle.report_text.specs.declared.answer.Code.{Code}
use Rattle.report_text.specs.declared.answer.Code.TheVariants.{NameTaken, NoCheckpoint, NumbersUsed}
use Rattle.command_core.specs.declared.checkpoints.Kept.{Kept}
use Rattle.command_core.specs.State.{Checkpoint, State, next_number, registry_of}
use Rattle.command_core.specs.Sessions.{IsSession}
use Rattle.command_core.specs.Kept.{checkpoint_in, checkpoints_in, kept_named, shown_state, spaces_kept}
use Rattle.command_core.specs.Rows.{Row, accepts, first_refusal, ledger_by, may_want_memory, refused_row}
use Rattle.command_core.specs.Giving.{GivesChange}
use Rattle.command_core.specs.Refusals.{by_numbers_used}
use Rattle.command_core.specs.Copies.{EventFails}
use Rattle.command_core.specs.Checkpoints.{Enters}
use Rattle.command_core.specs.Images.{ImportsSpace, IsImported, ReadsDelta, applied_whole, delta_said, import_by, import_over, import_row, import_under, import_where}
use Rattle.command_core.specs.Changes.{answer_of}
use Rattle.command_core.specs.LikeLaws.{states_itself}
use Rattle.command_core.proofs.Copies.{event_keeps, gives_unmade, others_stay, space_made, taken_back, unseen_by}
use Rattle.command_core.proofs.Fitting.{fit_applied}
use Rattle.command_core.proofs.Keeping.{all_shown, more_shown, more_spaces, named_shown}
use Rattle.command_core.proofs.Places.{free_same, next_same, processes_kept, session_saved}
use Rattle.command_core.proofs.Rows.{fits, gives_kept, is_short, row_accepted, row_refused}
use Rattle.command_core.proofs.Savings.{found_shown}

-- What an import comes to.

-- A machine with a space that was built.
module _ (from to : ℕ) (delta : Delta) (old new : Machine) (memory : TranslatedView) where
  is_imported : HasBuilt (spaces_of old) (state_of memory) from to delta → translations_of memory ≡ lists_of old → get old.processes to ≡ None
      → IsImported from to delta old (with_memory old memory)
  unfolding ledger_by
  is_imported built same absent = record {
    memory = built.memory;
    ledger = built.ledger;
    there = space_made to old memory built.beside;
    none_awaits = built.awaiting;
    unmarked = built.mark;
    processes = refl;
    frames = built.beside.frames;
    extension = refl;
    translations = same;
    shown = processes_kept old memory to built.beside.others absent;
    others = others_stay to old memory built.beside;
  }

  pub imports_made : {T : Type 0} (r : Result T SpaceError) → Builds old.memory memory from to delta (Ok tt) → translations_of memory ≡ lists_of old
      → flushed to (lists_of old) ≡ lists_of old → has_space old to ≡ false → get old.processes to ≡ None
      → Enters to (with_memory old memory) new r → ImportsSpace from to delta old new r
  imports_made (Ok done) (within, built) lists unseen no_space no_process same =
      (fits (import_of from to delta) old within, subst (IsImported from to delta old) (sym same) (is_imported built lists no_process))
  imports_made (Err (error.Full needed limit)) (within, built) lists unseen no_space no_process h = absurd h
  imports_made (Err error.Memory) (within, built) lists unseen no_space no_process dropped =
      (fits (import_of from to delta) old within, taken_back to old memory built.beside new no_space (unseen_by to _ _ lists unseen) dropped)

-- and where it wasn't built
pub imports_not : (from to : ℕ) (delta : Delta) (old : Machine) (memory : TranslatedView) (e : SpaceError) → Builds old.memory memory from to delta (Err e)
    → translations_of memory ≡ lists_of old → EventFails (import_of from to delta) old (with_memory old memory) e
imports_not from to delta old memory (error.Full needed limit) full lists =
    let f = is_short (import_of from to delta) old memory needed limit full in
    (f.needed_is, f.limit_is, f.full, f.same)
imports_not from to delta old memory error.Memory (within, same) lists = (fits (import_of from to delta) old within, (same, lists, refl, refl))

-- A session's row.
module _ (old : Machine) (xs : List Kept) (breaks : Breaks) (name base file : List ℕ) where
  abbrev before : State
  before = shown_state old xs breaks

  abbrev kept : List Checkpoint
  kept = checkpoints_in (spaces_of old) xs

  abbrev row : Row
  row = import_row name base file (registry_of before)

  pub import_taken : is_some (kept_named name xs) ≡ true → GivesChange row before (Refused NameTaken) before
  import_taken is =
      subst (λ (r : Row). GivesChange r before (Refused NameTaken) before)
      (sym (ap (λ b. import_where b name base file (registry_of before)) (found_shown old name xs ∙ is)))
      (row_refused (refused_row NameTaken (registry_of before)) before before NameTaken refl (states_itself before))

  -- no checkpoint has the name
  module _ (free : is_some (kept_named name xs) ≡ false) where
    -- its row, by what is found of the base
    abbrev row_over : Option Kept → Row
    row_over o = import_over (option_map (checkpoint_in (spaces_of old)) o) name file (registry_of before)

    row_is : (o : Option Kept) → kept_named base xs ≡ o → row ≡ row_over o
    row_is o is =
        ap (λ b. import_where b name base file (registry_of before)) (found_shown old name xs ∙ free)
        ∙ ap (λ (f : Option Checkpoint). import_over f name file (registry_of before)) (named_shown base (spaces_of old) xs ∙ ap (option_map (checkpoint_in (spaces_of old))) is)

    gives_over : (o : Option Kept) (answer : Answer) (after : State) → kept_named base xs ≡ o → GivesChange (row_over o) before answer after
        → GivesChange row before answer after
    gives_over o answer after is given = subst (λ (r : Row). GivesChange r before answer after) (sym (row_is o is)) given

    pub import_baseless : kept_named base xs ≡ None → GivesChange row before (Refused NoCheckpoint) before
    import_baseless none =
        gives_over None (Refused NoCheckpoint) before none
        (row_refused (refused_row NoCheckpoint (registry_of before)) before before NoCheckpoint refl (states_itself before))

    -- the base is found
    module _ (x : Kept) (found : kept_named base xs ≡ Some x) where
      abbrev shown : Checkpoint
      shown = checkpoint_in (spaces_of old) x

      abbrev row_by : Result Delta Code → Row
      row_by r = import_by r name shown (registry_of before)

      gives_said : (r : Result Delta Code) (answer : Answer) (after : State) → delta_said file ≡ r → GivesChange (row_by r) before answer after
          → GivesChange row before answer after
      gives_said r answer after is given =
          gives_over (Some x) answer after found (subst (λ (s : Result Delta Code). GivesChange (row_by s) before answer after) (sym is) given)

      wants : (r : Result Delta Code) → may_want_memory (row_by r) before ≡ true
      wants (Ok delta) = refl
      wants (Err code) = refl

      pub import_unread : (answer : Answer) → ReadsDelta file (Err answer) → GivesChange row before answer before
      import_unread (Refused code) is =
          gives_said (Err code) (Refused code) before is (row_refused (row_by (Err code)) before before code refl (states_itself before))
      import_unread told.Memory is = gives_said (delta_said file) told.Memory before refl (wants (delta_said file), refl)
      import_unread Done is = absurd is
      import_unread (Loaded p pages entry) is = absurd is
      import_unread (Forked p q) is = absurd is
      import_unread (Saved p name space) is = absurd is
      import_unread (Imported name space pages) is = absurd is
      import_unread (Shared pages) is = absurd is
      import_unread (Full units limit) is = absurd is

      -- the file says a delta
      module _ (delta : Delta) (said : delta_said file ≡ Ok delta) where
        abbrev under : Option ℕ → Row
        under next = import_under next name delta shown (registry_of before)

        pub import_unnumbered : next_number (registry_of before) ≡ None → GivesChange row before (Refused NumbersUsed) before
        import_unnumbered none =
            gives_said (Ok delta) (Refused NumbersUsed) before said
            (row_refused (under (next_number (registry_of before))) before before NumbersUsed
            (ap (λ o. first_refusal (by_numbers_used o ∷ [])) none) (states_itself before))

        -- a number is left
        module _ (new : Machine) (n : ℕ) (numbers : List (List ℕ)) (is : IsSession old (spaces_kept xs) numbers) (next : next_number (registry_of before) ≡ Some n) where
          gives_under : (answer : Answer) (after : State) → GivesChange (under (Some n)) before answer after → GivesChange row before answer after
          gives_under answer after given =
              gives_said (Ok delta) answer after said (subst (λ (o : Option ℕ). GivesChange (under o) before answer after) (sym next) given)

          abbrev entered : Kept
          entered = record { name = name; space = n; regs = delta.regs; state = delta.state }

          pub import_done : has_space old n ≡ false → ImportsSpace {T = List ℕ} x.space n delta old new (Ok name)
              → GivesChange row before (Imported name n (length delta.pages)) (shown_state new (xs ++ entered ∷ []) breaks)
          import_done absent (enough, imported) =
              let same = all_shown (spaces_of new) (spaces_of old) xs (next_same old new (spaces_kept xs) n is.free absent imported.others) in
              let shows : checkpoints_in (spaces_of new) (xs ++ entered ∷ []) ≡ (accepts (under (Some n)) before).after.checkpoints =
              more_shown (spaces_of new) xs entered ∙ ap (λ (cs : List Checkpoint). cs ++ checkpoint_in (spaces_of new) entered ∷ []) same
              ∙ ap (λ (m : Contents). kept ++ record { name = name; space = n; whole = record { registers = delta.regs; state = delta.state; memory = m } } ∷ []) imported.memory in
              gives_under (Imported name n (length delta.pages)) (shown_state new (xs ++ entered ∷ []) breaks)
              (row_accepted (under (Some n)) before (shown_state new (xs ++ entered ∷ []) breaks) refl enough
              (record {
                wholes = record {
                  processes = imported.shown;
                  ledger = imported.ledger;
                  frames = imported.frames;
                  extension = imported.extension;
                  translations = imported.translations;
                };
                checkpoints = shows;
                breakpoints = refl;
              }))

          pub not_imported : (e : SpaceError) → EventFails (import_of x.space n delta) old new e → GivesChange row before (answer_of e) (shown_state new xs breaks)
          not_imported e unmade =
              gives_kept (import_row name base file) old new xs breaks
              (free_same old new (spaces_kept xs) (event_keeps (import_of x.space n delta) old new e unmade).free is.free) (answer_of e)
              (gives_under (answer_of e) _ (gives_unmade (under (Some n)) (import_of x.space n delta) old new kept breaks refl refl tt refl e unmade))

-- what a session keeps
pub session_of_imported : (old new : Machine) (xs : List Kept) (numbers left : List (List ℕ)) (from q : ℕ) (delta : Delta) (x : Kept) → IsSession old (spaces_kept xs) numbers
    → has_space old q ≡ false → is_number q ≡ true → IsPut numbers q false left → get old.processes q ≡ None → x.space ≡ q
    → length delta.pages ≤ MOST_SPACE_PAGES → Ascend IsPlain 0 delta.pages
    → ImportsSpace {T = List ℕ} from q delta old new (Ok x.name) → IsSession new (spaces_kept (xs ++ x ∷ [])) left
session_of_imported old new xs numbers left from q delta x is lacks_space number taken none space few pages (enough, imported) =
    let absent : get new.processes q ≡ None = ap (λ m. get m q) imported.processes ∙ none in
    let lacks : has_saved new q ≡ false = ap (λ (o : Option declared.Process). option_map_or (λ (y : declared.Process). is_some y.saved) o false) absent in
    subst (λ qs. IsSession new qs left) (sym (more_spaces xs x ∙ ap (λ n. spaces_kept xs ++ n ∷ []) space))
    (session_saved old new (spaces_kept xs) numbers left q is lacks_space number taken imported.there imported.none_awaits (imported.unmarked ∙ sym lacks) imported.others
    imported.translations (subst HasFitPages (sym imported.memory) (fit_applied delta (memory_of (spaces_of old) from) few pages)) absent)
